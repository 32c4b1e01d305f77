-- The steps of a turn tell what is fine.
use Rattle.std.proofs.Common.{◌≡◌, ℕ, List, [], ◌∷◌, ◌++◌, Option, Some, None, true, false, refl, sym, ◌∙◌, ap, subst, map}
use Rattle.step_machine.specs.Machine.{Move as Do}
use Rattle.step_machine.specs.Noted.{scene, with_note, noted_work}
use Rattle.tree_specs.specs.declared.object.Obj.{Obj}
use Rattle.tree_specs.specs.declared.row.Row.{Row}
use Rattle.tree_specs.specs.declared.row.Mark.TheVariants.{Doomed, Quiet, Busy}
use Rattle.tree_specs.specs.declared.row.Mark.{Mark}
use Rattle.tree_specs.specs.declared.kind.Kind.{Kind}
use Rattle.tree_specs.specs.declared.kind.Kind.TheVariants as kind
use Rattle.tree_specs.specs.declared.handler.Handler.{Handler}
use Rattle.tree_specs.specs.declared.moment.What.{What}
use Rattle.tree_specs.specs.declared.moment.What.TheVariants.{Immediate as ForImmediate, Timer as ForTimer, Descriptor as ForDescriptor, Trigger as ForTrigger}
use Rattle.tree_specs.specs.declared.moment.What.TheVariants as whats
use Rattle.tree_specs.specs.declared.occasion.Occasion.{Occasion}
use Rattle.tree_specs.specs.declared.event.Event.TheVariants.{Fired}
use Rattle.tree_specs.specs.declared.question.Ask.{Ask}
use Rattle.tree_specs.specs.declared.question.Ask.TheVariants as ask
use Rattle.tree_specs.specs.declared.question.Input.{Input}
use Rattle.tree_specs.specs.declared.frame.Frame.{Frame}
use Rattle.tree_specs.specs.declared.frame.Frame.TheVariants as frame
use Rattle.tree_specs.specs.declared.frame.CallFrame.TheVariants.{Asking}
use Rattle.tree_specs.specs.declared.frame.FreeFrame.TheVariants.{Beginning}
use Rattle.tree_specs.specs.declared.frame.TurnFrame.{TurnFrame}
use Rattle.tree_specs.specs.declared.frame.TurnFrame.TheVariants.{Parting, Taking, Timing, Timed, Polling, Starting, Firing, Handling, Handled, Clearing, Serving, Closing}
use Rattle.tree_specs.specs.declared.frame.Errand.TheVariants.{Finish, Notify}
use Rattle.tree_specs.specs.declared.request.State.TheVariants.{TimedOut}
use Rattle.tree_specs.specs.declared.frame.RequestFrame.TheVariants as request
use Rattle.tree_specs.specs.declared.frame.Answer.TheVariants as answer
use Rattle.tree_specs.specs.Tree.Pool.{exit, Pool, row_of, changed, set_mark, marked_row}
use Rattle.tree_specs.specs.Events.Coming.{comes_as, handler_for, handler_moment, begun, goes_after}
use Rattle.tree_specs.specs.Rules.Items.{Item}
use Rattle.tree_specs.specs.Rules.Items.Item.{Told, Asked}
use Rattle.tree_specs.specs.Rules.Sequence.{CallStart, Scene}
use Rattle.tree_specs.specs.Machine.Table.{closing_step, Step, notes, taken, starting_step, turn_step, turn_taken}
use Rattle.tree_specs.specs.Promises.Orderly.{is_hook, asks_hook}
use Rattle.tree_specs.specs.Promises.Grounded.{InContext, HasContext, IsTurn, may_fire, may_fire_row}
use Rattle.tree_specs.specs.Machine.Profiles.{InHandler}
use Rattle.tree_specs.specs.Invariants.Sound.{is_at_turn_mark, IsTurning, IsLive, claims}
use Rattle.tree_specs.specs.Invariants.Consistent.{IsConsistent}
use Rattle.tree_specs.specs.Calls.Refusals.{is_doomed}
use Rattle.tree_specs.proofs.Tree.Numbered.{by_test}
use Rattle.tree_specs.proofs.Invariants.Changes.{turning-row, handling-row, claim-here}
use Rattle.tree_specs.proofs.Invariants.Turning.{handler-ready, rotated-rows, Passes, Pass, Serve, look-passes, taken-plain, Trigger}
use Rattle.tree_specs.proofs.Invariants.Waiters.{Waiter, ForRun}
use Rattle.tree_specs.proofs.Promises.Later.{later-still, Later, later-rows, later-same, later-waiting, later-marked}
use Rattle.tree_specs.proofs.Promises.Past.{Past, Accounts, past-goes, past-tells, unfreed}
use Rattle.tree_specs.proofs.Promises.Causes.{NotedWork, told, StandsOn, Cause}
use Rattle.tree_specs.proofs.Promises.Fitting.{fits-fired, fits-question}
use Rattle.tree_specs.proofs.Promises.Fine.{work_of, Known, FineBy, restacked, Yields, goes-on, waits-for, of-next, AnswersTo, resumed, known-told, taken-noted}

-- an event's handler is no destructor
comes-no-hook : (w : What) (k : Kind) → comes_as w k ≡ true → is_hook w ≡ false
comes-no-hook ForImmediate kind.Immediate e = refl
comes-no-hook ForTimer kind.Timer e = refl
comes-no-hook ForDescriptor kind.Descriptor e = refl
comes-no-hook _ _ e = cc

-- it may run for a busy event
comes-fires : (w : What) (k : Kind) → comes_as w k ≡ true → may_fire w k Busy ≡ true
comes-fires ForImmediate kind.Immediate e = refl
comes-fires ForTimer kind.Timer e = refl
comes-fires ForDescriptor kind.Descriptor e = refl
comes-fires _ _ e = cc

turn-yields : (f g : TurnFrame) → Yields (frame.Turn f) (frame.Turn g)
turn-yields f g = record { stays = λ x l. l; free = λ x h. h; run = λ P h. h }

module _ (scenes : List Scene) (b : Option CallStart) (ws : List NotedWork) (p : Pool) where
  abbrev AtTurn : TurnFrame → Type 0
  AtTurn f = IsConsistent (record { innermost = frame.Turn f; below = map work_of ws; pool = p }) → Known scenes (with_note b (frame.Turn f)) ws p → FineBy scenes (frame.Turn f) b p (turn_step f p) ws

  -- it goes on over a later pool, and tells nothing
  goes : (f g : TurnFrame) (q : Pool) → Later p q → Known scenes (with_note b (frame.Turn f)) ws p → FineBy scenes (frame.Turn f) b p (Do.Go (frame.Turn g) q) ws
  goes f g q later known = goes-on scenes (frame.Turn f) (frame.Turn g) b ws p q (turn-yields f g) later tt tt known

  -- it begins another work, and waits for it
  begins : (f g : TurnFrame) (h : Frame) (q : Pool) → Later p q → Accounts (told scenes) h → StandsOn h (frame.Turn g) None → Cause scenes h None (with_note None (frame.Turn g) ∷ ws) q
      → Known scenes (with_note b (frame.Turn f)) ws p → FineBy scenes (frame.Turn f) b p (Do.Call h (frame.Turn g) q) ws
  begins f g h q later account on cause known = waits-for scenes (frame.Turn f) (frame.Turn g) b ws p q h (turn-yields f g) later account tt on cause known

  passes : (f : TurnFrame) (m : Step) → Passes p m → Known scenes (with_note b (frame.Turn f)) ws p → FineBy scenes (frame.Turn f) b p m ws
  passes f _ (Pass g q rows next notes-are queues turning times plain) known = goes f g q (later-waiting p q rows next notes-are) known
  passes f _ (Trigger x q rows next notes-are queues turning times queue) known = begins f (Serving x) (frame.Request (request.Triggering x)) q (later-waiting p q rows next notes-are) tt tt tt known
  passes f _ (Serve Notify x q rows next notes-are queues turning times served noted) known = begins f (Serving x) (frame.Request (request.Notifying x Notify)) q (later-waiting p q rows next notes-are) tt tt tt known
  passes f _ (Serve (Finish TimedOut) x q rows next notes-are queues turning times served noted) known = begins f (Serving x) (frame.Request (request.Finishing x TimedOut)) q (later-waiting p q rows next notes-are) tt tt tt known
  passes f _ (Serve _ x q rows next notes-are queues turning times served noted) known = absurd served

  -- it asks no destructor, and goes on as a turn
  asks : (f : TurnFrame) (q : Ask) → ((y : Obj) → asks_hook y (Asked q) ≡ false) → ((i : Input) (g : Frame) → turn_taken f p i ≡ Some g → (t : TurnFrame) × (g ≡ frame.Turn t))
      → Known scenes (with_note b (frame.Turn f)) ws p
      → FineBy scenes (frame.Turn f) b p (Do.Wait (Asked q) (frame.Turn f) p) ws
  asks f q none leads known = ((fits-question (told scenes) q none, record { answered = tt; held = tt; caused = tt; started = tt }), next)
    where
      s : Scene
      s = scene notes (frame.Turn f) b p (Asked q)

      past : Past (told scenes ++ Asked q ∷ []) (frame.Turn f) (map work_of ws) p
      past = past-tells (told scenes) (Asked q) (frame.Turn f) (map work_of ws) p (λ x. refl) (λ x. refl) (λ x. refl) (λ x k. refl) known.past

      after : (t : TurnFrame) → Known (scenes ++ s ∷ []) (with_note None (frame.Turn t)) ws p
      after t = known-told scenes s (with_note None (frame.Turn t)) ws p
          (past-goes (told scenes ++ Asked q ∷ []) (frame.Turn f) (frame.Turn t) (map work_of ws) (map work_of ws) p p past (later-same p) (λ x l. absurd l) tt past.all_account)
          (restacked (frame.Turn f) (frame.Turn t) ws (λ w h. h) (λ w h. h) known.stacked) tt

      next : (i : Input) (g : NotedWork) → noted_work None (taken (frame.Turn f) p i) ≡ Some g → Known (scenes ++ s ∷ []) g ws p
      next i g e =
          let t = taken-noted None (taken (frame.Turn f) p i) g e in
          let l = leads i t.0 t.1 in
          subst (λ (w : NotedWork). Known (scenes ++ s ∷ []) w ws p) (sym (t.2 ∙ ap (with_note None) l.1)) (after l.0)

  plain : (f : TurnFrame) (i : Input) (g : Frame) → turn_taken f p i ≡ Some g → (t : TurnFrame) × (g ≡ frame.Turn t)
  plain f i g e = let t = taken-plain f p i g e in (t.0, t.1)

  starting-fine : (w : What) (x : Obj) (occasion : Occasion) → AtTurn (Starting w x occasion)
  starting-fine w x occasion whole known = each (handler_for p w x) refl
    where
      each : (o : Option Handler) → handler_for p w x ≡ o → FineBy scenes (frame.Turn (Starting w x occasion)) b p (starting_step w x occasion (handler_for p w x) p) ws
      each None e = rw e (goes (Starting w x occasion) (Closing 1) p (later-same p) known)
      each (Some h) e =
          let ready = handler-ready p w x h e in
          let r = rotated-rows w x p in
          rw e (goes (Starting w x occasion) (Firing w x h occasion) (begun w x p)
          (later-rows (later-marked p x ready.row Busy ready.is (rw ready.quiet tt)) (ap (λ (rows : List Row). changed (marked_row Busy) rows x) r.0) r.1 r.2) known)

  -- an event waits in no queue
  no-turn : (w : What) (k : Kind) → comes_as w k ≡ true → (x : Obj) (routine : ℕ) → IsTurn w p x routine
  no-turn ForTrigger k e x routine = cc
  no-turn _ k e x routine = tt

  -- it comes in a turn of its context
  at-home : (w : What) (k : Kind) → comes_as w k ≡ true → (x : Obj) → HasContext p x → InContext w p x
  at-home whats.Timer k e x home = home
  at-home whats.Immediate k e x home = home
  at-home whats.Descriptor k e x home = home
  at-home _ k e x home = tt

  firing-fine : (w : What) (x : Obj) (h : Handler) (occasion : Occasion) → AtTurn (Firing w x h occasion)
  firing-fine w x h occasion whole known =
      let f : Frame = frame.Turn (Firing w x h occasion) in
      let g : Frame = frame.Turn (Handling w x h occasion) in
      let e : Item = Told (Fired w x h.routine) in
      let rests = whole.sound.rests in
      let r : Row = rests.1 in
      let fires : may_fire_row w (row_of p.rows x) ≡ true = rw (rests.2, rests.4) (comes-fires w r.kind rests.3) in
      let past = past-tells (told scenes) e f (map work_of ws) p (λ y. refl) (λ y. refl) (λ y. refl) (λ y k. refl) known.past in (
        (fits-fired (told scenes) w x h.routine (unfreed (told scenes) f (map work_of ws) p x r known.past rests.2), record { answered = tt; held = tt; caused = tt; started = (fires, no-turn w r.kind rests.3 x h.routine, at-home w r.kind rests.3 x (h, rests.5, rests.6)) }),
        known-told scenes (scene notes f b p e) (with_note None g) ws p
            (past-goes (told scenes ++ e ∷ []) f g (map work_of ws) (map work_of ws) p p past (later-same p) (λ y l. absurd l) tt past.all_account)
            (restacked f g ws (λ w h. h) (λ w h. h) known.stacked) tt,
      )

  handled-fine : (w : What) (x : Obj) → AtTurn (Handled w x)
  handled-fine w x whole known =
      let row = handling-row (row_of p.rows x) (claims x (map work_of ws)) (claim-here x InHandler (claims x (map work_of ws)) (row_of p.rows x) (whole.sound.open_frees x)) in
      let later = later-marked p x row.0 Quiet row.1 row.2 in
      by_test (goes_after p w x)
      (λ t. rw t (begins (Handled w x) (Clearing x) (frame.Free (Beginning x)) (set_mark p x Quiet) later tt tt tt known))
      (λ t. rw t (goes (Handled w x) (Closing 1) (set_mark p x Quiet) later known))

  closing-fine : (v : ℕ) → AtTurn (Closing v)
  closing-fine v whole known = each p.turning refl
    where
      f : Frame
      f = frame.Turn (Closing v)

      answers : (g : Frame) (n : Option CallStart) → Waiter g → StandsOn f g n → AnswersTo scenes (answer.Turned v) g n
      answers _ n (ForRun x h) on = absurd on
      answers _ n _ on = tt

      over : (q : Pool) → Later p q → FineBy scenes f b p (Do.Done (answer.Turned v) q) ws
      over q later =
          resumed scenes f b ws q (answer.Turned v) (past-goes (told scenes) f f (map work_of ws) (map work_of ws) p q known.past later (λ x l. absurd l) tt known.past.all_account) (λ y l. l) known.stacked whole.sound.waiting
          (of-next (AnswersTo scenes (answer.Turned v)) f ws whole.sound.waiting known.stacked answers)

      live : (m : Mark) → is_at_turn_mark m ≡ true → IsLive m
      live Busy t = tt
      live Doomed t = tt
      live _ t = cc

      out : (c : Obj) (o : Option Row) → row_of p.rows c ≡ o → IsTurning o → Later p (exit p c)
      out c None e t = absurd t
      out c (Some r) e t = later-still (later-waiting p (record p { turning = None }) refl refl refl) (later-marked (record p { turning = None }) c r Quiet e (live r.mark t.1))

      each : (o : Option Obj) → p.turning ≡ o → FineBy scenes f b p (closing_step v o p) ws
      each None e = over p (later-same p)
      each (Some c) e =
          let later = out c (row_of p.rows c) refl (turning-row p.turning p.rows c (row_of p.rows c) whole.sound.turned e refl) in
          by_test (is_doomed p c)
          (λ d. rw d (begins (Closing v) (Parting c v) (frame.Free (Beginning c)) (exit p c) later tt tt tt known))
          (λ d. rw d (over (exit p c) later))

  pub turn-fine : (f : TurnFrame) → AtTurn f
  turn-fine Taking whole known = passes Taking _ (look-passes Taking p tt) known
  turn-fine (Timed again now) whole known = passes (Timed again now) _ (look-passes (Timed again now) p tt) known
  turn-fine (Timing again) whole known = asks (Timing again) ask.Clock (λ y. refl) (plain (Timing again)) known
  turn-fine (Polling limit) whole known = asks (Polling limit) (ask.Wait limit) (λ y. refl) (plain (Polling limit)) known
  turn-fine (Starting w x occasion) whole known = starting-fine w x occasion whole known
  turn-fine (Firing w x h occasion) whole known = firing-fine w x h occasion whole known
  turn-fine (Handling w x h occasion) whole known =
      begins (Handling w x h occasion) (Handling w x h occasion) (frame.Call (Asking (ask.Routine (handler_moment w x h occasion)))) p (later-same p) tt (comes-no-hook w whole.sound.rests.1 whole.sound.rests.2) tt known
  turn-fine (Handled w x) whole known = handled-fine w x whole known
  turn-fine (Clearing x) whole known = absurd whole.sound.rests
  turn-fine (Serving x) whole known = absurd whole.sound.rests
  turn-fine (Parting c v) whole known = absurd whole.sound.rests
  turn-fine (Closing v) whole known = closing-fine v whole known
