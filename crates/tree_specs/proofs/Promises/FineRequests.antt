-- Each step of a request's work, and of a free that waits for it, tells what is fine.
use Rattle.std.proofs.Common.{◌≡◌, ℕ, ◌≤◌, ◌<◌, List, [], ◌∷◌, ◌++◌, Option, Some, None, true, false, map, refl, ◌∙◌, arith, subst, sym}
use Rattle.std.specs.Prelude.{not}
use Rattle.std.specs.List.{list_any}
use Rattle.step_machine.specs.Machine.{Move as Do}
use Rattle.step_machine.specs.Noted.{with_note, scene}
use Rattle.tree_specs.specs.declared.object.Obj.{Obj}
use Rattle.tree_specs.specs.declared.row.Row.{Row}
use Rattle.tree_specs.specs.declared.row.Mark.{Mark}
use Rattle.tree_specs.specs.declared.row.Mark.TheVariants.{Quiet}
use Rattle.tree_specs.specs.declared.kind.Kind.{Kind}
use Rattle.tree_specs.specs.declared.kind.Kind.TheVariants as kind
use Rattle.tree_specs.specs.declared.call.Call.TheVariants as call
use Rattle.tree_specs.specs.declared.event.Event.TheVariants.{Fired, State as StateOf}
use Rattle.tree_specs.specs.declared.handler.Handler.{Handler}
use Rattle.tree_specs.specs.declared.moment.What.{What}
use Rattle.tree_specs.specs.declared.moment.What.TheVariants as what
use Rattle.tree_specs.specs.declared.question.Ask.TheVariants as ask
use Rattle.tree_specs.specs.declared.reply.Reply.{Reply}
use Rattle.tree_specs.specs.declared.request.Note.{Note}
use Rattle.tree_specs.specs.declared.request.State.{State}
use Rattle.tree_specs.specs.declared.request.State.TheVariants as state
use Rattle.tree_specs.specs.declared.frame.Errand.{Errand}
use Rattle.tree_specs.specs.declared.frame.Errand.TheVariants.{Finish, Receive, Cancel, Notify}
use Rattle.tree_specs.specs.declared.frame.Frame.{Frame}
use Rattle.tree_specs.specs.declared.frame.Frame.TheVariants as frame
use Rattle.tree_specs.specs.declared.frame.CallFrame.TheVariants.{Asking}
use Rattle.tree_specs.specs.declared.frame.FreeFrame.TheVariants.{Beginning, Unlinking, Preparing, Prepared, Leaving, Draining}
use Rattle.tree_specs.specs.declared.frame.RequestFrame.{RequestFrame}
use Rattle.tree_specs.specs.declared.frame.RequestFrame.TheVariants as request
use Rattle.tree_specs.specs.declared.frame.Answer.TheVariants as answer
use Rattle.tree_specs.specs.Tree.Pool.{Pool, row_of, set_mark, schedule, renote, finish, receive, run_queue, trigger, is_usable}
use Rattle.tree_specs.specs.Events.Requests.{state_number, note_of, is_noted, is_in_progress, is_received, is_unreceived, cleanup_in, cancel_in, cleaned, not_deferring, in_state, renoted}
use Rattle.tree_specs.specs.Events.Coming.{handler_moment, plainly}
use Rattle.tree_specs.specs.Calls.Refusals as refusals
use Rattle.tree_specs.specs.Calls.Refusals.{is_request, is_request_row, is_entry_row}
use Rattle.tree_specs.specs.Calls.Plans.{Plan, planned}
use Rattle.tree_specs.specs.Calls.Plans.Plan.{Frees, Unlinks}
use Rattle.tree_specs.specs.Rules.Items.{Item}
use Rattle.tree_specs.specs.Rules.Items.Item.{Told}
use Rattle.tree_specs.specs.Rules.Sequence.{CallStart, Scene}
use Rattle.tree_specs.specs.Rules.Errands.{reply_to, cancelled_reply}
use Rattle.tree_specs.specs.Machine.Profiles.{InRun}
use Rattle.tree_specs.specs.Machine.Table.{notes, step, over_step, cancelling_step, cleaning_step, release_object, cleaned_step, callback_step, notifying_step, request_step, vacating_step, triggering_step, deferred_step}
use Rattle.tree_specs.specs.Promises.Orderly.{has_state_from, is_hook}
use Rattle.tree_specs.specs.Promises.Grounded.{InContext, IsTurn, may_fire, may_fire_row}
use Rattle.tree_specs.specs.Invariants.Sound.{ValidAt, claims}
use Rattle.tree_specs.specs.Invariants.Noted.{IsInProgress, IsBetween, IsOfRequest, NotesHold, IsForRequest}
use Rattle.tree_specs.specs.Invariants.Queued.{IsEntryRow}
use Rattle.tree_specs.specs.Invariants.Consistent.{IsConsistent}
use Rattle.tree_specs.proofs.Tree.Numbered.{by_test}
use Rattle.tree_specs.proofs.Events.NoteLaws.{renoted-same, renoted-none}
use Rattle.tree_specs.proofs.Invariants.Changes.{running-row, claim-here}
use Rattle.tree_specs.proofs.Invariants.Waiters.{Waiter, ForRun, ForTurn, ForRequest}
use Rattle.tree_specs.proofs.Promises.Later.{Later, IsFrom, later-same, later-marked, later-noted, states-renoted, later-waiting}
use Rattle.tree_specs.proofs.Promises.Past.{Past, Accounts, past-goes, past-tells, past-state, unfreed, unaccepted}
use Rattle.tree_specs.proofs.Promises.Causes.{NotedWork, told, StandsOn, Cause, done-reply}
use Rattle.tree_specs.proofs.Promises.Fitting.{fits-fired, fits-state}
use Rattle.tree_specs.proofs.Promises.Fine.{work_of, Known, FineBy, restacked, Yields, goes-on, waits-for, of-next, AnswersTo, resumed, known-told, just-now}
use Rattle.tree_specs.specs.Events.Queues.{Head, head_of, next_of}
use Rattle.tree_specs.proofs.Invariants.Queues.{head-waiting, next-head}

-- ---- what is known of a request

-- the row of a request
request-row : (o : Option Row) → is_request_row o ≡ true → (r : Row) × (o ≡ Some r) × (is_request r.kind ≡ true)
request-row None e = cc
request-row (Some r) e = (r, refl, e)

request-fires : (w : What) (k : Kind) (m : Mark) → IsOfRequest w → is_request k ≡ true → may_fire w k m ≡ true
request-fires what.Callback kind.Request m h e = refl
request-fires what.Cleanup kind.Request m h e = refl
request-fires what.Cancel kind.Request m h e = refl
request-fires what.Callback _ m h e = cc
request-fires what.Cleanup _ m h e = cc
request-fires what.Cancel _ m h e = cc
request-fires _ k m h e = absurd h

-- these routines aren't triggers
no-context : (w : What) (p : Pool) (x : Obj) → IsOfRequest w → InContext w p x
no-context what.Callback p x h = tt
no-context what.Cleanup p x h = tt
no-context what.Cancel p x h = tt
no-context _ p x h = absurd h

no-turn : (w : What) (p : Pool) (x : Obj) (routine : ℕ) → IsOfRequest w → IsTurn w p x routine
no-turn what.Callback p x routine h = tt
no-turn what.Cleanup p x routine h = tt
no-turn what.Cancel p x routine h = tt
no-turn _ p x routine h = absurd h

-- what waits in a queue is an entry
entry-row : (z : Obj) (o : Option Row) → IsEntryRow z o → is_entry_row o ≡ true
entry-row z None i = absurd i
entry-row z (Some r) i = i.0

trigger-fires : (k : Kind) (m : Mark) → is_request k ≡ true → may_fire what.Trigger k m ≡ true
trigger-fires kind.Request m e = refl
trigger-fires _ m e = cc

request-no-hook : (w : What) → IsForRequest w → is_hook w ≡ false
request-no-hook what.Hook h = absurd h
request-no-hook _ h = refl

-- one that is in progress has gone to no later state
going-not : (p : Pool) (x : Obj) → NotesHold None p → is_request_row (row_of p.rows x) ≡ true → IsInProgress p x → (k : ℕ) → 2 ≤ k → IsFrom k (note_of p.requests x) → ⊥
going-not p x h row going k l from = each (note_of p.requests x) refl
  where
    states : (s : State) → refusals.in_state x is_in_progress (Some (record { state = s; error = 0; callback = None; deferred = None; cleanup = 0; cleaned = 0; cancel = 0; child = x })) ≡ [] → k ≤ state_number s → ⊥
    states state.InProgress e m = absurd (omega arith)
    states _ e m = cc

    each : (o : Option Note) → note_of p.requests x ≡ o → ⊥
    each None e = let noted : is_noted p.requests x ≡ true = h.notes x ∙ row in let bad : false ≡ true = rw e at noted in cc
    each (Some n) e = let going' : refusals.in_state x is_in_progress (Some n) ≡ [] = rw e at going in let from' : k ≤ state_number n.state = rw e at from in states n.state going' from'

-- one that is still to be received hasn't gone to the last state
unreceived-not : (o : Option Note) → is_unreceived o ≡ true → IsFrom 6 o → ⊥
unreceived-not None e from = cc
unreceived-not (Some n) e from = each n.state e from
  where
    each : (s : State) → not (is_received s) ≡ true → 6 ≤ state_number s → ⊥
    each state.Received e l = cc
    each state.InProgress e l = absurd (omega arith)
    each state.Done e l = absurd (omega arith)
    each state.UserError e l = absurd (omega arith)
    each state.TimedOut e l = absurd (omega arith)
    each state.NoMemory e l = absurd (omega arith)

between-numbers : (s : State) → IsBetween s → (2 ≤ state_number s) × (state_number s ≤ 6)
between-numbers state.InProgress h = absurd h
between-numbers state.Received h = absurd h
between-numbers _ h = (omega arith, omega arith)

-- a request is in the state to which it went
in-state : (p q : Pool) (x : Obj) (s : State) → q.requests ≡ renoted (in_state s) p.requests x → IsFrom (state_number s) (note_of q.requests x)
in-state p q x s notes = rw notes (each (note_of p.requests x) refl)
  where
    each : (o : Option Note) → note_of p.requests x ≡ o → IsFrom (state_number s) (note_of (renoted (in_state s) p.requests x) x)
    each None e = rw (renoted-none (in_state s) p.requests x e) tt
    each (Some n) e = rw (renoted-same (in_state s) p.requests x n e) (omega arith)

-- ---- the steps

work-yields : (f g : RequestFrame) → Yields (frame.Request f) (frame.Request g)
work-yields f g = record { stays = λ x l. l; free = λ x h. h; run = λ P h. h }

module _ (scenes : List Scene) (b : Option CallStart) (ws : List NotedWork) (p : Pool) where
  abbrev AtRequest : RequestFrame → Type 0
  AtRequest f = IsConsistent (record { innermost = frame.Request f; below = map work_of ws; pool = p }) → Known scenes (with_note b (frame.Request f)) ws p
      → FineBy scenes (frame.Request f) b p (request_step f p) ws

  -- it goes on over a later pool, and tells nothing
  goes : (f g : RequestFrame) (q : Pool) → Later p q → Cause scenes (frame.Request g) None ws q → Known scenes (with_note b (frame.Request f)) ws p → FineBy scenes (frame.Request f) b p (Do.Go (frame.Request g) q) ws
  goes f g q later cause known = goes-on scenes (frame.Request f) (frame.Request g) b ws p q (work-yields f g) later tt cause known

  -- it begins another work, and waits for it
  begins : (f g : RequestFrame) (h : Frame) (q : Pool) → Later p q → Accounts (told scenes) h → StandsOn h (frame.Request g) None → Cause scenes h None (with_note None (frame.Request g) ∷ ws) q
      → Known scenes (with_note b (frame.Request f)) ws p → FineBy scenes (frame.Request f) b p (Do.Call h (frame.Request g) q) ws
  begins f g h q later account on cause known = waits-for scenes (frame.Request f) (frame.Request g) b ws p q h (work-yields f g) later account tt on cause known

  -- it is over
  over : (f : RequestFrame) (errand : Errand) (q : Pool) → Later p q → Known scenes (with_note b (frame.Request f)) ws p → FineBy scenes (frame.Request f) b p (over_step errand q) ws
  over f errand q later known = goes f (request.Over (reply_to errand)) q later (done-reply errand) known

  -- a request goes to a state
  state-fine : (f g : RequestFrame) (x : Obj) (s : State) (q : Pool) (r : Row) → row_of p.rows x ≡ Some r → q.rows ≡ p.rows → q.next ≡ p.next → q.requests ≡ renoted (in_state s) p.requests x
      → Later p q → (2 ≤ state_number s) × (state_number s ≤ 6) × (list_any (has_state_from 6 x) (told scenes) ≡ false) × (state_number s < 6 → list_any (has_state_from 2 x) (told scenes) ≡ false)
      → IsConsistent (record { innermost = frame.Request f; below = map work_of ws; pool = p }) → Cause (scenes ++ scene notes (frame.Request f) b p (Told (StateOf x (state_number s))) ∷ []) (frame.Request g) None ws q
      → Known scenes (with_note b (frame.Request f)) ws p → FineBy scenes (frame.Request f) b p (Do.Emit (Told (StateOf x (state_number s))) (frame.Request g) q) ws
  state-fine f g x s q r e rows next notes-are later up whole cause known =
      let v : ValidAt p.next (Some r) x = rw e at (whole.sound.valid x) in (
        (fits-state (told scenes) x (state_number s) (unfreed (told scenes) (frame.Request f) (map work_of ws) p x r known.past e) up, record { answered = tt; held = tt; caused = tt; started = tt }),
        known-told scenes (scene notes (frame.Request f) b p (Told (StateOf x (state_number s)))) (with_note None (frame.Request g)) ws q
            (past-state (told scenes) x (state_number s) (frame.Request f) (frame.Request g) (map work_of ws) p q known.past later (rw next v.1) (in-state p q x s notes-are) (λ y l. absurd l) tt)
            (restacked (frame.Request f) (frame.Request g) ws (λ w h. h) (λ w h. h) known.stacked) cause,
      )

  -- it wasn't told before
  untold : (f : Frame) (x : Obj) (k : ℕ) → Past (told scenes) f (map work_of ws) p → (IsFrom k (note_of p.requests x) → ⊥) → list_any (has_state_from k x) (told scenes) ≡ false
  untold f x k past never = by_test (list_any (has_state_from k x) (told scenes)) (λ t. absurd (never (past.states x k t).1)) (λ t. t)

  finishing-fine : (x : Obj) (s : State) → AtRequest (request.Finishing x s)
  finishing-fine x s whole known =
      let w = whole.noted.works in
      let row = request-row (row_of p.rows x) w.0 in
      let n = between-numbers s w.2 in
      let never : (k : ℕ) → 2 ≤ k → list_any (has_state_from k x) (told scenes) ≡ false = (λ k l. untold (frame.Request (request.Finishing x s)) x k known.past (going-not p x whole.noted.pool w.0 w.1 k l)) in
      state-fine (request.Finishing x s) (request.Cleaning x (Finish s)) x s (finish p x s) row.0 row.1 refl refl refl
      (later-noted p (finish p x s) refl (omega arith) (states-renoted (in_state s) p (finish p x s) x refl (λ m e. up m (rw e at w.1))))
      (n.0, n.1, never 6 (omega arith), λ l. never 2 (omega arith)) whole tt known
    where
      up : (m : Note) → refusals.in_state x is_in_progress (Some m) ≡ [] → state_number m.state ≤ state_number s
      up m h = each m.state h
        where
          first : (s : State) → IsBetween s → 1 ≤ state_number s
          first state.InProgress h = absurd h
          first _ h = omega arith

          each : (t : State) → refusals.in_state x is_in_progress (Some (record m { state = t })) ≡ [] → state_number t ≤ state_number s
          each state.InProgress h = first s whole.noted.works.2
          each _ h = cc

  receiving-fine : (x : Obj) → AtRequest (request.Receiving x)
  receiving-fine x whole known = by_test (is_unreceived (note_of p.requests x))
      (λ t. rw t (receives t))
      (λ t. rw t (over (request.Receiving x) Receive p (later-same p) known))
    where
      most : (t : State) → state_number t ≤ 6
      most state.Received = omega arith
      most _ = omega arith

      receives : is_unreceived (note_of p.requests x) ≡ true
          → FineBy scenes (frame.Request (request.Receiving x)) b p (Do.Emit (Told (StateOf x (state_number state.Received))) (frame.Request (request.Cleaning x Receive)) (receive p x)) ws
      receives t = state-fine (request.Receiving x) (request.Cleaning x Receive) x state.Received (receive p x) whole.sound.rests.1.0 whole.sound.rests.1.1 refl refl refl
          (later-noted p (receive p x) refl (omega arith) (states-renoted (in_state state.Received) p (receive p x) x refl (λ m e. most m.state)))
          (omega arith, omega arith, untold (frame.Request (request.Receiving x)) x 6 known.past (unreceived-not (note_of p.requests x) t), λ l. absurd (omega arith)) whole tt known

  calling-fine : (w : What) (x : Obj) (h : Handler) (errand : Errand) → AtRequest (request.Calling w x h errand)
  calling-fine w x h errand whole known =
      let f : Frame = frame.Request (request.Calling w x h errand) in
      let g : Frame = frame.Request (request.Called w x h errand) in
      let e : Item = Told (Fired w x h.routine) in
      let row = request-row (row_of p.rows x) whole.noted.works.0 in
      let r : Row = row.0 in
      let fires : may_fire_row w (row_of p.rows x) ≡ true = rw row.1 (request-fires w r.kind r.mark whole.noted.works.1 row.2) in
      let past = past-tells (told scenes) e f (map work_of ws) p (λ y. refl) (λ y. refl) (λ y. refl) (λ y k. refl) known.past in (
        (fits-fired (told scenes) w x h.routine (unfreed (told scenes) f (map work_of ws) p x r known.past row.1), record { answered = tt; held = tt; caused = tt; started = (fires, no-turn w p x h.routine whole.noted.works.1, no-context w p x whole.noted.works.1) }),
        known-told scenes (scene notes f b p e) (with_note None g) ws p
            (past-goes (told scenes ++ e ∷ []) f g (map work_of ws) (map work_of ws) p p past (later-same p) (λ y l. absurd l) tt past.all_account)
            (restacked f g ws (λ w h. h) (λ w h. h) known.stacked) tt,
      )

  cancelling-fine : (x : Obj) → AtRequest (request.Cancelling x)
  cancelling-fine x whole known = each (cancel_in (note_of p.requests x))
    where
      each : (o : Option Handler) → FineBy scenes (frame.Request (request.Cancelling x)) b p (cancelling_step x o p) ws
      each None = goes (request.Cancelling x) (request.Over (cancelled_reply 0)) p (later-same p) tt known
      each (Some handler) = goes (request.Cancelling x) (request.Calling what.Cancel x handler Cancel) p (later-same p) tt known

  cleaning-fine : (x : Obj) (errand : Errand) → AtRequest (request.Cleaning x errand)
  cleaning-fine x errand whole known = each (cleanup_in (note_of p.requests x))
    where
      each : (o : Option Handler) → FineBy scenes (frame.Request (request.Cleaning x errand)) b p (cleaning_step x errand o p) ws
      each None = goes (request.Cleaning x errand) (request.Cleaned x errand) p (later-same p) tt known
      each (Some handler) = goes (request.Cleaning x errand) (request.Calling what.Cleanup x handler errand) (renote p x cleaned)
          (later-noted p (renote p x cleaned) refl (omega arith) (states-renoted cleaned p (renote p x cleaned) x refl (λ m e. omega arith))) tt known

  cleaned-fine : (x : Obj) (errand : Errand) → AtRequest (request.Cleaned x errand)
  cleaned-fine x errand whole known = each errand (note_of p.requests x) known
    where
      releases : (plan : Plan) → Known scenes (with_note b (frame.Request (request.Cleaned x Receive))) ws p → FineBy scenes (frame.Request (request.Cleaned x Receive)) b p (release_object plan Receive p) ws
      releases (Frees c) known = begins (request.Cleaned x Receive) (request.Releasing c) (frame.Free (Beginning c)) p (later-same p) tt tt tt known
      releases (Unlinks o c) known = begins (request.Cleaned x Receive) (request.Releasing c) (frame.Free (Unlinking o c)) p (later-same p) tt tt tt known
      releases _ known = over (request.Cleaned x Receive) Receive p (later-same p) known

      each : (errand : Errand) (o : Option Note) → Known scenes (with_note b (frame.Request (request.Cleaned x errand))) ws p → FineBy scenes (frame.Request (request.Cleaned x errand)) b p (cleaned_step x errand o p) ws
      each errand None known = over (request.Cleaned x errand) errand p (later-same p) known
      each Receive (Some n) known = releases (planned p (call.Free n.child)) known
      each errand (Some n) known = goes (request.Cleaned x errand) (request.Notifying x errand) p (later-same p) tt known

  notifying-fine : (x : Obj) (errand : Errand) → AtRequest (request.Notifying x errand)
  notifying-fine x errand whole known = each (note_of p.requests x)
    where
      back : (o : Option Handler) → FineBy scenes (frame.Request (request.Notifying x errand)) b p (callback_step x errand o p) ws
      back None = over (request.Notifying x errand) errand p (later-same p) known
      back (Some handler) = goes (request.Notifying x errand) (request.Calling what.Callback x handler errand) p (later-same p) tt known

      to : (q : Pool) → q ≡ record (renote p x not_deferring) { soon = q.soon } → FineBy scenes (frame.Request (request.Notifying x errand)) b p (over_step errand q) ws
      to q is = subst (λ (z : Pool). FineBy scenes (frame.Request (request.Notifying x errand)) b p (over_step errand z) ws) (sym is)
          (let r : Pool = record (renote p x not_deferring) { soon = q.soon } in
          over (request.Notifying x errand) errand r (later-noted p r refl (omega arith) (states-renoted not_deferring p r x refl (λ m e. omega arith))) known)

      deferred : (o : Option Obj) (callback : Option Handler) → FineBy scenes (frame.Request (request.Notifying x errand)) b p (deferred_step x errand o callback p) ws
      deferred None callback = back callback
      deferred (Some c) callback = by_test (is_usable p.rows c)
          (λ t. rw t (to (schedule (renote p x not_deferring) x c) refl))
          (λ t. rw t (to (renote p x not_deferring) refl))

      each : (o : Option Note) → FineBy scenes (frame.Request (request.Notifying x errand)) b p (notifying_step x errand o p) ws
      each None = over (request.Notifying x errand) errand p (later-same p) known
      each (Some n) = deferred n.deferred n.callback

  vacating-fine : (q : Obj) → AtRequest (request.Vacating q)
  vacating-fine q whole known = each (head_of p.queues q)
    where
      r : Pool
      r = run_queue p q false

      each : (o : Option Head) → FineBy scenes (frame.Request (request.Vacating q)) b p (vacating_step q o r) ws
      each None = over (request.Vacating q) Receive r (later-waiting p r refl refl refl) known
      each (Some h) = begins (request.Vacating q) (request.Dropping q h.object) (frame.Free (Beginning h.object)) r (later-waiting p r refl refl refl) tt tt tt known

  -- the request that an entry waits for is there
  triggering-fine : (q : Obj) → AtRequest (request.Triggering q)
  triggering-fine q whole known = each (next_of p.queues q) refl
    where
      f : Frame
      f = frame.Request (request.Triggering q)

      fires : (h : Head) → next_of p.queues q ≡ Some h → FineBy scenes f b p (triggering_step (Some h) p) ws
      fires h e =
          let x : Obj = h.entry.request in
          let g : Frame = frame.Request (request.Called what.Trigger x h.entry.trigger Notify) in
          let i : Item = Told (Fired what.Trigger x h.entry.trigger.routine) in
          let w = head-waiting p p.queues.entries q h whole.queued.pool.waiting (next-head p.queues q h e) in
          let row = request-row (row_of p.rows x) w.request in
          let starts : may_fire_row what.Trigger (row_of p.rows x) ≡ true = rw row.1 (trigger-fires row.0.kind row.0.mark row.2) in
          let past = past-tells (told scenes) i f (map work_of ws) p (λ y. refl) (λ y. refl) (λ y. refl) (λ y k. refl) known.past in (
            (fits-fired (told scenes) what.Trigger x h.entry.trigger.routine (unfreed (told scenes) f (map work_of ws) p x row.0 known.past row.1), record { answered = tt; held = tt; caused = tt; started = (starts, record { queue = q; first = h; next = e; entry = entry-row x (row_of p.rows h.object) w.entry; request = refl; routine = refl }, tt) }),
            known-told scenes (scene notes f b p i) (with_note None g) ws (trigger p h)
                (past-goes (told scenes ++ i ∷ []) f g (map work_of ws) (map work_of ws) p (trigger p h) past (later-waiting p (trigger p h) refl refl refl) (λ y l. absurd l) tt past.all_account)
                (restacked f g ws (λ w h. h) (λ w h. h) known.stacked) tt,
          )

      each : (o : Option Head) → next_of p.queues q ≡ o → FineBy scenes f b p (triggering_step o p) ws
      each None e = over (request.Triggering q) Notify p (later-same p) known
      each (Some h) e = fires h e

  over-fine : (r : Reply) → AtRequest (request.Over r)
  over-fine r whole known =
      resumed scenes (frame.Request (request.Over r)) b ws p (answer.Heard r) known.past (λ y l. l) known.stacked whole.sound.waiting
      (of-next (AnswersTo scenes (answer.Heard r)) (frame.Request (request.Over r)) ws whole.sound.waiting known.stacked answers)
    where
      answers : (g : Frame) (n : Option CallStart) → Waiter g → StandsOn (frame.Request (request.Over r)) g n → AnswersTo scenes (answer.Heard r) g n
      answers _ n (ForRun x h) on = absurd on
      answers _ n (ForTurn a) on = just-now (told scenes) r known.cause
      answers _ n (ForRequest a) on = just-now (told scenes) r known.cause
      answers _ n _ on = tt

  pub request-fine : (f : RequestFrame) → AtRequest f
  request-fine (request.Finishing x s) whole known = finishing-fine x s whole known
  request-fine (request.Receiving x) whole known = receiving-fine x whole known
  request-fine (request.Cancelling x) whole known = cancelling-fine x whole known
  request-fine (request.Cleaning x errand) whole known = cleaning-fine x errand whole known
  request-fine (request.Cleaned x errand) whole known = cleaned-fine x errand whole known
  request-fine (request.Notifying x errand) whole known = notifying-fine x errand whole known
  request-fine (request.Calling w x h errand) whole known = calling-fine w x h errand whole known
  request-fine (request.Called w x h errand) whole known =
      begins (request.Called w x h errand) (request.Called w x h errand) (frame.Call (Asking (ask.Routine (handler_moment w x h plainly)))) p (later-same p) tt (request-no-hook w whole.noted.works) tt known
  request-fine (request.Releasing c) whole known = absurd whole.sound.rests
  request-fine (request.Vacating q) whole known = vacating-fine q whole known
  request-fine (request.Dropping q e) whole known = absurd whole.sound.rests
  request-fine (request.Triggering q) whole known = triggering-fine q whole known
  request-fine (request.Over r) whole known = over-fine r whole known

  -- ---- a free that waits for a request

  pub preparing-fine : (x : Obj) → Known scenes (with_note b (frame.Free (Preparing x))) ws p → FineBy scenes (frame.Free (Preparing x)) b p (step (frame.Free (Preparing x)) p) ws
  preparing-fine x known =
      let f : Frame = frame.Free (Preparing x) in
      waits-for scenes f f b ws p p (frame.Request (request.Receiving x)) (record { stays = λ y l. l; free = λ y h. h; run = λ P h. h }) (later-same p) tt tt tt tt known

  pub draining-fine : (x : Obj) → Known scenes (with_note b (frame.Free (Draining x))) ws p → FineBy scenes (frame.Free (Draining x)) b p (step (frame.Free (Draining x)) p) ws
  draining-fine x known =
      let f : Frame = frame.Free (Draining x) in
      waits-for scenes f f b ws p p (frame.Request (request.Vacating x)) (record { stays = λ y l. l; free = λ y h. h; run = λ P h. h }) (later-same p) tt tt tt tt known

  pub prepared-fine : (x : Obj) → IsConsistent (record { innermost = frame.Free (Prepared x); below = map work_of ws; pool = p }) → Known scenes (with_note b (frame.Free (Prepared x))) ws p
      → FineBy scenes (frame.Free (Prepared x)) b p (step (frame.Free (Prepared x)) p) ws
  prepared-fine x whole known =
      let f : Frame = frame.Free (Prepared x) in
      let row = running-row (row_of p.rows x) (claims x (map work_of ws)) (claim-here x InRun (claims x (map work_of ws)) (row_of p.rows x) (whole.sound.open_frees x)) in
      record {
        past = past-goes (told scenes) f (frame.Free (Leaving x 0)) (map work_of ws) (map work_of ws) p (set_mark p x Quiet) known.past (later-marked p x row.0 Quiet row.1 row.2) (λ y l. absurd l)
            (unaccepted (told scenes) f (map work_of ws) p x row.0 known.past row.1 row.2 (λ l. l)) known.past.all_account;
        stacked = restacked f (frame.Free (Leaving x 0)) ws (λ y h. h) (λ y h. h) known.stacked;
        cause = tt;
      }
