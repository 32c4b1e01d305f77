-- What each step of a turn keeps of what holds at every moment.
use Rattle.std.proofs.Common.{◌≡◌, ℕ, suc, zero, List, [], ◌∷◌, ◌++◌, Option, Some, None, true, false, refl, sym, ◌∙◌, ap, subst, inl, inr}
use Rattle.tree_specs.specs.declared.object.Obj.{Obj}
use Rattle.tree_specs.specs.declared.row.Row.{Row}
use Rattle.tree_specs.specs.declared.row.Mark.TheVariants.{Doomed, Dying, Quiet, Busy}
use Rattle.tree_specs.specs.declared.row.Mark.{Mark}
use Rattle.tree_specs.specs.declared.handler.Handler.{Handler}
use Rattle.tree_specs.specs.declared.moment.What.{What}
use Rattle.tree_specs.specs.declared.moment.What.TheVariants as what
use Rattle.tree_specs.specs.declared.occasion.Occasion.{Occasion}
use Rattle.tree_specs.specs.declared.question.Ask.TheVariants.{Routine}
use Rattle.tree_specs.specs.declared.reply.Reply.TheVariants.{Number}
use Rattle.tree_specs.specs.declared.frame.Frame.{Frame}
use Rattle.tree_specs.specs.declared.frame.Frame.TheVariants as frame
use Rattle.tree_specs.specs.declared.frame.CallFrame.TheVariants.{Asking}
use Rattle.tree_specs.specs.declared.frame.FreeFrame.TheVariants.{Beginning}
use Rattle.tree_specs.specs.declared.frame.TurnFrame.{TurnFrame}
use Rattle.tree_specs.specs.declared.frame.TurnFrame.TheVariants.{Taking, Timing, Timed, Polling, Starting, Firing, Handling, Handled, Clearing, Serving, Parting, Closing}
use Rattle.tree_specs.specs.declared.frame.RequestFrame.{RequestFrame}
use Rattle.tree_specs.specs.declared.frame.RequestFrame.TheVariants as request
use Rattle.tree_specs.specs.declared.frame.Errand.TheVariants.{Finish, Notify}
use Rattle.tree_specs.specs.declared.request.State.TheVariants as state
use Rattle.tree_specs.specs.declared.frame.OutsideFrame.{OutsideFrame}
use Rattle.tree_specs.specs.declared.frame.OutsideFrame.TheVariants.{Reaching, Opening, Hearing}
use Rattle.tree_specs.specs.declared.frame.Answer.TheVariants.{Turned, Heard}
use Rattle.tree_specs.specs.declared.kind.Kind.{Kind}
use Rattle.tree_specs.specs.declared.kind.Kind.TheVariants as kind
use Rattle.tree_specs.specs.Words.Objects.{same}
use Rattle.tree_specs.specs.Tree.Targets.{target_of, newest_ref, is_context}
use Rattle.tree_specs.specs.Tree.Pool.{exit, Pool, row_of, target_at, changed, set_mark, marked_row, open_descriptor}
use Rattle.tree_specs.specs.Events.Coming.{is_at_turn, handler_for, handler_moment, rotated, begun, goes_after}
use Rattle.tree_specs.specs.Events.Handlers.{handler_of}
use Rattle.tree_specs.specs.Machine.Profiles.{InHandler, turn_profile}
use Rattle.tree_specs.specs.Machine.Table.{closing_step, Step, starting_step, turn_step, outside_step}
use Rattle.tree_specs.specs.Invariants.Sound.{is_at_turn_mark, IsTurning, phase_of, phases, claim, claim_by, claims, footing, AllWait, IsLive, IsReferable, Footing, IsTurned, IsRequested, RequestRests, Rests, Sound}
use Rattle.tree_specs.specs.Calls.Refusals.{is_referable, is_doomed}
use Rattle.tree_specs.proofs.Tree.Numbered.{by_test, same-equal, same-false}
use Rattle.tree_specs.proofs.Tree.Rows.{row_of-changed-same}
use Rattle.tree_specs.proofs.Tree.Referring.{unreferred, newest-changed}
use Rattle.tree_specs.proofs.Invariants.Changes.{turning-row, run-refers, run-unreferred, handling-row, claim-here, stands, goes_on, waiting-sound, changed-sound, shape-of, live-owned, marks-place}
use Rattle.tree_specs.proofs.Invariants.KeptFrees.{KeptBy, ended}
use Rattle.tree_specs.proofs.Invariants.Turning.{handler-home, at-turn-busy, Ready, handler-ready, rotated-rows, IsPlain, Passes, Pass, Serve, look-passes, taken-plain, Trigger}
use Rattle.tree_specs.proofs.Calls.Checks.{Reached, ReachedOpening, ReachedHearing, reached-leads}

-- a work that says nothing of an object, over the same rows, in the place of another one
plain-sound : (f g : TurnFrame) (steps : ℕ) (fs : List Frame) (p q : Pool) → q.rows ≡ p.rows → q.next ≡ p.next → q.turning ≡ p.turning → (turn_profile f).claims ≡ None → IsPlain g steps → IsTurned (footing fs)
    → Sound (frame.Turn f) fs p → Sound (frame.Turn g) fs q
plain-sound f g steps fs p q rows next turning none plain turned s =
    waiting-sound (frame.Turn f) (frame.Turn g) fs p q s rows next turning (λ x. ap (claim_by x) plain.claims ∙ sym (ap (claim_by x) none)) (plain.rests (footing fs) q turned)

-- the work of a request stands on the turn that waits for it
served-sound : (f : TurnFrame) (g : RequestFrame) (x : Obj) (fs : List Frame) (p q : Pool) → q.rows ≡ p.rows → q.next ≡ p.next → q.turning ≡ p.turning → (turn_profile f).claims ≡ None → IsTurned (footing fs) → Sound (frame.Turn f) fs p
    → ((on : Footing) (p' : Pool) → IsRequested on → RequestRests g on p') → Sound (frame.Request g) (frame.Turn (Serving x) ∷ fs) q
served-sound f g x fs p q rows next turning none turned s rests =
    let t : Sound (frame.Turn (Closing 1)) fs q = waiting-sound (frame.Turn f) (frame.Turn (Closing 1)) fs p q s rows next turning (λ x. sym (ap (claim_by x) none)) turned in
    stands (frame.Turn (Closing 1)) (frame.Request g) fs (frame.Turn (Serving x) ∷ fs) q (λ y. refl) (turned, t.waiting) (rests (footing (frame.Turn (Serving x) ∷ fs)) q tt) t

passes-kept : (f : TurnFrame) (fs : List Frame) (p : Pool) (k : ℕ) (m : Step) → (turn_profile f).claims ≡ None → IsTurned (footing fs) → Sound (frame.Turn f) fs p → Passes p m → KeptBy m fs k
passes-kept f fs p k _ none turned s (Pass g q rows next notes queues turning times plain) = plain-sound f g 4 fs p q rows next turning none plain turned s
passes-kept f fs p k _ none turned s (Trigger x q rows next notes queues turning times queue) = served-sound f (request.Triggering x) x fs p q rows next turning none turned s (λ on p' r. r)
passes-kept f fs p k _ none turned s (Serve Notify x q rows next notes queues turning times served noted) = served-sound f (request.Notifying x Notify) x fs p q rows next turning none turned s (λ on p' r. r)
passes-kept f fs p k _ none turned s (Serve (Finish state.TimedOut) x q rows next notes queues turning times served noted) = served-sound f (request.Finishing x state.TimedOut) x fs p q rows next turning none turned s (λ on p' r. r)
passes-kept f fs p k _ none turned s (Serve _ x q rows next notes queues turning times served noted) = absurd served

-- an event with which nothing goes on becomes busy
starts : (w : What) (x : Obj) (o : Occasion) (h : Handler) (fs : List Frame) (p : Pool) → Sound (frame.Turn (Starting w x o)) fs p → Ready p.rows w x → handler_of p.handlers x ≡ Some h → is_at_turn p h.context ≡ true
    → Sound (frame.Turn (Firing w x h o)) fs (set_mark p x Busy)
starts w x o h fs p s ready handler turn =
    let r : Row = ready.row in
    let self : same x x ≡ true = same-equal x x refl in
    let none : claims x fs ≡ [] = s.open_frees x ∙ ap phases ready.is ∙ ap (phase_of ready.row.kind) ready.quiet in
    changed-sound (marked_row Busy) (frame.Turn (Starting w x o)) (frame.Turn (Firing w x h o)) fs fs p x r s (marks-place Busy) ready.is
    (live-owned r.mark r.owner x (rw ready.quiet tt) (shape-of p x r s.valid ready.is)) ready.object
    (inr (unreferred p.rows x s.forest.distinct (λ q. let q' : IsReferable (Some r) = rw ready.is at q in let bad : true ≡ false = sym q'.0 ∙ ready.event in cc) s.refers))
    (λ y ne. let u : same x y ≡ false = same-false x y ne in rw u refl) (let c = ready.context in rw (self, none, c) refl) (λ z. refl) s.waiting
    (s.rests, marked_row Busy r, row_of-changed-same (marked_row Busy) p.rows x r (λ q. refl) ready.is, ready.comes, refl, handler, at-turn-busy p x h.context r ready.is ready.context turn)

-- and goes to the end of the rotation before
begins : (w : What) (x : Obj) (o : Occasion) (h : Handler) (fs : List Frame) (p : Pool) → Sound (frame.Turn (Starting w x o)) fs p → Ready p.rows w x → handler_of p.handlers x ≡ Some h → is_at_turn p h.context ≡ true
    → Sound (frame.Turn (Firing w x h o)) fs (begun w x p)
begins w x o h fs p s ready handler turn =
    let f : Frame = frame.Turn (Starting w x o) in
    let r = rotated-rows w x p in
    starts w x o h fs (rotated w x p) (waiting-sound f f fs p (rotated w x p) s r.0 r.1 r.3 (λ y. refl) s.rests) (rw r.0 ready) (rotated-home w handler).0 (rotated-home w handler).1
  where
    rotated-home : (w : What) → handler_of p.handlers x ≡ Some h → (handler_of (rotated w x p).handlers x ≡ Some h) × (is_at_turn (rotated w x p) h.context ≡ true)
    rotated-home what.Descriptor e = (e, turn)
    rotated-home _ e = (e, turn)

-- ---- a handler has returned

-- nothing goes on with its event any more
module _ (w : What) (x : Obj) (fs : List Frame) (p : Pool) (s : Sound (frame.Turn (Handled w x)) fs p) where
  abbrev phase : InHandler ∷ claims x fs ≡ phases (row_of p.rows x)
  phase = claim-here x InHandler (claims x fs) (row_of p.rows x) (s.open_frees x)

  quiet : (r : Row) → row_of p.rows x ≡ Some r → IsLive r.mark → is_context r.kind ≡ false → claims x fs ≡ [] → (g : Frame) (gs : List Frame) → ((y : Obj) → claim y g ++ claims y gs ≡ claims y fs) → AllWait gs
      → Rests g gs (set_mark p x Quiet)
      → Sound g gs (set_mark p x Quiet)
  quiet r e live other none g gs same_claims wait rests =
      let object : target_at p.rows x ≡ None = run-refers p.rows x (claims x fs) s.refers phase in
      let object' : target_of r.kind ≡ None = rw e at object in
      changed-sound (marked_row Quiet) (frame.Turn (Handled w x)) g fs gs p x r s (marks-place Quiet) e (live-owned r.mark r.owner x live (shape-of p x r s.valid e)) object' (inl (λ q. refl))
      (λ y ne. let u : same x y ≡ false = same-false x y ne in rw u (same_claims y)) (same_claims x ∙ none)
      (λ z. let t = turning-row p.turning p.rows x (Some r) s.turned z e in let bad : true ≡ false = sym t.0 ∙ other in cc) wait rests

  handled-kept : (k : ℕ) → KeptBy (turn_step (Handled w x) p) fs k
  handled-kept k =
      let row = handling-row (row_of p.rows x) (claims x fs) phase in
      let object : target_at p.rows x ≡ None = run-refers p.rows x (claims x fs) s.refers phase in
      let object' : target_of row.0.kind ≡ None = rw row.1 at object in
      let unreferred : newest_ref p.rows x ≡ None = run-unreferred p.rows x (claims x fs) s.forest.distinct s.refers phase in
      let new : row_of (changed (marked_row Quiet) p.rows x) x ≡ Some (marked_row Quiet row.0) = row_of-changed-same (marked_row Quiet) p.rows x row.0 (λ q. refl) row.1 in
      by_test (goes_after p w x)
      (λ t. rw t (quiet row.0 row.1 row.2 row.3 row.4 (frame.Free (Beginning x)) (frame.Turn (Clearing x) ∷ fs) (λ y. refl) (s.rests, s.waiting)
      (newest-changed (marked_row Quiet) p.rows x x (λ q. refl) (λ q. refl) ∙ unreferred, rw new object')))
      (λ t. rw t (quiet row.0 row.1 row.2 row.3 row.4 (frame.Turn (Closing 1)) fs (λ y. refl) s.waiting s.rests))

-- ---- all

starting-kept : (w : What) (x : Obj) (o : Occasion) (fs : List Frame) (p : Pool) (k : ℕ) → Sound (frame.Turn (Starting w x o)) fs p → KeptBy (turn_step (Starting w x o) p) fs k
starting-kept w x o fs p k s = each (handler_for p w x) refl
  where
    each : (n : Option Handler) → handler_for p w x ≡ n → KeptBy (starting_step w x o (handler_for p w x) p) fs k
    each None e = rw e (goes_on (frame.Turn (Starting w x o)) (frame.Turn (Closing 1)) fs p (λ y. refl) s.rests s)
    each (Some h) e = rw e (begins w x o h fs p s (handler-ready p w x h e) (handler-home p w x h e).0 (handler-home p w x h e).1)

-- a work that asks, with its answer
asked-kept : (f : TurnFrame) (fs : List Frame) (p : Pool) → (turn_profile f).claims ≡ None → IsTurned (footing fs) → Sound (frame.Turn f) fs p → (t : TurnFrame) → IsPlain t 13
    → Sound (frame.Turn t) fs p
asked-kept f fs p none turned s t plain = plain-sound f t 13 fs p p refl refl refl none plain turned s

-- the turn is over, and its context is quiet again
exited-sound : (v : ℕ) (c : Obj) (fs : List Frame) (p : Pool) → p.turning ≡ Some c → Sound (frame.Turn (Closing v)) fs p → Sound (frame.Turn (Closing v)) fs (exit p c)
exited-sound v c fs p e s = each (row_of p.rows c) refl (turning-row p.turning p.rows c (row_of p.rows c) s.turned e refl)
  where
    f : Frame
    f = frame.Turn (Closing v)

    q : Pool
    q = record p { turning = None }

    s' : Sound f fs q
    s' = record { started = s.started; valid = s.valid; forest = s.forest; refers = s.refers; open_frees = s.open_frees; waiting = s.waiting; turned = tt; rests = s.rests }

    live : (m : Mark) → is_at_turn_mark m ≡ true → IsLive m
    live (Dying former) t = cc
    live _ t = tt

    phase : (k : Kind) (m : Mark) → is_context k ≡ true → is_at_turn_mark m ≡ true → phase_of k m ≡ []
    phase k Busy i t = rw i refl
    phase k Doomed i t = rw i refl
    phase k _ i t = cc

    object : (k : Kind) → is_context k ≡ true → target_of k ≡ None
    object kind.Context i = refl
    object _ i = cc

    each : (o : Option Row) → row_of p.rows c ≡ o → IsTurning o → Sound f fs (exit p c)
    each None is t = absurd t
    each (Some r) is t =
        changed-sound (marked_row Quiet) f f fs fs q c r s' (marks-place Quiet) is (live-owned r.mark r.owner c (live r.mark t.1) (shape-of p c r s.valid is)) (object r.kind t.0) (inl (λ z. refl))
        (λ y ne. refl) (s.open_frees c ∙ ap phases is ∙ phase r.kind r.mark t.0 t.1) (λ z. cc) s.waiting s.rests

closing-kept : (v : ℕ) (fs : List Frame) (p : Pool) (k : ℕ) → Sound (frame.Turn (Closing v)) fs p → KeptBy (turn_step (Closing v) p) fs k
closing-kept v fs p k s = each p.turning refl
  where
    f : Frame
    f = frame.Turn (Closing v)

    each : (o : Option Obj) → p.turning ≡ o → KeptBy (closing_step v o p) fs k
    each None e = ended (Turned v) f fs p k s (λ x. refl) (λ x c n b gs e. tt)
    each (Some c) e =
        let t = exited-sound v c fs p e s in
        let turning = turning-row p.turning p.rows c (row_of p.rows c) s.turned e refl in
        by_test (is_doomed p c)
        (λ d. rw d (stands f (frame.Free (Beginning c)) fs (frame.Turn (Parting c v) ∷ fs) (exit p c) (λ y. refl) (s.rests, s.waiting) (unreferred-context c turning, target-context c turning) t))
        (λ d. rw d (ended (Turned v) f fs (exit p c) k t (λ x. refl) (λ x c n b gs e. tt)))
      where
        unreferred-context : (c : Obj) → IsTurning (row_of p.rows c) → newest_ref (exit p c).rows c ≡ None
        unreferred-context c turning = newest-changed (marked_row Quiet) p.rows c c (λ z. refl) (λ z. refl) ∙ unreferred p.rows c s.forest.distinct (not-so (row_of p.rows c) turning) s.refers
          where
            kinds : (k : Kind) → is_context k ≡ true → is_referable k ≡ false
            kinds kind.Context i = refl
            kinds _ i = cc

            not-so : (o : Option Row) → IsTurning o → IsReferable o → ⊥
            not-so None i r = absurd i
            not-so (Some row) i r = let bad : true ≡ false = sym r.0 ∙ kinds row.kind i.0 in cc

        target-context : (c : Obj) → IsTurning (row_of p.rows c) → target_at (exit p c).rows c ≡ None
        target-context c turning = found (row_of p.rows c) refl turning
          where
            kinds : (k : Kind) → is_context k ≡ true → target_of k ≡ None
            kinds kind.Context i = refl
            kinds _ i = cc

            found : (o : Option Row) → row_of p.rows c ≡ o → IsTurning o → target_at (exit p c).rows c ≡ None
            found None is i = absurd i
            found (Some row) is i = rw (row_of-changed-same (marked_row Quiet) p.rows c row (λ z. refl) is) (kinds row.kind i.0)

pub turn-kept : (f : TurnFrame) (fs : List Frame) (p : Pool) (k : ℕ) → Sound (frame.Turn f) fs p → KeptBy (turn_step f p) fs k
turn-kept Taking fs p k s = passes-kept Taking fs p k _ refl s.rests s (look-passes Taking p tt)
turn-kept (Timed again now) fs p k s = passes-kept (Timed again now) fs p k _ refl s.rests s (look-passes (Timed again now) p tt)
turn-kept (Timing again) fs p zero s = tt
turn-kept (Timing again) fs p (suc k) s = λ i g e. (let t = taken-plain (Timing again) p i g e in subst (λ (z : Frame). Sound z fs p) (sym t.1) (asked-kept (Timing again) fs p refl s.rests s t.0 t.2))
turn-kept (Polling limit) fs p zero s = tt
turn-kept (Polling limit) fs p (suc k) s = λ i g e. (let t = taken-plain (Polling limit) p i g e in subst (λ (z : Frame). Sound z fs p) (sym t.1) (asked-kept (Polling limit) fs p refl s.rests s t.0 t.2))
turn-kept (Starting w x o) fs p k s = starting-kept w x o fs p k s
turn-kept (Firing w x h o) fs p k s = goes_on (frame.Turn (Firing w x h o)) (frame.Turn (Handling w x h o)) fs p (λ y. refl) (s.rests.0, s.rests.1.kind, s.rests.3) s
turn-kept (Handling w x h o) fs p k s =
    stands (frame.Turn (Handling w x h o)) (frame.Call (Asking (Routine (handler_moment w x h o)))) fs (frame.Turn (Handling w x h o) ∷ fs) p (λ y. refl) (s.rests.0, s.waiting) tt s
turn-kept (Handled w x) fs p k s = handled-kept w x fs p s k
turn-kept (Clearing x) fs p k s = absurd s.rests
turn-kept (Serving x) fs p k s = absurd s.rests
turn-kept (Parting c v) fs p k s = absurd s.rests
turn-kept (Closing v) fs p k s = closing-kept v fs p k s

-- ---- a question to the outside

pub outside-kept : (f : OutsideFrame) (fs : List Frame) (p : Pool) (k : ℕ) → Sound (frame.Outside f) fs p → KeptBy (outside_step f p) fs k
outside-kept (Reaching q) fs p zero s = tt
outside-kept (Reaching q) fs p (suc k) s = λ i g e. leads g (reached-leads p q i g e)
  where
    leads : (g : Frame) → Reached p g → Sound g fs p
    leads _ (ReachedOpening fd number closed) = goes_on (frame.Outside (Reaching q)) (frame.Outside (Opening fd)) fs p (λ y. refl) s.rests s
    leads _ (ReachedHearing r) = goes_on (frame.Outside (Reaching q)) (frame.Outside (Hearing r)) fs p (λ y. refl) s.rests s
outside-kept (Opening fd) fs p k s =
    let f : Frame = frame.Outside (Opening fd) in
    ended (Heard (Number fd)) f fs (open_descriptor p fd) k (waiting-sound f f fs p (open_descriptor p fd) s refl refl refl (λ y. refl) s.rests) (λ x. refl) (λ x c n b gs e. tt)
outside-kept (Hearing r) fs p k s = ended (Heard r) (frame.Outside (Hearing r)) fs p k s (λ x. refl) (λ x c n b gs e. tt)
