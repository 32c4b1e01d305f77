-- Each step of a turn lowers the measure.
use Rattle.std.proofs.Common.{[], ◌≤◌, true, ◌≡◌, ℕ, suc, zero, ◌+◌, ◌*◌, ◌<◌, List, ◌∷◌, Option, Some, None, refl, sym, ap, subst, arith}
use Rattle.step_machine.specs.Machine.{Move as Do}
use Rattle.tree_specs.specs.declared.object.Obj.{Obj}
use Rattle.tree_specs.specs.declared.row.Mark.TheVariants.{Busy, Doomed, Quiet}
use Rattle.tree_specs.specs.declared.row.Mark.{Mark}
use Rattle.tree_specs.specs.declared.row.Row.{Row}
use Rattle.tree_specs.specs.declared.handler.Handler.{Handler}
use Rattle.tree_specs.specs.declared.moment.What.{What}
use Rattle.tree_specs.specs.declared.frame.Frame.{Frame}
use Rattle.tree_specs.specs.declared.frame.Frame.TheVariants as frame
use Rattle.tree_specs.specs.declared.frame.CallFrame.TheVariants.{Turning}
use Rattle.tree_specs.specs.declared.frame.TurnFrame.{TurnFrame}
use Rattle.tree_specs.specs.declared.frame.TurnFrame.TheVariants.{Taking, Timing, Timed, Polling, Starting, Firing, Handling, Handled, Clearing, Serving, Parting, Closing}
use Rattle.tree_specs.specs.declared.frame.Errand.TheVariants.{Finish, Notify}
use Rattle.tree_specs.specs.declared.request.State.TheVariants.{TimedOut}
use Rattle.tree_specs.specs.declared.frame.RequestFrame.TheVariants as request
use Rattle.tree_specs.specs.declared.frame.OutsideFrame.{OutsideFrame}
use Rattle.tree_specs.specs.declared.frame.OutsideFrame.TheVariants.{Reaching, Opening, Hearing}
use Rattle.tree_specs.specs.declared.frame.Answer.{Answer}
use Rattle.tree_specs.specs.declared.frame.Answer.TheVariants.{Turned, Heard}
use Rattle.tree_specs.specs.declared.reply.Reply.TheVariants.{Number}
use Rattle.tree_specs.specs.declared.occasion.Occasion.{Occasion}
use Rattle.tree_specs.specs.Tree.Pool.{exit, row_of, marked_row, Pool, open_descriptor}
use Rattle.tree_specs.specs.Tree.Inside.{total}
use Rattle.tree_specs.specs.Events.Coming.{handler_for, goes_after}
use Rattle.tree_specs.specs.Machine.Profiles.{InHandler, turn_profile}
use Rattle.tree_specs.specs.Machine.Table.{closing_step, Step, resume, starting_step, turn_step, outside_step}
use Rattle.tree_specs.specs.Invariants.Sound.{is_at_turn_mark, IsTurning, IsLive, claims, footing, AllWait, IsTurned, Sound}
use Rattle.tree_specs.specs.Invariants.Measure.{turning_cost, mark_weight, weight, row_worth, waiting_cost, top_cost, cost, pending}
use Rattle.tree_specs.specs.Calls.Refusals.{is_doomed}
use Rattle.tree_specs.proofs.Tree.Numbered.{by_test}
use Rattle.tree_specs.proofs.Calls.Checks.{Reached, ReachedOpening, ReachedHearing, reached-leads}
use Rattle.tree_specs.proofs.Invariants.Changes.{turning-row, handling-row, claim-here}
use Rattle.tree_specs.proofs.Invariants.Turning.{handler-ready, rotated-rows, IsPlain, Passes, Pass, Serve, look-passes, taken-plain, Trigger}
use Rattle.tree_specs.proofs.Turns.Lowering.{Lowers, Room, done-lower, total-kept, length-changed, marked-weight, live-weight}

passes-lower : (R : ℕ) (f : TurnFrame) (fs : List Frame) (p : Pool) (k : ℕ) (m : Step) → (turn_profile f).steps ≡ 13 → Passes p m → Room R (frame.Turn f) p k
    → Lowers R (cost R (frame.Turn f) fs p k) m fs k
passes-lower R f fs p k _ most (Pass g q rows next notes queues turning times plain) room =
    let cheap = plain.cheap in
    rw (rows, notes, turning) (omega arith, omega (arith, cheap, most))
passes-lower R f fs p k _ most (Trigger x q rows next notes queues turning times queue) room = rw (rows, notes, turning) (omega arith, omega (arith, most))
passes-lower R f fs p k _ most (Serve Notify x q rows next notes queues turning times served noted) room = rw (rows, notes, turning) (omega arith, omega (arith, most))
passes-lower R f fs p k _ most (Serve (Finish TimedOut) x q rows next notes queues turning times served noted) room = rw (rows, notes, turning) (omega arith, omega (arith, most))
passes-lower R f fs p k _ most (Serve _ x q rows next notes queues turning times served noted) room = absurd served

-- what an answer leads to costs less than the answer pays
asked-lower : (R : ℕ) (f : TurnFrame) (fs : List Frame) (p : Pool) (k : ℕ) (g : Frame) (t : TurnFrame) → g ≡ frame.Turn t → IsPlain t 13 → Room R (frame.Turn f) p (suc k)
    → Room R g p k × (cost R g fs p k < cost R (frame.Turn f) fs p (suc k))
asked-lower R f fs p k g t e plain room =
    let cheap = plain.cheap in
    subst (λ (z : Frame). Room R z p k × (cost R z fs p k < cost R (frame.Turn f) fs p (suc k))) (sym e) (omega arith, omega (arith, cheap))

starting-lower : (R : ℕ) (w : What) (x : Obj) (occasion : Occasion) (fs : List Frame) (p : Pool) (k : ℕ) → Room R (frame.Turn (Starting w x occasion)) p k
    → Lowers R (cost R (frame.Turn (Starting w x occasion)) fs p k) (turn_step (Starting w x occasion) p) fs k
starting-lower R w x occasion fs p k room = each (handler_for p w x) refl
  where
    each : (o : Option Handler) → handler_for p w x ≡ o → Lowers R (cost R (frame.Turn (Starting w x occasion)) fs p k) (starting_step w x occasion (handler_for p w x) p) fs k
    each None e = rw e (omega arith, omega arith)
    each (Some h) e =
        let ready = handler-ready p w x h e in
        let u = ap (λ (z : ℕ). row_worth R * z) (total-kept (weight p.requests) (marked_row Busy) p.rows x ready.row ready.is (marked-weight p.requests Busy ready.row (sym (ap mark_weight ready.quiet)))) in
        let n = length-changed (marked_row Busy) p.rows x in
        rw (e, (rotated-rows w x p).0, (rotated-rows w x p).2, (rotated-rows w x p).3) (omega (arith, n), omega (arith, u))

handled-lower : (R : ℕ) (w : What) (x : Obj) (fs : List Frame) (p : Pool) (k : ℕ) → Sound (frame.Turn (Handled w x)) fs p → Room R (frame.Turn (Handled w x)) p k
    → Lowers R (cost R (frame.Turn (Handled w x)) fs p k) (turn_step (Handled w x) p) fs k
handled-lower R w x fs p k s room =
    let row = handling-row (row_of p.rows x) (claims x fs) (claim-here x InHandler (claims x fs) (row_of p.rows x) (s.open_frees x)) in
    let u = ap (λ (z : ℕ). row_worth R * z) (total-kept (weight p.requests) (marked_row Quiet) p.rows x row.0 row.1 (marked-weight p.requests Quiet row.0 (sym (live-weight row.0.mark row.2)))) in
    let n = length-changed (marked_row Quiet) p.rows x in
    by_test (goes_after p w x) (λ t. rw t (omega (arith, n), omega (arith, u))) (λ t. rw t (omega (arith, n), omega (arith, u)))

-- a work that is over, and for which its call waits
answers-lower : (R : ℕ) (a : Answer) (f : Frame) (fs : List Frame) (p : Pool) (k : ℕ) → AllWait fs → IsTurned (footing fs) → Room R f p k → pending f ≡ 0 → top_cost R f fs p.rows ≡ 2
    → Lowers R (cost R f fs p k) (Do.Done a p) fs k
answers-lower R a f fs p k wait turned room none two =
    done-lower R a f fs p k wait (omega arith) (λ g gs e w. (let l = pays g gs (subst (λ (l : List Frame). IsTurned (footing l)) e turned) in omega (arith, l, two)))
  where
    -- a call is what waits for it
    pays : (g : Frame) (gs : List Frame) → IsTurned (footing (g ∷ gs)) → top_cost R (resume g a) gs p.rows < waiting_cost g + 2
    pays (frame.Call (Turning q)) gs t = omega arith
    pays (frame.Turn (Clearing x)) gs t = absurd t
    pays (frame.Turn (Serving x)) gs t = absurd t
    pays (frame.Turn (Parting x v)) gs t = absurd t
    pays (frame.Request (request.Releasing c)) gs t = absurd t
    pays _ gs t = absurd t

-- what lowers it below less lowers it below more
lowers-more : (R b more : ℕ) (a : Answer) (fs : List Frame) (p : Pool) (k : ℕ) → b ≤ more → Lowers R b (Do.Done a p) fs k → Lowers R more (Do.Done a p) fs k
lowers-more R b more a [] p k l h = tt
lowers-more R b more a (g ∷ gs) p k l h = (h.0, let m = h.1 in omega (arith, l, m))

-- the freeing of a context is paid for by its turn
closing-lower : (R v : ℕ) (fs : List Frame) (p : Pool) (k : ℕ) → Sound (frame.Turn (Closing v)) fs p → Room R (frame.Turn (Closing v)) p k → Lowers R (cost R (frame.Turn (Closing v)) fs p k) (turn_step (Closing v) p) fs k
closing-lower R v fs p k s room = each p.turning refl
  where
    f : Frame
    f = frame.Turn (Closing v)

    live : (m : Mark) → is_at_turn_mark m ≡ true → IsLive m
    live Busy t = tt
    live Doomed t = tt
    live _ t = cc

    same_weight : (c : Obj) (o : Option Row) → row_of p.rows c ≡ o → IsTurning o → row_worth R * total (weight p.requests) (exit p c).rows ≡ row_worth R * total (weight p.requests) p.rows
    same_weight c None e t = absurd t
    same_weight c (Some r) e t = ap (λ (z : ℕ). row_worth R * z) (total-kept (weight p.requests) (marked_row Quiet) p.rows c r e (marked-weight p.requests Quiet r (sym (live-weight r.mark (live r.mark t.1)))))

    each : (o : Option Obj) → p.turning ≡ o → Lowers R (cost R f fs p k) (closing_step v o p) fs k
    each None e = answers-lower R (Turned v) f fs p k s.waiting s.rests room refl (omega arith)
    each (Some c) e =
        let u = same_weight c (row_of p.rows c) refl (turning-row p.turning p.rows c (row_of p.rows c) s.turned e refl) in
        let n = length-changed (marked_row Quiet) p.rows c in
        let eight : turning_cost p.turning ≡ 8 = ap turning_cost e in
        by_test (is_doomed p c)
        (λ d. rw d (omega (arith, n), omega (arith, u, eight)))
        (λ d. rw d (lowers-more R (cost R f fs (exit p c) k) (cost R f fs p k) (Turned v) fs (exit p c) k (omega (arith, u, eight)) (answers-lower R (Turned v) f fs (exit p c) k s.waiting s.rests (omega (arith, n)) refl (omega arith))))

pub turn-lower : (R : ℕ) (f : TurnFrame) (fs : List Frame) (p : Pool) (k : ℕ) → Sound (frame.Turn f) fs p → Room R (frame.Turn f) p k → Lowers R (cost R (frame.Turn f) fs p k) (turn_step f p) fs k
turn-lower R Taking fs p k s room = passes-lower R Taking fs p k _ refl (look-passes Taking p tt) room
turn-lower R (Timed again now) fs p k s room = passes-lower R (Timed again now) fs p k _ refl (look-passes (Timed again now) p tt) room
turn-lower R (Timing again) fs p zero s room = tt
turn-lower R (Timing again) fs p (suc k) s room = λ i g e. (let t = taken-plain (Timing again) p i g e in asked-lower R (Timing again) fs p k g t.0 t.1 t.2 room)
turn-lower R (Polling limit) fs p zero s room = tt
turn-lower R (Polling limit) fs p (suc k) s room = λ i g e. (let t = taken-plain (Polling limit) p i g e in asked-lower R (Polling limit) fs p k g t.0 t.1 t.2 room)
turn-lower R (Starting w x occasion) fs p k s room = starting-lower R w x occasion fs p k room
turn-lower R (Firing w x h occasion) fs p k s room = (omega arith, omega arith)
turn-lower R (Handling w x h occasion) fs p k s room = (omega arith, omega arith)
turn-lower R (Handled w x) fs p k s room = handled-lower R w x fs p k s room
turn-lower R (Clearing x) fs p k s room = absurd s.rests
turn-lower R (Serving x) fs p k s room = absurd s.rests
turn-lower R (Parting c v) fs p k s room = absurd s.rests
turn-lower R (Closing v) fs p k s room = closing-lower R v fs p k s room

-- ---- a question to the outside

pub outside-lower : (R : ℕ) (f : OutsideFrame) (fs : List Frame) (p : Pool) (k : ℕ) → Sound (frame.Outside f) fs p → Room R (frame.Outside f) p k → Lowers R (cost R (frame.Outside f) fs p k) (outside_step f p) fs k
outside-lower R (Reaching q) fs p zero s room = tt
outside-lower R (Reaching q) fs p (suc k) s room = λ i g e. leads g (reached-leads p q i g e)
  where
    leads : (g : Frame) → Reached p g → Room R g p k × (cost R g fs p k < cost R (frame.Outside (Reaching q)) fs p (suc k))
    leads _ (ReachedOpening fd number closed) = (omega arith, omega arith)
    leads _ (ReachedHearing r) = (omega arith, omega arith)
outside-lower R (Opening fd) fs p k s room = answers-lower R (Heard (Number fd)) (frame.Outside (Opening fd)) fs (open_descriptor p fd) k s.waiting s.rests room refl (omega arith)
outside-lower R (Hearing r) fs p k s room = answers-lower R (Heard r) (frame.Outside (Hearing r)) fs p k s.waiting s.rests room refl (omega arith)
