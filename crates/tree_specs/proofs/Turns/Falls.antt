-- Each step lowers the measure.
use Rattle.std.proofs.Common.{◌≡◌, ◌≤◌, ◌+◌, ◌*◌, ℕ, suc, zero, ◌<◌, List, [], ◌∷◌, length, Some, None, arith}
use Rattle.std.proofs.Math.Nat.{mul-le-mul_left}
use Rattle.step_machine.specs.Machine.{Move, Move as Do}
use Rattle.step_machine.proofs.Ends.{Leads, Falls}
use Rattle.tree_specs.specs.declared.object.Owner.TheVariants.{Of}
use Rattle.tree_specs.specs.declared.call.Call.{Call}
use Rattle.tree_specs.specs.declared.question.Ask.{Ask}
use Rattle.tree_specs.specs.declared.question.Ask.TheVariants.{Quiet}
use Rattle.tree_specs.specs.declared.frame.Frame.{Frame}
use Rattle.tree_specs.specs.declared.frame.Frame.TheVariants as frame
use Rattle.tree_specs.specs.declared.frame.CallFrame.TheVariants.{Announcing, Telling, Asking, Doing, Returning}
use Rattle.tree_specs.specs.declared.frame.Answer.{Answer}
use Rattle.tree_specs.specs.Tree.Pool.{enter, Pool}
use Rattle.tree_specs.specs.Rules.Items.{Item}
use Rattle.tree_specs.specs.declared.object.Obj.{Obj}
use Rattle.tree_specs.specs.declared.frame.Errand.{Errand}
use Rattle.tree_specs.specs.declared.frame.Errand.TheVariants.{Finish, Notify, Receive, Cancel}
use Rattle.tree_specs.specs.Calls.Plans.{Change, Plan, changed_by, planned_at}
use Rattle.tree_specs.specs.Calls.Plans.Plan.{Does, Frees, Unlinks, Empties, Asks, Turns, Works}
use Rattle.tree_specs.specs.Calls.Plans.Change.{Enter}
use Rattle.tree_specs.specs.Calls.Passed.{IsUsable}
use Rattle.tree_specs.specs.Machine.Table.{table, step, plan_step, turning_step}
use Rattle.tree_specs.specs.Invariants.Sound.{Sound}
use Rattle.tree_specs.specs.Tree.Inside.{total}
use Rattle.tree_specs.specs.Invariants.Measure.{turning_cost, weight, row_worth, cost}
use Rattle.tree_specs.proofs.Tree.Rows.{count-length}
use Rattle.tree_specs.proofs.Calls.Plans.{MayWork, May, may-planned-at}
use Rattle.tree_specs.proofs.Calls.Changes.{MayDo, added, heavier, follows}
use Rattle.tree_specs.specs.Invariants.Noted.{Noted}
use Rattle.tree_specs.proofs.Invariants.Keeps.{sound-kept}
use Rattle.tree_specs.proofs.Invariants.KeptNotes.{noted-kept}
use Rattle.tree_specs.proofs.Turns.FallingFrees.{free-lower}
use Rattle.tree_specs.proofs.Turns.Lowering.{turning-most, Lowers, Room, asking-lower, returning-lower}
use Rattle.tree_specs.proofs.Turns.FallingTurns.{turn-lower, outside-lower}
use Rattle.tree_specs.proofs.Turns.FallingRequests.{request-lower}
use Rattle.tree_specs.specs.Invariants.Queued.{Queued}
use Rattle.tree_specs.specs.Invariants.Consistent.{IsStacked, IsPaidFor}
use Rattle.tree_specs.proofs.Invariants.FreeQueues.{QueuedBy}
use Rattle.tree_specs.proofs.Invariants.KeptQueues.{queued-kept}
use Rattle.tree_specs.proofs.Turns.Seats.{Placed}
use Rattle.tree_specs.proofs.Turns.Load.{placed-kept}

turning-lower : (R : ℕ) (q : Ask) (x : Obj) (c : Call) (fs : List Frame) (p : Pool) (k : ℕ) → IsUsable p x → Room R (frame.Call (Doing q c)) p k → Lowers R (cost R (frame.Call (Doing q c)) fs p k) (turning_step q x p) fs k
turning-lower R Quiet x c fs p k may room =
    let f = follows p (Enter x) may in
    let u = mul-le-mul_left (row_worth R) f.weight in
    (omega (arith, f.number), omega (arith, u, turning-most (enter p x).turning))
turning-lower R q x c fs p k may room = (omega arith, omega arith)

-- the work of a request begins
work-lower : (R : ℕ) (q : Ask) (c : Call) (fs : List Frame) (p : Pool) (k : ℕ) → Room R (frame.Call (Doing q c)) p k → (change : Change) (errand : Errand) (x : Obj) → MayDo p change → added change ≡ 0 → heavier change ≡ 0
    → MayWork (changed_by change p) errand x → Lowers R (cost R (frame.Call (Doing q c)) fs p k) (plan_step q (Works change errand x) p) fs k
work-lower R q c fs p k room change errand x may none light work = each errand work
  where
    u : row_worth R * total (weight (changed_by change p).requests) (changed_by change p).rows ≤ row_worth R * total (weight p.requests) p.rows
    u = let f = follows p change may in mul-le-mul_left (row_worth R) (omega (arith, f.weight, light))

    n : length (changed_by change p).rows ≤ length p.rows
    n = let f = follows p change may in omega (arith, f.number, none)

    t : turning_cost (changed_by change p).turning ≤ 8
    t = turning-most (changed_by change p).turning

    each : (errand : Errand) → MayWork (changed_by change p) errand x → Lowers R (cost R (frame.Call (Doing q c)) fs p k) (plan_step q (Works change errand x) p) fs k
    each (Finish s) work = (omega (arith, n), omega (arith, u, t))
    each Receive work = (omega (arith, n), omega (arith, u, t))
    each Cancel work = (omega (arith, n), omega (arith, u, t))
    each Notify work = absurd work

-- the first step of a plan that may be carried out
planned-lower : (R : ℕ) (q : Ask) (c : Call) (fs : List Frame) (p : Pool) (k : ℕ) → Room R (frame.Call (Doing q c)) p k → (plan : Plan) → May p plan
    → Lowers R (cost R (frame.Call (Doing q c)) fs p k) (plan_step q plan p) fs k
planned-lower R q c fs p k room (Does change None r) may =
    let f = follows p change may.0 in let few = may.1 in let heavy = may.3 in let w : total (weight (changed_by change p).requests) (changed_by change p).rows ≤ total (weight p.requests) p.rows + 6 = omega (arith, f.weight, heavy) in let u = mul-le-mul_left (row_worth R) w in (omega (arith, f.number), omega (arith, u, turning-most (changed_by change p).turning))
planned-lower R q c fs p k room (Does change (Some notice) r) may =
    let f = follows p change may.0 in let few = may.1 in let heavy = may.3 in let w : total (weight (changed_by change p).requests) (changed_by change p).rows ≤ total (weight p.requests) p.rows + 6 = omega (arith, f.weight, heavy) in let u = mul-le-mul_left (row_worth R) w in (omega (arith, f.number), omega (arith, u, turning-most (changed_by change p).turning))
planned-lower R q c fs p k room (Frees x) may = (omega arith, omega arith)
planned-lower R q c fs p k room (Unlinks o x) may = (omega arith, omega arith)
planned-lower R q c fs p k room (Empties x) may = let m = count-length p.rows (Of x) in (omega arith, omega arith)
planned-lower R q c fs p k room (Asks outside) may = (omega arith, omega arith)
planned-lower R q c fs p k room (Turns x) may = turning-lower R q x c fs p k may room
planned-lower R q c fs p k room (Works change errand x) may = work-lower R q c fs p k room change errand x may.0 may.1 may.2 may.3

-- every step lowers the measure
pub lower : (R : ℕ) (f : Frame) (fs : List Frame) (p : Pool) (k : ℕ) → Sound f fs p → Noted f p → Room R f p k → Lowers R (cost R f fs p k) (step f p) fs k
lower R (frame.Call (Asking q)) fs p k s noted room = asking-lower R q fs p k room
lower R (frame.Call (Doing q c)) fs p k s noted room = planned-lower R q c fs p k room (planned_at q p c) (may-planned-at (frame.Call (Doing q c)) fs p s q c)
lower R (frame.Call (Returning v)) fs p k s noted room = returning-lower R v fs p k s room
lower R (frame.Free f) fs p k s noted room = free-lower R f fs p k s room
lower R (frame.Call (Announcing q notice r)) fs p k s noted room = (omega arith, omega arith)
lower R (frame.Call (Telling q r)) fs p k s noted room = (omega arith, omega arith)
lower R (frame.Turn f) fs p k s noted room = turn-lower R f fs p k s room
lower R (frame.Outside f) fs p k s noted room = outside-lower R f fs p k s room
lower R (frame.Request f) fs p k s noted room = request-lower R f fs p k s noted room
lower R _ fs p k s noted room = absurd s.rests

-- what the measure speaks of
pub record Well (R : ℕ) (f : Frame) (fs : List Frame) (p : Pool) (k : ℕ) : Type 0 where
  pub sound : Sound f fs p
  pub noted : Noted f p
  pub queued : Queued f fs p
  pub seated : IsStacked f fs
  pub light : IsPaidFor f fs p
  pub room : Room R f p k

Leads-both : (b R : ℕ) (m : Move Frame Answer Pool Item) (fs : List Frame) (k : ℕ)
    → Leads table (λ g gs q j. Sound g gs q) m fs k → Leads table (λ g gs q j. Noted g q) m fs k → QueuedBy m fs k → Placed m fs k → Lowers R b m fs k → Leads table (λ g gs q j. Well R g gs q j × (cost R g gs q j < b)) m fs k
Leads-both b R (Do.Done a p) [] k s n u t l = tt
Leads-both b R (Do.Done a p) (g ∷ gs) k s n u t l = (record { sound = s; noted = n; queued = u; seated = t.0; light = t.1; room = l.0 }, l.1)
Leads-both b R (Do.Go f p) fs k s n u t l = (record { sound = s; noted = n; queued = u; seated = t.0; light = t.1; room = l.0 }, l.1)
Leads-both b R (Do.Emit e f p) fs k s n u t l = (record { sound = s; noted = n; queued = u; seated = t.0; light = t.1; room = l.0 }, l.1)
Leads-both b R (Do.Wait q f p) fs zero s n u t l = tt
Leads-both b R (Do.Wait q f p) fs (suc k) s n u t l = λ i g e. (record { sound = s i g e; noted = n i g e; queued = u i g e; seated = (t i g e).0; light = (t i g e).1; room = (l i g e).0 }, (l i g e).1)
Leads-both b R (Do.Call g f p) fs k s n u t l = (record { sound = s; noted = n; queued = u; seated = t.0; light = t.1; room = l.0 }, l.1)

pub falls : (R : ℕ) → Falls table (Well R) (cost R)
falls R = record {
  keeps = λ f fs p k h. Leads-both (cost R f fs p k) R (step f p) fs k (sound-kept f fs p k h.sound h.queued.pool.waiting) (noted-kept f fs p k h.sound h.noted) (queued-kept f fs p k h.sound h.seated h.queued)
      (placed-kept f fs p k h.sound h.seated h.light) (lower R f fs p k h.sound h.noted h.room);
}
