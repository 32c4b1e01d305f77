-- The measure against the number of turns.
use Rattle.std.proofs.Common.{ℕ, ◌+◌, ◌*◌, ◌≤◌, ◌<◌, List, [], ◌∷◌, length, arith}
use Rattle.tree_specs.specs.declared.object.Owner.TheVariants.{Of}
use Rattle.tree_specs.specs.declared.row.Row.{Row}
use Rattle.tree_specs.specs.declared.row.Mark.{Mark}
use Rattle.tree_specs.specs.declared.row.Mark.TheVariants.{Quiet}
use Rattle.tree_specs.specs.declared.frame.Frame.{Frame}
use Rattle.tree_specs.specs.declared.frame.Frame.TheVariants as frame
use Rattle.tree_specs.specs.declared.frame.CallFrame.TheVariants.{Asking}
use Rattle.tree_specs.specs.declared.frame.TurnFrame.{TurnFrame}
use Rattle.tree_specs.specs.declared.frame.TurnFrame.TheVariants.{Taking}
use Rattle.tree_specs.specs.declared.frame.OutsideFrame.{OutsideFrame}
use Rattle.tree_specs.specs.declared.frame.OutsideFrame.TheVariants.{Reaching}
use Rattle.tree_specs.specs.declared.frame.FreeFrame.TheVariants.{AfterChild}
use Rattle.tree_specs.specs.declared.free_step.FreeReply.TheVariants.{Running}
use Rattle.tree_specs.specs.declared.free_step.FreeReply.{FreeReply}
use Rattle.tree_specs.specs.declared.frame.FreeFrame.{FreeFrame}
use Rattle.tree_specs.specs.declared.frame.CallFrame.{CallFrame}
use Rattle.std.proofs.Math.Nat.{mul-le-mul_left}
use Rattle.tree_specs.specs.Machine.Profiles.{Looks, AtNone, AtKids, AtBelow, Cost, Profile, tried_cost, profile}
use Rattle.tree_specs.specs.Rules.Story.{turns}
use Rattle.tree_specs.specs.Machine.View.{View}
use Rattle.tree_specs.specs.Invariants.Consistent.{sizes, deposit, IsPaidFor}
use Rattle.tree_specs.specs.declared.frame.RequestFrame.{RequestFrame}
use Rattle.tree_specs.specs.declared.frame.RequestFrame.TheVariants as request
use Rattle.tree_specs.specs.Events.Requests.{Notes}
use Rattle.tree_specs.proofs.Events.NoteLaws.{note_weight-most}
use Rattle.tree_specs.specs.Tree.Inside.{total}
use Rattle.tree_specs.specs.Invariants.Measure.{turning_cost, mark_weight, weight, below_cost, look_cost, top_cost, cost, pending}
use Rattle.tree_specs.proofs.Tree.Rows.{count-length}
use Rattle.tree_specs.proofs.Turns.FallingFrees.{kids-most}
use Rattle.tree_specs.proofs.Turns.LoadFrees.{mark_deposit-most}
use Rattle.tree_specs.proofs.Turns.Lowering.{turning-most}

-- ---- the measure against the number of turns

abbrev look_rounds : Looks → ℕ
look_rounds AtNone = 0
look_rounds _ = 4

-- the numbers of a work are in bounds
record Fits (f : Profile) : Type 0 where
  waiting : f.waiting_cost ≤ 3 * f.size
  rounds : f.cost.rounds + look_rounds f.cost.looks ≤ 24
  steps : f.cost.steps ≤ 155
  adds : f.adds ≤ 2

tried-most : (a : FreeReply) → tried_cost a ≤ 8
tried-most Running = omega arith
tried-most _ = omega arith

free-fits : (f : FreeFrame) → Fits (profile (frame.Free f))
free-fits (AfterChild x c noted purpose a) = record { waiting = omega arith; rounds = omega arith; steps = omega (arith, tried-most a); adds = omega arith }
free-fits _ = record { waiting = omega arith; rounds = omega arith; steps = omega arith; adds = omega arith }

call-fits : (f : CallFrame) → Fits (profile (frame.Call f))
call-fits (Asking q) = record { waiting = omega arith; rounds = omega arith; steps = omega arith; adds = omega arith }
call-fits _ = record { waiting = omega arith; rounds = omega arith; steps = omega arith; adds = omega arith }

turn-fits : (f : TurnFrame) → Fits (profile (frame.Turn f))
turn-fits Taking = record { waiting = omega arith; rounds = omega arith; steps = omega arith; adds = omega arith }
turn-fits _ = record { waiting = omega arith; rounds = omega arith; steps = omega arith; adds = omega arith }

outside-fits : (f : OutsideFrame) → Fits (profile (frame.Outside f))
outside-fits (Reaching q) = record { waiting = omega arith; rounds = omega arith; steps = omega arith; adds = omega arith }
outside-fits _ = record { waiting = omega arith; rounds = omega arith; steps = omega arith; adds = omega arith }

request-fits : (f : RequestFrame) → Fits (profile (frame.Request f))
request-fits (request.Over r) = record { waiting = omega arith; rounds = omega arith; steps = omega arith; adds = omega arith }
request-fits _ = record { waiting = omega arith; rounds = omega arith; steps = omega arith; adds = omega arith }

fits : (f : Frame) → Fits (profile f)
fits (frame.Free f) = free-fits f
fits (frame.Call f) = call-fits f
fits (frame.Turn f) = turn-fits f
fits (frame.Outside f) = outside-fits f
fits (frame.Request f) = request-fits f

below-light : (fs : List Frame) → below_cost fs ≤ 3 * sizes fs
below-light [] = omega arith
below-light (f ∷ fs) = let ih = below-light fs in omega (arith, ih, (fits f).waiting)

deposit-most : (rs : List Row) → total deposit rs ≤ 3 * length rs
deposit-most [] = omega arith
deposit-most (r ∷ rs) = let ih = deposit-most rs in omega (arith, ih, mark_deposit-most r.kind r.mark)

weight-most : (ns : Notes) (rs : List Row) → total (weight ns) rs ≤ 3 * length rs
weight-most ns [] = omega arith
weight-most ns (r ∷ rs) = let ih = weight-most ns rs in omega (arith, ih, most r.mark, note_weight-most ns r)
  where
    most : (m : Mark) → mark_weight m ≤ 2
    most Quiet = omega arith
    most _ = omega arith

look-most : (R : ℕ) (l : Looks) (fs : List Frame) (rows : List Row) → length rows ≤ R → look_cost l fs rows ≤ look_rounds l * R + 4
look-most R AtNone fs rows h = omega arith
look-most R (AtKids x) fs rows h = let n = count-length rows (Of x) in omega arith
look-most R AtBelow fs rows h = let m = kids-most R rows fs h in omega arith

top-most : (R : ℕ) (f : Frame) (fs : List Frame) (rows : List Row) → length rows ≤ R → top_cost R f fs rows ≤ 24 * R + 159
top-most R f fs rows h =
    let c : Cost = (profile f).cost in
    let l : look_cost c.looks fs rows ≤ look_rounds c.looks * R + 4 = look-most R c.looks fs rows h in
    let m : R * (c.rounds + look_rounds c.looks) ≤ R * 24 = mul-le-mul_left R (fits f).rounds in
    let t : c.steps ≤ 155 = (fits f).steps in
    omega arith

numbers : (r k w z d t e : ℕ) → t ≤ 8 → w ≤ 3 * r → z ≤ 3 * r + 2 → d ≤ 3 * z → e ≤ 24 * (r + 2 * k + 2) + 159
    → (4 * (r + 2 * k + 2) + 24) * w + (24 * (r + 2 * k + 2) + 156) * k + d + t + e < 64 * (k + 1) * ((r + 2 * k + 2) * (r + 2 * k + 2))
numbers r k w z d t e ht hw hz hd he =
    let a : (4 * (r + 2 * k + 2) + 24) * w ≤ (4 * (r + 2 * k + 2) + 24) * (3 * r) = mul-le-mul_left (4 * (r + 2 * k + 2) + 24) hw in
    omega arith

-- the measure is below the stated number of turns at every moment
pub cost-turns : (v : View) (k : ℕ) → IsPaidFor v.innermost v.below v.pool → cost (length v.pool.rows + 2 * k + 2) v.innermost v.below v.pool k < turns (length v.pool.rows) k
cost-turns v k l =
    numbers (length v.pool.rows) k (total (weight v.pool.requests) v.pool.rows) (sizes v.below) (below_cost v.below) (turning_cost v.pool.turning) (top_cost (length v.pool.rows + 2 * k + 2) v.innermost v.below v.pool.rows)
    (turning-most v.pool.turning) (weight-most v.pool.requests v.pool.rows) (let m = deposit-most v.pool.rows in omega (arith, l, m))
    (below-light v.below) (top-most (length v.pool.rows + 2 * k + 2) v.innermost v.below v.pool.rows (omega arith))

pub pending-most : (f : Frame) → pending f ≤ 2
pending-most f = (fits f).adds
