-- A measure that each step lowers, so that the stated number of turns is enough.
use Rattle.std.specs.Prelude.{ℕ, ◌+◌, ◌*◌, List, [], ◌∷◌, Option, Some, None, is_some, if◌then◌else◌}
use Rattle.tree_specs.specs.declared.object.Owner.{Owner}
use Rattle.tree_specs.specs.declared.object.Owner.TheVariants.{Of}
use Rattle.tree_specs.specs.declared.object.Obj.{Obj}
use Rattle.tree_specs.specs.declared.row.Row.{Row}
use Rattle.tree_specs.specs.declared.row.Mark.{Mark}
use Rattle.tree_specs.specs.declared.frame.Frame.{Frame}
use Rattle.tree_specs.specs.declared.frame.Frame.TheVariants as frame
use Rattle.tree_specs.specs.declared.frame.FreeFrame.TheVariants.{FreeingChild}
use Rattle.tree_specs.specs.declared.frame.RequestFrame.TheVariants.{Dropping}
use Rattle.tree_specs.specs.Tree.Pool.{Pool, is_below}
use Rattle.tree_specs.specs.Events.Requests.{Notes, note_of, is_unreceived}
use Rattle.tree_specs.specs.Tree.Inside.{total}
use Rattle.tree_specs.specs.Machine.Profiles.{former_in, Looks, AtNone, AtKids, AtBelow, profile}

-- how many children
abbrev pub count : List Row → Owner → ℕ
count rs p = total (λ r. if is_below r.owner p then 1 else 0) rs

-- A row pays once when it leaves its owner, and once when it is removed; that of a request pays once more when it is
-- received.
abbrev pub mark_weight : Mark → ℕ
mark_weight m = if is_some (former_in m) then 1 else 2

abbrev pub note_weight : Notes → Row → ℕ
note_weight notes r = if is_unreceived (note_of notes r.serial) then 1 else 0

abbrev pub weight : Notes → Row → ℕ
weight notes r = mark_weight r.mark + note_weight notes r

-- Below, R bounds the rows that there can be.

-- what the payment of a row is worth
abbrev pub row_worth : ℕ → ℕ
row_worth R = 4 * R + 24

-- what an input is worth: two rows and a note that its call may add, and the call's own steps
abbrev pub input_worth : ℕ → ℕ
input_worth R = 24 * R + 156

-- what a waiting work still costs
abbrev pub waiting_cost : Frame → ℕ
waiting_cost f = (profile f).waiting_cost

abbrev pub below_cost : List Frame → ℕ
below_cost [] = 0
below_cost (f ∷ fs) = waiting_cost f + below_cost fs

-- what the work below still wants: a loop for the children that it still has, and a queue nothing, since an entry leaves at once
abbrev pub below_wants : List Row → List Frame → ℕ
below_wants rows [] = 4
below_wants rows (frame.Free (FreeingChild x c noted purpose) ∷ fs) = 4 + 4 * count rows (Of x)
below_wants rows (frame.Request (Dropping q e) ∷ fs) = 0
below_wants rows (_ ∷ fs) = 4

abbrev pub look_cost : Looks → List Frame → List Row → ℕ
look_cost AtNone fs rows = 0
look_cost (AtKids x) fs rows = 4 * count rows (Of x)
look_cost AtBelow fs rows = below_wants rows fs

-- what the innermost work costs until the next question
abbrev pub top_cost : ℕ → Frame → List Frame → List Row → ℕ
top_cost R f fs rows = (profile f).cost.rounds * R + (profile f).cost.steps + look_cost (profile f).cost.looks fs rows

-- a context whose turn is under way may have to be freed after it
abbrev pub turning_cost : Option Obj → ℕ
turning_cost None = 0
turning_cost (Some c) = 8

-- the measure, for k inputs left
abbrev pub cost : ℕ → Frame → List Frame → Pool → ℕ → ℕ
cost R f fs p k = row_worth R * total (weight p.requests) p.rows + input_worth R * k + below_cost fs + turning_cost p.turning + top_cost R f fs p.rows

-- the rows that a work may add, and those that it may add after the next input
abbrev pub pending : Frame → ℕ
pending f = (profile f).adds
