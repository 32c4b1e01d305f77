-- What is inside an owner, and sums over it.
use Rattle.std.specs.Prelude.{◌≡◌, ℕ, ◌+◌, false, ◌&&◌, not, List, [], ◌∷◌, if◌then◌else◌}
use Rattle.tree_specs.specs.declared.object.Owner.{Owner}
use Rattle.tree_specs.specs.declared.object.Owner.TheVariants.{Of}
use Rattle.tree_specs.specs.declared.row.Row.{Row}
use Rattle.tree_specs.specs.Tree.Targets.{is_reference}
use Rattle.tree_specs.specs.Tree.Pool.{is_inside}

-- a weight over all rows
abbrev pub total : (Row → ℕ) → List Row → ℕ
total g [] = 0
total g (r ∷ rs) = g r + total g rs

-- no row is a reference
abbrev pub NoReferences : List Row → Type 0
NoReferences [] = Unit {0}
NoReferences (r ∷ rs) = (is_reference r.kind ≡ false) × NoReferences rs

-- the sizes of all rows inside an owner
abbrev pub size_inside : List Row → Owner → ℕ
size_inside rs p = total (λ r. if is_inside rs (Of r.serial) p then r.size else 0) rs

-- how many rows are inside an owner, without references
abbrev pub count_inside : List Row → Owner → ℕ
count_inside rs p = total (λ r. if is_inside rs (Of r.serial) p && not (is_reference r.kind) then 1 else 0) rs
