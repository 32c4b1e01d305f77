-- What each place of a walk adds to a sum.
use Rattle.std.specs.Prelude.{ℕ, List, if◌then◌else◌, not}
use Rattle.tree_specs.specs.declared.object.Owner.{Owner}
use Rattle.tree_specs.specs.declared.object.Owner.TheVariants.{Of}
use Rattle.tree_specs.specs.declared.row.Row.{Row}
use Rattle.tree_specs.specs.Tree.Inside.{total}
use Rattle.tree_specs.specs.Tree.Pool.{is_inside}
use Rattle.tree_specs.specs.Tree.Sums.{charge}
use Rattle.tree_specs.specs.Tree.Targets.{is_reference}
use Rattle.tree_specs.specs.Tree.Walks.{own}
use Rattle.tree_links.specs.declared.sums.Weight.{Weight}
use Rattle.tree_links.specs.declared.sums.Weight.TheVariants.{Size, Number, Charge}
use Rattle.tree_links.specs.declared.walk.Place.{Place}

-- the weight of a row in a total of sizes
abbrev pub sized : Row → ℕ
sized r = r.size

-- the weight of a row in a count of objects
abbrev pub counted : Row → ℕ
counted r = if not (is_reference r.kind) then 1 else 0

-- the weight at a place
abbrev pub weight_of : (Row → ℕ) → List Row → Place → ℕ
weight_of g rs place = own g rs place.owner

abbrev pub weighed : Weight → Row → ℕ
weighed Size = sized
weighed Number = counted
weighed Charge = charge

-- the weight of all that is inside an owner
abbrev pub inside_weight : (Row → ℕ) → List Row → Owner → ℕ
inside_weight g rs from = total (λ r. if is_inside rs (Of r.serial) from then g r else 0) rs
