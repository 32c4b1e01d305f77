-- What the objects inside an owner count against its limit.
use Rattle.std.specs.Prelude.{ℕ, ◌+◌, if◌then◌else◌, List, Option, Some, None}
use Rattle.tree_specs.specs.declared.bounds.TheConstants.{OVERHEAD}
use Rattle.tree_specs.specs.declared.object.Obj.{Obj}
use Rattle.tree_specs.specs.declared.object.Owner.{Owner}
use Rattle.tree_specs.specs.declared.object.Owner.TheVariants.{Of}
use Rattle.tree_specs.specs.declared.row.Row.{Row}
use Rattle.tree_specs.specs.Tree.Targets.{is_reference}
use Rattle.tree_specs.specs.Tree.Pool.{row_of, is_inside}
use Rattle.tree_specs.specs.Tree.Inside.{total}

-- beside its size an object counts so many bytes
abbrev pub overhead : ℕ
overhead = OVERHEAD

-- what an object counts; a reference counts nothing
abbrev pub charge : Row → ℕ
charge r = if is_reference r.kind then 0 else r.size + overhead

-- what all objects inside an owner count
abbrev pub sum_inside : List Row → Owner → ℕ
sum_inside rs p = total (λ r. if is_inside rs (Of r.serial) p then charge r else 0) rs

abbrev pub limit_in : Option Row → ℕ
limit_in None = 0
limit_in (Some r) = r.limit

-- the limit of an object, where 0 is none
abbrev pub limit_at : List Row → Obj → ℕ
limit_at rs x = limit_in (row_of rs x)

abbrev pub size_in : Option Row → ℕ
size_in None = 0
size_in (Some r) = r.size

abbrev pub size_at : List Row → Obj → ℕ
size_at rs x = size_in (row_of rs x)
