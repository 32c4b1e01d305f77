-- Where a child goes that was not freed with its owner.
use Rattle.std.specs.Prelude.{Bool, true, ◌&&◌, not, List, Option, Some, None, unwrap_or, if◌then◌else◌}
use Rattle.tree_specs.specs.declared.object.Obj.{Obj}
use Rattle.tree_specs.specs.declared.object.Owner.{Owner}
use Rattle.tree_specs.specs.declared.object.Owner.TheVariants.{Root, Of}
use Rattle.tree_specs.specs.declared.row.Row.{Row}
use Rattle.tree_specs.specs.declared.row.Mark.{Mark}
use Rattle.tree_specs.specs.declared.row.Mark.TheVariants.{Quiet, Asked, Busy, Doomed, Dying}
use Rattle.tree_specs.specs.Tree.Pool.{row_of, is_object, is_inside}

-- the owner that a dying row has left, or the owner of any other row
abbrev pub former_by : Mark → Option Owner → Owner
former_by (Dying former) owner = former
former_by Quiet owner = unwrap_or owner Root
former_by Asked owner = unwrap_or owner Root
former_by Busy owner = unwrap_or owner Root
former_by Doomed owner = unwrap_or owner Root

abbrev pub former_in : Option Row → Owner
former_in None = Root
former_in (Some r) = former_by r.mark r.owner

abbrev pub former_of : List Row → Obj → Owner
former_of rs x = former_in (row_of rs x)

-- an owner that may take c: the root, or an object that is not inside c
abbrev pub may_take : List Row → Obj → Owner → Bool
may_take rs c Root = true
may_take rs c (Of y) = is_object rs y && not (is_inside rs (Of y) (Of c))

-- the owner that was noted, where it is an object that may take c
abbrev pub noted_taker : List Row → Obj → Option Owner → Option Owner
noted_taker rs c None = None
noted_taker rs c (Some Root) = None
noted_taker rs c (Some (Of y)) = if may_take rs c (Of y) then Some (Of y) else None

-- the owner that x has, or had, where it may take c; else the root
abbrev pub former_taker : List Row → Obj → Obj → Owner
former_taker rs x c = if may_take rs c (former_of rs x) then former_of rs x else Root

-- the heir of a child c of x, for which an owner may have been noted
abbrev pub heir : List Row → Obj → Obj → Option Owner → Owner
heir rs x c noted = unwrap_or (noted_taker rs c noted) (former_taker rs x c)
