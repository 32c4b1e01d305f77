-- What is said of kinds and marks alone: references and what they refer to, and contexts.
use Rattle.std.specs.Prelude.{Bool, true, false, nat_lt, List, [], ◌∷◌, Option, Some, None, is_some, if◌then◌else◌}
use Rattle.tree_specs.specs.declared.object.Obj.{Obj}
use Rattle.tree_specs.specs.declared.kind.Kind.{Kind}
use Rattle.tree_specs.specs.declared.kind.Kind.TheVariants.{Reference, Context}
use Rattle.tree_specs.specs.declared.row.Row.{Row}
use Rattle.tree_specs.specs.declared.row.Mark.{Mark}
use Rattle.tree_specs.specs.declared.row.Mark.TheVariants.{Quiet, Busy}
use Rattle.tree_specs.specs.Words.Objects.{same}

-- what a reference refers to
abbrev pub target_of : Kind → Option Obj
target_of (Reference target) = Some target
target_of kind = None

abbrev pub is_reference : Kind → Bool
is_reference kind = is_some (target_of kind)

abbrev pub is_target : Option Obj → Obj → Bool
is_target None x = false
is_target (Some target) x = same target x

-- the one with the greater number
abbrev pub newer : Obj → Option Obj → Option Obj
newer x None = Some x
newer x (Some y) = if nat_lt x.0 y.0 then Some y else Some x

-- the newest row of those that pass
abbrev pub newest : (Row → Bool) → List Row → Option Obj
newest q [] = None
newest q (r ∷ rs) = if q r then newer r.serial (newest q rs) else newest q rs

-- the newest reference to an object
abbrev pub newest_ref : List Row → Obj → Option Obj
newest_ref rs x = newest (λ r. is_target (target_of r.kind) x) rs

-- ---- contexts

abbrev pub is_context : Kind → Bool
is_context Context = true
is_context k = false

-- nothing goes on with it, or its turn is under way
abbrev pub is_usable_mark : Mark → Bool
is_usable_mark Quiet = true
is_usable_mark Busy = true
is_usable_mark m = false
