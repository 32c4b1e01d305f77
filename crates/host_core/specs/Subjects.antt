-- The object that a call is about.
use Rattle.std.specs.Prelude.{◌≡◌, Option, Some, None}
use Rattle.std.specs.Borrow.{Bor}
use Rattle.tree_specs.specs.declared.object.Obj.{Obj}
use Rattle.tree_specs.specs.declared.row.Row.{Row}
use Rattle.tree_specs.specs.Tree.Pool.{Pool, row_of}

-- this is its row
abbrev pub IsKnown : Option (Obj × Bor Row) → Pool → Type 0
IsKnown None p = Unit {0}
IsKnown (Some known) p = row_of p.rows known.0 ≡ Some known.1.now
