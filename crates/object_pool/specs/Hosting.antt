-- What is left of the objects where the turn of a context is over.
use Rattle.std.specs.Prelude.{Option, Some, None, if◌then◌else◌}
use Rattle.tree_specs.specs.declared.object.Obj.{Obj}
use Rattle.tree_specs.specs.Tree.Pool.{Pool, exit}
use Rattle.tree_specs.specs.Calls.Refusals.{is_doomed}

-- a context is quiet again, where it is an object
abbrev pub left_by_turn : Option Obj → Pool → Pool
left_by_turn None p = p
left_by_turn (Some c) p = exit p c

-- one that was to be freed in its turn is freed now
abbrev pub goes_after_turn : Option Obj → Pool → Option Obj
goes_after_turn None p = None
goes_after_turn (Some c) p = if is_doomed p c then Some c else None
