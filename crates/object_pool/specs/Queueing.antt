-- What is left of the objects where a queue starts, and where an entry is triggered.
use Rattle.std.specs.Prelude.{true, Option, Some, None, if◌then◌else◌}
use Rattle.tree_specs.specs.declared.object.Obj.{Obj}
use Rattle.tree_specs.specs.Tree.Pool.{Pool, run_queue, look_at, trigger}
use Rattle.tree_specs.specs.Events.Queues.{Head, runs}

-- a queue that runs already stays as it is
abbrev pub starting : Obj → Pool → Pool
starting q p = if runs p.queues q then p else look_at (run_queue p q true) q

-- the trigger of the first entry begins, where there is one that waits for it
abbrev pub triggering : Option Head → Pool → Pool
triggering None p = p
triggering (Some h) p = trigger p h
