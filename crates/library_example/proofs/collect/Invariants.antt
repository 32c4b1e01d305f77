use Rattle.std.proofs.Common.{[], length}
use Rattle.tree_specs.specs.Machine.View.{rest_of}
use Rattle.library_example.specs.Performed.{Tells}
use Rattle.library_example.proofs.collect.Given as goal

abbrev pub invariant-tells : goal.invariant-tells
invariant-tells l = Tells l.initial.host l.initial.events.items l.host l.events.items

-- the events up to the next question
abbrev pub decreases-tells : goal.decreases-tells
decreases-tells l = length (rest_of l.host [])
