use Rattle.library_example.proofs.Performing.{Performing}
use Rattle.library_example.proofs.perform.Given as goal

abbrev pub invariant-loop : goal.invariant-loop
invariant-loop l = Performing l.fn.host l.fn.call l.counter l.fn.events.items l.host l.events.items
