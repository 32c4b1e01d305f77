use Rattle.step_machine.proofs.NotedLaws.{noted-run}
use Rattle.step_machine.proofs.theorems.notes_change_nothing.Goals as goal

pub returns : goal.returns
returns c s = λ notes t n w p is. noted-run notes t n w p is
