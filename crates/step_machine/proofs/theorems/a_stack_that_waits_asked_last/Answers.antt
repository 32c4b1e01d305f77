use Rattle.step_machine.proofs.Asked.{waits-asks}
use Rattle.step_machine.proofs.theorems.a_stack_that_waits_asked_last.Goals as goal

pub returns : goal.returns
returns c s = λ t n f fs p is told e. waits-asks t n f fs p is told e
