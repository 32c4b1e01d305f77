use Rattle.step_machine.proofs.Uses.{uses}
use Rattle.step_machine.proofs.theorems.a_run_waits_for_each_of_its_inputs.Goals as goal

pub returns : goal.returns
returns c s = λ t n f p q is left a told e. uses t n f p is a q told left e
