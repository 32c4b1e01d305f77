use Rattle.step_machine.proofs.MoreTurns.{walk-as-rest}
use Rattle.step_machine.proofs.theorems.turns_and_steps_agree.Goals as goal

pub returns : goal.returns
returns c s = λ t n f fs p is h. walk-as-rest t n f fs p is h
