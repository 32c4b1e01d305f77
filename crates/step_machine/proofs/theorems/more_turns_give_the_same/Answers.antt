use Rattle.step_machine.proofs.MoreTurns.{more-run, more-rest, more-walk}
use Rattle.step_machine.proofs.theorems.more_turns_give_the_same.Goals as goal

pub returns-clause-run : goal.returns-clause-run
returns-clause-run c s = λ t n more f p is h. more-run t n more f p is h

pub returns-clause-stack : goal.returns-clause-stack
returns-clause-stack c s = λ t n more f fs p is h. more-rest t n more f fs p is h

pub returns-clause-steps : goal.returns-clause-steps
returns-clause-steps c s = λ t n more f fs p is h. more-walk t n more f fs p is h
