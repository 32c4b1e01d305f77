use Rattle.machine_driver.proofs.More.{more-some}
use Rattle.machine_driver.proofs.theorems.more_answers_give_the_same.Goals as goal

pub returns : goal.returns
returns c s = λ driver n more d s js us e. more-some driver n more d s js us e
