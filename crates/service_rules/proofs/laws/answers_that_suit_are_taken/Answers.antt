use Rattle.service_rules.proofs.AnswersTaken.{answers-taken}
use Rattle.service_rules.proofs.laws.answers_that_suit_are_taken.Goals as goal

pub returns : goal.returns
returns c = λ is suit new. answers-taken is suit new
