use Rattle.tree_specs.proofs.Rules.IdleTurns.{idle-cause, idle-replies}
use Rattle.tree_specs.proofs.laws.a_turn_replies_0_where_nothing_came.Goals as goal

pub returns-clause-cause : goal.returns-clause-cause
returns-clause-cause c = λ n p q is left told stays e. idle-cause n p q is left told stays e

pub returns-clause-idle : goal.returns-clause-idle
returns-clause-idle c = λ p used left n stays came enough. idle-replies p used left n stays came enough
