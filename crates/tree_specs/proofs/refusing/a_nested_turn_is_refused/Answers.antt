use Rattle.std.proofs.Common.{refl}
use Rattle.tree_specs.proofs.refusing.a_nested_turn_is_refused.Goals as goal

pub returns-clause-plan : goal.returns-clause-plan
returns-clause-plan c = λ m x p. refl

pub returns-clause-turn : goal.returns-clause-turn
returns-clause-turn c = λ m turn x p is. refl
