use Rattle.tree_specs.proofs.Tree.Kids.{first_kid-kids, next_kid-kids}
use Rattle.tree_specs.proofs.laws.children_follow_one_another.Goals as goal

pub returns-clause-first : goal.returns-clause-first
returns-clause-first c = λ rows p. first_kid-kids rows p

pub returns-clause-next : goal.returns-clause-next
returns-clause-next c = λ rows p x before after d e. next_kid-kids rows p x before after d e
