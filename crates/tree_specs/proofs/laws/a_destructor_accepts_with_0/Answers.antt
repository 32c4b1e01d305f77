use Rattle.std.proofs.Common.{length, None}
use Rattle.tree_specs.specs.declared.question.Ask.TheVariants.{Quiet}
use Rattle.tree_specs.specs.Tree.Pool.{empty}
use Rattle.tree_specs.specs.Rules.Story.{turns}
use Rattle.tree_specs.proofs.Rules.TextLaws.{all-lawful, accepts-items}
use Rattle.tree_specs.proofs.laws.a_destructor_accepts_with_0.Goals as goal

pub returns-clause-in_frees : goal.returns-clause-in_frees
returns-clause-in_frees c = λ n x p is. accepts-items ((all-lawful n).frees.free x p None) is

pub returns-clause-in_stories : goal.returns-clause-in_stories
returns-clause-in_stories c = λ first is. accepts-items ((all-lawful (turns 0 (length is))).calls.asked Quiet (empty first) None) is
