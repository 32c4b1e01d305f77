use Rattle.std.proofs.Common.{arith}
use Rattle.tree_specs.proofs.Rules.StoryLaws.{story-enough, story-more, not-the-short}
use Rattle.tree_specs.proofs.laws.turns_are_enough.Goals as goal

pub returns-clause-enough : goal.returns-clause-enough
returns-clause-enough c = λ first is h. not-the-short _ (story-enough first _ is h (omega arith))

pub returns-clause-same : goal.returns-clause-same
returns-clause-same c = λ first n is h big. story-more first n is h big
