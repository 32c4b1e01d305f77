use Rattle.tree_specs.proofs.Rules.StoryLaws.{story-asks}
use Rattle.tree_specs.proofs.laws.every_story_ends_with_its_question.Goals as goal

pub returns : goal.returns
returns c = λ first is h. story-asks first is h
