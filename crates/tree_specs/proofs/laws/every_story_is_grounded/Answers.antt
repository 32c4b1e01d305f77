use Rattle.tree_specs.proofs.Promises.StoryOrder.{story-grounded}
use Rattle.tree_specs.proofs.laws.every_story_is_grounded.Goals as goal

pub returns : goal.returns
returns c = λ first is h. story-grounded first is h
