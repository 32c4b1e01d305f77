use Rattle.tree_specs.proofs.Promises.StoryOrder.{story-orderly}
use Rattle.tree_specs.proofs.laws.every_story_is_orderly.Goals as goal

pub returns : goal.returns
returns c = λ first is h. story-orderly first is h
