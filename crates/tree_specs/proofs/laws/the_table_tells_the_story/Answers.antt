use Rattle.std.proofs.Common.{sym}
use Rattle.tree_specs.proofs.Rules.StoryLaws.{story-table, story-items, story-strays}
use Rattle.tree_specs.proofs.laws.the_table_tells_the_story.Goals as goal

pub returns-clause-scenes : goal.returns-clause-scenes
returns-clause-scenes c = λ first is h. story-table first is h

pub returns-clause-items : goal.returns-clause-items
returns-clause-items c = λ first is h. sym (story-items first is h)

pub returns-clause-strays : goal.returns-clause-strays
returns-clause-strays c = λ first is h. story-strays first is h
