use Rattle.tree_specs.proofs.Events.AwaitingStories.{story-awaits, moment-awaits}
use Rattle.tree_specs.proofs.laws.what_waits_is_a_live_event.Goals as goal

pub returns-clause-in_stories : goal.returns-clause-in_stories
returns-clause-in_stories c = λ first is h. story-awaits first is h

pub returns-clause-after_each_step : goal.returns-clause-after_each_step
returns-clause-after_each_step c = λ v h a. moment-awaits v h a
