use Rattle.std.proofs.Common.{sym, ◌∙◌}
use Rattle.schedule_replay.proofs.StoryLaws.{done-story, bad-story}
use Rattle.schedule_replay.proofs.replaying.replay.Goals as goal

pub returns-clause-story : goal.returns-clause-story
returns-clause-story g c = λ done. done-story _ _ _ _ _ c.run.ensures.replays (sym c.ending.ensures ∙ done)

pub returns-clause-story_before : goal.returns-clause-story_before
returns-clause-story_before g c = λ line reason bad later. bad-story _ _ _ _ _ line reason c.run.ensures.replays (sym c.ending.ensures ∙ bad) later
