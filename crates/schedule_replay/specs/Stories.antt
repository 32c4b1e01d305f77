-- The one story whose text a replay writes.
use Rattle.std.specs.Prelude.{◌≡◌, ℕ, List, Option, Some, None}
use Rattle.tree_specs.specs.declared.question.Input.{Input}
use Rattle.tree_specs.specs.declared.schedule.Mode.{Mode}
use Rattle.tree_specs.specs.declared.schedule.Mode.TheVariants.{Pool, Service}
use Rattle.tree_specs.specs.Rules.Sequence.{Scene}
use Rattle.tree_specs.specs.Rules.Story.{story, items}
use Rattle.tree_specs.specs.Texts.Lines.{lines}
use Rattle.tree_specs.specs.Texts.Text.{transcript}
use Rattle.tree_specs.specs.Promises.Orderly.{Orderly}
use Rattle.tree_specs.specs.Promises.Grounded.{Grounded}
use Rattle.service_rules.specs.Schedules.{inputs_of}
use Rattle.service_rules.specs.Service.{inputs_behind, service_story}
use Rattle.schedule_replay.specs.Runs.{WritesText, mode_in}

-- What was written is the text of a host's story, that over these inputs, and this story is orderly, and grounded over them.
pub record WritesHostStory (is : List Input) (held now : Option (List ℕ)) : Type 0 where
  pub scenes : List Scene
  pub inputs : scenes ≡ story 1 is
  pub text : WritesText (transcript (items scenes)) held now
  pub orderly : Orderly (items scenes)
  pub grounded : Grounded scenes is

-- What was written is the text of the story that the outside sees of a service, that over these answers of its own. It is orderly, and
-- the story of the host behind it is grounded over all that the host was given.
pub record WritesServiceStory (is : List Input) (held now : Option (List ℕ)) : Type 0 where
  pub text : WritesText (transcript (service_story is)) held now
  pub orderly : Orderly (service_story is)
  pub behind : List Input
  pub filled : inputs_behind is ≡ Some behind
  pub grounded : Grounded (story 1 behind) behind

-- by what runs the lines of a schedule
abbrev pub WritesStoryIn : Option Mode → List Input → Option (List ℕ) → Option (List ℕ) → Type 0
WritesStoryIn None is held now = ⊥
WritesStoryIn (Some Pool) is held now = WritesHostStory is held now
WritesStoryIn (Some Service) is held now = WritesServiceStory is held now

-- what was written is the text of one story, that over the schedule's inputs
abbrev pub WritesStory : List ℕ → Option (List ℕ) → Option (List ℕ) → Type 0
WritesStory bytes held now = WritesStoryIn (mode_in (lines bytes)) (inputs_of bytes) held now
