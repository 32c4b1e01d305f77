-- Schedules in either mode, by what runs their lines: a host, or the line service over one.
use Rattle.std.specs.Prelude.{ℕ, Bool, false, List, Option, Some, None}
use Rattle.std.specs.Option.{option_map}
use Rattle.step_machine.specs.Machine.{is_stray}
use Rattle.tree_specs.specs.declared.question.Input.{Input}
use Rattle.tree_specs.specs.declared.schedule.Mode.{Mode}
use Rattle.tree_specs.specs.declared.schedule.Mode.TheVariants.{Pool, Service}
use Rattle.tree_specs.specs.declared.schedule.Reason.{Reason}
use Rattle.tree_specs.specs.declared.schedule.Version.{Version}
use Rattle.tree_specs.specs.Rules.Story.{outcome}
use Rattle.tree_specs.specs.Texts.Lines.{lines}
use Rattle.tree_specs.specs.Texts.Runners.{Runner, Judged, judged_lines, transcript_lines}
use Rattle.tree_specs.specs.Texts.Schedule.{header_of, pool_runner, runner_by}
use Rattle.service_rules.specs.Service.{inputs_behind, service_story}

-- an answer of the outside doesn't fit where it doesn't fit the machine behind the service
abbrev pub strays_behind : Option (List Input) → Bool
strays_behind None = false
strays_behind (Some js) = is_stray (outcome 1 js)

abbrev pub service_runner : Version → Runner Input
service_runner v = runner_by v service_story (λ is. strays_behind (inputs_behind is))

abbrev pub runner_in : Version → Mode → Runner Input
runner_in v Pool = pool_runner v
runner_in v Service = service_runner v

-- what runs the lines after this header
abbrev pub runner_of : List ℕ → Option (Runner Input)
runner_of header = option_map (λ h. runner_in h.version h.mode) (header_of header)

abbrev pub judged : List ℕ → Judged Input
judged bytes = judged_lines runner_of (lines bytes)

-- the first refused line and the reason, or none
abbrev pub judge : List ℕ → Option (ℕ × Reason)
judge bytes = (judged bytes).refused

-- the inputs of the lines before it, or of all lines, the header aside
abbrev pub inputs_of : List ℕ → List Input
inputs_of bytes = (judged bytes).inputs

-- the transcript that a schedule gives: of the lines before the first refused one; no bytes where the first line is refused
abbrev pub transcript_of : List ℕ → Option (List ℕ)
transcript_of bytes = transcript_lines runner_of (lines bytes)
