-- Schedules that a host runs: their first line, the first line that is refused, the inputs before it, and the transcript.
use Rattle.std.specs.Prelude.{ℕ, Bool, if◌then◌else◌, List, [], ◌∷◌, Option, Some, None, codes}
use Rattle.std.specs.Str.{bytes_eq}
use Rattle.step_machine.specs.Machine.{is_stray}
use Rattle.tree_specs.specs.declared.question.Ask.{Ask}
use Rattle.tree_specs.specs.declared.question.Input.{Input}
use Rattle.tree_specs.specs.declared.schedule.Header.{Header}
use Rattle.tree_specs.specs.declared.schedule.Mode.{Mode}
use Rattle.tree_specs.specs.declared.schedule.Mode.TheVariants.{Pool, Service}
use Rattle.tree_specs.specs.declared.schedule.Version.{Version}
use Rattle.tree_specs.specs.declared.schedule.Version.TheVariants.{One, Two}
use Rattle.tree_specs.specs.declared.schedule.Reason.{Reason}
use Rattle.tree_specs.specs.declared.schedule.Reason.TheVariants.{NotAsked}
use Rattle.tree_specs.specs.Calls.Given.{Given, given_to}
use Rattle.tree_specs.specs.Rules.Items.{Item}
use Rattle.tree_specs.specs.Rules.Items.Item.{Told, Asked}
use Rattle.tree_specs.specs.Rules.Story.{outcome, story, items}
use Rattle.tree_specs.specs.Texts.Grammar.{input_of}
use Rattle.tree_specs.specs.Texts.Lines.{lines}
use Rattle.tree_specs.specs.Texts.Runners.{Course, Runner, Judged, judged_lines, transcript_lines}
use Rattle.tree_specs.specs.Texts.Text.{body_text}

-- ---- the first line

-- lines in this version, and what runs them
abbrev pub says : Version → Mode → Header
says v mode = record { version = v; mode = mode }

-- the first line of a schedule, without its LF
abbrev pub header_text : Version → Mode → List ℕ
header_text One Pool = codes "tv schedule 1 pool"
header_text One Service = codes "tv schedule 1 service"
header_text Two Pool = codes "tv schedule 2 pool"
header_text Two Service = codes "tv schedule 2 service"

-- what the first line of a schedule says
unfoldable pub header_of : List ℕ → Option Header
header_of text =
    if bytes_eq text (header_text One Pool) then Some (says One Pool) else
    if bytes_eq text (header_text One Service) then Some (says One Service) else
    if bytes_eq text (header_text Two Pool) then Some (says Two Pool) else
    if bytes_eq text (header_text Two Service) then Some (says Two Service) else None

-- ---- a host, or what stands before one

-- an input that is no answer to the open question is refused
abbrev pub unless_given : Option Given → Option Reason
unless_given None = Some NotAsked
unless_given (Some g) = None

-- why an input doesn't fit the open question
abbrev pub misfit : Option Ask → Input → Option Reason
misfit None i = Some NotAsked
misfit (Some q) i = unless_given (given_to q i)

-- the question that is the last item
unfoldable pub open_question : List Item → Option Ask
open_question [] = None
open_question (Told e ∷ []) = None
open_question (Asked q ∷ []) = Some q
open_question (i ∷ j ∷ rest) = open_question (j ∷ rest)

abbrev pub course_by : (List Input → List Item) → (List Input → Bool) → Course Input
course_by tells strays = record { open_after = λ is. open_question (tells is); strays = strays }

-- what reads lines in this version, and tells these items over inputs, the last of which may not fit
abbrev pub runner_by : Version → (List Input → List Item) → (List Input → Bool) → Runner Input
runner_by v tells strays = record { reads = input_of v; misfit = misfit; course = course_by tells strays; told = λ is. body_text (tells is) }

-- a host whose first object gets the number 1
abbrev pub pool_runner : Version → Runner Input
pool_runner v = runner_by v (λ is. items (story 1 is)) (λ is. is_stray (outcome 1 is))

-- ---- schedules of hosts alone

abbrev pub host_in : Version → Mode → Option (Runner Input)
host_in v Pool = Some (pool_runner v)
host_in v Service = None

abbrev pub hosts_alone : Option Header → Option (Runner Input)
hosts_alone (Some h) = host_in h.version h.mode
hosts_alone None = None

abbrev pub pools : List ℕ → Option (Runner Input)
pools header = hosts_alone (header_of header)

abbrev pub judged : List ℕ → Judged Input
judged bytes = judged_lines pools (lines bytes)

-- the first refused line and the reason, or none
abbrev pub judge : List ℕ → Option (ℕ × Reason)
judge bytes = (judged bytes).refused

-- the inputs of the lines before it, or of all lines, the header aside
abbrev pub inputs_of : List ℕ → List Input
inputs_of bytes = (judged bytes).inputs

-- The transcript that a schedule gives: of the lines before the first refused one; none, which is no bytes, where the first line is refused.
abbrev pub transcript_of : List ℕ → Option (List ℕ)
transcript_of bytes = transcript_lines pools (lines bytes)
