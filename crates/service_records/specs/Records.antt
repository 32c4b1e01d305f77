-- The record of a service: the header of a schedule, and the line of each answer that the service was given.
use Rattle.std.specs.Prelude.{◌≡◌, ℕ, ◌&&◌, Bool, true, nat_le, List, [], ◌∷◌, ◌++◌, length, flat_map, None, ⊤}
use Rattle.tree_specs.specs.declared.question.Input.{Input}
use Rattle.tree_specs.specs.declared.question.Input.TheVariants as input
use Rattle.tree_specs.specs.declared.schedule.Mode.TheVariants.{Service}
use Rattle.tree_specs.specs.declared.schedule.Version.TheVariants.{Two}
use Rattle.tree_specs.specs.Texts.Runners.{Course, once_given, unless_stray}
use Rattle.tree_specs.specs.Texts.Schedule.{misfit, header_text}
use Rattle.tree_specs.specs.Texts.Text.{input_text, newline}
use Rattle.tree_specs.specs.Words.Ranges.{is_sound}
use Rattle.schedule_text.specs.Heard.{input_has_bytes}
use Rattle.service_rules.specs.Schedules.{judge, inputs_of}

-- it is written in the second version
abbrev pub record_header : List ℕ
record_header = header_text Two Service ++ newline

abbrev pub record_text : List Input → List ℕ
record_text is = record_header ++ flat_map (input_text Two) is

-- each of these answers fits what is asked when it comes
abbrev pub AllFit : Course Input → List Input → Type 0
AllFit c [] = ⊤
AllFit c (i ∷ is) = (unless_stray (misfit (c.open_after []) i) (c.strays (i ∷ [])) ≡ None) × AllFit (once_given i c) is

-- so many descriptors at most are named as ready in one line
abbrev pub ready_limit : ℕ
ready_limit = 20164

-- the line of an answer is none too long for a schedule
abbrev pub is_short : Input → Bool
is_short (input.Ready wants) = nat_le (length wants) ready_limit
is_short i = true

-- its numbers have their ranges, and its bytes are bytes
abbrev pub has_ranges : Input → Bool
has_ranges i = is_sound i && input_has_bytes i

-- these bytes are a schedule of which nothing is refused, and these are its inputs
pub record IsScheduleOf (bytes : List ℕ) (is : List Input) : Type 0 where
  pub accepted : judge bytes ≡ None
  pub inputs : inputs_of bytes ≡ is
