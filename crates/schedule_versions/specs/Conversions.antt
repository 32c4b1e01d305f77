-- A schedule in the second version: its first line says so, and each line after it spells what the line in its place spells. The lines
-- are read and not run.
use Rattle.std.specs.Prelude.{ℕ, false, if◌then◌else◌, List, [], ◌∷◌, ◌++◌, flat_map, Option, Some, None}
use Rattle.std.specs.Option.{option_map}
use Rattle.tree_specs.specs.declared.question.Input.{Input}
use Rattle.tree_specs.specs.declared.schedule.Header.{Header}
use Rattle.tree_specs.specs.declared.schedule.Reason.{Reason}
use Rattle.tree_specs.specs.declared.schedule.Version.{Version}
use Rattle.tree_specs.specs.declared.schedule.Version.TheVariants.{Two}
use Rattle.tree_specs.specs.Texts.Grammar.{input_of}
use Rattle.tree_specs.specs.Texts.Lines.{Line, lines}
use Rattle.tree_specs.specs.Texts.Runners.{Runner, judged_lines}
use Rattle.tree_specs.specs.Texts.Schedule.{header_of, header_text}
use Rattle.tree_specs.specs.Texts.Text.{input_text, newline}

-- inputs as their lines
abbrev pub lines_text : List Input → List ℕ
lines_text is = flat_map (input_text Two) is

-- what reads lines and runs nothing: whatever they spell fits, and is told again
abbrev pub shaper : Version → Runner Input
shaper v = record {
  reads = input_of v;
  misfit = λ q i. None;
  course = record { open_after = λ is. None; strays = λ is. false };
  told = λ is. Some (lines_text is);
}

-- what reads the lines after this header
abbrev pub shapers : List ℕ → Option (Runner Input)
shapers header = option_map (λ h. shaper h.version) (header_of header)

-- the first line that is over a limit or isn't in the grammar, and which of the two, or none
abbrev pub shape : List ℕ → Option (ℕ × Reason)
shape bytes = (judged_lines shapers (lines bytes)).refused

-- what the first line says, where it is a whole one
abbrev pub header_at : Line → Option Header
header_at first = if first.ended then header_of first.text else None

abbrev pub headed : Option Header → List Input → List ℕ
headed None is = []
headed (Some h) is = header_text Two h.mode ++ newline ++ lines_text is

unfoldable pub converted_lines : List Line → List ℕ
converted_lines [] = []
converted_lines (first ∷ rest) = headed (header_at first) (judged_lines shapers (first ∷ rest)).inputs

-- the schedule in the second version, up to the first line that is over a limit or isn't in the grammar; no bytes where that is line 1
abbrev pub converted : List ℕ → List ℕ
converted bytes = converted_lines (lines bytes)
