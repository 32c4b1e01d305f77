-- The record of answers is judged line by line: none is refused, and each gives its answer back.
use Rattle.std.proofs.Common.{◌≡◌, ◌≤◌, ◌<◌, ℕ, suc, ◌+◌, Bool, false, true, List, [], ◌∷◌, ◌++◌, length, map, None, Ok, refl, ap, ◌∙◌, arith}
use Rattle.std.specs.List.{list_all}
use Rattle.std.specs.Prelude.{flat_map}
use Rattle.std.proofs.lemmas.Bool.{le-ltb}
use Rattle.std.proofs.lemmas.List.{append_assoc}
use Rattle.tree_specs.specs.declared.question.Input.{Input}
use Rattle.tree_specs.specs.declared.schedule.Mode.TheVariants.{Service}
use Rattle.tree_specs.specs.declared.schedule.Version.TheVariants.{Two}
use Rattle.tree_specs.specs.Rules.Items.{Item}
use Rattle.tree_specs.specs.Texts.Lines.{Line, lines, lines_of_parts, is_over_limit, line_limit, lines_limit}
use Rattle.tree_specs.specs.Texts.Runners.{Course, Judged, once_given, fitting, ok_unless, why_not, line_input, judged_from, judged_lines}
use Rattle.tree_specs.specs.Texts.Schedule.{header_of, header_text, runner_by}
use Rattle.tree_specs.specs.Texts.Text.{input_text, newline}
use Rattle.line_pieces.specs.Cuts.{ended_line, has_no_lf}
use Rattle.line_pieces.proofs.LineLaws.{lines_ended}
use Rattle.schedule_text.proofs.Inputs.{line_of, input_text-line, input_again}
use Rattle.service_rules.specs.Schedules.{judged, runner_of, service_runner, strays_behind}
use Rattle.service_rules.specs.Service.{inputs_behind, service_story}
use Rattle.service_records.specs.Records.{AllFit, IsScheduleOf, has_ranges, is_short, record_text}
use Rattle.service_records.proofs.Lines.{AllHaveLines, HasLine, all-have, line-part}

-- ---- the lines of a record

abbrev record_line : List ℕ
record_line = header_text Two Service

abbrev pub line_in : Input → Line
line_in i = ended_line (line_of Two i)

input-line : (i : Input) (rest : List ℕ) → input_text Two i ++ rest ≡ line_of Two i ++ 10 ∷ rest
input-line i rest = ap (λ (l : List ℕ). l ++ rest) (input_text-line Two i) ∙ append_assoc (line_of Two i) newline rest

abbrev pub ArePlain : List Input → Type 0
ArePlain [] = Unit {0}
ArePlain (i ∷ is) = (has_no_lf (line_of Two i) ≡ true) × ArePlain is

plain-lines : (is : List Input) → AllHaveLines is → ArePlain is
plain-lines [] h = tt
plain-lines (i ∷ is) h = ((line-part i h.0).plain, plain-lines is h.1)

pub lines-of-inputs : (is : List Input) → ArePlain is → lines (flat_map (input_text Two) is) ≡ map line_in is
unfolding lines lines_of_parts
lines-of-inputs [] h = refl
lines-of-inputs (i ∷ is) h =
    ap lines (input-line i (flat_map (input_text Two) is)) ∙ lines_ended (line_of Two i) (flat_map (input_text Two) is) h.0
    ∙ ap (λ (ls : List Line). line_in i ∷ ls) (lines-of-inputs is h.1)

record-lines : (is : List Input) → AllHaveLines is → lines (record_text is) ≡ ended_line record_line ∷ map line_in is
record-lines is h =
    ap lines (append_assoc record_line newline (flat_map (input_text Two) is)) ∙ lines_ended record_line (flat_map (input_text Two) is) refl
    ∙ ap (λ (ls : List Line). ended_line record_line ∷ ls) (lines-of-inputs is (plain-lines is h))

-- ---- what each line gives

pub not-over : (n : ℕ) (line : Line) → n ≤ lines_limit → length line.text ≤ line_limit → is_over_limit n line ≡ false
not-over n line low short = rw (le-ltb line_limit (length line.text) short, le-ltb lines_limit n low) refl

-- whatever tells over the answers
module _ (tells : List Input → List Item) (strays : List Input → Bool) where
  line-taken : (c : Course Input) (n : ℕ) (i : Input) → HasLine i → n ≤ lines_limit → why_not (runner_by Two tells strays) c i ≡ None → line_input (runner_by Two tells strays) n c (line_in i) ≡ Ok i
  unfolding line_input
  line-taken c n i h low fits =
      rw (not-over n (line_in i) low (line-part i h).short) (ap (fitting (runner_by Two tells strays) c) (input_again Two i h.sound h.bytes) ∙ ap (ok_unless i) fits)

  all-taken : (c : Course Input) (n : ℕ) (is : List Input) → AllFit c is → AllHaveLines is → n + length is ≤ suc lines_limit
      → judged_from (runner_by Two tells strays) c n (map line_in is) ≡ record { inputs = is; refused = None }
  unfolding judged_from
  all-taken c n [] fit h few = refl
  all-taken c n (i ∷ is) fit h few =
      rw (line-taken c n i h.0 (omega arith) fit.0, all-taken (once_given i c) (n + 1) is fit.1 h.1 (omega arith)) refl

-- ---- the record

record-judged : (is : List Input) → AllFit (service_runner Two).course is → AllHaveLines is → length is < lines_limit → judged (record_text is) ≡ record { inputs = is; refused = None }
unfolding judged_lines header_of
record-judged is fit h few =
    ap (judged_lines runner_of) (record-lines is h)
    ∙ all-taken service_story (λ js. strays_behind (inputs_behind js)) (service_runner Two).course 2 is fit h (omega (arith, few))

pub record-is-schedule : (is : List Input) → AllFit (service_runner Two).course is → list_all has_ranges is ≡ true → list_all is_short is ≡ true → length is < lines_limit → IsScheduleOf (record_text is) is
record-is-schedule is fit ranges short few =
    let whole = record-judged is fit (all-have is ranges short) few in
    record { accepted = ap (λ (j : Judged Input). j.refused) whole; inputs = ap (λ (j : Judged Input). j.inputs) whole }
