-- A converted schedule is judged line by line as the one that it was made of: each line spells the same input.
use Rattle.std.proofs.Common.{◌≡◌, ℕ, ◌+◌, Bool, false, true, cond, ltb, ◌||◌, List, [], ◌∷◌, ◌++◌, length, map, Option, Some, None, Err, refl, sym, ap, ◌∙◌}
use Rattle.std.specs.Option.{option_map}
use Rattle.std.proofs.lemmas.Bool.{le-ltb}
use Rattle.std.proofs.lemmas.List.{append_assoc}
use Rattle.tree_specs.specs.declared.question.Act.TheVariants as acts
use Rattle.tree_specs.specs.declared.question.Input.{Input}
use Rattle.tree_specs.specs.declared.question.Input.TheVariants as inputs
use Rattle.tree_specs.specs.declared.schedule.Header.{Header}
use Rattle.tree_specs.specs.declared.schedule.Mode.{Mode}
use Rattle.tree_specs.specs.declared.schedule.Mode.TheVariants.{Pool, Service}
use Rattle.tree_specs.specs.declared.schedule.Reason.{Reason}
use Rattle.tree_specs.specs.declared.schedule.Reason.TheVariants.{Limit, Form}
use Rattle.tree_specs.specs.declared.schedule.Version.{Version}
use Rattle.tree_specs.specs.declared.schedule.Version.TheVariants.{Two}
use Rattle.tree_specs.specs.Rules.Items.{Item}
use Rattle.tree_specs.specs.Texts.Grammar.{input_of}
use Rattle.tree_specs.specs.Texts.Lines.{Line, lines, is_over_limit, line_limit, lines_limit}
use Rattle.tree_specs.specs.Texts.Runners.{Course, Judged, once_given, fitting, ok_unless, why_not, line_input, judged_one, judged_from, judged_after, judged_lines, transcript_by, transcript_lines}
use Rattle.tree_specs.specs.Texts.Schedule.{header_of, header_text, runner_by, says}
use Rattle.tree_specs.specs.Texts.Text.{newline}
use Rattle.line_pieces.specs.Cuts.{ended_line, has_no_lf}
use Rattle.line_pieces.proofs.LineLaws.{lines_ended}
use Rattle.schedule_text.proofs.Inputs.{line_of, input_again, line_spelled, sound_anyway}
use Rattle.service_rules.specs.Schedules.{runner_in, runner_of}
use Rattle.service_records.proofs.Judging.{ArePlain, line_in, lines-of-inputs}
use Rattle.service_records.proofs.Lines.{line-part, line-plain}
use Rattle.schedule_versions.specs.Judging.{IsJudgedAlike}
use Rattle.schedule_versions.specs.Conversions.{converted, converted_lines, header_at, lines_text, shape, shaper, shapers}

-- ---- what the lines spell

-- the lines from number n on are within the limits, and spell these inputs
abbrev Spell : Version → ℕ → List Line → List Input → Type 0
Spell v n [] [] = Unit {0}
Spell v n [] (i ∷ is) = ⊥
Spell v n (line ∷ rest) [] = ⊥
Spell v n (line ∷ rest) (i ∷ is) = (is_over_limit n line ≡ false) × (line.ended ≡ true) × (input_of v line.text ≡ Some i) × Spell v (n + 1) rest is

-- where no line is refused
spelled : (v : Version) (n : ℕ) (ls : List Line) → (judged_from (shaper v) (shaper v).course n ls).refused ≡ None → Spell v n ls (judged_from (shaper v) (shaper v).course n ls).inputs
unfolding judged_from line_input
spelled v n [] e = tt
spelled v n (line ∷ rest) e = each (is_over_limit n line) line.ended (input_of v line.text) refl refl refl (spelled v (n + 1) rest) e
  where
    next : Input → Judged Input
    next i = judged_from (shaper v) (shaper v).course (n + 1) rest

    found : Bool → Bool → Option Input → Judged Input
    found over ended read = judged_one n (cond over (Err Limit) (cond ended (fitting (shaper v) (shaper v).course read) (Err Form))) next

    each : (over ended : Bool) (read : Option Input) → is_over_limit n line ≡ over → line.ended ≡ ended → input_of v line.text ≡ read
        → ((judged_from (shaper v) (shaper v).course (n + 1) rest).refused ≡ None → Spell v (n + 1) rest (judged_from (shaper v) (shaper v).course (n + 1) rest).inputs)
        → (found over ended read).refused ≡ None → Spell v n (line ∷ rest) (found over ended read).inputs
    each true ended read a b c more none = absurd cc
    each false false read a b c more none = absurd cc
    each false true None a b c more none = absurd cc
    each false true (Some i) a b c more none = (a, b, c, more none)

-- ---- the same input, in the second version

-- a line of the second version is none too long: what a context lengthens is a call, and far from the limit
still-short : (v : Version) (text : List ℕ) (i : Input) → input_of v text ≡ Some i → ltb line_limit (length text) ≡ false → ltb line_limit (length (line_of Two i)) ≡ false
still-short v text (inputs.Call c) e short =
    let l = line_spelled v text (inputs.Call c) e in
    le-ltb line_limit (length (line_of Two (inputs.Call c))) (line-part (inputs.Call c) (record { sound = sound_anyway v (inputs.Call c) l.is_sound; bytes = l.has; short = refl })).short
still-short v text (inputs.Act (acts.Do c)) e short =
    let l = line_spelled v text (inputs.Act (acts.Do c)) e in
    le-ltb line_limit (length (line_of Two (inputs.Act (acts.Do c)))) (line-part (inputs.Act (acts.Do c)) (record { sound = sound_anyway v (inputs.Act (acts.Do c)) l.is_sound; bytes = l.has; short = refl })).short
still-short v text (inputs.Act (acts.Ret value)) e short = ap (λ (l : List ℕ). ltb line_limit (length l)) (sym (line_spelled v text (inputs.Act (acts.Ret value)) e).line_is) ∙ short
still-short v text (inputs.Clock now) e short = ap (λ (l : List ℕ). ltb line_limit (length l)) (sym (line_spelled v text (inputs.Clock now) e).line_is) ∙ short
still-short v text (inputs.Ready wants) e short = ap (λ (l : List ℕ). ltb line_limit (length l)) (sym (line_spelled v text (inputs.Ready wants) e).line_is) ∙ short
still-short v text (inputs.Took fd) e short = ap (λ (l : List ℕ). ltb line_limit (length l)) (sym (line_spelled v text (inputs.Took fd) e).line_is) ∙ short
still-short v text (inputs.Got bytes) e short = ap (λ (l : List ℕ). ltb line_limit (length l)) (sym (line_spelled v text (inputs.Got bytes) e).line_is) ∙ short
still-short v text (inputs.Wrote n) e short = ap (λ (l : List ℕ). ltb line_limit (length l)) (sym (line_spelled v text (inputs.Wrote n) e).line_is) ∙ short
still-short v text _ e short = refl

or-false : (a b : Bool) → (a || b) ≡ false → (a ≡ false) × (b ≡ false)
or-false false b e = (refl, e)
or-false true b e = absurd cc

still-within : (v : Version) (n : ℕ) (line : Line) (i : Input) → is_over_limit n line ≡ false → input_of v line.text ≡ Some i → is_over_limit n (line_in i) ≡ false
still-within v n line i within e =
    let parts = or-false (ltb line_limit (length line.text)) (ltb lines_limit n) within in
    rw (still-short v line.text i e parts.0, parts.1) refl

read-again : (v : Version) (text : List ℕ) (i : Input) → input_of v text ≡ Some i → input_of Two (line_of Two i) ≡ Some i
read-again v text i e = let l = line_spelled v text i e in input_again Two i (sound_anyway v i l.is_sound) l.has

all-plain : (v : Version) (n : ℕ) (ls : List Line) (is : List Input) → Spell v n ls is → ArePlain is
all-plain v n [] [] h = tt
all-plain v n [] (i ∷ is) h = absurd h
all-plain v n (line ∷ rest) [] h = absurd h
all-plain v n (line ∷ rest) (i ∷ is) h =
    let l = line_spelled v line.text i h.2 in
    (line-plain i (sound_anyway v i l.is_sound) l.has, all-plain v (n + 1) rest is h.3)

-- ---- each line is judged as before

module _ (tells : List Input → List Item) (strays : List Input → Bool) where
  line-before : (v : Version) (n : ℕ) (c : Course Input) (line : Line) (i : Input) → is_over_limit n line ≡ false → line.ended ≡ true → input_of v line.text ≡ Some i
      → line_input (runner_by v tells strays) n c line ≡ ok_unless i (why_not (runner_by Two tells strays) c i)
  unfolding line_input
  line-before v n c line i within ended e = rw (within, ended, e) refl

  line-behind : (v : Version) (n : ℕ) (c : Course Input) (line : Line) (i : Input) → is_over_limit n line ≡ false → input_of v line.text ≡ Some i
      → line_input (runner_by Two tells strays) n c (line_in i) ≡ ok_unless i (why_not (runner_by Two tells strays) c i)
  unfolding line_input
  line-behind v n c line i within e = rw (still-within v n line i within e, read-again v line.text i e) refl

  judged-alike : (v : Version) (n : ℕ) (c : Course Input) (ls : List Line) (is : List Input) → Spell v n ls is → judged_from (runner_by v tells strays) c n ls ≡ judged_from (runner_by Two tells strays) c n (map line_in is)
  unfolding judged_from
  judged-alike v n c [] [] h = refl
  judged-alike v n c [] (i ∷ is) h = absurd h
  judged-alike v n c (line ∷ rest) [] h = absurd h
  judged-alike v n c (line ∷ rest) (i ∷ is) h =
      rw (line-before v n c line i h.0 h.1 h.2, line-behind v n c line i h.0 h.2) (each (why_not (runner_by Two tells strays) c i) (judged-alike v (n + 1) (once_given i c) rest is h.3))
    where
      each : (why : Option Reason)
          → judged_from (runner_by v tells strays) (once_given i c) (n + 1) rest ≡ judged_from (runner_by Two tells strays) (once_given i c) (n + 1) (map line_in is)
          → judged_one n (ok_unless i why) (λ j. judged_from (runner_by v tells strays) (once_given j c) (n + 1) rest)
          ≡ judged_one n (ok_unless i why) (λ j. judged_from (runner_by Two tells strays) (once_given j c) (n + 1) (map line_in is))
      each None more = ap (λ (j : Judged Input). record { inputs = i ∷ j.inputs; refused = j.refused }) more
      each (Some why) more = refl

-- in either mode
mode-alike : (v : Version) (mode : Mode) (ls : List Line) (is : List Input) → Spell v 2 ls is
    → judged_from (runner_in v mode) (runner_in v mode).course 2 ls ≡ judged_from (runner_in Two mode) (runner_in Two mode).course 2 (map line_in is)
mode-alike v Pool ls is h = judged-alike _ _ v 2 (runner_in v Pool).course ls is h
mode-alike v Service ls is h = judged-alike _ _ v 2 (runner_in v Service).course ls is h

mode-told : (v : Version) (mode : Mode) (is : List Input) → transcript_by runner_of (Some (runner_in v mode)) is ≡ transcript_by runner_of (Some (runner_in Two mode)) is
mode-told v Pool is = refl
mode-told v Service is = refl

-- ---- all lines

header-read : (mode : Mode) → header_of (header_text Two mode) ≡ Some (says Two mode)
unfolding header_of
header-read Pool = refl
header-read Service = refl

header-plain : (mode : Mode) → has_no_lf (header_text Two mode) ≡ true
header-plain Pool = refl
header-plain Service = refl

lines-after : (mode : Mode) (is : List Input) → ArePlain is → lines (header_text Two mode ++ newline ++ lines_text is) ≡ ended_line (header_text Two mode) ∷ map line_in is
lines-after mode is plain =
    ap lines (append_assoc (header_text Two mode) newline (lines_text is)) ∙ lines_ended (header_text Two mode) (lines_text is) (header-plain mode)
    ∙ ap (λ (ls : List Line). ended_line (header_text Two mode) ∷ ls) (lines-of-inputs is plain)

-- two lists of lines are judged alike, and give one transcript
record AreAlike (ls ms : List Line) : Type 0 where
  judged : judged_lines runner_of ms ≡ judged_lines runner_of ls
  told : transcript_lines runner_of ms ≡ transcript_lines runner_of ls

headed-alike : (h : Header) (first : Line) (rest : List Line) → header_at first ≡ Some h → first.ended ≡ true → (is : List Input) → Spell h.version 2 rest is → AreAlike (first ∷ rest) (ended_line (header_text Two h.mode) ∷ map line_in is)
unfolding judged_lines transcript_lines
headed-alike h first rest at ended is spell =
    let says_it : header_of first.text ≡ Some h = rw ended at at in
    let same = sym (mode-alike h.version h.mode rest is spell) in
    record {
      judged = rw (header-read h.mode, ended, says_it) same;
      told = rw (header-read h.mode, ended, says_it) (ap (λ (j : Judged Input). transcript_by runner_of (Some (runner_in Two h.mode)) j.inputs) same ∙ sym (mode-told h.version h.mode (judged_from (runner_in h.version h.mode) (runner_in h.version h.mode).course 2 rest).inputs));
    }

-- the shape of a schedule whose first line says this
shape-of : (h : Header) (first : Line) (rest : List Line) → first.ended ≡ true → header_of first.text ≡ Some h → judged_lines shapers (first ∷ rest) ≡ judged_from (shaper h.version) (shaper h.version).course 2 rest
unfolding judged_lines
shape-of h first rest ended e = rw (ended, e) refl

no-shape : {A : Type 0} (first : Line) (rest : List Line) → header_at first ≡ None → (judged_lines shapers (first ∷ rest)).refused ≡ None → A
unfolding judged_lines
no-shape first rest e none = by_ended first.ended (header_of first.text) e none
  where
    by_ended : {A : Type 0} (b : Bool) (o : Option Header) → cond b o None ≡ None → (judged_after shapers first rest (cond b (option_map (λ h. shaper h.version) o) None)).refused ≡ None → A
    by_ended true None e none = absurd cc
    by_ended true (Some h) e none = absurd cc
    by_ended false o e none = absurd cc

alike : (ls : List Line) → (judged_lines shapers ls).refused ≡ None → AreAlike ls (lines (converted_lines ls))
unfolding judged_lines converted_lines
alike [] none = absurd cc
alike (first ∷ rest) none = each first.ended (header_of first.text) refl refl
  where
    each : (b : Bool) (o : Option Header) → first.ended ≡ b → header_of first.text ≡ o → AreAlike (first ∷ rest) (lines (converted_lines (first ∷ rest)))
    each false o ended e = no-shape first rest (rw ended refl) none
    each true None ended e = no-shape first rest (rw (ended, e) refl) none
    each true (Some h) ended e =
        let shaped = shape-of h first rest ended e in
        let is : List Input = (judged_from (shaper h.version) (shaper h.version).course 2 rest).inputs in
        let spell : Spell h.version 2 rest is = spelled h.version 2 rest (ap (λ (j : Judged Input). j.refused) (sym shaped) ∙ none) in
        let at : header_at first ≡ Some h = rw (ended, e) refl in
        let text : converted_lines (first ∷ rest) ≡ header_text Two h.mode ++ newline ++ lines_text is = rw (ended, e) refl in
        rw (text, lines-after h.mode is (all-plain h.version 2 rest is spell)) (headed-alike h first rest at ended is spell)

pub judged-as-before : (bytes : List ℕ) → shape bytes ≡ None → IsJudgedAlike bytes (converted bytes)
judged-as-before bytes none =
    let a = alike (lines bytes) none in
    record { judged = ap (λ (j : Judged Input). j.refused) a.judged; inputs = ap (λ (j : Judged Input). j.inputs) a.judged; transcript = a.told }
