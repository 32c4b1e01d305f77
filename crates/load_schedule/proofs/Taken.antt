-- Of the schedules that are made from a number no line is refused.
use Rattle.std.proofs.Common.{◌≡◌, ◌≤◌, ◌<◌, ℕ, zero, suc, ◌+◌, ◌*◌, ◌^◌, ◌%◌, true, false, ltb, eqb, List, [], ◌∷◌, ◌++◌, length, map, Option, Some, None, Ok, refl, ap, ◌∙◌, subst, codes, arith, length-append}
use Rattle.std.specs.Prelude.{flat_map}
use Rattle.std.specs.Fmt.{decimal}
use Rattle.std.specs.Str.{all_ascii_digits}
use Rattle.std.specs.Char.{is_ascii_digit}
use Rattle.std.proofs.lemmas.Bool.Decides.{nat_tests}
use Rattle.std.proofs.lemmas.Fmt.{length-decimal-le}
use Rattle.std.proofs.lemmas.List.{append_assoc}
use Rattle.tree_specs.specs.declared.schedule.Mode.TheVariants.{Pool}
use Rattle.tree_specs.specs.declared.schedule.Version.TheVariants.{One}
use Rattle.tree_specs.specs.declared.object.Owner.{Owner}
use Rattle.tree_specs.specs.declared.object.Owner.TheVariants.{Root, Of}
use Rattle.tree_specs.specs.declared.call.Call.{Call}
use Rattle.tree_specs.specs.declared.call.Call.TheVariants.{New, Free, Steal, Reference, Unlink, Count}
use Rattle.tree_specs.specs.declared.question.Ask.{Ask}
use Rattle.tree_specs.specs.declared.question.Ask.TheVariants.{Quiet}
use Rattle.tree_specs.specs.declared.question.Input.{Input}
use Rattle.tree_specs.specs.declared.question.Input.TheVariants as inputs
use Rattle.tree_specs.specs.Words.Objects.{owner_number, numbered_owner}
use Rattle.tree_specs.specs.Words.Ranges.{is_sound_owner, is_sound_call_in}
use Rattle.tree_specs.specs.Calls.Spelling.{Field, spelling}
use Rattle.tree_specs.specs.Texts.Grammar.{input_of}
use Rattle.tree_specs.specs.Texts.Text.{field_text, call_text, input_text, newline}
use Rattle.tree_specs.specs.Texts.Lines.{Line, lines, lines_of_parts, line_limit, lines_limit}
use Rattle.tree_specs.specs.Texts.Runners.{Course, once_given, line_input, judged_from, judged_lines, unless_stray, why_not}
use Rattle.tree_specs.specs.Texts.Schedule.{misfit, header_of, header_text, pool_runner}
use Rattle.service_rules.specs.Schedules.{judge, runner_of}
use Rattle.tree_specs.specs.Texts.Load.{Place, next_state, drawn, kind, makes_object, second_draw, owner_drawn, object_drawn, call_drawn, after_call, calls_from, calls_text, first_place, load_calls, load_schedule}
use Rattle.tree_specs.proofs.Tree.Numbered.{by_test}
use Rattle.text_forms.proofs.Numerals.{decimal_digits}
use Rattle.text_forms.specs.Bytes.{has_bytes}
use Rattle.text_forms.proofs.Bools.{and_true}
use Rattle.text_forms.proofs.Calls as calls
use Rattle.line_pieces.specs.Cuts.{has_no_lf, is_plain, ended_line}
use Rattle.line_pieces.proofs.LineLaws.{lines_ended, plain_append}
use Rattle.schedule_replay.proofs.RunLaws.{input-by}
use Rattle.load_schedule.proofs.Bare.{is_calm}
use Rattle.load_schedule.proofs.Silent.{AreCalls, story-awaits}

-- ---- small numbers

-- digits are no LF
digit-plain : (d : ℕ) → is_ascii_digit d ≡ true → is_plain d ≡ true
digit-plain d h = grind (arith, nat_tests)

digits-plain : (ds : List ℕ) → all_ascii_digits ds ≡ true → has_no_lf ds ≡ true
digits-plain [] h = refl
digits-plain (d ∷ ds) h =
    let parts = and_true (is_ascii_digit d) (all_ascii_digits ds) h in
    rw (digit-plain d parts.0, digits-plain ds parts.1) refl

-- a number below 65,536 is some digits, which are few
pub decimal-plain : (n : ℕ) → n < 65536 → has_no_lf (decimal n) ≡ true
decimal-plain n lt = digits-plain (decimal n) (decimal_digits n (omega arith))

decimal-short : (n : ℕ) → n < 65536 → length (decimal n) ≤ 5
decimal-short n lt = length-decimal-le 5 n (omega arith) (omega arith) (omega arith)

abbrev IsSmallOwner : Owner → Type 0
IsSmallOwner Root = Unit {0}
IsSmallOwner (Of x) = (0 < x.0) × (x.0 < 65536)

small-owner : (o : Owner) → IsSmallOwner o → owner_number o < 65536
small-owner Root h = omega arith
small-owner (Of x) h = h.1

numbered-small : (n : ℕ) → n < 65536 → IsSmallOwner (numbered_owner n)
numbered-small zero lt = tt
numbered-small (suc n) lt = (omega arith, lt)

-- ---- the calls that are drawn

-- the call is one of those kinds, and its numbers are small
abbrev IsDrawn : Call → Type 0
IsDrawn (New o size name) = IsSmallOwner o × (size < 65536) × (name ≡ codes "n")
IsDrawn (Free x) = x.0 < 65536
IsDrawn (Steal o x) = IsSmallOwner o × (x.0 < 65536)
IsDrawn (Reference o x) = IsSmallOwner o × (x.0 < 65536)
IsDrawn (Unlink o x) = IsSmallOwner o × (x.0 < 65536)
IsDrawn (Count o) = IsSmallOwner o
IsDrawn _ = ⊥

abbrev AllDrawn : List Call → Type 0
AllDrawn [] = Unit {0}
AllDrawn (c ∷ cs) = IsDrawn c × AllDrawn cs

draw-small : (x : ℕ) → drawn (next_state x) < 32768
draw-small x = omega arith

owner-small : (p : Place) → IsSmallOwner (owner_drawn p)
owner-small p = let s = draw-small (next_state p.state) in numbered-small (second_draw p % (p.made + 1)) (omega arith)

object-small : (p : Place) → (object_drawn p).0 < 65536
object-small p = let s = draw-small (next_state (next_state p.state)) in omega arith

call-drawn : (p : Place) → IsDrawn (call_drawn p)
call-drawn p = by_test (makes_object p)
    (λ t. rw t (owner-small p, omega arith, refl))
    (λ t. by_test (eqb (kind p) 4)
    (λ u. rw (t, u) (owner-small p, object-small p))
    (λ u. by_test (eqb (kind p) 5)
    (λ v. rw (t, u, v) (object-small p))
    (λ v. by_test (eqb (kind p) 6)
    (λ w. rw (t, u, v, w) (owner-small p, object-small p))
    (λ w. rw (t, u, v, w) (owner-small p, object-small p)))))

calls-drawn : (k : ℕ) (p : Place) → AllDrawn (calls_from k p)
calls-drawn zero p = (tt, tt)
calls-drawn (suc k) p = (call-drawn p, calls-drawn k (after_call p))

calls-counted : (k : ℕ) (p : Place) → length (calls_from k p) ≡ k + 1
calls-counted zero p = refl
calls-counted (suc k) p = omega (arith, calls-counted k (after_call p))

-- ---- their lines

abbrev line_of : Call → List ℕ
line_of c = codes "call " ++ call_text One c

-- a field's text is short and has no LF
abbrev Fits : Field → Type 0
Fits f = (has_no_lf (field_text f) ≡ true) × (length (field_text f) ≤ 5)

abbrev AllFit : List Field → Type 0
AllFit [] = Unit {0}
AllFit (f ∷ fs) = Fits f × AllFit fs

number-fits : (n : ℕ) → n < 65536 → (has_no_lf (decimal n) ≡ true) × (length (decimal n) ≤ 5)
number-fits n lt = (decimal-plain n lt, decimal-short n lt)

fields-fit : (c : Call) → IsDrawn c → AllFit (spelling One c).fields
fields-fit (New o size name) d = (number-fits (owner_number o) (small-owner o d.0), (number-fits size d.1, (rw d.2 (refl, omega arith), tt)))
fields-fit (Free x) d = (number-fits x.0 d, tt)
fields-fit (Steal o x) d = (number-fits (owner_number o) (small-owner o d.0), (number-fits x.0 d.1, tt))
fields-fit (Reference o x) d = (number-fits (owner_number o) (small-owner o d.0), (number-fits x.0 d.1, tt))
fields-fit (Unlink o x) d = (number-fits (owner_number o) (small-owner o d.0), (number-fits x.0 d.1, tt))
fields-fit (Count o) d = (number-fits (owner_number o) (small-owner o d), tt)
fields-fit _ d = absurd d

abbrev fields_text : List Field → List ℕ
fields_text fs = flat_map (λ f. codes " " ++ field_text f) fs

fields-plain : (fs : List Field) → AllFit fs → has_no_lf (fields_text fs) ≡ true
fields-plain [] h = refl
fields-plain (f ∷ fs) h = plain_append (codes " " ++ field_text f) (fields_text fs) (plain_append (codes " ") (field_text f) refl h.0.0) (fields-plain fs h.1)

fields-short : (fs : List Field) → AllFit fs → length (fields_text fs) ≤ 6 * length fs
fields-short [] h = omega arith
fields-short (f ∷ fs) h =
    omega (arith, h.0.1, fields-short fs h.1, length-append (codes " " ++ field_text f) (fields_text fs), length-append (codes " ") (field_text f))

verb-plain : (c : Call) → IsDrawn c → (has_no_lf (spelling One c).verb ≡ true) × (length (spelling One c).verb ≤ 9) × (length (spelling One c).fields ≤ 3)
verb-plain (New o size name) d = (refl, omega arith, omega arith)
verb-plain (Free x) d = (refl, omega arith, omega arith)
verb-plain (Steal o x) d = (refl, omega arith, omega arith)
verb-plain (Reference o x) d = (refl, omega arith, omega arith)
verb-plain (Unlink o x) d = (refl, omega arith, omega arith)
verb-plain (Count o) d = (refl, omega arith, omega arith)
verb-plain _ d = absurd d

line-plain : (c : Call) → IsDrawn c → has_no_lf (line_of c) ≡ true
unfolding call_text
line-plain c d =
    plain_append (codes "call ") ((spelling One c).verb ++ fields_text (spelling One c).fields) refl
    (plain_append (spelling One c).verb (fields_text (spelling One c).fields) (verb-plain c d).0 (fields-plain (spelling One c).fields (fields-fit c d)))

line-short : (c : Call) → IsDrawn c → length (line_of c) ≤ line_limit
unfolding call_text
line-short c d =
    let v = verb-plain c d in
    omega (
      arith,
      v.1,
      v.2,
      fields-short (spelling One c).fields (fields-fit c d),
      length-append (codes "call ") ((spelling One c).verb ++ fields_text (spelling One c).fields),
      length-append (spelling One c).verb (fields_text (spelling One c).fields),
    )

small : (n : ℕ) → n < 65536 → ltb n (2 ^ 64) ≡ true
small n lt = grind (arith, nat_tests)

owner-sound : (o : Owner) → IsSmallOwner o → is_sound_owner o ≡ true
owner-sound Root h = refl
owner-sound (Of x) h = let some : ltb 0 x.0 ≡ true = grind (arith, nat_tests, h.0) in rw (some, small x.0 h.1) refl

call-sound : (c : Call) → IsDrawn c → is_sound_call_in One c ≡ true
call-sound (New o size name) d = rw (owner-sound o d.0, small size d.1, d.2) refl
call-sound (Free x) d = small x.0 d
call-sound (Steal o x) d = rw (owner-sound o d.0, small x.0 d.1) refl
call-sound (Reference o x) d = rw (owner-sound o d.0, small x.0 d.1) refl
call-sound (Unlink o x) d = rw (owner-sound o d.0, small x.0 d.1) refl
call-sound (Count o) d = owner-sound o d
call-sound _ d = absurd d

-- it asks for nothing, and no field of it is bytes
call-calm : (c : Call) → IsDrawn c → (is_calm c ≡ true) × (has_bytes c ≡ true)
call-calm (New o size name) d = (refl, refl)
call-calm (Free x) d = (refl, refl)
call-calm (Steal o x) d = (refl, refl)
call-calm (Reference o x) d = (refl, refl)
call-calm (Unlink o x) d = (refl, refl)
call-calm (Count o) d = (refl, refl)
call-calm _ d = absurd d

line-again : (c : Call) → IsDrawn c → input_of One (line_of c) ≡ Some (inputs.Call c)
unfolding input_of
line-again c d = rw (calls.call_again One c (call-sound c d) (call-calm c d).1) refl

-- ---- the lines of a schedule

input-line : (c : Call) (rest : List ℕ) → input_text One (inputs.Call c) ++ rest ≡ line_of c ++ 10 ∷ rest
unfolding input_text
input-line c rest = append_assoc (line_of c) newline rest

lines-of-calls : (cs : List Call) → AllDrawn cs → lines (calls_text cs) ≡ map (λ c. ended_line (line_of c)) cs
unfolding lines lines_of_parts
lines-of-calls [] d = refl
lines-of-calls (c ∷ cs) d =
    ap lines (input-line c (calls_text cs)) ∙ lines_ended (line_of c) (calls_text cs) (line-plain c d.0)
    ∙ ap (λ (ls : List Line). ended_line (line_of c) ∷ ls) (lines-of-calls cs d.1)

-- ---- no line is refused

abbrev inputs_of_calls : List Call → List Input
inputs_of_calls cs = map inputs.Call cs

are-calls : (cs : List Call) → AllDrawn cs → AreCalls (inputs_of_calls cs)
are-calls [] d = tt
are-calls (c ∷ cs) d = (calls.sound_anyway One c (call-sound c d.0), (call-calm c d.0).0, are-calls cs d.1)

first-calls : (pre post : List Input) → AreCalls (pre ++ post) → AreCalls pre
first-calls [] post a = tt
first-calls (inputs.Call c ∷ pre) post a = (a.0, a.1, first-calls pre post a.2)
first-calls (_ ∷ pre) post a = absurd a

-- a call fits where one is waited for
call-fits : (k : Course Input) (c : Call) → k.open_after [] ≡ Some Quiet → k.strays (inputs.Call c ∷ []) ≡ false → why_not (pool_runner One) k (inputs.Call c) ≡ None
call-fits k c asks taken =
    ap (λ (q : Option Ask). unless_stray (misfit q (inputs.Call c)) (k.strays (inputs.Call c ∷ []))) asks ∙ ap (unless_stray None) taken

-- where each time the next call is waited for
all-taken : (k : Course Input) (n : ℕ) (cs : List Call) → AllDrawn cs → ((pre post : List Input) → inputs_of_calls cs ≡ pre ++ post → (k.open_after pre ≡ Some Quiet) × (k.strays pre ≡ false)) → n + length cs ≤ suc lines_limit
    → (judged_from (pool_runner One) k n (map (λ c. ended_line (line_of c)) cs)).refused ≡ None
unfolding judged_from
all-taken k n [] d awaits few = refl
all-taken k n (c ∷ cs) d awaits few =
    let fits : line_input (pool_runner One) n k (ended_line (line_of c)) ≡ Ok (inputs.Call c) =
    input-by (pool_runner One) k n (line_of c) (inputs.Call c) None (line-short c d.0) (omega arith) (line-again c d.0)
    (call-fits k c (awaits [] (inputs_of_calls (c ∷ cs)) refl).0 (awaits (inputs.Call c ∷ []) (inputs_of_calls cs) refl).1) in
    rw fits (all-taken (once_given (inputs.Call c) k) (n + 1) cs d.1
    (λ pre post e. awaits (inputs.Call c ∷ pre) post (ap (λ (l : List Input). inputs.Call c ∷ l) e)) (omega arith))

schedule-lines : (cs : List Call) → AllDrawn cs → lines ((header_text One Pool) ++ newline ++ calls_text cs) ≡ ended_line (header_text One Pool) ∷ map (λ c. ended_line (line_of c)) cs
schedule-lines cs d =
    ap lines (append_assoc (header_text One Pool) newline (calls_text cs)) ∙ lines_ended (header_text One Pool) (calls_text cs) refl
    ∙ ap (λ (ls : List Line). ended_line (header_text One Pool) ∷ ls) (lines-of-calls cs d)

pub load-taken : (number count : ℕ) → count + 2 ≤ lines_limit → judge (load_schedule number count) ≡ None
unfolding judged_lines header_of
load-taken number count few =
    let cs : List Call = load_calls number count in
    let d : AllDrawn cs = calls-drawn count (first_place number) in
    ap (λ (ls : List Line). (judged_lines runner_of ls).refused) (schedule-lines cs d)
    ∙ all-taken (pool_runner One).course 2 cs d
    (λ pre post e. story-awaits pre (first-calls pre post (subst AreCalls e (are-calls cs d))))
    (omega (arith, calls-counted count (first_place number)))
