-- What events, questions and rows of reports are written as is the text of their lines, and the only LF stands at its end.
use Rattle.std.proofs.Common.{◌≡◌, ℕ, zero, suc, ◌/◌, ◌%◌, ◌^◌, Bool, true, eqb, leb, ltb, not, ◌&&◌, List, [], ◌∷◌, ◌++◌, length, slice_index, refl, sym, ap, ◌∙◌, codes, arith, append-nil, append_assoc}
use Rattle.std.specs.Prelude.{flat_map}
use Rattle.std.specs.Char.{is_ascii_digit}
use Rattle.std.specs.Fmt.{decimal, digits}
use Rattle.std.specs.List.{list_all}
use Rattle.std.specs.Str.{all_ascii_digits}
use Rattle.std.proofs.lemmas.Bool.{ltb-true}
use Rattle.std.proofs.lemmas.Bool.Decides.{nat_tests}
use Rattle.hex.specs.Hex.{lower_digits, encode_with, encode_lower}
use Rattle.tree_specs.specs.declared.object.Owner.{Owner}
use Rattle.tree_specs.specs.declared.object.Owner.TheVariants.{Root, Of}
use Rattle.tree_specs.specs.declared.moment.What.{What}
use Rattle.tree_specs.specs.declared.report.ReportRow.{ReportRow}
use Rattle.tree_specs.specs.declared.reply.Refusal.{Refusal}
use Rattle.tree_specs.specs.declared.reply.Refusal.TheVariants.{Spent}
use Rattle.tree_specs.specs.declared.reply.Reply.{Reply}
use Rattle.tree_specs.specs.declared.reply.Reply.TheVariants as replies
use Rattle.tree_specs.specs.declared.event.Event.{Event}
use Rattle.tree_specs.specs.declared.event.Event.TheVariants as events
use Rattle.tree_specs.specs.declared.question.Ask.{Ask}
use Rattle.tree_specs.specs.declared.question.Ask.TheVariants as asks
use Rattle.tree_specs.specs.Calls.Spelling.{Numeral, Field}
use Rattle.tree_specs.specs.Calls.Spelling.Numeral.{Number, Number32}
use Rattle.tree_specs.specs.Calls.Spelling.Field.{AnOwner, AnObject, ANumeral, AName, SomeBytes, TheContext}
use Rattle.tree_specs.specs.Words.Objects.{owner_number}
use Rattle.tree_specs.specs.Words.Names.{is_name, is_graphic}
use Rattle.tree_specs.specs.Words.Ranges.{is_number, is_in, is_sound_owner}
use Rattle.tree_specs.specs.Texts.Text.{newline, field_text, numbers_text, refusal_numbers, row_kind_text, row_text, reply_text, what_text, event_text, ask_text, answered_text, end_text}
use Rattle.text_forms.proofs.Bools.{and_true}
use Rattle.text_forms.proofs.Numerals.{decimal_digits}
use Rattle.text_forms.proofs.Words.{lacks, is_unspaced, joined}
use Rattle.transcript_lines.specs.Lines.{Line, Part, part_text, words_of, is_sound_part, parts_of, line_text, is_sound_line, is_line, refusal_parts, reply_parts, ask_parts}
use Rattle.transcript_lines.specs.Lines.Line.{Row, Rows, Tells, Asks, Ends}
use Rattle.transcript_lines.specs.Lines.Part.{AWord, AField}
use Rattle.transcript_lines.proofs.Spelling.{word_ok, words_ok}

-- ---- words with a space before each

abbrev spaced : List Part → List ℕ
spaced ps = flat_map (λ p. codes " " ++ part_text p) ps

joined_spaced : (word : List ℕ) (ps : List Part) → joined (word ∷ words_of ps) ≡ word ++ spaced ps
joined_spaced word [] = sym (append-nil word)
joined_spaced word (p ∷ ps) = ap (λ (l : List ℕ). word ++ 32 ∷ l) (joined_spaced (part_text p) ps)

-- a text of words after the first
spaced_text : (front : List ℕ) (ps : List Part) → front ++ spaced ps ++ newline ≡ joined (front ∷ words_of ps) ++ newline
spaced_text front ps = ap (λ (l : List ℕ). l ++ newline) (sym (joined_spaced front ps))

refusal_spaced : (why : Refusal) → numbers_text (refusal_numbers why) ≡ spaced (refusal_parts why)
unfolding refusal_numbers digits
refusal_spaced Spent = refl
refusal_spaced _ = refl

reply_line : (reply : Reply) → is_line (Tells (events.Replied reply)) ≡ true → reply_text reply ≡ line_text (Tells (events.Replied reply)) ++ newline
unfolding reply_text
reply_line (replies.Number n) h = spaced_text (codes "reply") (reply_parts (replies.Number n))
reply_line (replies.Pair n m) h = spaced_text (codes "reply") (reply_parts (replies.Pair n m))
reply_line (replies.Rows rows) h = absurd cc
reply_line (replies.No why) h = ap (λ (l : List ℕ). codes "reply no" ++ l ++ newline) (refusal_spaced why) ∙ spaced_text (codes "reply") (reply_parts (replies.No why))
reply_line _ h = refl

pub event_line : (e : Event) → is_line (Tells e) ≡ true → event_text e ≡ line_text (Tells e) ++ newline
unfolding event_text
event_line (events.Replied reply) h = reply_line reply h
event_line (events.Fired what x routine) h = ap (λ (l : List ℕ). l ++ newline) (append_assoc (codes "fired ") (what_text what) (numbers_text (x.0 ∷ routine ∷ []))) ∙ spaced_text (codes "fired") (AWord (what_text what) ∷ AField (AnObject x) ∷ AField (ANumeral Number32 routine) ∷ [])
event_line (events.Accepted x) h = spaced_text (codes "accepted") (AField (AnObject x) ∷ [])
event_line (events.Refused x answer) h = spaced_text (codes "refused") (AField (AnObject x) ∷ AField (ANumeral Number32 answer) ∷ [])
event_line (events.Moved x owner) h = spaced_text (codes "moved") (AField (AnObject x) ∷ AField (AnOwner owner) ∷ [])
event_line (events.Warned x) h = spaced_text (codes "warned") (AField (AnObject x) ∷ [])
event_line (events.Freed x hook) h = spaced_text (codes "freed") (AField (AnObject x) ∷ AField (ANumeral Number32 hook) ∷ [])
event_line (events.Unreferenced reference target) h = spaced_text (codes "unreferenced") (AField (AnObject reference) ∷ AField (AnObject target) ∷ [])
event_line (events.Closed fd) h = spaced_text (codes "closed") (AField (ANumeral Number32 fd) ∷ [])
event_line (events.State x state) h = spaced_text (codes "state") (AField (AnObject x) ∷ AField (ANumeral Number32 state) ∷ [])

-- ---- questions

what_line : (front : List ℕ) (what : What) (ps : List Part) → (front ++ codes " " ++ what_text what) ++ spaced ps ≡ front ++ spaced (AWord (what_text what) ∷ ps)
what_line front what ps = append_assoc (front ++ codes " ") (what_text what) (spaced ps) ∙ append_assoc front (codes " ") (what_text what ++ spaced ps)

more_parts : (front : List ℕ) (ps qs : List Part) → (front ++ spaced ps) ++ spaced qs ≡ front ++ spaced (ps ++ qs)
more_parts front [] qs = ap (λ (l : List ℕ). l ++ spaced qs) (append-nil front)
more_parts front (p ∷ ps) qs =
    ap (λ (l : List ℕ). l ++ spaced qs) (sym (append_assoc front (codes " " ++ part_text p) (spaced ps)))
    ∙ more_parts (front ++ (codes " " ++ part_text p)) ps qs
    ∙ append_assoc front (codes " " ++ part_text p) (spaced (ps ++ qs))

one_word : (front : List ℕ) (p : Part) → (front ++ codes " ") ++ part_text p ≡ front ++ spaced (p ∷ [])
one_word front p = append_assoc front (codes " ") (part_text p) ∙ ap (λ (l : List ℕ). front ++ 32 ∷ l) (sym (append-nil (part_text p)))

-- one part more
and_word : (front : List ℕ) (ps : List Part) (p : Part) → ((front ++ spaced ps) ++ codes " ") ++ part_text p ≡ front ++ spaced (ps ++ p ∷ [])
and_word front ps p = one_word (front ++ spaced ps) p ∙ more_parts front ps (p ∷ [])

ask_spaced : (q : Ask) → codes " " ++ ask_text q ≡ spaced (ask_parts q)
unfolding ask_text
ask_spaced (asks.Routine m) = refl
ask_spaced asks.Quiet = refl
ask_spaced (asks.Write fd bytes) = and_word (codes " write") (AField (ANumeral Number32 fd) ∷ []) (AField (SomeBytes bytes))
ask_spaced _ = refl

-- a question behind a word
behind_word : (front : List ℕ) (q : Ask) → (front ++ codes " ") ++ ask_text q ++ newline ≡ joined (front ∷ words_of (ask_parts q)) ++ newline
behind_word front q =
    ap (λ (l : List ℕ). l ++ newline) (append_assoc front (codes " ") (ask_text q) ∙ ap (λ (l : List ℕ). front ++ l) (ask_spaced q))
    ∙ spaced_text front (ask_parts q)

pub asked_line : (q : Ask) → is_line (Asks q) ≡ true → answered_text q ≡ line_text (Asks q) ++ newline
unfolding answered_text
asked_line asks.Quiet h = absurd cc
asked_line (asks.Routine m) h = behind_word (codes "ask") (asks.Routine m)
asked_line asks.Clock h = behind_word (codes "ask") asks.Clock
asked_line (asks.Wait limit) h = behind_word (codes "ask") (asks.Wait limit)
asked_line (asks.Accept fd) h = behind_word (codes "ask") (asks.Accept fd)
asked_line (asks.Read fd most) h = behind_word (codes "ask") (asks.Read fd most)
asked_line (asks.Write fd bytes) h = behind_word (codes "ask") (asks.Write fd bytes)

pub end_line : (q : Ask) → end_text q ≡ line_text (Ends q) ++ newline
unfolding end_text
end_line q = behind_word (codes "end") q

-- ---- reports

pub row_line : (r : ReportRow) → row_text r ≡ line_text (Row r) ++ newline
unfolding row_text
row_line r =
    ap (λ (l : List ℕ). ((l ++ spaced sizes) ++ codes " " ++ r.name) ++ newline) (and_word (codes "row") place (AWord (row_kind_text r.kind)))
    ∙ ap (λ (l : List ℕ). (l ++ codes " " ++ r.name) ++ newline) (more_parts (codes "row") (place ++ AWord (row_kind_text r.kind) ∷ []) sizes)
    ∙ ap (λ (l : List ℕ). l ++ newline) (and_word (codes "row") (place ++ AWord (row_kind_text r.kind) ∷ sizes) (AField (AName r.name)))
    ∙ spaced_text (codes "row") (place ++ AWord (row_kind_text r.kind) ∷ (sizes ++ AField (AName r.name) ∷ []))
  where
    place : List Part
    place = AField (ANumeral Number32 r.depth) ∷ AField (ANumeral Number r.id) ∷ []

    sizes : List Part
    sizes = AField (ANumeral Number r.size) ∷ AField (ANumeral Number32 r.refs) ∷ AField (ANumeral Number r.target) ∷ []

pub rows_line : (n : ℕ) → codes "reply rows" ++ numbers_text (n ∷ []) ++ newline ≡ line_text (Rows n) ++ newline
rows_line n = spaced_text (codes "reply") (AWord (codes "rows") ∷ AField (ANumeral Number n) ∷ [])

-- ---- no line has an LF in it

abbrev has_no_lf : List ℕ → Bool
has_no_lf text = lacks 10 text

plain_append : (l run : List ℕ) → has_no_lf l ≡ true → has_no_lf run ≡ true → has_no_lf (l ++ run) ≡ true
plain_append [] run h p = p
plain_append (x ∷ l) run h p = let q = and_true (not (eqb x 10)) (has_no_lf l) h in rw (q.0, plain_append l run q.1 p) refl

digits_plain : (ds : List ℕ) → all_ascii_digits ds ≡ true → has_no_lf ds ≡ true
digits_plain [] h = refl
digits_plain (d ∷ ds) h = let parts = and_true (is_ascii_digit d) (all_ascii_digits ds) h in rw (digit_plain d parts.0, digits_plain ds parts.1) refl
  where
    digit_plain : (b : ℕ) → is_ascii_digit b ≡ true → not (eqb b 10) ≡ true
    digit_plain b h = grind (arith, nat_tests)

number_plain : (n : ℕ) → is_number n ≡ true → has_no_lf (decimal n) ≡ true
number_plain n h = digits_plain (decimal n) (decimal_digits n (ltb-true n (2 ^ 64) h))

name_plain : (bs : List ℕ) → list_all is_graphic bs ≡ true → has_no_lf bs ≡ true
name_plain [] h = refl
name_plain (b ∷ bs) h = let parts = and_true (is_graphic b) (list_all is_graphic bs) h in rw (graphic_plain b parts.0, name_plain bs parts.1) refl
  where
    graphic_plain : (b : ℕ) → is_graphic b ≡ true → not (eqb b 10) ≡ true
    graphic_plain b h = grind (arith, nat_tests)

digit_at : (digits : List ℕ) → has_no_lf digits ≡ true → (i : ℕ) → not (eqb (slice_index digits i) 10) ≡ true
digit_at [] h i = refl
digit_at (d ∷ ds) h zero = (and_true (not (eqb d 10)) (has_no_lf ds) h).0
digit_at (d ∷ ds) h (suc i) = digit_at ds (and_true (not (eqb d 10)) (has_no_lf ds) h).1 i

hex_plain : (bs : List ℕ) → has_no_lf (encode_lower bs) ≡ true
unfolding encode_with
hex_plain [] = refl
hex_plain (b ∷ bs) = rw (digit_at lower_digits refl (b / 16), digit_at lower_digits refl (b % 16), hex_plain bs) refl

in_number : (kind : Numeral) (n : ℕ) → is_in kind n ≡ true → is_number n ≡ true
in_number Number n h = h
in_number _ n h = grind (arith, nat_tests)

owner_plain : (o : Owner) → is_sound_owner o ≡ true → has_no_lf (decimal (owner_number o)) ≡ true
owner_plain Root h = number_plain 0 refl
owner_plain (Of x) h = number_plain x.0 (and_true (ltb 0 x.0) (is_number x.0) h).1

field_plain : (f : Field) → is_sound_part (AField f) ≡ true → has_no_lf (field_text f) ≡ true
field_plain (AnOwner o) h = owner_plain o (and_true (is_sound_owner o) true h).0
field_plain (AnObject x) h = number_plain x.0 (and_true (is_number x.0) true h).0
field_plain (ANumeral kind n) h = number_plain n (in_number kind n (and_true (is_in kind n) true h).0)
field_plain (AName name) h = name_plain name (and_true (list_all is_graphic name) _ (and_true (list_all is_graphic name && leb 1 (length name)) _ (and_true (is_name name) true h).0).0).0
field_plain (SomeBytes bytes) h = hex_plain bytes
field_plain (TheContext c) h = number_plain c.0 (and_true (is_number c.0) true h).0

part_plain : (p : Part) → is_sound_part p ≡ true → word_ok p ≡ true → has_no_lf (part_text p) ≡ true
part_plain (AWord word) h w = (and_true (is_unspaced word) (has_no_lf word) w).1
part_plain (AField f) h w = field_plain f h

parts_plain : (ps : List Part) → list_all is_sound_part ps ≡ true → list_all word_ok ps ≡ true → has_no_lf (joined (words_of ps)) ≡ true
parts_plain [] h w = refl
parts_plain (p ∷ []) h w = part_plain p (and_true (is_sound_part p) true h).0 (and_true (word_ok p) true w).0
parts_plain (p ∷ q ∷ ps) h w =
    let fit = and_true (is_sound_part p) (list_all is_sound_part (q ∷ ps)) h in
    let word = and_true (word_ok p) (list_all word_ok (q ∷ ps)) w in
    plain_append (part_text p) (32 ∷ joined (words_of (q ∷ ps))) (part_plain p fit.0 word.0) (parts_plain (q ∷ ps) fit.1 word.1)

pub line_plain : (l : Line) → is_sound_line l ≡ true → has_no_lf (line_text l) ≡ true
line_plain l h = parts_plain (parts_of l) h (words_ok l)
