-- The line of an input: it has no LF, and it isn't too long for a schedule.
use Rattle.std.proofs.Common.{◌≡◌, ◌≤◌, ◌<◌, ℕ, zero, suc, ◌+◌, ◌*◌, ◌^◌, ◌/◌, ◌%◌, true, leb, ltb, ◌&&◌, List, [], ◌∷◌, ◌++◌, length, slice_index, refl, codes, arith, length-append}
use Rattle.std.specs.Prelude.{flat_map}
use Rattle.std.specs.Char.{is_ascii_digit}
use Rattle.std.specs.Fmt.{decimal}
use Rattle.std.specs.List.{list_all}
use Rattle.std.specs.Str.{all_ascii_digits}
use Rattle.std.proofs.lemmas.Bool.{leb-true, ltb-true}
use Rattle.std.proofs.lemmas.Bool.Decides.{nat_tests}
use Rattle.std.proofs.lemmas.Fmt.{length-decimal-le}
use Rattle.hex.specs.Hex.{lower_digits, encode_with, encode_lower}
use Rattle.hex.proofs.HexLemmas.{length-encode_with}
use Rattle.tree_specs.specs.declared.object.Owner.{Owner}
use Rattle.tree_specs.specs.declared.object.Owner.TheVariants.{Root, Of}
use Rattle.tree_specs.specs.declared.call.Call.{Call}
use Rattle.tree_specs.specs.declared.call.Call.TheVariants.{Free}
use Rattle.tree_specs.specs.declared.question.Act.TheVariants as acts
use Rattle.tree_specs.specs.declared.question.Input.{Input}
use Rattle.tree_specs.specs.declared.question.Input.TheVariants as inputs
use Rattle.tree_specs.specs.declared.schedule.Version.TheVariants.{Two}
use Rattle.tree_specs.specs.declared.wants.Want.{Want}
use Rattle.tree_specs.specs.Words.Names.{is_name, is_graphic}
use Rattle.tree_specs.specs.Words.Objects.{owner_number}
use Rattle.tree_specs.specs.Words.Octets.{is_octets}
use Rattle.tree_specs.specs.Words.Ranges.{is_number, is_in, is_sound_owner, is_sound_field, all_sound, is_sound_call, is_sound}
use Rattle.tree_specs.specs.Words.Wants.{has_flags, is_want, rises}
use Rattle.tree_specs.specs.Calls.Spelling.{Numeral, Field, spelling}
use Rattle.tree_specs.specs.Calls.Spelling.Numeral.{Number}
use Rattle.tree_specs.specs.Calls.Spelling.Field.{AnOwner, AnObject, ANumeral, AName, SomeBytes, TheContext}
use Rattle.tree_specs.specs.Texts.Lines.{line_limit}
use Rattle.tree_specs.specs.Texts.Text.{field_text, call_text, want_text, wants_text}
use Rattle.text_forms.proofs.Bools.{and_true, list_all-weaker}
use Rattle.text_forms.proofs.Numerals.{decimal_digits}
use Rattle.text_forms.proofs.Sound.{sound_fields}
use Rattle.line_pieces.specs.Cuts.{is_plain, has_no_lf}
use Rattle.line_pieces.proofs.LineLaws.{plain_append}
use Rattle.schedule_text.proofs.Inputs.{line_of}
use Rattle.schedule_text.specs.Heard.{input_has_bytes}
use Rattle.service_records.specs.Records.{has_ranges, is_short, ready_limit}

-- ---- parts of a line

-- a text with no LF, of so many bytes at most
pub record IsPart (most : ℕ) (text : List ℕ) : Type 0 where
  pub plain : has_no_lf text ≡ true
  pub short : length text ≤ most

longer : (few most : ℕ) (text : List ℕ) → few ≤ most → IsPart few text → IsPart most text
longer few most text le part = record { plain = part.plain; short = omega (arith, part.short) }

-- parts that follow one another are a part
together : (few more : ℕ) (xs ys : List ℕ) → IsPart few xs → IsPart more ys → IsPart (few + more) (xs ++ ys)
together few more xs ys x y = record { plain = plain_append xs ys x.plain y.plain; short = omega (arith, x.short, y.short, length-append xs ys) }

-- ---- numbers

digit-plain : (d : ℕ) → is_ascii_digit d ≡ true → is_plain d ≡ true
digit-plain d h = grind (arith, nat_tests)

digits-plain : (ds : List ℕ) → all_ascii_digits ds ≡ true → has_no_lf ds ≡ true
digits-plain ds h = list_all-weaker is_ascii_digit is_plain digit-plain ds h

decimal-part : (most n : ℕ) → 0 < most → n < 10 ^ most → n < 2 ^ 64 → IsPart most (decimal n)
decimal-part most n some few lt = record { plain = digits-plain (decimal n) (decimal_digits n lt); short = length-decimal-le most n some few lt }

number-part : (n : ℕ) → n < 2 ^ 64 → IsPart 20 (decimal n)
number-part n lt = decimal-part 20 n (omega arith) (omega arith) lt

-- ---- bytes in hexadecimal

plain-at : (digits : List ℕ) → has_no_lf digits ≡ true → (i : ℕ) → is_plain (slice_index digits i) ≡ true
plain-at [] h i = refl
plain-at (d ∷ ds) h zero = (and_true (is_plain d) (has_no_lf ds) h).0
plain-at (d ∷ ds) h (suc i) = plain-at ds (and_true (is_plain d) (has_no_lf ds) h).1 i

hex-plain : (bs : List ℕ) → has_no_lf (encode_lower bs) ≡ true
unfolding encode_with
hex-plain [] = refl
hex-plain (b ∷ bs) = rw (plain-at lower_digits refl (b / 16), plain-at lower_digits refl (b % 16), hex-plain bs) refl

-- the bytes of one read or write
octets-part : (bs : List ℕ) → is_octets bs ≡ true → IsPart 131072 (encode_lower bs)
octets-part bs h = record {
  plain = hex-plain bs;
  short = omega (arith, length-encode_with lower_digits bs, leb-true (length bs) 65536 (and_true (leb 1 (length bs)) (leb (length bs) 65536) h).1);
}

-- ---- calls

graphic-plain : (b : ℕ) → is_graphic b ≡ true → is_plain b ≡ true
graphic-plain b h = grind (arith, nat_tests)

name-part : (name : List ℕ) → is_name name ≡ true → IsPart 1023 name
name-part name h =
    let ends = and_true (list_all is_graphic name && leb 1 (length name)) (leb (length name) 1023) h in
    record {
      plain = list_all-weaker is_graphic is_plain graphic-plain name (and_true (list_all is_graphic name) (leb 1 (length name)) ends.0).0;
      short = leb-true (length name) 1023 ends.1;
    }

in-range : (kind : Numeral) (n : ℕ) → is_in kind n ≡ true → n < 2 ^ 64
in-range Number n h = ltb-true n (2 ^ 64) h
in-range _ n h = grind (arith, nat_tests)

owner-small : (o : Owner) → is_sound_owner o ≡ true → owner_number o < 2 ^ 64
owner-small Root h = omega arith
owner-small (Of x) h = ltb-true x.0 (2 ^ 64) (and_true (ltb 0 x.0) (is_number x.0) h).1

-- so many bytes at most has the text of a field
abbrev most_of : Field → ℕ
most_of (SomeBytes bytes) = 131072
most_of f = 1023

field-part : (f : Field) → is_sound_field Two f ≡ true → IsPart (most_of f) (field_text f)
field-part (AnOwner o) h = longer 20 1023 (decimal (owner_number o)) (omega arith) (number-part (owner_number o) (owner-small o h))
field-part (AnObject x) h = longer 20 1023 (decimal x.0) (omega arith) (number-part x.0 (ltb-true x.0 (2 ^ 64) h))
field-part (ANumeral kind n) h = longer 20 1023 (decimal n) (omega arith) (number-part n (in-range kind n h))
field-part (AName name) h = name-part name h
field-part (SomeBytes bytes) h = octets-part bytes h
field-part (TheContext x) h = longer 20 1023 (decimal x.0) (omega arith) (number-part x.0 (ltb-true x.0 (2 ^ 64) h))

-- the same of fields, each with a space before it
abbrev most_of_all : List Field → ℕ
most_of_all [] = 0
most_of_all (f ∷ fs) = 1 + most_of f + most_of_all fs

abbrev fields_text : List Field → List ℕ
fields_text fs = flat_map (λ f. codes " " ++ field_text f) fs

sound-parts : (f : Field) (fs : List Field) → all_sound Two (f ∷ fs) ≡ true → (is_sound_field Two f ≡ true) × (all_sound Two fs ≡ true)
sound-parts f [] h = (h, refl)
sound-parts f (g ∷ fs) h = and_true (is_sound_field Two f) (all_sound Two (g ∷ fs)) h

space : IsPart 1 (codes " ")
space = record { plain = refl; short = omega arith }

fields-part : (fs : List Field) → all_sound Two fs ≡ true → IsPart (most_of_all fs) (fields_text fs)
fields-part [] h = record { plain = refl; short = omega arith }
fields-part (f ∷ fs) h =
    let s = sound-parts f fs h in
    together (1 + most_of f) (most_of_all fs) (codes " " ++ field_text f) (fields_text fs)
    (together 1 (most_of f) (codes " ") (field_text f) space (field-part f s.0)) (fields-part fs s.1)

verb-plain : (c : Call) → has_no_lf (spelling Two c).verb ≡ true
verb-plain (Free x) = refl
verb-plain _ = refl

-- the text of a call has so many: bytes stand in one field of it at most
abbrev most_of_call : ℕ
most_of_call = 140000

call-short : (c : Call) → leb (length (spelling Two c).verb + most_of_all (spelling Two c).fields) most_of_call ≡ true
call-short (Free x) = refl
call-short _ = refl

call-part : (c : Call) → is_sound_call c ≡ true → IsPart most_of_call (call_text Two c)
unfolding call_text
call-part c h =
    let verb : List ℕ = (spelling Two c).verb in
    let most : ℕ = most_of_all (spelling Two c).fields in
    longer (length verb + most) most_of_call (verb ++ fields_text (spelling Two c).fields) (leb-true (length verb + most) most_of_call (call-short c))
    (together (length verb) most verb (fields_text (spelling Two c).fields) (record { plain = verb-plain c; short = omega arith }) (fields-part (spelling Two c).fields (sound_fields Two Two c h)))

-- ---- descriptors that are ready

want-part : (w : Want) → is_want w ≡ true → IsPart 13 (want_text w)
want-part w h =
    let both = and_true (ltb w.fd (2 ^ 32)) (has_flags w) h in
    let low = ltb-true w.fd (2 ^ 32) both.0 in
    let few = leb-true w.flags 3 (and_true (leb 1 w.flags) (leb w.flags 3) both.1).1 in
    together 12 1 (codes " " ++ decimal w.fd ++ codes ":") (decimal w.flags)
    (together 11 1 (codes " " ++ decimal w.fd) (codes ":")
    (together 1 10 (codes " ") (decimal w.fd) space (decimal-part 10 w.fd (omega arith) (omega (arith, low)) (omega (arith, low))))
    (record { plain = refl; short = omega arith }))
    (decimal-part 1 w.flags (omega arith) (omega (arith, few)) (omega (arith, few)))

pub wants-part : (ws : List Want) → list_all is_want ws ≡ true → IsPart (13 * length ws) (wants_text ws)
wants-part [] h = record { plain = refl; short = omega arith }
wants-part (w ∷ ws) h =
    let both = and_true (is_want w) (list_all is_want ws) h in
    longer (13 + 13 * length ws) (13 * length (w ∷ ws)) (want_text w ++ wants_text ws) (omega arith)
    (together 13 (13 * length ws) (want_text w) (wants_text ws) (want-part w both.0) (wants-part ws both.1))

-- ---- inputs

-- a word, and then a part
behind : (few : ℕ) (word text : List ℕ) → has_no_lf word ≡ true → length word ≤ 6 → few + 6 ≤ line_limit → IsPart few text → IsPart line_limit (word ++ text)
behind few word text plain short le part = longer (6 + few) line_limit (word ++ text) (omega arith) (together 6 few word text (record { plain = plain; short = short }) part)

-- ---- answers whose lines are lines of a schedule

pub record HasLine (i : Input) : Type 0 where
  pub sound : is_sound i ≡ true
  pub bytes : input_has_bytes i ≡ true
  pub short : is_short i ≡ true

abbrev pub AllHaveLines : List Input → Type 0
AllHaveLines [] = Unit {0}
AllHaveLines (i ∷ is) = HasLine i × AllHaveLines is

pub all-have : (is : List Input) → list_all has_ranges is ≡ true → list_all is_short is ≡ true → AllHaveLines is
all-have [] ranges short = tt
all-have (i ∷ is) ranges short =
    let r = and_true (has_ranges i) (list_all has_ranges is) ranges in
    let s = and_true (is_short i) (list_all is_short is) short in
    let b = and_true (is_sound i) (input_has_bytes i) r.0 in
    (record { sound = b.0; bytes = b.1; short = s.0 }, all-have is r.1 s.1)

pub line-part : (i : Input) → HasLine i → IsPart line_limit (line_of Two i)
line-part (inputs.Call c) h = behind most_of_call (codes "call ") (call_text Two c) refl (omega arith) (omega arith) (call-part c h.sound)
line-part (inputs.Act (acts.Do c)) h = behind most_of_call (codes "act ") (call_text Two c) refl (omega arith) (omega arith) (call-part c h.sound)
line-part (inputs.Act (acts.Ret value)) h = behind 20 (codes "ret ") (decimal value) refl (omega arith) (omega arith) (number-part value (omega (arith, ltb-true value (2 ^ 32) h.sound)))
line-part (inputs.Clock now) h = behind 20 (codes "clock ") (decimal now) refl (omega arith) (omega arith) (number-part now (omega (arith, leb-true now (2 ^ 62) h.sound)))
line-part (inputs.Ready wants) h =
    behind (13 * length wants) (codes "ready") (wants_text wants) refl (omega arith) (omega (arith, leb-true (length wants) ready_limit h.short))
    (wants-part wants (and_true (list_all is_want wants) (rises wants) h.sound).0)
line-part (inputs.Took fd) h = behind 20 (codes "took ") (decimal fd) refl (omega arith) (omega arith) (number-part fd (omega (arith, ltb-true fd (2 ^ 32) (and_true (ltb 0 fd) (ltb fd (2 ^ 32)) h.sound).1)))
line-part (inputs.Got bytes) h = behind 131072 (codes "got ") (encode_lower bytes) refl (omega arith) (omega arith) (octets-part bytes h.sound)
line-part (inputs.Wrote n) h = behind 20 (codes "wrote ") (decimal n) refl (omega arith) (omega arith) (number-part n (omega (arith, leb-true n 65536 (and_true (leb 1 n) (leb n 65536) h.sound).1)))
line-part _ h = record { plain = refl; short = omega arith }

-- it has no LF, however many descriptors it names
pub line-plain : (i : Input) → is_sound i ≡ true → input_has_bytes i ≡ true → has_no_lf (line_of Two i) ≡ true
line-plain (inputs.Ready wants) sound has = plain_append (codes "ready") (wants_text wants) refl (wants-part wants (and_true (list_all is_want wants) (rises wants) sound).0).plain
line-plain (inputs.Call c) sound has = (line-part (inputs.Call c) (record { sound = sound; bytes = has; short = refl })).plain
line-plain (inputs.Act act) sound has = (line-part (inputs.Act act) (record { sound = sound; bytes = has; short = refl })).plain
line-plain (inputs.Clock now) sound has = (line-part (inputs.Clock now) (record { sound = sound; bytes = has; short = refl })).plain
line-plain (inputs.Took fd) sound has = (line-part (inputs.Took fd) (record { sound = sound; bytes = has; short = refl })).plain
line-plain (inputs.Got bytes) sound has = (line-part (inputs.Got bytes) (record { sound = sound; bytes = has; short = refl })).plain
line-plain (inputs.Wrote n) sound has = (line-part (inputs.Wrote n) (record { sound = sound; bytes = has; short = refl })).plain
line-plain _ sound has = refl
