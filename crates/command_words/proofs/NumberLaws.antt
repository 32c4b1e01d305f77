-- A number that is read of an argument's text.
use Rattle.std.proofs.Common.{◌≡◌, ◌≤◌, ◌<◌, ◌^◌, ◌&&◌, ℕ, Bool, true, false, cond, leb, List, Option, Some, None, Result, Ok, Err, refl, sym, ap, ◌∙◌, arith, true≢false}
use Rattle.std.specs.Prelude.{option_and_then}
use Rattle.std.specs.Str.Parse.{ParsesUnsigned, IsNumeral, digits_value, without_leading_plus}
use Rattle.std.proofs.lemmas.Bool.{leb-true, le-leb}
use Rattle.clap.specs.Words.{ReadsOne, Text, one_text, rows_of}
use Rattle.clap.specs.ValueTests.{is_unsigned_in}
use Rattle.clap.specs.declared.builder.value_parser.ValueParser.TheVariants as parsers
use Rattle.clap.specs.declared.parser.matches.Found.{Found}
use Rattle.clap.proofs.ValueTestLemmas.{accepts-Accepts, Accepts-accepts}
use Rattle.clap.proofs.WalkLemmas.{both, one_text-rows}
use Rattle.command_words.specs.CommandLine.{number_if, number_in}

-- the number is one from this one to that one
abbrev pub is_between : ℕ → ℕ → ℕ → Bool
is_between least most n = leb least n && leb n most

-- such a number is kept
abbrev pub kept : ℕ → ℕ → Option ℕ → Option ℕ
kept least most None = None
kept least most (Some n) = cond (is_between least most n) (Some n) None

-- the digits of a text, and their number
abbrev digits_of : Text → List ℕ
digits_of text = without_leading_plus text

-- the text is a number from this one to that one
pub is_within : (least most : ℕ) (text : Text) → most < 2 ^ 32 → IsNumeral 10 (digits_of text)
    → least ≤ digits_value 10 (digits_of text) → digits_value 10 (digits_of text) ≤ most
    → is_unsigned_in least most text ≡ true
is_within least most text small numeral ge le =
    Accepts-accepts false (parsers.Unsigned least most) text (numeral, omega arith, ge, le)

pub within : (least most : ℕ) (text : Text) → is_unsigned_in least most text ≡ true
    → IsNumeral 10 (digits_of text) × (least ≤ digits_value 10 (digits_of text)) × (digits_value 10 (digits_of text) ≤ most)
within least most text e =
    let a = accepts-Accepts false (parsers.Unsigned least most) text e in (a.0, a.2, a.3)

pub by_test : {G : Type 0} (b : Bool) → (b ≡ true → G) → (b ≡ false → G) → G
by_test true holds fails = holds refl
by_test false holds fails = fails refl

pub between : (least most n : ℕ) → least ≤ n → n ≤ most → is_between least most n ≡ true
between least most n ge le = rw (le-leb least n ge, le-leb n most le) refl

-- a number that isn't from this one to that one is below or beyond
is_outside : (least most n : ℕ) → is_between least most n ≡ false → least ≤ n → n ≤ most → ⊥
is_outside least most n e ge le = let is = between least most n ge le in absurd (true≢false (sym is ∙ e))

of_number : (least most n : ℕ) (text : Text) → most < 2 ^ 32 → IsNumeral 10 (digits_of text)
    → n ≡ digits_value 10 (digits_of text)
    → number_if (is_unsigned_in least most text) text ≡ cond (is_between least most n) (Some n) None
of_number least most n text small numeral value = by_test (is_between least most n)
    (λ t.
    let parts = both (leb least n) (leb n most) t in
    let ge = leb-true least n parts.0 in
    let le = leb-true n most parts.1 in
    let is = is_within least most text small numeral (omega (arith, value, ge)) (omega (arith, value, le)) in
    rw (is, t, value) refl)
    (λ t. by_test (is_unsigned_in least most text)
    (λ is.
    let w = within least most text is in
    absurd (is_outside least most n t (omega (arith, value, w.1)) (omega (arith, value, w.2))))
    (λ is. rw (is, t) refl))

of_text : {E : Type 0} (gives : List ℕ → Result ℕ E → Type 0)
    → ((bs : List ℕ) (r : Result ℕ E) → gives bs r → ParsesUnsigned 32 10 bs r)
    → (least most : ℕ) → most < 2 ^ 32
    → (text : Option Text) (r : Option ℕ) → (text ≡ None → r ≡ None) → ((t : Text) → text ≡ Some t → ReadsOne gives t r)
    → option_and_then (λ t. number_if (is_unsigned_in least most t) t) text ≡ kept least most r
of_text gives parses least most small None r none value = rw (none refl) refl
of_text gives parses least most small (Some t) (Some n) none value =
    let p = parses t (Ok n) (value t refl) in
    of_number least most n t small p.0.0 p.1
of_text gives parses least most small (Some t) None none value =
    let g = value t refl in
    let p = parses t (Err g.0) g.1 in
    by_test (is_unsigned_in least most t)
    (λ is. let w = within least most t is in absurd (p (w.0, omega (arith, w.2))))
    (λ is. rw is refl)

-- what an argument's matches say is what its rows say
pub number_of_rows : {E : Type 0} (gives : List ℕ → Result ℕ E → Type 0)
    → ((bs : List ℕ) (r : Result ℕ E) → gives bs r → ParsesUnsigned 32 10 bs r)
    → (least most : ℕ) → most < 2 ^ 32 → (name : Text) (f : Found) (r : Option ℕ)
    → (one_text f name ≡ None → r ≡ None) → ((t : Text) → one_text f name ≡ Some t → ReadsOne gives t r)
    → number_in least most name (rows_of f) ≡ kept least most r
number_of_rows gives parses least most small name f r none value =
    ap (option_and_then (λ t. number_if (is_unsigned_in least most t) t)) (sym (one_text-rows f name))
    ∙ of_text gives parses least most small (one_text f name) r none value
