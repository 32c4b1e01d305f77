-- Bytes in hexadecimal are told by their digits.
use Rattle.std.proofs.Common.{◌≡◌, ℕ, zero, suc, ◌+◌, ◌-◌, ◌*◌, ◌/◌, ◌%◌, ◌<◌, ◌≤◌, Bool, true, false, eqb, ltb, leb, ◌&&◌, cond, List, [], ◌∷◌, length, slice_index, Option, Some, None, refl, sym, ap, ◌∙◌, arith}
use Rattle.std.specs.List.{list_all}
use Rattle.std.specs.Option.{is_some}
use Rattle.std.proofs.lemmas.Bool.{ltb-true}
use Rattle.std.proofs.lemmas.Bool.Decides.{nat_tests}
use Rattle.hex.specs.Hex.{lower_digits, encode_with, encode_lower}
use Rattle.hex.proofs.HexLemmas.{length-encode_with}
use Rattle.tree_specs.specs.Texts.Grammar.{octets_of}
use Rattle.tree_specs.specs.Words.Octets.{is_octets}
use Rattle.text_forms.specs.Bytes.{are_bytes}
use Rattle.text_forms.proofs.Bools.{and_true}
use Rattle.text_forms.proofs.Hexadecimal.{is_sound_octets, octets_field}
use Rattle.transcript_lines.specs.Digits.{is_digit, is_hexadecimal}

-- ---- one digit

-- the digit of a value below 16
abbrev digit_of : ℕ → ℕ
digit_of k = cond (ltb k 10) (k + 48) (k + 87)

abbrev value_of : ℕ → ℕ
value_of d = cond (leb d 57) (d - 48) (d - 87)

table_at : (k : ℕ) → k < 16 → slice_index lower_digits k ≡ digit_of k
table_at zero lt = refl
table_at (suc zero) lt = refl
table_at (suc (suc zero)) lt = refl
table_at (suc (suc (suc zero))) lt = refl
table_at (suc (suc (suc (suc zero)))) lt = refl
table_at (suc (suc (suc (suc (suc zero))))) lt = refl
table_at (suc (suc (suc (suc (suc (suc zero)))))) lt = refl
table_at (suc (suc (suc (suc (suc (suc (suc zero))))))) lt = refl
table_at (suc (suc (suc (suc (suc (suc (suc (suc zero)))))))) lt = refl
table_at (suc (suc (suc (suc (suc (suc (suc (suc (suc zero))))))))) lt = refl
table_at (suc (suc (suc (suc (suc (suc (suc (suc (suc (suc zero)))))))))) lt = refl
table_at (suc (suc (suc (suc (suc (suc (suc (suc (suc (suc (suc zero))))))))))) lt = refl
table_at (suc (suc (suc (suc (suc (suc (suc (suc (suc (suc (suc (suc zero)))))))))))) lt = refl
table_at (suc (suc (suc (suc (suc (suc (suc (suc (suc (suc (suc (suc (suc zero))))))))))))) lt = refl
table_at (suc (suc (suc (suc (suc (suc (suc (suc (suc (suc (suc (suc (suc (suc zero)))))))))))))) lt = refl
table_at (suc (suc (suc (suc (suc (suc (suc (suc (suc (suc (suc (suc (suc (suc (suc zero))))))))))))))) lt = refl
table_at (suc (suc (suc (suc (suc (suc (suc (suc (suc (suc (suc (suc (suc (suc (suc (suc n)))))))))))))))) lt = absurd (omega (arith, lt))

digit_is : (k : ℕ) → k < 16 → is_digit (digit_of k) ≡ true
digit_is k lt = by_test (ltb k 10) refl
  where
    by_test : (b : Bool) → ltb k 10 ≡ b → is_digit (cond b (k + 48) (k + 87)) ≡ true
    by_test true h = grind (arith, nat_tests)
    by_test false h = grind (arith, nat_tests)

value_is : (d : ℕ) → is_digit d ≡ true → (value_of d < 16) × (digit_of (value_of d) ≡ d)
value_is d h = by_test (leb d 57) refl
  where
    by_test : (b : Bool) → leb d 57 ≡ b → (cond b (d - 48) (d - 87) < 16) × (digit_of (cond b (d - 48) (d - 87)) ≡ d)
    by_test true e = (grind (arith, nat_tests), grind (arith, nat_tests))
    by_test false e = (grind (arith, nat_tests), grind (arith, nat_tests))

-- ---- the digits of bytes are digits

low_half : (b : ℕ) → b % 16 < 16
low_half b = omega arith

high_half : (b : ℕ) → ltb b 256 ≡ true → b / 16 < 16
high_half b h = let lt = ltb-true b 256 h in omega (arith, lt)

digits_are : (bytes : List ℕ) → are_bytes bytes ≡ true → list_all is_digit (encode_lower bytes) ≡ true
unfolding encode_with
digits_are [] h = refl
digits_are (b ∷ bytes) h =
    let parts = and_true (ltb b 256) (are_bytes bytes) h in
    rw (table_at (b / 16) (high_half b parts.0), table_at (b % 16) (low_half b), digit_is (b / 16) (high_half b parts.0), digit_is (b % 16) (low_half b), digits_are bytes parts.1) refl

-- ---- digits, two by two, are the digits of bytes

bytes_of : List ℕ → List ℕ
bytes_of (high ∷ low ∷ text) = (value_of high * 16 + value_of low) ∷ bytes_of text
bytes_of text = []

record Pairs (text : List ℕ) : Type 0 where
  spelled : encode_lower (bytes_of text) ≡ text
  are : are_bytes (bytes_of text) ≡ true
  twice : 2 * length (bytes_of text) ≡ length text

halves : (a b : ℕ) → b < 16 → ((a * 16 + b) / 16 ≡ a) × ((a * 16 + b) % 16 ≡ b)
halves a b lt = (omega (arith, lt), omega (arith, lt))

is_byte : (a b : ℕ) → a < 16 → b < 16 → ltb (a * 16 + b) 256 ≡ true
is_byte a b la lb = grind (arith, nat_tests)

less_two : (n : ℕ) → suc (suc n) % 2 ≡ 0 → n % 2 ≡ 0
less_two n h = omega (arith, h)

pairs : (text : List ℕ) → list_all is_digit text ≡ true → length text % 2 ≡ 0 → Pairs text
unfolding bytes_of encode_with
pairs [] h even = record { spelled = refl; are = refl; twice = refl }
pairs (d ∷ []) h even = absurd (omega (arith, even))
pairs (high ∷ low ∷ text) h even =
    let one = and_true (is_digit high) (list_all is_digit (low ∷ text)) h in
    let two = and_true (is_digit low) (list_all is_digit text) one.1 in
    let rest = pairs text two.1 (less_two (length text) even) in
    let a = value_is high one.0 in
    let b = value_is low two.0 in
    let half = halves (value_of high) (value_of low) b.0 in
    record {
      spelled = rw (half.0, half.1, table_at (value_of high) a.0, table_at (value_of low) b.0, a.1, b.1, rest.spelled) refl;
      are = rw (is_byte (value_of high) (value_of low) a.0 b.0, rest.are) refl;
      twice = omega (arith, rest.twice);
    }

-- ---- the two tests

-- both tests pass, or neither
same_test : (a b : Bool) → (a ≡ true → b ≡ true) → (b ≡ true → a ≡ true) → a ≡ b
same_test true b there back = sym (there refl)
same_test false true there back = back refl
same_test false false there back = refl

some_is : {A : Type 0} (o : Option A) → is_some o ≡ true → (x : A) × (o ≡ Some x)
some_is (Some x) h = (x, refl)
some_is None h = absurd cc

short_enough : (n : ℕ) → 1 ≤ n → n ≤ 65536 → (eqb ((2 * n) % 2) 0 ≡ true) × (leb 2 (2 * n) ≡ true) × (leb (2 * n) 131072 ≡ true)
short_enough n some short = (let e : (2 * n) % 2 ≡ 0 = omega arith in rw e refl, grind (arith, nat_tests), grind (arith, nat_tests))

octets_short : (bytes : List ℕ) → is_octets bytes ≡ true → (1 ≤ length bytes) × (length bytes ≤ 65536)
octets_short bytes h =
    let parts = and_true (leb 1 (length bytes)) (leb (length bytes) 65536) h in
    (grind (arith, nat_tests), grind (arith, nat_tests))

from_octets : (text : List ℕ) → is_some (octets_of text) ≡ true → is_hexadecimal text ≡ true
from_octets text h =
    let found = some_is (octets_of text) h in
    let spelled = octets_field.spelled text found.0 found.1 in
    let sound = and_true (is_octets found.0) (are_bytes found.0) spelled.1 in
    let short = octets_short found.0 sound.0 in
    let enough = short_enough (length found.0) short.0 short.1 in
    rw (spelled.0, digits_are found.0 sound.1, length-encode_with lower_digits found.0, enough.0, enough.1, enough.2) refl

within : (n m : ℕ) → 2 * n ≡ m → leb 2 m ≡ true → leb m 131072 ≡ true → (leb 1 n ≡ true) × (leb n 65536 ≡ true)
within n m twice some short = (grind (arith, nat_tests), grind (arith, nat_tests))

even_is : (n : ℕ) → eqb (n % 2) 0 ≡ true → n % 2 ≡ 0
even_is n h = grind (arith, nat_tests)

to_octets : (text : List ℕ) → is_hexadecimal text ≡ true → is_some (octets_of text) ≡ true
to_octets text h =
    let n = length text in
    let four = and_true (list_all is_digit text && eqb (n % 2) 0 && leb 2 n) (leb n 131072) h in
    let three = and_true (list_all is_digit text && eqb (n % 2) 0) (leb 2 n) four.0 in
    let two = and_true (list_all is_digit text) (eqb (n % 2) 0) three.0 in
    let p = pairs text two.0 (even_is n two.1) in
    let w = within (length (bytes_of text)) n p.twice three.1 four.1 in
    let sound : is_sound_octets (bytes_of text) ≡ true = rw (w.0, w.1, p.are) refl in
    ap is_some (sym (ap octets_of p.spelled) ∙ octets_field.again (bytes_of text) sound)

pub octets_are : (text : List ℕ) → is_some (octets_of text) ≡ is_hexadecimal text
octets_are text = same_test (is_some (octets_of text)) (is_hexadecimal text) (from_octets text) (to_octets text)
