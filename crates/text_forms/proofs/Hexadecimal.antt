-- Bytes in hexadecimal: their spelling, both ways.
use Rattle.std.proofs.Common.{◌≡◌, ℕ, zero, suc, ◌<◌, ◌/◌, ◌%◌, Bool, true, ltb, eqb, not, ◌&&◌, List, [], ◌∷◌, slice_index, Some, Result, Ok, Err, refl, sym, ap, ◌∙◌, arith}
use Rattle.std.specs.Str.{bytes_eq}
use Rattle.std.proofs.lemmas.Bool.{ltb-true}
use Rattle.std.proofs.lemmas.Bool.Decides.{nat_tests}
use Rattle.std.proofs.lemmas.Slice.Eq.{bytes_eq-Decides}
use Rattle.hex.specs.Hex.{IsBytes, lower_digits, encode_with, encode_lower, decode_of}
use Rattle.hex.specs.declared.error.FromHexError.{FromHexError}
use Rattle.hex.proofs.HexLemmas.{decode_of-encode_lower, decode_of-ok}
use Rattle.tree_specs.specs.Texts.Grammar.{if_spelled, octets_of}
use Rattle.tree_specs.specs.Words.Octets.{is_octets}
use Rattle.text_forms.specs.Bytes.{are_bytes}
use Rattle.text_forms.proofs.Bools.{and_true, taken_where}
use Rattle.text_forms.proofs.Fields.{IsField}
use Rattle.text_forms.proofs.Words.{is_unspaced}

-- ---- bytes

each_is_byte : (bs : List ℕ) → are_bytes bs ≡ true → IsBytes bs
each_is_byte [] h i = omega arith
each_is_byte (b ∷ bs) h zero = ltb-true b 256 (and_true (ltb b 256) (are_bytes bs) h).0
each_is_byte (b ∷ bs) h (suc i) = each_is_byte bs (and_true (ltb b 256) (are_bytes bs) h).1 i

pub are_bytes_from : (bs : List ℕ) → IsBytes bs → are_bytes bs ≡ true
are_bytes_from [] h = refl
are_bytes_from (b ∷ bs) h = rw (is_byte b (h 0), are_bytes_from bs (λ i. h (suc i))) refl
  where
    is_byte : (b : ℕ) → b < 256 → ltb b 256 ≡ true
    is_byte b lt = grind (arith, nat_tests)

-- ---- their spelling

digit_at : (digits : List ℕ) → is_unspaced digits ≡ true → (i : ℕ) → not (eqb (slice_index digits i) 32) ≡ true
digit_at [] h i = refl
digit_at (d ∷ ds) h zero = (and_true (not (eqb d 32)) (is_unspaced ds) h).0
digit_at (d ∷ ds) h (suc i) = digit_at ds (and_true (not (eqb d 32)) (is_unspaced ds) h).1 i

is_hex_word : (bs : List ℕ) → is_unspaced (encode_lower bs) ≡ true
unfolding encode_with
is_hex_word [] = refl
is_hex_word (b ∷ bs) = rw (digit_at lower_digits refl (b / 16), digit_at lower_digits refl (b % 16), is_hex_word bs) refl

-- the bytes of one read or write
abbrev pub is_sound_octets : List ℕ → Bool
is_sound_octets bs = is_octets bs && are_bytes bs

octets_spelled : (text bytes : List ℕ) → octets_of text ≡ Some bytes → (text ≡ encode_lower bytes) × (is_sound_octets bytes ≡ true)
unfolding octets_of
octets_spelled text bytes e = by_result (decode_of text) refl e
  where
    by_result : (r : Result (List ℕ) FromHexError) → decode_of text ≡ r → if_spelled text r ≡ Some bytes → (text ≡ encode_lower bytes) × (is_sound_octets bytes ≡ true)
    by_result (Err f) was e = absurd cc
    by_result (Ok found) was e =
        let taken = taken_where (λ bs. bytes_eq (encode_lower bs) text && is_octets bs) found bytes e in
        let both = and_true (bytes_eq (encode_lower bytes) text) (is_octets bytes) taken.1 in
        let are = are_bytes_from bytes (decode_of-ok text bytes (was ∙ ap Ok taken.0)).3 in
        (sym ((bytes_eq-Decides (encode_lower bytes) text).0 both.0), rw (both.1, are) refl)

octets_again : (bytes : List ℕ) → is_sound_octets bytes ≡ true → octets_of (encode_lower bytes) ≡ Some bytes
unfolding octets_of
octets_again bytes h =
    let both = and_true (is_octets bytes) (are_bytes bytes) h in
    rw (decode_of-encode_lower bytes (each_is_byte bytes both.1), (bytes_eq-Decides (encode_lower bytes) (encode_lower bytes)).1 refl, both.0) refl

pub octets_field : IsField octets_of encode_lower is_sound_octets
octets_field = record { spelled = octets_spelled; again = octets_again; is_word = λ bytes h. is_hex_word bytes }
