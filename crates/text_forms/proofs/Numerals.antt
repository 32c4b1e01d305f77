-- Each number has one spelling.
use Rattle.std.proofs.Common.{◌≡◌, ℕ, zero, suc, ◌^◌, ◌<◌, Bool, true, false, cond, eqb, ltb, not, ◌&&◌, List, [], ◌∷◌, length, get_or, Some, None, refl, sym, ap, ◌∙◌, arith}
use Rattle.std.specs.Fmt.{decimal}
use Rattle.std.specs.Str.{all_ascii_digits}
use Rattle.std.specs.Str.Parse.{digits_value}
use Rattle.std.proofs.lemmas.Bool.{eqb-true, ltb-true}
use Rattle.std.proofs.lemmas.Bool.Decides.{nat_tests}
use Rattle.std.proofs.lemmas.Str.Parse.{IsNumeralModel, numerals_by_value, tells_all_ascii_digits}
use Rattle.std.proofs.lemmas.Fmt.{decimal-digits_value, digits_decimal, digits_value-decimal, decimal_nonempty, first_decimal, decimal_digit}
use Rattle.tree_specs.specs.Texts.Grammar.{number_of, is_decimal, is_short}
use Rattle.text_forms.proofs.Bools.{and_true}

own : IsNumeralModel (λ ds. all_ascii_digits ds ≡ true) (digits_value 10)
own = numerals_by_value (λ ds. all_ascii_digits ds ≡ true) tells_all_ascii_digits

short_is : (ds : List ℕ) → is_short ds ≡ true → (0 < length ds) × (get_or ds 0 0 ≡ 48 → length ds ≡ 1)
short_is [] h = absurd cc
short_is (d ∷ []) h = (omega arith, λ e. refl)
short_is (d ∷ e ∷ ds) h = (omega arith, λ same. absurd (zero_first d h same))
  where
    zero_first : (x : ℕ) → not (eqb x 48) ≡ true → x ≡ 48 → ⊥
    zero_first x h e = grind (arith, nat_tests)

is_short_from : (ds : List ℕ) → 0 < length ds → (get_or ds 0 0 ≡ 48 → length ds ≡ 1) → is_short ds ≡ true
is_short_from [] lt h = absurd (omega arith)
is_short_from (d ∷ []) lt h = refl
is_short_from (d ∷ e ∷ ds) lt h = by_test (eqb d 48) refl
  where
    by_test : (b : Bool) → eqb d 48 ≡ b → not b ≡ true
    by_test true t = absurd (omega (arith, h (eqb-true d 48 t)))
    by_test false t = refl

pub number_spelled : (ds : List ℕ) (n : ℕ) → number_of ds ≡ Some n → (ds ≡ decimal n) × (n < 2 ^ 64)
unfolding number_of
number_spelled ds n e = by_test (is_decimal ds) refl e
  where
    by_test : (b : Bool) → is_decimal ds ≡ b → cond b (Some (digits_value 10 ds)) None ≡ Some n → (ds ≡ decimal n) × (n < 2 ^ 64)
    by_test false h f = absurd cc
    by_test true h f =
        let a = and_true (is_short ds) (all_ascii_digits ds && ltb (digits_value 10 ds) (2 ^ 64)) h in
        let b = and_true (all_ascii_digits ds) (ltb (digits_value 10 ds) (2 ^ 64)) a.1 in
        let s = short_is ds a.0 in
        let value : digits_value 10 ds ≡ n = cc in
        let low : digits_value 10 ds < 2 ^ 64 = ltb-true _ _ b.1 in
        (sym (decimal-digits_value own ds b.0 s.0 s.1 low) ∙ ap decimal value, omega (arith, value, low))

one_digit : (n : ℕ) → n < 2 ^ 64 → get_or (decimal n) 0 0 ≡ 48 → length (decimal n) ≡ 1
one_digit zero lt e = ap length (decimal_digit 0 (omega arith))
one_digit (suc n) lt e = absurd (omega (arith, first_decimal (suc n) (omega arith) lt))

pub number_again : (n : ℕ) → n < 2 ^ 64 → number_of (decimal n) ≡ Some n
unfolding number_of
number_again n lt =
    let short : is_short (decimal n) ≡ true = is_short_from (decimal n) (decimal_nonempty n lt) (one_digit n lt) in
    let value : digits_value 10 (decimal n) ≡ n = digits_value-decimal own n lt in
    let low : ltb n (2 ^ 64) ≡ true = grind (arith, nat_tests) in
    rw (short, digits_decimal own n lt, value, low) refl

pub decimal_digits : (n : ℕ) → n < 2 ^ 64 → all_ascii_digits (decimal n) ≡ true
decimal_digits n lt = digits_decimal own n lt
