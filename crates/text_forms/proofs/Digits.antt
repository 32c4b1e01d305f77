-- Reading digits from the left.
use Rattle.std.proofs.Common.{◌≡◌, ℕ, zero, suc, ◌+◌, ◌*◌, ◌-◌, ◌^◌, ◌<◌, ◌≤◌, Bool, true, false, cond, ltb, ◌&&◌, List, [], ◌∷◌, ◌++◌, length, get_or, take, drop, Option, Some, None, refl, ap, subst, ◌∙◌, arith}
use Rattle.std.specs.Char.{is_ascii_digit, digit_value}
use Rattle.std.specs.Str.{all_ascii_digits}
use Rattle.std.specs.Str.Parse.{digits_value}
use Rattle.std.proofs.lemmas.Bool.Decides.{nat_tests}
use Rattle.std.proofs.lemmas.List.{take_more, take-take, take-append-drop}
use Rattle.std.proofs.lemmas.Int.Digits.{digits_value_more}
use Rattle.std.proofs.lemmas.Str.Parse.{digits_value-take-le}
use Rattle.std.proofs.lemmas.Bool.{le-ltb}
use Rattle.text_forms.proofs.Bools.{and_true}
use Rattle.text_forms.specs.Cursor.{digit_count, digits_at, leading_digits_of, number_at}
use Rattle.tree_specs.specs.Texts.Grammar.{is_short, number_of}

digit_value_is : (c : ℕ) → is_ascii_digit c ≡ true → digit_value c ≡ c - 48
digit_value_is c h = grind (arith, nat_tests)

pub digits_push : (ds : List ℕ) (c : ℕ) → all_ascii_digits ds ≡ true → is_ascii_digit c ≡ true → all_ascii_digits (ds ++ c ∷ []) ≡ true
digits_push [] c h d = rw d refl
digits_push (x ∷ ds) c h d = both_cons (is_ascii_digit x) (all_ascii_digits ds) (all_ascii_digits (ds ++ c ∷ [])) h (λ t. digits_push ds c t d)
  where
    both_cons : (a b e : Bool) → (a && b) ≡ true → (b ≡ true → e ≡ true) → (a && e) ≡ true
    both_cons true b e h f = f h
    both_cons false b e h f = h

-- all before this index are digits, and none stands at it
pub digit_count_is : (ds : List ℕ) (i : ℕ) → i ≤ length ds → all_ascii_digits (take i ds) ≡ true → (i < length ds → is_ascii_digit (get_or ds i 0) ≡ false) → digit_count ds ≡ i
digit_count_is [] zero le h stops = refl
digit_count_is [] (suc i) le h stops = absurd (omega (arith, le))
digit_count_is (x ∷ ds) zero le h stops = rw (stops (omega arith)) refl
digit_count_is (x ∷ ds) (suc i) le h stops =
    let parts = and_true (is_ascii_digit x) (all_ascii_digits (take i ds)) h in
    rw (parts.0, digit_count_is ds i (omega (arith, le)) parts.1 (λ lt. stops (omega (arith, lt)))) (omega arith)

-- all before this index are digits
digit_count-above : (ds : List ℕ) (i : ℕ) → i ≤ length ds → all_ascii_digits (take i ds) ≡ true → i ≤ digit_count ds
digit_count-above ds zero le h = omega arith
digit_count-above [] (suc i) le h = absurd (omega (arith, le))
digit_count-above (x ∷ ds) (suc i) le h =
    let parts = and_true (is_ascii_digit x) (all_ascii_digits (take i ds)) h in
    rw parts.0 (omega (arith, digit_count-above ds i (omega (arith, le)) parts.1))

suc_is : (n : ℕ) → suc n ≡ 1 + n
suc_is n = omega arith

-- what stands at the front are digits, and no digit follows them
pub are_digits : (ds : List ℕ) → all_ascii_digits (digits_at ds) ≡ true
are_digits [] = refl
are_digits (x ∷ ds) = by_test (is_ascii_digit x) refl (are_digits ds)
  where
    by_test : (b : Bool) → is_ascii_digit x ≡ b → all_ascii_digits (digits_at ds) ≡ true → all_ascii_digits (take (cond b (1 + digit_count ds) 0) (x ∷ ds)) ≡ true
    by_test true h later = subst (λ (k : ℕ). all_ascii_digits (take k (x ∷ ds)) ≡ true) (suc_is (digit_count ds)) (rw h later)
    by_test false h later = refl

-- no digit stands first
abbrev pub StartsOtherwise : List ℕ → Type 0
StartsOtherwise [] = Unit {0}
StartsOtherwise (b ∷ bs) = is_ascii_digit b ≡ false

pub ends_otherwise : (ds : List ℕ) → StartsOtherwise (drop (digit_count ds) ds)
ends_otherwise [] = tt
ends_otherwise (x ∷ ds) = by_test (is_ascii_digit x) refl (ends_otherwise ds)
  where
    by_test : (b : Bool) → is_ascii_digit x ≡ b → StartsOtherwise (drop (digit_count ds) ds) → StartsOtherwise (drop (cond b (1 + digit_count ds) 0) (x ∷ ds))
    by_test true h later = subst (λ (k : ℕ). StartsOtherwise (drop k (x ∷ ds))) (suc_is (digit_count ds)) later
    by_test false h later = h

pub digits-and-rest : (ds : List ℕ) → digits_at ds ++ drop (digit_count ds) ds ≡ ds
digits-and-rest ds = take-append-drop (digit_count ds) ds

pub grows_over : (ds : List ℕ) (i : ℕ) → i ≤ length ds → all_ascii_digits (take i ds) ≡ true → 2 ^ 64 ≤ digits_value 10 (take i ds) → None ≡ leading_digits_of ds
grows_over ds i le h large =
    let same : take i (digits_at ds) ≡ take i ds = take-take i (digit_count ds) ds (digit_count-above ds i le h) in
    let above : digits_value 10 (take i ds) ≤ digits_value 10 (digits_at ds) = rw (← same) (digits_value-take-le 10 (digits_at ds) i (omega arith)) in
    let more : ltb (digits_value 10 (digits_at ds)) (2 ^ 64) ≡ false = le-ltb _ _ (omega (arith, above, large)) in
    rw more refl

pub more_is : (ds : List ℕ) (i n : ℕ) → i < length ds → n ≡ digits_value 10 (take i ds) → is_ascii_digit (get_or ds i 0) ≡ true → digits_value 10 (take (i + 1) ds) ≡ n * 10 + (get_or ds i 0 - 48)
more_is ds i n lt e d = digits_value_more 10 ds i lt ∙ cc (digit_value_is (get_or ds i 0) d, e)

pub more_digits : (ds : List ℕ) (i : ℕ) → i < length ds → all_ascii_digits (take i ds) ≡ true → is_ascii_digit (get_or ds i 0) ≡ true → all_ascii_digits (take (i + 1) ds) ≡ true
more_digits ds i lt h d = rw (take_more ds i 0 lt) (digits_push (take i ds) (get_or ds i 0) h d)

pub digits_end : (ds : List ℕ) (i n : ℕ) → i ≤ length ds → n < 2 ^ 64 → n ≡ digits_value 10 (take i ds) → all_ascii_digits (take i ds) ≡ true → (i < length ds → is_ascii_digit (get_or ds i 0) ≡ false) → Some (n, i) ≡ leading_digits_of ds
digits_end ds i n le lt e h stops =
    let small : ltb n (2 ^ 64) ≡ true = grind (arith, nat_tests) in
    rw (digit_count_is ds i le h stops, ← e, small) refl

-- the digits at the front, where their value is small enough
abbrev digits_where : Bool → List ℕ → Option (ℕ × ℕ)
digits_where small text = cond small (Some (digits_value 10 (digits_at text), digit_count text)) None

same_pair : (p q : ℕ × ℕ) → Some p ≡ Some q → p ≡ q
same_pair p q e = cc

-- the digits that were read are a number where they have no zero before others
pub leading_is : (text : List ℕ) (n count : ℕ) → leading_digits_of text ≡ Some (n, count) → is_short (take count text) ≡ true → number_at text ≡ Some (n, drop count text)
unfolding number_at number_of
leading_is text n count found short = by_test (ltb (digits_value 10 (digits_at text)) (2 ^ 64)) refl found
  where
    by_test : (b : Bool) → ltb (digits_value 10 (digits_at text)) (2 ^ 64) ≡ b → digits_where b text ≡ Some (n, count) → number_at text ≡ Some (n, drop count text)
    by_test false h e = absurd cc
    by_test true h e =
        let both = same_pair (digits_value 10 (digits_at text), digit_count text) (n, count) e in
        let value : digits_value 10 (digits_at text) ≡ n = ap (λ (p : ℕ × ℕ). p.0) both in
        let counted : digit_count text ≡ count = ap (λ (p : ℕ × ℕ). p.1) both in
        let is : is_short (digits_at text) ≡ true = ap (λ (k : ℕ). is_short (take k text)) counted ∙ short in
        let number : number_of (digits_at text) ≡ Some n = rw (is, are_digits text, h) (ap Some value) in
        rw number (ap (λ (k : ℕ). Some (n, drop k text)) counted)
