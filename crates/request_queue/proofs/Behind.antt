-- A lane with one more behind all others.
use Rattle.std.proofs.Common.{◌≡◌, ℕ, suc, Bool, true, false, ◌||◌, nat_eq, List, [], ◌∷◌, ◌++◌, length, Option, Some, refl, ap, ◌∙◌}
use Rattle.linked_lanes.specs.Lane.{has, last_from, without, Distinct}
use Rattle.linked_lanes.proofs.Lanes.{by_test, eqb-sym}

or-right : (b c : Bool) → c ≡ true → (b || c) ≡ true
or-right true c e = refl
or-right false c e = e

or-left : (b c : Bool) → c ≡ false → (b || c) ≡ b
or-left true c e = refl
or-left false c e = e

has-behind : (xs : List ℕ) (y k : ℕ) → has (xs ++ y ∷ []) k ≡ (has xs k || nat_eq y k)
has-behind [] y k = by_test (nat_eq y k) (λ t. rw t refl) (λ t. rw t refl)
has-behind (x ∷ xs) y k = by_test (nat_eq x k) (λ t. rw t refl) (λ t. rw t (has-behind xs y k))

pub has-last-one : (xs : List ℕ) (y k : ℕ) → nat_eq y k ≡ true → has (xs ++ y ∷ []) k ≡ true
has-last-one xs y k e = has-behind xs y k ∙ or-right (has xs k) (nat_eq y k) e

pub has-another : (xs : List ℕ) (y k : ℕ) → nat_eq y k ≡ false → has (xs ++ y ∷ []) k ≡ has xs k
has-another xs y k e = has-behind xs y k ∙ or-left (has xs k) (nat_eq y k) e

pub distinct-behind : (xs : List ℕ) (y : ℕ) → Distinct xs → has xs y ≡ false → Distinct (xs ++ y ∷ [])
distinct-behind [] y d n = (refl, tt)
distinct-behind (x ∷ xs) y d n = by_test (nat_eq x y)
    (λ t. let bad : true ≡ false = rw t at n in cc)
    (λ t. let n' : has xs y ≡ false = rw t at n in (has-another xs y x (flipped t) ∙ d.0, distinct-behind xs y d.1 n'))
  where
    flipped : nat_eq x y ≡ false → nat_eq y x ≡ false
    flipped t = eqb-sym y x ∙ t

-- the one behind all others leaves
pub without-last : (xs : List ℕ) (y k : ℕ) → nat_eq y k ≡ true → has xs k ≡ false → without (xs ++ y ∷ []) k ≡ xs
without-last [] y k e n = rw e refl
without-last (x ∷ xs) y k e n = by_test (nat_eq x k)
    (λ t. let bad : true ≡ false = rw t at n in cc)
    (λ t. let n' : has xs k ≡ false = rw t at n in rw t (ap (λ ys. x ∷ ys) (without-last xs y k e n')))

pub without-another : (xs : List ℕ) (y k : ℕ) → nat_eq y k ≡ false → without (xs ++ y ∷ []) k ≡ without xs k ++ y ∷ []
without-another [] y k e = rw e refl
without-another (x ∷ xs) y k e = by_test (nat_eq x k) (λ t. rw t refl) (λ t. rw t (ap (λ ys. x ∷ ys) (without-another xs y k e)))

pub last-behind : (p : Option ℕ) (xs : List ℕ) (y : ℕ) → last_from p (xs ++ y ∷ []) ≡ Some y
last-behind p [] y = refl
last-behind p (x ∷ xs) y = last-behind (Some x) xs y

pub length-behind : (xs : List ℕ) (y : ℕ) → length (xs ++ y ∷ []) ≡ suc (length xs)
length-behind [] y = refl
length-behind (x ∷ xs) y = ap suc (length-behind xs y)
