-- The last of a lane, and the list that the neighbours tell.
use Rattle.std.proofs.Common.{◌≡◌, ◌↔◌, ℕ, zero, suc, ◌<◌, ◌≤◌, true, false, nat_eq, List, [], ◌∷◌, length, Option, Some, None, IsSome, refl, sym, ap, ◌∙◌, arith}
use Rattle.std.proofs.lemmas.Bool.{eqb-true}
use Rattle.std.specs.Option.{option_or}
use Rattle.linked_lanes.specs.Lane.{first, has, after, before_from, last, last_from, without, Distinct}
use Rattle.linked_lanes.specs.Chain.{Chain, sides_in, older_of, walk, last_left, head_left_by}
use Rattle.linked_lanes.specs.declared.Sides.{Sides}
use Rattle.linked_lanes.proofs.Lanes.{by_test, not_both, false_by, eqb-self}

-- ---- the last

last-without_from : (p : Option ℕ) (xs : List ℕ) (x : ℕ) → Distinct xs → has xs x ≡ true → last_from p (without xs x) ≡ head_left_by (after xs x) (before_from p xs x) (last_from p xs)
last-without_from p [] x d m = not_both m refl
last-without_from p (y ∷ ys) x d m = by_test (nat_eq y x)
    (λ t. rw t (at_front ys))
    (λ t. let m' : has ys x ≡ true = rw t at m in rw t (last-without_from (Some y) ys x d.1 m'))
  where
    at_front : (zs : List ℕ) → last_from p zs ≡ head_left_by (first zs) p (last_from (Some y) zs)
    at_front [] = refl
    at_front (z ∷ zs) = refl

-- the last once one has left
pub last-without : (xs : List ℕ) (x : ℕ) → Distinct xs → has xs x ≡ true → last (without xs x) ≡ last_left (last xs) (sides_in xs x)
last-without xs x d m = last-without_from None xs x d m

-- the last once one has joined at the front
pub last-joined : (x : ℕ) (xs : List ℕ) → last (x ∷ xs) ≡ option_or (last xs) (Some x)
last-joined x [] = refl
last-joined x (y ∷ ys) = sym (some y ys)
  where
    some : (y : ℕ) (ys : List ℕ) → option_or (last_from (Some y) ys) (Some x) ≡ last_from (Some y) ys
    some y [] = refl
    some y (z ∷ zs) = some z zs

-- the last is one of them
pub has-last_from : (y : ℕ) (ys : List ℕ) (x : ℕ) → last_from (Some y) ys ≡ Some x → has (y ∷ ys) x ≡ true
has-last_from y [] x e = let yx : y ≡ x = cc in rw yx (rw (eqb-self x) refl)
has-last_from y (z ∷ zs) x e = by_test (nat_eq y x) (λ t. rw t refl) (λ t. rw t (has-last_from z zs x e))

pub has-last : (xs : List ℕ) (x : ℕ) → last xs ≡ Some x → has xs x ≡ true
has-last [] x e = cc
has-last (y ∷ ys) x e = has-last_from y ys x e

pub no-last : (xs : List ℕ) → last xs ≡ None → xs ≡ []
no-last [] e = refl
no-last (y ∷ ys) e = absurd (go y ys e)
  where
    go : (y : ℕ) (ys : List ℕ) → last_from (Some y) ys ≡ None → ⊥
    go y [] e = cc
    go y (z ∷ zs) e = go z zs e

-- ---- whether there are ends

pub some-first : (xs : List ℕ) → IsSome (first xs) ↔ (0 < length xs)
some-first [] = (λ h. cc, λ h. absurd (omega (arith, h)))
some-first (x ∷ xs) = (λ h. omega arith, λ h. refl)

pub some-last : (xs : List ℕ) → IsSome (last xs) ↔ (0 < length xs)
some-last [] = (λ h. cc, λ h. absurd (omega (arith, h)))
some-last (x ∷ xs) = (λ h. omega arith, λ h. go x xs)
  where
    go : (x : ℕ) (xs : List ℕ) → IsSome (last_from (Some x) xs)
    go x [] = refl
    go x (y ∷ ys) = go y ys

-- ---- the list that the neighbours tell

-- each leads to the next
abbrev Leads : (ℕ → Option Sides) → List ℕ → Type 0
Leads C [] = Unit {0}
Leads C (x ∷ xs) = (older_of (C x) ≡ first xs) × Leads C xs

leads-walk : (C : ℕ → Option Sides) (n : ℕ) (xs : List ℕ) → length xs ≤ n → Leads C xs → walk C n (first xs) ≡ xs
leads-walk C zero [] h f = refl
leads-walk C (suc n) [] h f = refl
leads-walk C zero (x ∷ xs) h f = absurd (omega arith)
leads-walk C (suc n) (x ∷ xs) h f = ap (λ ys. x ∷ ys) (ap (walk C n) f.0 ∙ leads-walk C n xs (omega arith) f.1)

leads : (C : ℕ → Option Sides) (xs : List ℕ) → Distinct xs → ((q : ℕ) → has xs q ≡ true → older_of (C q) ≡ after xs q) → Leads C xs
leads C [] d h = tt
leads C (x ∷ xs) d h =
    let self = eqb-self x in (
      h x (rw self refl) ∙ rw self refl,
      leads C xs d.1 (λ q m.
          let n : nat_eq x q ≡ false = false_by _ (λ t. not_both m (ap (has xs) (sym (eqb-true x q t)) ∙ d.0)) in
          h q (rw n m) ∙ rw n refl),
    )

pub chain-walk : (C : ℕ → Option Sides) (head : Option ℕ) (n : ℕ) (xs : List ℕ) → Distinct xs → length xs ≤ n → Chain C head xs → walk C n head ≡ xs
chain-walk C head n xs d l c = ap (walk C n) c.at_head ∙ leads-walk C n xs l (leads C xs d (λ q m. ap older_of (c.sides q m)))
