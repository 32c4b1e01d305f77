-- What it says that a test passes.
use Rattle.std.proofs.Common.{◌≡◌, ℕ, Bool, true, false, not, ◌&&◌, cond, List, [], ◌∷◌, Some, None, refl, sym, ap, ◌∙◌}
use Rattle.std.specs.List.{list_all}

pub and_true : (a b : Bool) → (a && b) ≡ true → (a ≡ true) × (b ≡ true)
and_true true b e = (refl, e)
and_true false b e = absurd cc

pub both_true : (a b : Bool) → a ≡ true → b ≡ true → (a && b) ≡ true
both_true a b h k = rw (h, k) refl

pub not_true : (b : Bool) → not b ≡ true → b ≡ false
not_true true e = absurd cc
not_true false e = refl

-- a value that is taken where a test passes
pub taken_where : {A : Type 0} (test : A → Bool) (x y : A) → cond (test x) (Some x) None ≡ Some y → (x ≡ y) × (test y ≡ true)
taken_where {A} test x y e = by_test (test x) refl e
  where
    by_test : (b : Bool) → test x ≡ b → cond b (Some x) None ≡ Some y → (x ≡ y) × (test y ≡ true)
    by_test false h f = absurd cc
    by_test true h f = let same : x ≡ y = cc in (same, sym (ap test same) ∙ h)

pub list_all-weaker : (p q : ℕ → Bool) → ((b : ℕ) → p b ≡ true → q b ≡ true) → (bs : List ℕ) → list_all p bs ≡ true → list_all q bs ≡ true
list_all-weaker p q weaker [] h = refl
list_all-weaker p q weaker (b ∷ bs) h =
    let parts = and_true (p b) (list_all p bs) h in
    rw (weaker b parts.0, list_all-weaker p q weaker bs parts.1) refl
