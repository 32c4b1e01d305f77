-- What is read of a list at an index, after an element was set or put at the end.
use Rattle.std.proofs.Common.{◌≡◌, ◌≢◌, ℕ, zero, suc, Some, slice_get, List, [], ◌∷◌, ◌++◌, length, set, refl, ap}

module _ {X : Type 0} where
  pub get-set_same : (xs : List X) (i : ℕ) (x y : X) → slice_get xs i ≡ Some x → slice_get (set xs i y) i ≡ Some y
  get-set_same [] i x y e = absurd (cc)
  get-set_same (z ∷ xs) zero x y e = refl
  get-set_same (z ∷ xs) (suc i) x y e = get-set_same xs i x y e

  pub get-set_other : (xs : List X) (i j : ℕ) (y : X) → j ≢ i → slice_get (set xs i y) j ≡ slice_get xs j
  get-set_other [] i j y d = refl
  get-set_other (z ∷ xs) zero zero y d = absurd (d refl)
  get-set_other (z ∷ xs) zero (suc j) y d = refl
  get-set_other (z ∷ xs) (suc i) zero y d = refl
  get-set_other (z ∷ xs) (suc i) (suc j) y d = get-set_other xs i j y (λ e. d (ap suc e))

  pub get-push_other : (xs : List X) (j : ℕ) (y : X) → j ≢ length xs → slice_get (xs ++ y ∷ []) j ≡ slice_get xs j
  get-push_other [] zero y d = absurd (d refl)
  get-push_other [] (suc j) y d = refl
  get-push_other (z ∷ xs) zero y d = refl
  get-push_other (z ∷ xs) (suc j) y d = get-push_other xs j y (λ e. d (ap suc e))

  pub get-push_same : (xs : List X) (y : X) → slice_get (xs ++ y ∷ []) (length xs) ≡ Some y
  get-push_same [] y = refl
  get-push_same (z ∷ xs) y = get-push_same xs y
