-- Descriptors rise where each is below the next.
use Rattle.std.proofs.Common.{◌≡◌, ℕ, suc, zero, ◌+◌, ◌<◌, List, [], ◌∷◌, length, Bool, true, false, slice_index_or, refl, sym, subst, arith}
use Rattle.std.specs.Prelude.{◌&&◌}
use Rattle.std.specs.List.{AllAdjacentBelow, IsAllAdjacentAnswer}
use Rattle.tree_specs.specs.declared.wants.Want.{Want}
use Rattle.tree_specs.specs.Words.Wants.{comes_before, rises}

next : (k : ℕ) → suc k + 1 ≡ suc (k + 1)
next k = omega arith

all-rise : (ws : List Want) → AllAdjacentBelow (λ w v. true ≡ comes_before w v) ws (length ws) → true ≡ rises ws
all-rise [] h = refl
all-rise (w ∷ []) h = refl
all-rise (w ∷ v ∷ vs) h =
    let first : true ≡ comes_before w v = h 0 w (omega arith) in
    rw (sym first) (all-rise (v ∷ vs) (λ k d l. subst (λ (m : ℕ). true ≡ comes_before (slice_index_or (v ∷ vs) k d) (slice_index_or (w ∷ v ∷ vs) m d)) (next k) (h (suc k) d (omega arith))))

one-falls : (ws : List Want) (k : ℕ) → k + 1 < length ws → ((d : Want) → false ≡ comes_before (slice_index_or ws k d) (slice_index_or ws (k + 1) d)) → false ≡ rises ws
one-falls [] k l f = absurd (omega arith)
one-falls (w ∷ []) k l f = absurd (omega arith)
one-falls (w ∷ v ∷ vs) zero l f = let first : false ≡ comes_before w v = f w in rw (sym first) refl
one-falls (w ∷ v ∷ vs) (suc k) l f =
    let ih = one-falls (v ∷ vs) k (omega arith) (λ d. subst (λ (m : ℕ). false ≡ comes_before (slice_index_or (v ∷ vs) k d) (slice_index_or (w ∷ v ∷ vs) m d)) (next k) (f d)) in
    rw (sym ih) (last (comes_before w v))
  where
    last : (b : Bool) → false ≡ (b && false)
    last true = refl
    last false = refl

pub rises-answer : (ws : List Want) (r : Bool) → IsAllAdjacentAnswer (λ w v b. b ≡ comes_before w v) ws r → r ≡ rises ws
rises-answer ws true h = all-rise ws h
rises-answer ws false h = one-falls ws h.0 h.1 h.2
