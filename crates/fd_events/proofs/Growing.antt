-- What descriptors are ready for, where one more of them is looked at.
use Rattle.std.proofs.Common.{◌≡◌, ℕ, zero, suc, ◌<◌, true, false, cond, nat_eq, List, [], ◌∷◌, length, take, get_or, refl, sym, ap, ◌∙◌, arith}
use Rattle.std.proofs.lemmas.Bool.{eqb-true}
use Rattle.tree_specs.specs.declared.wants.Want.{Want}
use Rattle.tree_specs.specs.Words.Wants.{rises}
use Rattle.tree_specs.specs.Events.Rotation.{ready_for}
use Rattle.linked_lanes.proofs.Lanes.{by_test, eqb-false, eqb-sym}
use Rattle.fd_events.proofs.Searching.{tail, below}

module _ (d : Want) where
  -- the first one is another one
  other : (w : Want) (vs : List Want) (i : ℕ) → rises (w ∷ vs) ≡ true → i < length vs → nat_eq w.fd (get_or vs i d).fd ≡ false
  other w vs i e l = let b = below w vs e i d l in eqb-false w.fd (get_or vs i d).fd (λ h. absurd (omega (arith, b, h)))

  -- it isn't among those before it
  pub new-one : (vs : List Want) (i : ℕ) → rises vs ≡ true → i < length vs → ready_for (take i vs) (get_or vs i d).fd ≡ 0
  new-one [] i e l = absurd (omega arith)
  new-one (w ∷ vs) zero e l = refl
  new-one (w ∷ vs) (suc i) e l = let t = other w vs i e (omega arith) in rw t (new-one vs i (tail w vs e) (omega arith))

  pub one-more-ready : (vs : List Want) (i : ℕ) → rises vs ≡ true → i < length vs
      → (q : ℕ) → ready_for (take (suc i) vs) q ≡ cond (nat_eq (get_or vs i d).fd q) (get_or vs i d).flags (ready_for (take i vs) q)
  one-more-ready [] i e l q = absurd (omega arith)
  one-more-ready (w ∷ vs) zero e l q = refl
  one-more-ready (w ∷ vs) (suc i) e l q = by_test (nat_eq w.fd q)
      (λ t. let v : Want = get_or vs i d in
      let u : nat_eq v.fd q ≡ false = eqb-sym v.fd q ∙ ap (λ (k : ℕ). nat_eq k v.fd) (sym (eqb-true w.fd q t)) ∙ other w vs i e (omega arith) in rw (t, u) refl)
      (λ t. rw t (one-more-ready vs i (tail w vs e) (omega arith) q))
