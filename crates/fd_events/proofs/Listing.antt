-- The list that a lane tells, which has the newest first.
use Rattle.std.proofs.Common.{◌≡◌, ℕ, true, false, nat_eq, List, [], ◌∷◌, ◌++◌, Option, refl, sym, ap, ◌∙◌}
use Rattle.std.proofs.lemmas.Bool.{eqb-true}
use Rattle.tree_specs.specs.declared.watch.Watch.{Watch}
use Rattle.linked_lanes.specs.Lane.{has}
use Rattle.linked_lanes.proofs.Lanes.{by_test, not_both, false_by, eqb-self}
use Rattle.fd_events.specs.Linked.{listed_one, listed}

-- another one than one that isn't there
pub others : (xs : List ℕ) (x q : ℕ) → has xs x ≡ false → has xs q ≡ true → nat_eq x q ≡ false
others xs x q out m = false_by _ (λ t. not_both m (ap (has xs) (sym (eqb-true x q t)) ∙ out))

-- two ways in which events watch
pub listed-same : (W W' : ℕ → Option Watch) (xs : List ℕ) → ((q : ℕ) → has xs q ≡ true → W' q ≡ W q) → listed W' xs ≡ listed W xs
listed-same W W' [] h = refl
listed-same W W' (x ∷ xs) h =
    (λ i. listed-same W W' xs (λ q m. h q (by_test (nat_eq x q) (λ t. rw t refl) (λ t. rw t m))) i
    ++ listed_one (h x (rw (eqb-self x) refl) i))
