-- What a write of one place leaves of the places in each heap.
use Rattle.std.proofs.Common.{◌≡◌, ℕ, true, false, cond, nat_eq, Option, Some, None, IsSome, is_some, refl, sym, ap, ◌∙◌}
use Rattle.std.proofs.lemmas.Bool.{eqb-true}
use Rattle.std.specs.Option.{option_map, option_and_then}
use Rattle.std.specs.Ordering.{nat_cmp}
use Rattle.std.specs.FinMap as map
use Rattle.tree_specs.proofs.Tree.Numbered.{by_test}
use Rattle.timers.specs.declared.heap.Place.{Place}
use Rattle.timers.specs.Heaps.{context_of, index_in, moved_to, at_in, IsNoted, IsSameBeside}

abbrev pub Noted : Type 0
Noted = map.FinMap nat_cmp Place

-- ---- a new index of one that is held

index-moved : (c at : ℕ) (o : Option Place) → option_and_then (index_in c) (option_map (moved_to at) o) ≡ option_map (λ _. at) (option_and_then (index_in c) o)
index-moved c at None = refl
index-moved c at (Some p) = by_test (nat_eq p.context c) (λ t. rw t refl) (λ t. rw t refl)

context-moved : (at : ℕ) (o : Option Place) → option_map context_of (option_map (moved_to at) o) ≡ option_map context_of o
context-moved at None = refl
context-moved at (Some p) = refl

pub noted-place : (m n : Noted) (x at : ℕ) → ((q : ℕ) → map.get n q ≡ cond (nat_eq x q) (option_map (moved_to at) (map.get m q)) (map.get m q)) → map.len n ≡ map.len m → IsNoted m n x at
noted-place m n x at write count = record {
  places = λ c q. ap (option_and_then (index_in c)) (write q) ∙ by_test (nat_eq x q) (λ t. rw t (index-moved c at (map.get m q))) (λ t. rw t refl);
  contexts = λ q. ap (option_map context_of) (write q) ∙ by_test (nat_eq x q) (λ t. rw t (context-moved at (map.get m q))) (λ t. rw t refl);
  count = count;
}

-- one that isn't held isn't noted
pub noted-nothing : (m : Noted) (x at : ℕ) → map.get m x ≡ None → IsNoted m m x at
noted-nothing m x at none = noted-place m m x at (λ q. by_test (nat_eq x q)
    (λ t. let gone : map.get m q ≡ None = ap (map.get m) (sym (eqb-true x q t)) ∙ none in rw (t, gone) refl)
    (λ t. rw t refl)) refl

-- ---- other heaps

-- one that is in one heap isn't in another
pub in_one : (m : Noted) (x c d : ℕ) → IsSome (at_in m c x) → nat_eq c d ≡ false → at_in m d x ≡ None
in_one m x c d h ne = go (map.get m x) h
  where
    go : (o : Option Place) → IsSome (option_and_then (index_in c) o) → option_and_then (index_in d) o ≡ None
    go None h = refl
    go (Some p) h = by_test (nat_eq p.context c)
        (λ t. let n : nat_eq p.context d ≡ false = ap (λ (k : ℕ). nat_eq k d) (eqb-true p.context c t) ∙ ne in rw n refl)
        (λ t. let bad : false ≡ true = sym (ap is_some (ap (λ b. cond b (Some p.at) None) t)) ∙ h in cc)

pub noted-beside : {m n : Noted} (x at c : ℕ) → IsNoted m n x at → IsSome (at_in m c x) → IsSameBeside m n c
noted-beside {m} {n} x at c noted h = record {
  places = λ d q ne. noted.places d q ∙ by_test (nat_eq x q)
      (λ t. let none : at_in m d q ≡ None = ap (at_in m d) (sym (eqb-true x q t)) ∙ in_one m x c d h ne in rw (t, none) refl)
      (λ t. rw t refl);
  contexts = noted.contexts;
  count = noted.count;
}

pub beside-none : (m : Noted) (c : ℕ) → IsSameBeside m m c
beside-none m c = record { places = λ d q ne. refl; contexts = λ q. refl; count = refl }

pub beside-both : {m n o : Noted} {c : ℕ} → IsSameBeside m n c → IsSameBeside n o c → IsSameBeside m o c
beside-both a b = record {
  places = λ d q ne. b.places d q ne ∙ a.places d q ne;
  contexts = λ q. b.contexts q ∙ a.contexts q;
  count = b.count ∙ a.count;
}
