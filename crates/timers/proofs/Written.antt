-- What a write of one heap leaves of the heaps.
use Rattle.std.proofs.Common.{◌≡◌, ℕ, ◌+◌, ◌<◌, ◌≤◌, false, cond, nat_eq, [], length, Option, Some, None, vec_len, vec_capacity, refl, sym, ap, subst, ◌∙◌, arith}
use Rattle.std.proofs.lemmas.Bool.{eqb-true, eq-eqb}
use Rattle.std.specs.Global.{Vec}
use Rattle.std.specs.Ordering.{nat_cmp}
use Rattle.std.specs.FinMap as map
use Rattle.pool_arena.proofs.Keeps.{get-with_entry}
use Rattle.tree_specs.specs.declared.due.Due.{Due}
use Rattle.tree_specs.proofs.Tree.Numbered.{by_test}
use Rattle.timers.specs.declared.heaps.Heaps.{Heaps}
use Rattle.timers.specs.Heaps.{heap_of, room_of, IsAdded}

-- ---- one heap of the arena

module _ (m : map.FinMap nat_cmp (Vec Due)) (c : ℕ) (w : Vec Due) where
  here : map.get (map.insert m c w) c ≡ Some w
  here = get-with_entry m c (Some w) c ∙ ap (λ b. cond b (Some w) (map.get m c)) (eq-eqb c c refl)

  pub written-beside : (d : ℕ) → nat_eq c d ≡ false → map.get (map.insert m c w) d ≡ map.get m d
  written-beside d ne = get-with_entry m c (Some w) d ∙ ap (λ b. cond b (Some w) (map.get m d)) ne

  module _ (R : Option (Vec Due) → Option (Vec Due) → Type 0) (v : Vec Due) (was : Some v ≡ map.get m c) (r : R (Some v) (Some w)) where
    pub written : R (map.get m c) (map.get (map.insert m c w) c)
    written = subst (λ o. R o (map.get (map.insert m c w) c)) was (subst (R (Some v)) (sym here) r)

    pub written-each : ((o : Option (Vec Due)) → R o o) → (d : ℕ) → R (map.get m d) (map.get (map.insert m c w) d)
    written-each same_ones d = by_test (nat_eq c d)
        (λ t. subst (λ x. R (map.get m x) (map.get (map.insert m c w) x)) (eqb-true c d t) written)
        (λ t. subst (R (map.get m d)) (sym (written-beside d t)) (same_ones (map.get m d)))

-- ---- room

pub room-left : (v w : Vec Due) → vec_capacity w ≡ vec_capacity v → length w.items + 1 ≡ length v.items → room_of (Some v) ≤ room_of (Some w)
room-left v w all fewer = let lv : vec_len v ≡ length v.items = v.ok.0 in let lw : vec_len w ≡ length w.items = w.ok.0 in omega (arith, all, fewer, lv, lw)

pub room-kept : (v w : Vec Due) → vec_capacity v ≤ vec_capacity w → vec_len w ≡ vec_len v → room_of (Some v) ≤ room_of (Some w)
room-kept v w more same_len = omega (arith, more, same_len)

pub room-one : (v : Vec Due) → vec_len v < vec_capacity v → 0 < room_of (Some v)
room-one v less = omega (arith, less)

-- ---- all heaps

module _ (h : Heaps) (c : ℕ) (none : heap_of h c ≡ None) where
  other : nat_eq c 0 ≡ false
  other = by_test (nat_eq c 0) (λ t. let bad : Some h.first ≡ None = sym (ap (λ b. cond b (Some h.first) (map.get h.others.pairs c)) t) ∙ none in cc) (λ t. t)

  pub added : (k : Heaps) (v : Vec Due) → k.first ≡ h.first → k.others.pairs ≡ map.insert h.others.pairs c v → v.items ≡ [] → IsAdded h k c
  added k v first others empty = record {
    heap = v;
    empty = empty;
    heaps = λ d. by_test (nat_eq c d)
        (λ t. let off : nat_eq d 0 ≡ false = ap (λ (x : ℕ). nat_eq x 0) (sym (eqb-true c d t)) ∙ other in
        ap (λ b. cond b (Some k.first) (map.get k.others.pairs d)) off ∙ at d ∙ rw t refl)
        (λ t. (λ i. cond (nat_eq d 0) (Some (first i)) ((at d ∙ ap (λ b. cond b (Some v) (map.get h.others.pairs d)) t) i)) ∙ rw t refl);
  }
    where
      at : (d : ℕ) → map.get k.others.pairs d ≡ cond (nat_eq c d) (Some v) (map.get h.others.pairs d)
      at d = ap (λ (n : map.FinMap nat_cmp (Vec Due)). map.get n d) others ∙ get-with_entry h.others.pairs c (Some v) d
