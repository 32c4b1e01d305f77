-- What one write of an arena leaves, key by key.
use Rattle.std.proofs.Common.{◌≡◌, ℕ, cond, nat_eq, Option, Some, None, IsSome, refl, sym, ap, ◌∙◌, is_some, ◌+◌, ◌-◌}
use Rattle.std.specs.FinMap as map
use Rattle.std.specs.FinMap.{len-insert, len-remove}
use Rattle.std.specs.Ordering.{nat_cmp}
use Rattle.std.proofs.lemmas.Cmp.{nat_cmp_total}
use Rattle.std.specs.Option.{option_map}
use Rattle.std.proofs.lemmas.Bool.{eqb-true}
use Rattle.pool_arena.specs.Arena.{Held, get, with_value}
use Rattle.pool_arena.proofs.Keeps.{get-with_entry, by_test}

module _ {X : Type 0} (a : Held X) (k : ℕ) where
  pub put-at : (w : X) (o : Option X) → o ≡ Some w → (q : ℕ) → get (with_value a k w) q ≡ cond (nat_eq k q) o (get a q)
  put-at w o e q = get-with_entry a.pairs k (Some w) q ∙ ap (λ x. cond (nat_eq k q) x (get a q)) (sym e)

  pub put-to : (b : Held X) (w : X) (o : Option X) → b.pairs ≡ map.insert a.pairs k w → o ≡ Some w → (q : ℕ) → get b q ≡ cond (nat_eq k q) o (get a q)
  put-to b w o p e q = ap (λ m. map.get m q) p ∙ put-at w o e q

  pub gone-at : (b : Held X) (o : Option X) → b.pairs ≡ map.remove a.pairs k → o ≡ None → (q : ℕ) → get b q ≡ cond (nat_eq k q) o (get a q)
  gone-at b o p e q = ap (λ m. map.get m q) p ∙ get-with_entry a.pairs k None q ∙ ap (λ x. cond (nat_eq k q) x (get a q)) (sym e)

  pub mapped-at : (f : X → X) (v : X) → Some v ≡ get a k → (q : ℕ) → get (with_value a k (f v)) q ≡ cond (nat_eq k q) (option_map f (get a q)) (get a q)
  mapped-at f v e q = get-with_entry a.pairs k (Some (f v)) q ∙ by_test (nat_eq k q)
      (λ t. let kq = eqb-true k q t in rw t (ap (option_map f) (e ∙ ap (get a) kq)))
      (λ t. rw t refl)

-- ---- how many there are

pub len-new : {X : Type 0} (m : map.FinMap nat_cmp X) (k : ℕ) (v : X) → map.get m k ≡ None → map.len (map.insert m k v) ≡ map.len m + 1
len-new m k v e = len-insert nat_cmp_total m k v ∙ ap (λ o. cond (is_some o) (map.len m) (map.len m + 1)) e

pub len-old : {X : Type 0} (m : map.FinMap nat_cmp X) (k : ℕ) (v u : X) → Some u ≡ map.get m k → map.len (map.insert m k v) ≡ map.len m
len-old m k v u e = len-insert nat_cmp_total m k v ∙ ap (λ o. cond (is_some o) (map.len m) (map.len m + 1)) (sym e)

pub len-gone : {X : Type 0} (m : map.FinMap nat_cmp X) (k : ℕ) → IsSome (map.get m k) → map.len (map.remove m k) ≡ map.len m - 1
len-gone m k h = len-remove nat_cmp_total m k ∙ ap (λ b. cond b (map.len m - 1) (map.len m)) h
