-- What nodes hold is given to others one after the other.
use Rattle.std.proofs.Common.{◌≡◌, ◌≢◌, ℕ, ◌+◌, ◌<◌, ◌≤◌, cond, nat_eq, Option, Some, None, slice_get, List, length, refl, sym, ap, ◌∙◌, arith}
use Rattle.std.proofs.lemmas.Bool.{eq-eqb, eqb-true}
use Rattle.std.proofs.lemmas.Option.{same_Some, slice_get_within}
use Rattle.std.specs.FinMap as map
use Rattle.std.specs.FinMap.{get-empty}
use Rattle.std.specs.Ordering.{nat_cmp}
use Rattle.pool_arena.specs.declared.node.Node.{Node}
use Rattle.pool_arena.specs.Nodes.{pair_at}
use Rattle.pool_arena.specs.Places.{slots_in, with_slot}
use Rattle.pool_arena.proofs.Keeps.{by_test, eqb-false, get-with_entry}
use Rattle.pool_arena.proofs.Walks.{same_read, node_of_pair}
use Rattle.pool_arena.proofs.Slots.{either, Apart, slot_of_held, held_by, same_by_answers}
use Rattle.pool_arena.proofs.Found.{pair_with, pair_without}

-- a map has what the first n nodes hold, and no more
pub record HasFirst (nodes : List Node) (n : ℕ) (m : map.FinMap nat_cmp ℕ) : Type 0 where
  pub had : (q s : ℕ) → map.get m q ≡ Some s → (j : ℕ) × (j < n) × (pair_at nodes j ≡ Some (q, s))
  pub has : (j q s : ℕ) → j < n → pair_at nodes j ≡ Some (q, s) → map.get m q ≡ Some s

pub has_none : (nodes : List Node) (m : map.FinMap nat_cmp ℕ) → m ≡ map.empty → HasFirst nodes 0 m
has_none nodes m e = record {
  had = λ q s h. let n = get-empty {X = ℕ} nat_cmp q in let a : map.get m q ≡ None = ap (λ x. map.get x q) e ∙ n in let bad : None ≡ Some s = sym a ∙ h in absurd (cc);
  has = λ j q s lt h. absurd (omega (arith, lt));
}

module _ (nodes : List Node) (one : Apart nodes) (n : ℕ) (m : map.FinMap nat_cmp ℕ) (first : HasFirst nodes n m) where
  module _ (node : Node) (e : slice_get nodes n ≡ Some node) where
    -- the key of the next one isn't among them
    pub not_yet : (s : ℕ) → node.slot ≡ Some s → map.get m node.key ≡ None
    not_yet s f = go (map.get m node.key) refl
      where
        go : (o : Option ℕ) → map.get m node.key ≡ o → map.get m node.key ≡ None
        go None g = g
        go (Some t) g =
            let w = first.had node.key t g in
            let same : w.0 ≡ n = one node.key t s w.0 n w.2 (pair_with nodes n s node e f) in
            absurd (omega (arith, same, w.1))

    pub has_more : HasFirst nodes (n + 1) (with_slot m node.key node.slot)
    has_more = go node.slot refl
      where
        go : (o : Option ℕ) → node.slot ≡ o → HasFirst nodes (n + 1) (with_slot m node.key o)
        go None f = record {
          had = λ q s h. let w = first.had q s h in (w.0, omega (arith, w.1), w.2);
          has = λ j q s lt h. either j n
              (λ (d : j ≡ n). let bad : None ≡ Some (q, s) = sym (pair_without nodes n node e f) ∙ ap (pair_at nodes) (sym d) ∙ h in absurd (cc))
              (λ (d : j ≢ n). first.has j q s (omega (arith, lt, d)) h);
        }
        go (Some t) f =
            let at : pair_at nodes n ≡ Some (node.key, t) = pair_with nodes n t node e f in
            let changes = get-with_entry m node.key (Some t) in record {
              had = λ q s h. let got : cond (nat_eq node.key q) (Some t) (map.get m q) ≡ Some s = sym (changes q) ∙ h in
                  by_test (nat_eq node.key q)
                  (λ y. let same : Some t ≡ Some s = rw y at got in (n, omega arith, at ∙ ap (λ x. Some (x, t)) (eqb-true node.key q y) ∙ ap (λ x. Some (q, x)) (same_Some t s same)))
                  (λ y. let w = first.had q s (rw y at got) in (w.0, omega (arith, w.1), w.2));
              has = λ j q s lt h. changes q ∙ either j n
                  (λ (d : j ≡ n).
                  let pair : ◌≡◌ {A = ℕ × ℕ} (node.key, t) (q, s) = same_read (pair_at nodes n) (node.key, t) (q, s) at (ap (pair_at nodes) (sym d) ∙ h) in
                  rw (eq-eqb node.key q (ap (λ (p : ℕ × ℕ). p.0) pair)) (ap (λ (p : ℕ × ℕ). Some p.1) pair))
                  (λ (d : j ≢ n).
                  let differ : node.key ≢ q = λ k. d (one q s t j n h (at ∙ ap (λ x. Some (x, t)) k)) in
                  rw (eqb-false node.key q differ) (first.has j q s (omega (arith, lt, d)) h));
            }

  -- in the end it has all
  pub has_all : length nodes ≤ n → m ≡ slots_in nodes
  has_all all = same_by_answers m (slots_in nodes)
      (λ q s h. let w = first.had q s h in slot_of_held nodes one w.0 q s w.2)
      (λ q s h. let w = held_by nodes q s h in let x = node_of_pair nodes w.0 q s w.1 in
      let within = slice_get_within nodes w.0 x.0 x.1 in first.has w.0 q s (omega (arith, within, all)) w.1)
