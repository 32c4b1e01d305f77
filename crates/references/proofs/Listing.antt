-- The list of the pairs against the map of the nodes.
use Rattle.std.proofs.Common.{◌≡◌, ℕ, ◌<◌, Bool, true, false, cond, ◌&&◌, nat_eq, List, [], ◌∷◌, length, map as each, Option, Some, None, refl, sym, ap, subst, ◌∙◌, arith, T}
use Rattle.std.specs.Option.{option_map}
use Rattle.std.specs.Ordering.{nat_cmp, eq_by_cmp, is_lt}
use Rattle.std.specs.declared.cmp.Ordering.TheVariants.{Less}
use Rattle.std.specs.Cmp.{nat_cmp_is}
use Rattle.std.proofs.lemmas.Cmp.{nat_cmp_total, back_total}
use Rattle.std.specs.FinMap as map
use Rattle.std.specs.FinMap.{nat_cmp-IsAntisymmetric, get-from_entries, get-entries, len-entries, entries_sorted}
use Rattle.std.specs.FinMap.Entries.{find, is_sorted, below_all, same_entries}
use Rattle.pool_arena.proofs.Keeps.{ties, by_test}
use Rattle.tree_specs.specs.declared.object.Obj.{Obj}
use Rattle.linked_lanes.proofs.Lanes.{eqb-sym}
use Rattle.references.specs.declared.refs.Pair.{Pair}
use Rattle.references.specs.declared.node.Node.{Node}
use Rattle.references.specs.Pairs.{IsAbove, Descends, target_of}
use Rattle.references.specs.Linked.{numbered, down, list_of, pairs_of, pairs_in, target_in}

all_of : (a b : Bool) → T a → T b → T (a && b)
all_of true b p q = q
all_of false b p q = absurd p

one_of : (a b : Bool) → T (a && b) → T a × T b
one_of true b p = (tt, p)
one_of false b p = absurd p

lower : (x k : ℕ) → T (is_lt (nat_cmp x k)) → x < k
lower x k h = grind (arith)

lowers : (x k : ℕ) → x < k → T (is_lt (nat_cmp x k))
lowers x k h = subst (λ r. T (is_lt r)) (nat_cmp_is x k Less h) tt

above-from : (k : ℕ) (es : List (ℕ × ℕ)) → T (below_all down k es) → IsAbove (numbered k) (pairs_of es)
above-from k [] h = tt
above-from k (e ∷ es) h = let p = one_of _ _ h in (lower e.0 k p.0, above-from k es p.1)

above-to : (k : ℕ) (es : List (ℕ × ℕ)) → IsAbove (numbered k) (pairs_of es) → T (below_all down k es)
above-to k [] h = tt
above-to k (e ∷ es) h = all_of _ _ (lowers e.0 k h.0) (above-to k es h.1)

descends-from : (es : List (ℕ × ℕ)) → T (is_sorted down es) → Descends (pairs_of es)
descends-from [] h = tt
descends-from (e ∷ es) h = let p = one_of _ _ h in (above-from e.0 es p.0, descends-from es p.1)

descends-to : (es : List (ℕ × ℕ)) → Descends (pairs_of es) → T (is_sorted down es)
descends-to [] h = tt
descends-to (e ∷ es) h = all_of _ _ (above-to e.0 es h.0) (descends-to es h.1)

-- ---- what is found in it

ties_down : (q k : ℕ) → eq_by_cmp down q k ≡ nat_eq k q
ties_down q k = ties k q ∙ eqb-sym q k

find-target : (es : List (ℕ × ℕ)) (q : ℕ) → target_of (pairs_of es) (numbered q) ≡ option_map numbered (find down q es)
find-target [] q = refl
find-target (e ∷ es) q =
    by_test (nat_eq e.0 q) (λ t. rw t refl) (λ t. rw t (find-target es q))
    ∙ ap (λ b. option_map numbered (cond b (Some e.1) (find down q es))) (sym (ties_down q e.0))

find-node : (es : List (ℕ × Node)) (q : ℕ) → find down q (each (λ e. (e.0, e.1.target)) es) ≡ option_map (λ (v : Node). v.target) (find nat_cmp q es)
find-node [] q = refl
find-node (e ∷ es) q =
    ap (λ r. cond (eq_by_cmp down q e.0) (Some e.1.target) r) (find-node es q)
    ∙ ap (λ b. cond b (Some e.1.target) (option_map (λ (v : Node). v.target) (find nat_cmp q es))) (ties_down q e.0 ∙ sym (ties q e.0))
    ∙ pulled (eq_by_cmp nat_cmp q e.0) (find nat_cmp q es)
  where
    pulled : (b : Bool) (o : Option Node) → cond b (Some e.1.target) (option_map (λ (v : Node). v.target) o) ≡ option_map (λ (v : Node). v.target) (cond b (Some e.1) o)
    pulled true o = refl
    pulled false o = refl

-- ---- a list of pairs as numbers

bare : List Pair → List (ℕ × ℕ)
bare ps = each (λ p. (p.reference.0, p.target.0)) ps

pairs-bare : (ps : List Pair) → pairs_of (bare ps) ≡ ps
unfolding bare
pairs-bare [] = refl
pairs-bare (p ∷ ps) = ap (λ l. p ∷ l) (pairs-bare ps)

same-numbers : (o u : Option ℕ) → option_map numbered o ≡ option_map numbered u → o ≡ u
same-numbers None None e = refl
same-numbers None (Some n) e = cc
same-numbers (Some n) None e = cc
same-numbers (Some n) (Some k) e = let is : numbered n ≡ numbered k = cc in ap (λ (x : Obj). Some x.0) is

module _ (m : map.FinMap nat_cmp Node) where
  pub target-in : (q : ℕ) → target_of (pairs_in m) (numbered q) ≡ option_map target_in (map.get m q)
  target-in q =
      let es = each (λ (e : ℕ × Node). (e.0, e.1.target)) (map.entries m) in
      find-target (list_of m) q
      ∙ ap (option_map numbered) (sym (get-entries (map.from_entries {R = down} es) q) ∙ get-from_entries (back_total nat_cmp_total) es q ∙ find-node (map.entries m) q)
      ∙ go (find nat_cmp q (map.entries m)) ∙ ap (option_map target_in) (sym (get-entries m q))
    where
      go : (o : Option Node) → option_map numbered (option_map (λ (v : Node). v.target) o) ≡ option_map target_in o
      go None = refl
      go (Some v) = refl

  sorted : T (is_sorted down (list_of m))
  sorted = entries_sorted (map.from_entries {R = down} (each (λ e. (e.0, e.1.target)) (map.entries m)))

  pub descends-in : Descends (pairs_in m)
  descends-in = descends-from (list_of m) sorted

  -- the pairs are told by the target of each number
  pub same-pairs : (ps : List Pair) → Descends ps → ((q : ℕ) → target_of ps (numbered q) ≡ option_map target_in (map.get m q)) → pairs_in m ≡ ps
  same-pairs ps d look = ap pairs_of (same_entries down (back_total nat_cmp_total) (λ x y e. sym (nat_cmp-IsAntisymmetric y x e)) (list_of m) (bare ps) sorted
      (descends-to (bare ps) (subst Descends (sym (pairs-bare ps)) d))
      (λ q. same-numbers _ _ (sym (find-target (list_of m) q) ∙ target-in q ∙ sym (look q) ∙ ap (λ l. target_of l (numbered q)) (sym (pairs-bare ps)) ∙ find-target (bare ps) q)))
      ∙ pairs-bare ps
