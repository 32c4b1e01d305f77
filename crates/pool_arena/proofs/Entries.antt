-- The entries of a map by number, as a list in the order of the numbers.
use Rattle.std.proofs.Common.{◌≡◌, ℕ, Bool, not, List, [], ◌∷◌, length, refl, sym, ap, ◌∙◌, arith}
use Rattle.std.specs.Ordering.{nat_cmp, eq_by_cmp}
use Rattle.std.specs.Cmp.{nat_cmp_total}
use Rattle.std.proofs.lemmas.Cmp.{eq_by_cmp_equiv}
use Rattle.std.specs.FinMap as map
use Rattle.std.specs.FinMap.{FinMap, nat_cmp-IsAntisymmetric, get-entries, get-remove, entries_sorted, len-entries, len-empty}
use Rattle.std.specs.FinMap.Entries.{find, where_key, is_sorted-where_key, find-where_key, same_entries}
use Rattle.pool_arena.proofs.Keeps.{by_test}

-- the other numbers
abbrev pub others : ℕ → ℕ → Bool
others n k = not (eq_by_cmp nat_cmp n k)

module _ {X : Type 0} where
  pub entries-removed : (m : FinMap nat_cmp X) (n : ℕ) → map.entries (map.remove m n) ≡ where_key nat_cmp (others n) (map.entries m)
  entries-removed m n =
      same_entries nat_cmp nat_cmp_total nat_cmp-IsAntisymmetric (map.entries (map.remove m n)) (where_key nat_cmp (others n) (map.entries m)) (entries_sorted (map.remove m n))
      (is_sorted-where_key nat_cmp (others n) (map.entries m) (entries_sorted m)) answers
    where
      answers : (q : ℕ) → find nat_cmp q (map.entries (map.remove m n)) ≡ find nat_cmp q (where_key nat_cmp (others n) (map.entries m))
      answers q =
          let left = sym (get-entries (map.remove m n) q) ∙ get-remove nat_cmp_total m n q in
          let kept = find-where_key nat_cmp (others n) q (λ y e. ap (others n) (sym (nat_cmp-IsAntisymmetric q y e))) (map.entries m) in
          let way = (eq_by_cmp_equiv nat_cmp_total).symm n q in
          let found_there = get-entries m q in
          by_test (eq_by_cmp nat_cmp q n)
          (λ t. rw t at left ∙ sym (rw (way, t) at kept))
          (λ t. rw t at left ∙ found_there ∙ sym (rw (way, t) at kept))

  pub entries-empty : (m : FinMap nat_cmp X) → m ≡ map.empty → map.entries m ≡ []
  entries-empty m e = none (map.entries m) (sym (len-entries m) ∙ ap map.len e ∙ len-empty nat_cmp X)
    where
      none : (es : List (ℕ × X)) → length es ≡ 0 → es ≡ []
      none [] z = refl
      none (e ∷ es) z = absurd (omega (arith, z))
