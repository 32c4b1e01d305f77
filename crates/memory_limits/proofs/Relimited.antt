-- An object gets another limit, in its row and among the limits.
use Rattle.std.proofs.Common.{◌≡◌, ℕ, List, Option, Some, None, true, false, if◌then◌else◌, refl, sym, ◌∙◌, ap, subst, inl, inr}
use Rattle.tree_specs.specs.declared.object.Obj.{Obj}
use Rattle.tree_specs.specs.declared.row.Row.{Row}
use Rattle.tree_specs.specs.Words.Objects.{same}
use Rattle.tree_specs.specs.Tree.Pool.{row_of, is_row, owner_in, owner_of, changed, limited_row}
use Rattle.tree_specs.specs.Tree.Sums.{charge, limit_in, limit_at}
use Rattle.tree_specs.proofs.Tree.Numbered.{same_or_not, same-equal, same-false}
use Rattle.tree_specs.proofs.Tree.Rows.{row_of-changed-same, row_of-changed-other}
use Rattle.tree_specs.proofs.Tree.Attached.{SameOwners, weight-same}
use Rattle.tree_specs.proofs.Tree.SumLaws.{changed-weights}
use Rattle.memory_limits.specs.declared.limited.Limited.{Limited}
use Rattle.memory_limits.specs.Limits.{limit_of, AllBound, AllSums, AreLimitsOf}
use Rattle.memory_limits.proofs.Kept.{same-sums}

module _ (rs : List Row) (x : Obj) (max : ℕ) where
  there : (o : Option Row) → row_of rs x ≡ o → is_row rs x ≡ true → (r : Row) × (row_of rs x ≡ Some r)
  there None e is = let bad : false ≡ true = rw e at is in cc
  there (Some r) e is = (r, e)

  pub relimited-sums : is_row rs x ≡ true → (ls : List Limited) → AllSums ls rs → AllSums ls (changed (limited_row max) rs x)
  relimited-sums is ls s = same-sums rs (changed (limited_row max) rs x) (λ y. weight-same charge rs (changed (limited_row max) rs x) owners (changed-weights charge (limited_row max) rs x (λ r. refl) (λ r. refl)) y) ls s
    where
      owners : SameOwners rs (changed (limited_row max) rs x)
      owners y = elim (same_or_not x y) [
        | inl e ↦ let r = there (row_of rs x) refl is in
            subst (λ (v : Obj). owner_of (changed (limited_row max) rs x) v ≡ owner_of rs v) e (ap owner_in (row_of-changed-same (limited_row max) rs x r.0 (λ q. refl) r.1) ∙ sym (ap owner_in r.1))
        | inr ne ↦ ap owner_in (row_of-changed-other (limited_row max) rs x y (λ q. refl) ne)
      ]

  relimited-at : is_row rs x ≡ true → (y : Obj) → limit_at (changed (limited_row max) rs x) y ≡ (if same x y then max else limit_at rs y)
  relimited-at is y = elim (same_or_not x y) [
    | inl e ↦ let r = there (row_of rs x) refl is in
        let t : same x y ≡ true = same-equal x y e in
        rw t (subst (λ (v : Obj). limit_at (changed (limited_row max) rs x) v ≡ max) e (ap limit_in (row_of-changed-same (limited_row max) rs x r.0 (λ q. refl) r.1)))
    | inr ne ↦ let t : same x y ≡ false = same-false x y ne in rw t (ap limit_in (row_of-changed-other (limited_row max) rs x y (λ q. refl) ne))
  ]

  pub relimited-are : is_row rs x ≡ true → (ls ls' : List Limited) → ((y : Obj) → limit_of ls' y ≡ (if same x y then max else limit_of ls y)) → (AllBound ls → AllBound ls') → AllSums ls' (changed (limited_row max) rs x) → AreLimitsOf ls rs
      → AreLimitsOf ls' (changed (limited_row max) rs x)
  relimited-are is ls ls' l b s a = record {
    limits = λ y. l y ∙ ap (λ (n : ℕ). if same x y then max else n) (a.limits y) ∙ sym (relimited-at is y);
    bound = b a.bound;
    sums = s;
  }
