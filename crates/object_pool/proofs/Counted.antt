-- Limits and sums, where the rows change.
use Rattle.std.proofs.Common.{◌≡◌, ℕ, List, [], ◌∷◌, map, Option, Some, None, true, false, refl, sym, ◌∙◌, ap, arith}
use Rattle.std.specs.Option.{option_map}
use Rattle.tree_specs.specs.declared.object.Obj.{Obj}
use Rattle.tree_specs.specs.declared.object.Owner.{Owner}
use Rattle.tree_specs.specs.declared.row.Row.{Row}
use Rattle.tree_specs.specs.Words.Objects.{same}
use Rattle.tree_specs.specs.Tree.Pool.{row_of, is_row, owner_in}
use Rattle.tree_specs.specs.Tree.Inside.{total}
use Rattle.tree_specs.specs.Tree.Sums.{charge, sum_inside, limit_in, limit_at}
use Rattle.tree_specs.proofs.Tree.Numbered.{by_test}
use Rattle.tree_specs.proofs.Tree.Attached.{SameOwners, SameWeights, weight-same}
use Rattle.memory_limits.specs.declared.limited.Limited.{Limited}
use Rattle.memory_limits.specs.Limits.{limit_of, bound_of, SameBounds, AllBound, AllSums, AreLimitsOf}
use Rattle.memory_limits.proofs.Kept.{same-sums}
use Rattle.destructors.specs.Changes.{bare, SameRows}

-- ---- rows that are the same but for marks and destructors

row-bare : (rs : List Row) (y : Obj) → row_of (map bare rs) y ≡ option_map bare (row_of rs y)
row-bare [] y = refl
row-bare (r ∷ rs) y = by_test (same r.serial y) (λ t. rw t refl) (λ t. rw t (row-bare rs y))

pub rows-same : (rs rs' : List Row) → SameRows rs rs' → (y : Obj) → option_map bare (row_of rs' y) ≡ option_map bare (row_of rs y)
rows-same rs rs' e y = sym (row-bare rs' y) ∙ ap (λ (qs : List Row). row_of qs y) e ∙ row-bare rs y

owner-bare : (o : Option Row) → owner_in (option_map bare o) ≡ owner_in o
owner-bare None = refl
owner-bare (Some r) = refl

limit-bare : (o : Option Row) → limit_in (option_map bare o) ≡ limit_in o
limit-bare None = refl
limit-bare (Some r) = refl

pub same-owners : (rs rs' : List Row) → SameRows rs rs' → SameOwners rs rs'
same-owners rs rs' e y = sym (owner-bare (row_of rs' y)) ∙ ap owner_in (rows-same rs rs' e y) ∙ owner-bare (row_of rs y)

pub same-limits : (rs rs' : List Row) → SameRows rs rs' → (y : Obj) → limit_at rs' y ≡ limit_at rs y
same-limits rs rs' e y = sym (limit-bare (row_of rs' y)) ∙ ap limit_in (rows-same rs rs' e y) ∙ limit-bare (row_of rs y)

pub still-row : (rs rs' : List Row) → SameRows rs rs' → (y : Obj) → is_row rs y ≡ true → is_row rs' y ≡ true
still-row rs rs' e y is = each (row_of rs y) (row_of rs' y) refl refl (rows-same rs rs' e y)
  where
    each : (p q : Option Row) → row_of rs y ≡ p → row_of rs' y ≡ q → option_map bare q ≡ option_map bare p → is_row rs' y ≡ true
    each None q a b f = let bad : false ≡ true = rw a at is in cc
    each (Some r) None a b f = cc
    each (Some r) (Some s) a b f = rw b refl

bare-weights : (k : Obj → ℕ → ℕ) (rs : List Row) → total (λ r. k r.serial (charge r)) (map bare rs) ≡ total (λ r. k r.serial (charge r)) rs
bare-weights k [] = refl
bare-weights k (r ∷ rs) = let ih = bare-weights k rs in omega (arith, ih)

pub same-weights : (rs rs' : List Row) → SameRows rs rs' → SameWeights charge rs rs'
same-weights rs rs' e k = sym (bare-weights k rs') ∙ ap (λ (qs : List Row). total (λ r. k r.serial (charge r)) qs) e ∙ bare-weights k rs

pub sums-same : (rs rs' : List Row) → SameRows rs rs' → (y : Owner) → sum_inside rs' y ≡ sum_inside rs y
sums-same rs rs' e y = weight-same charge rs rs' (same-owners rs rs' e) (same-weights rs rs' e) y

-- limits and sums stay those of the rows
pub same-kept : (ls : List Limited) (rs rs' : List Row) → SameRows rs rs' → AreLimitsOf ls rs → AreLimitsOf ls rs'
same-kept ls rs rs' e a = record {
  limits = λ x. a.limits x ∙ sym (same-limits rs rs' e x);
  bound = a.bound;
  sums = same-sums rs rs' (sums-same rs rs' e) ls a.sums;
}

-- ---- limits that stay the same

head-is : (a b : Obj × ℕ) (xs ys : List (Obj × ℕ)) → a ∷ xs ≡ b ∷ ys → a ≡ b
head-is a b xs ys e = cc

tail-is : (a b : Obj × ℕ) (xs ys : List (Obj × ℕ)) → a ∷ xs ≡ b ∷ ys → xs ≡ ys
tail-is a b xs ys e = cc

-- the same limits for the same objects
bounds-same : (ls ls' : List Limited) → SameBounds ls ls' → ((x : Obj) → limit_of ls' x ≡ limit_of ls x) × (AllBound ls → AllBound ls')
bounds-same [] [] e = (λ x. refl, λ b. tt)
bounds-same [] (k ∷ ks) e = cc
bounds-same (l ∷ ls) [] e = cc
bounds-same (l ∷ ls) (k ∷ ks) e =
    let h : bound_of k ≡ bound_of l = head-is _ _ (map bound_of ks) (map bound_of ls) e in
    let o : k.object ≡ l.object = ap (λ (b : Obj × ℕ). b.0) h in
    let n : k.limit ≡ l.limit = ap (λ (b : Obj × ℕ). b.1) h in
    let ih = bounds-same ls ks (tail-is (bound_of k) (bound_of l) _ _ e) in
    (λ x. rw (o, n, ih.0 x) refl, λ b. (rw n b.0, ih.1 b.1))

-- other sums, and the same limits
pub other-sums : (ls ls' : List Limited) (rs rs' : List Row) → AreLimitsOf ls rs → SameBounds ls ls' → ((x : Obj) → limit_at rs' x ≡ limit_at rs x) → AllSums ls' rs' → AreLimitsOf ls' rs'
other-sums ls ls' rs rs' a b h s = record {
  limits = λ x. (bounds-same ls ls' b).0 x ∙ a.limits x ∙ sym (h x);
  bound = (bounds-same ls ls' b).1 a.bound;
  sums = s;
}
