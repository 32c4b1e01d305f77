-- What the sums need that are told of an object that went elsewhere, or is no more.
use Rattle.std.proofs.Common.{◌≡◌, ◌≢◌, ℕ, suc, List, length, Option, Some, None, Bool, true, false, ◌||◌, if◌then◌else◌, refl, sym, ◌∙◌, ap, subst, inl, inr}
use Rattle.tree_specs.specs.declared.free_step.FreeStep.{FreeStep}
use Rattle.tree_specs.specs.declared.free_step.FreeStep.TheVariants.{Dropped, Left, Moved, Gone}
use Rattle.tree_specs.specs.declared.object.Obj.{Obj}
use Rattle.tree_specs.specs.declared.object.Owner.{Owner}
use Rattle.tree_specs.specs.declared.object.Owner.TheVariants.{Of}
use Rattle.tree_specs.specs.declared.row.Row.{Row}
use Rattle.tree_specs.specs.Words.Objects.{same, same_owner}
use Rattle.tree_specs.specs.Tree.Pool.{of_rows, row_of, is_row, owner_in, owner_of, target_at, reaches, is_inside, changed, without, left_row, owned_row}
use Rattle.tree_specs.specs.Tree.Forest.{Rooted, Distinct}
use Rattle.tree_specs.specs.Tree.Sums.{charge, limit_in, limit_at}
use Rattle.tree_specs.proofs.Tree.Numbered.{by_test, same_or_not, same-false, same-equal}
use Rattle.tree_specs.proofs.Tree.Rows.{row_of-changed-other, row_of-changed-same, row_of-placed-same, row_of-placed-other, row_of-without-same, row_of-without-other, total-placed}
use Rattle.tree_specs.proofs.Tree.Ancestry.{reaches-inside}
use Rattle.tree_specs.proofs.Tree.Attached.{SameOwners, SameWeights, inside-same, weight-same}
use Rattle.tree_specs.proofs.Tree.SumLaws.{changed-weights, owner-left, owner-other, apart}
use Rattle.memory_limits.specs.declared.limited.Limited.{Limited}
use Rattle.memory_limits.specs.Limits.{limit_of, unlimited, AllBound, AllSums, AreLimitsOf}
use Rattle.memory_limits.proofs.Kept.{same-sums, limit-unlimited, bound-unlimited}
use Rattle.destructors.specs.Changes.{SameRows, ChangedBy, placed_rows}
use Rattle.object_pool.specs.Counting.{WentFrom}
use Rattle.object_pool.proofs.Counted.{same-owners, same-limits, same-weights, still-row, same-kept}

-- ---- an object that went elsewhere

-- an object has another owner, or none; all else that counts is the same
pub record GoesElsewhere (rs rs' : List Row) (x : Obj) : Type 0 where
  pub there : is_row rs' x ≡ true
  pub others : (y : Obj) → x ≢ y → owner_of rs' y ≡ owner_of rs y
  pub weights : SameWeights charge rs rs'
  pub limits : (y : Obj) → limit_at rs' y ≡ limit_at rs y

-- marks and destructors don't count
pub then-same : (rs mid new : List Row) (x : Obj) → GoesElsewhere rs mid x → SameRows mid new → GoesElsewhere rs new x
then-same rs mid new x g e = record {
  there = still-row mid new e x g.there;
  others = λ y ne. same-owners mid new e y ∙ g.others y ne;
  weights = λ k. same-weights mid new e k ∙ g.weights k;
  limits = λ y. same-limits mid new e y ∙ g.limits y;
}

-- it has left
pub left-elsewhere : (rs : List Row) (x : Obj) (r : Row) → row_of rs x ≡ Some r → GoesElsewhere rs (changed left_row rs x) x
left-elsewhere rs x r is = record {
  there = rw (row_of-changed-same left_row rs x r (λ q. refl) is) refl;
  others = λ y ne. sym (owner-other rs x y ne);
  weights = changed-weights charge left_row rs x (λ q. refl) (λ q. refl);
  limits = λ y. elim (same_or_not x y) [
    | inl e ↦ subst (λ (v : Obj). limit_at (changed left_row rs x) v ≡ limit_at rs v) e (ap limit_in (row_of-changed-same left_row rs x r (λ q. refl) is) ∙ sym (ap limit_in is))
    | inr ne ↦ ap limit_in (row_of-changed-other left_row rs x y (λ q. refl) ne)
  ];
}

-- it came below another owner
pub placed-elsewhere : (rs : List Row) (o : Owner) (x : Obj) (r : Row) → row_of rs x ≡ Some r → GoesElsewhere rs (placed_rows rs o x) x
placed-elsewhere rs o x r is = record {
  there = rw (row_of-placed-same (of_rows rs 0) o x r is) refl;
  others = λ y ne. ap owner_in (row_of-placed-other (of_rows rs 0) o x y r is ne);
  weights = λ k. total-placed (λ q. k q.serial (charge q)) (of_rows rs 0) o x r is refl;
  limits = λ y. elim (same_or_not x y) [
    | inl e ↦ subst (λ (v : Obj). limit_at (placed_rows rs o x) v ≡ limit_at rs v) e (ap limit_in (row_of-placed-same (of_rows rs 0) o x r is) ∙ sym (ap limit_in is))
    | inr ne ↦ ap limit_in (row_of-placed-other (of_rows rs 0) o x y r is ne)
  ];
}

-- the way to an object doesn't tell its own owner
reach-to : (rs : List Row) (x : Obj) (n : ℕ) (o : Option Owner) → reaches n (changed left_row rs x) o (Of x) ≡ reaches n rs o (Of x)
reach-to rs x (suc n) (Some (Of z)) = elim (same_or_not z x) [
  | inl e ↦ let t : same z x ≡ true = same-equal z x e in rw t refl
  | inr ne ↦ ap (λ (b : Bool). same_owner (Of z) (Of x) || b)
      (reach-to rs x n (owner_of (changed left_row rs x) z) ∙ ap (λ (o : Option Owner). reaches n rs o (Of x)) (sym (owner-other rs x z (λ e. ne (sym e)))))
]
reach-to rs x _ _ = refl

module _ (rs rs' : List Row) (x : Obj) (g : GoesElsewhere rs rs' x) where
  low-owners : SameOwners (changed left_row rs x) (changed left_row rs' x)
  low-owners y = elim (same_or_not x y) [
    | inl e ↦ subst (λ (v : Obj). owner_of (changed left_row rs' x) v ≡ owner_of (changed left_row rs x) v) e (owner-left rs' x ∙ sym (owner-left rs x))
    | inr ne ↦ sym (owner-other rs' x y ne) ∙ g.others y ne ∙ owner-other rs x y ne
  ]

  -- the owner that it had isn't inside it
  pub still-apart : (from : Owner) → Rooted rs → owner_of rs x ≡ Some from → is_inside rs' from (Of x) ≡ false
  still-apart from rooted was = by_test (is_inside rs' from (Of x))
      (λ t. let low : is_inside (changed left_row rs' x) from (Of x) ≡ true = reaches-inside (changed left_row rs' x) (length rs') from (Of x) (reach-to rs' x (length rs') (Some from) ∙ t) in
      let no : is_inside (changed left_row rs' x) from (Of x) ≡ false = inside-same (changed left_row rs x) (changed left_row rs' x) low-owners from (Of x) ∙ apart rs x from rooted was in
      let bad : true ≡ false = sym low ∙ no in cc)
      (λ t. t)

  -- the sums are those where it is still below the owner that it had
  pub had-owner : (ls : List Limited) (from : Owner) → owner_of rs x ≡ Some from → AllSums ls rs → AllSums ls (changed (owned_row from) rs' x)
  had-owner ls from was s = same-sums rs (changed (owned_row from) rs' x) (λ y. weight-same charge rs (changed (owned_row from) rs' x) owners weights y) ls s
    where
      now : (q : Option Row) → row_of rs' x ≡ q → owner_of (changed (owned_row from) rs' x) x ≡ Some from
      now None f = let bad : false ≡ true = rw f at g.there in cc
      now (Some r) f = ap owner_in (row_of-changed-same (owned_row from) rs' x r (λ q. refl) f)

      owners : SameOwners rs (changed (owned_row from) rs' x)
      owners y = elim (same_or_not x y) [
        | inl e ↦ subst (λ (v : Obj). owner_of (changed (owned_row from) rs' x) v ≡ owner_of rs v) e (now (row_of rs' x) refl ∙ sym was)
        | inr ne ↦ ap owner_in (row_of-changed-other (owned_row from) rs' x y (λ q. refl) ne) ∙ g.others y ne
      ]

      weights : SameWeights charge rs (changed (owned_row from) rs' x)
      weights k = changed-weights charge (owned_row from) rs' x (λ q. refl) (λ q. refl) k ∙ g.weights k

  -- one that had none is as if it had left
  pub had-none : (ls : List Limited) → owner_of rs x ≡ None → AllSums ls rs → AllSums ls (changed left_row rs' x)
  had-none ls was s = same-sums rs (changed left_row rs' x) (λ y. weight-same charge rs (changed left_row rs' x) owners weights y) ls s
    where
      owners : SameOwners rs (changed left_row rs' x)
      owners y = elim (same_or_not x y) [
        | inl e ↦ subst (λ (v : Obj). owner_of (changed left_row rs' x) v ≡ owner_of rs v) e (owner-left rs' x ∙ sym was)
        | inr ne ↦ sym (owner-other rs' x y ne) ∙ g.others y ne
      ]

      weights : SameWeights charge rs (changed left_row rs' x)
      weights k = changed-weights charge left_row rs' x (λ q. refl) (λ q. refl) k ∙ g.weights k

-- where it went
row-elsewhere : (rs rs' : List Row) (x : Obj) → is_row rs x ≡ true → ((r : Row) → row_of rs x ≡ Some r → GoesElsewhere rs rs' x) → GoesElsewhere rs rs' x
row-elsewhere rs rs' x is h = each (row_of rs x) refl
  where
    each : (q : Option Row) → row_of rs x ≡ q → GoesElsewhere rs rs' x
    each None e = let bad : false ≡ true = rw e at is in cc
    each (Some r) e = h r e

pub went-elsewhere : (x : Obj) (from : Option Owner) (ls : List Limited) (rs' : List Row) → (w : WentFrom x from ls rs') → GoesElsewhere w.rows rs' x
went-elsewhere x from ls rs' w = row-elsewhere w.rows rs' x w.may.is (λ r e. then-same w.rows (placed_rows w.rows w.owner x) rs' x (placed-elsewhere w.rows w.owner x r e) w.placed)

-- it has left the owner that it had
pub has-left : (rs rs' : List Row) (x : Obj) (from : Owner) → owner_of rs x ≡ Some from → SameRows (changed left_row rs x) rs' → GoesElsewhere rs rs' x
has-left rs rs' x from was e = row-elsewhere rs rs' x (there (row_of rs x) refl) (λ r is. then-same rs (changed left_row rs x) rs' x (left-elsewhere rs x r is) e)
  where
    there : (q : Option Row) → row_of rs x ≡ q → is_row rs x ≡ true
    there None f = let bad : None ≡ Some from = sym (ap owner_in f) ∙ was in cc
    there (Some r) f = rw f refl

pub has-none : (rs rs' : List Row) (x : Obj) → SameRows (changed left_row rs x) rs' → owner_of rs' x ≡ None
has-none rs rs' x e = same-owners (changed left_row rs x) rs' e x ∙ owner-left rs x

-- ---- an object that is no more

no-more-limit : (rs : List Row) (x y : Obj) → Distinct rs → limit_at (without rs x) y ≡ (if same x y then 0 else limit_at rs y)
no-more-limit rs x y d = elim (same_or_not x y) [
  | inl e ↦ let t : same x y ≡ true = same-equal x y e in rw t (subst (λ (v : Obj). limit_at (without rs x) v ≡ 0) e (ap limit_in (row_of-without-same rs x d)))
  | inr ne ↦ let t : same x y ≡ false = same-false x y ne in rw t (ap limit_in (row_of-without-other rs x y ne))
]

-- what is kept without it is right, where the sums are
pub no-more : (ls ls' : List Limited) (rs rs' : List Row) (x : Obj) → Distinct rs → ls' ≡ unlimited ls x → AllSums ls' (without rs x) → SameRows (without rs x) rs' → AreLimitsOf ls rs → AreLimitsOf ls' rs'
no-more ls ls' rs rs' x d is s e a = same-kept ls' (without rs x) rs' e (record {
  limits = λ y. ap (λ (ks : List Limited). limit_of ks y) is ∙ limit-unlimited ls x y ∙ ap (λ (n : ℕ). if same x y then 0 else n) (a.limits y) ∙ sym (no-more-limit rs x y d);
  bound = subst AllBound (sym is) (bound-unlimited ls x a.bound);
  sums = s;
})

-- what a reference refers to tells that it is there
pub refers-row : (rs : List Row) (r t : Obj) → target_at rs r ≡ Some t → is_row rs r ≡ true
refers-row rs r t is = each (row_of rs r) refl
  where
    each : (q : Option Row) → row_of rs r ≡ q → is_row rs r ≡ true
    each None e = let bad : None ≡ Some t = rw e at is in cc
    each (Some q) e = rw e refl

-- ---- a step that changes nothing that counts

pub other-step : (t : FreeStep) (rs rs' : List Row) → ((r target : Obj) → t ≡ Dropped r target → ⊥) → ((x : Obj) (from : Owner) → t ≡ Left x from → ⊥) → ((x : Obj) (from o : Owner) → t ≡ Moved x from o → ⊥) → ((x : Obj) (h : ℕ) → t ≡ Gone x h → ⊥)
    → ChangedBy t rs rs' → SameRows rs rs'
other-step (Dropped r target) rs rs' d l m g c = absurd (d r target refl)
other-step (Left x from) rs rs' d l m g c = absurd (l x from refl)
other-step (Moved x from o) rs rs' d l m g c = absurd (m x from o refl)
other-step (Gone x h) rs rs' d l m g c = absurd (g x h refl)
other-step _ rs rs' d l m g c = c
