-- What an object that gets an owner adds to the weights of those that it comes to be inside of.
use Rattle.std.proofs.Common.{◌≡◌, ◌≢◌, ℕ, zero, suc, ◌+◌, List, [], ◌∷◌, length, Option, Some, None, Bool, true, false, ◌&&◌, ◌||◌, if◌then◌else◌, refl, sym, ◌∙◌, ap, subst, inl, inr, arith}
use Rattle.tree_specs.specs.declared.object.Obj.{Obj}
use Rattle.tree_specs.specs.declared.object.Owner.{Owner}
use Rattle.tree_specs.specs.declared.object.Owner.TheVariants.{Root, Of}
use Rattle.tree_specs.specs.declared.row.Row.{Row}
use Rattle.tree_specs.specs.Words.Objects.{same, same_owner}
use Rattle.tree_specs.specs.Tree.Pool.{owner_of, reaches, is_inside}
use Rattle.tree_specs.specs.Tree.Forest.{ends, Rooted}
use Rattle.tree_specs.specs.Tree.Inside.{total}
use Rattle.tree_specs.proofs.Tree.Numbered.{by_test, same_or_not, same-false, same_owner-true}
use Rattle.tree_specs.proofs.Tree.Ancestry.{reach-root, reaches-inside, inside-self, inside-owner, inside-trans}

-- what all rows inside an owner weigh
abbrev pub weight_inside : (Row → ℕ) → List Row → Owner → ℕ
weight_inside g rs p = total (λ r. if is_inside rs (Of r.serial) p then g r else 0) rs

-- the same objects with the same weights
abbrev pub SameWeights : (Row → ℕ) → List Row → List Row → Type 0
SameWeights g rs rs' = (k : Obj → ℕ → ℕ) → total (λ r. k r.serial (g r)) rs' ≡ total (λ r. k r.serial (g r)) rs

-- each object has the same owner
abbrev pub SameOwners : List Row → List Row → Type 0
SameOwners rs rs' = (y : Obj) → owner_of rs' y ≡ owner_of rs y

-- ---- the same owners

reach-same : (rs rs' : List Row) → SameOwners rs rs' → (n : ℕ) (o : Option Owner) (y : Owner) → reaches n rs' o y ≡ reaches n rs o y
reach-same rs rs' h (suc n) (Some (Of x)) y = ap (λ (b : Bool). same_owner (Of x) y || b) (ap (λ (o : Option Owner). reaches n rs' o y) (h x) ∙ reach-same rs rs' h n (owner_of rs x) y)
reach-same rs rs' h _ _ y = refl

pub inside-same : (rs rs' : List Row) → SameOwners rs rs' → (o y : Owner) → is_inside rs' o y ≡ is_inside rs o y
inside-same rs rs' h o y = by_test (is_inside rs o y)
    (λ t. reaches-inside rs' (length rs) o y (reach-same rs rs' h (length rs) (Some o) y ∙ t) ∙ sym t)
    (λ t. by_test (is_inside rs' o y)
    (λ u. let v : is_inside rs o y ≡ true = reaches-inside rs (length rs') o y (sym (reach-same rs rs' h (length rs') (Some o) y) ∙ u) in u ∙ sym v)
    (λ u. u ∙ sym t))

pub weight-same : (g : Row → ℕ) (rs rs' : List Row) → SameOwners rs rs' → SameWeights g rs rs' → (y : Owner) → weight_inside g rs' y ≡ weight_inside g rs y
weight-same g rs rs' h w y = totals rs' ∙ w (λ s n. if is_inside rs (Of s) y then n else 0)
  where
    totals : (qs : List Row) → total (λ r. if is_inside rs' (Of r.serial) y then g r else 0) qs ≡ total (λ r. if is_inside rs (Of r.serial) y then g r else 0) qs
    totals [] = refl
    totals (q ∷ qs) = let ih = totals qs in let e = ap (λ (b : Bool). if b then g q else 0) (inside-same rs rs' h (Of q.serial) y) in omega (arith, ih, e)

-- ---- an object that has no owner

pub inside-lone : (rs : List Row) (x : Obj) (y : Owner) → owner_of rs x ≡ None → is_inside rs (Of x) y ≡ same_owner (Of x) y
inside-lone rs x y e = each (length rs)
  where
    each : (n : ℕ) → reaches n rs (Some (Of x)) y ≡ same_owner (Of x) y
    each zero = refl
    each (suc n) = by_test (same_owner (Of x) y) (λ t. rw t refl) (λ t. rw (t, e) refl)

-- ---- an object that gets an owner

module _ (low rs : List Row) (x : Obj) (o : Owner) (but : (y : Obj) → x ≢ y → owner_of rs y ≡ owner_of low y) (lone : owner_of low x ≡ None) (below : owner_of rs x ≡ Some o)
    (rooted : Rooted low) (apart : is_inside low o (Of x) ≡ false) where
  -- what is inside y comes to it without x, or by way of x
  split : (n : ℕ) (q : Owner) → ends n low (Some q) ≡ true → (y : Owner) → is_inside rs q y ≡ (is_inside low q y || (is_inside low q (Of x) && is_inside rs o y))
  split zero q e y = cc
  split (suc n) Root e y = rw (reach-root rs (length rs) y, reach-root low (length low) y, reach-root low (length low) (Of x)) (by_test (same_owner Root y) (λ t. rw t refl) (λ t. rw t refl))
  split (suc n) (Of z) e y = elim (same_or_not x z) [
    | inl is ↦ subst (λ (v : Obj). is_inside rs (Of v) y ≡ (is_inside low (Of v) y || (is_inside low (Of v) (Of x) && is_inside rs o y))) is
        (inside-owner rs x o y below ∙ rw (inside-lone low x y lone, inside-self low (Of x)) refl)
    | inr ne ↦ by-owner (λ p f. split n p f y) ne (owner_of low z) refl
  ]
    where
      other : x ≢ z → same z x ≡ false
      other ne = same-false z x (λ q. ne (sym q))

      by-owner : ((p : Owner) → ends n low (Some p) ≡ true → is_inside rs p y ≡ (is_inside low p y || (is_inside low p (Of x) && is_inside rs o y))) → x ≢ z → (p : Option Owner) → owner_of low z ≡ p → is_inside rs (Of z) y ≡ (is_inside low (Of z) y || (is_inside low (Of z) (Of x) && is_inside rs o y))
      by-owner ih ne None f = rw (inside-lone rs z y (but z ne ∙ f), inside-lone low z y f, inside-lone low z (Of x) f, other ne) (by_test (same_owner (Of z) y) (λ t. rw t refl) (λ t. rw t refl))
      by-owner ih ne (Some p) f =
          rw (inside-owner rs z p y (but z ne ∙ f), inside-owner low z p y f, inside-owner low z p (Of x) f, other ne, ih p (sym (ap (ends n low) f) ∙ e)) (by_test (same_owner (Of z) y) (λ t. rw t refl) (λ t. rw t refl))

  pub any-split : (q y : Owner) → is_inside rs q y ≡ (is_inside low q y || (is_inside low q (Of x) && is_inside rs o y))
  any-split q y = split (suc (length low)) q (rooted q) y

  -- the new owner is inside what it was inside of
  pub owner-stays : (y : Owner) → is_inside rs o y ≡ is_inside low o y
  owner-stays y = any-split o y ∙ rw apart (by_test (is_inside low o y) (λ t. rw t refl) (λ t. rw t refl))

  -- of two owners that q is inside of, x is the outer one
  outer : (n : ℕ) (q : Owner) → ends n low (Some q) ≡ true → (y : Owner) → is_inside low q y ≡ true → is_inside low q (Of x) ≡ true → is_inside low y (Of x) ≡ true
  outer zero q e y h k = cc
  outer (suc n) Root e y h k = let bad : false ≡ true = sym (reach-root low (length low) (Of x)) ∙ k in cc
  outer (suc n) (Of z) e y h k = by_test (same_owner (Of z) y)
      (λ t. subst (λ (v : Owner). is_inside low v (Of x) ≡ true) (same_owner-true (Of z) y t) k)
      (λ t. elim (same_or_not x z) [
        | inl is ↦ let h' : is_inside low (Of x) y ≡ true = rw is h in let t' : same_owner (Of x) y ≡ false = rw is t in let bad : false ≡ true = sym t' ∙ sym (inside-lone low x y lone) ∙ h' in cc
        | inr ne ↦ by-owner (λ p f h' k'. outer n p f y h' k') ne t (owner_of low z) refl
      ])
    where
      by-owner : ((p : Owner) → ends n low (Some p) ≡ true → is_inside low p y ≡ true → is_inside low p (Of x) ≡ true → is_inside low y (Of x) ≡ true) → x ≢ z → same_owner (Of z) y ≡ false → (p : Option Owner) → owner_of low z ≡ p → is_inside low y (Of x) ≡ true
      by-owner ih ne t None f = let bad : false ≡ true = sym t ∙ sym (inside-lone low z y f) ∙ h in cc
      by-owner ih ne t (Some p) f =
          let other : same z x ≡ false = same-false z x (λ q. ne (sym q)) in
          let h' : is_inside low p y ≡ true = rw t at (sym (inside-owner low z p y f) ∙ h) in
          let k' : is_inside low p (Of x) ≡ true = rw other at (sym (inside-owner low z p (Of x) f) ∙ k) in
          ih p (sym (ap (ends n low) f) ∙ e) h' k'

  -- so no row is counted twice
  once : (q y : Owner) → is_inside low q y ≡ true → is_inside low q (Of x) ≡ true → is_inside low o y ≡ false
  once q y h k = by_test (is_inside low o y)
      (λ t. let bad : true ≡ false = sym (inside-trans low o y (Of x) t (outer (suc (length low)) q (rooted q) y h k)) ∙ apart in cc)
      (λ t. t)

  row-split : (w : ℕ) (q y : Owner) → (if is_inside rs q y then w else 0) ≡ (if is_inside low q y then w else 0) + (if is_inside low o y then (if is_inside low q (Of x) then w else 0) else 0)
  row-split w q y = rw (any-split q y, owner-stays y) (by_test (is_inside low q y)
      (λ t. by_test (is_inside low q (Of x))
      (λ u. let v = once q y t u in rw (t, u, v) (omega arith))
      (λ u. by_test (is_inside low o y) (λ v. rw (t, u, v) (omega arith)) (λ v. rw (t, u, v) (omega arith))))
      (λ t. by_test (is_inside low q (Of x))
      (λ u. by_test (is_inside low o y) (λ v. rw (t, u, v) (omega arith)) (λ v. rw (t, u, v) (omega arith)))
      (λ u. by_test (is_inside low o y) (λ v. rw (t, u, v) (omega arith)) (λ v. rw (t, u, v) (omega arith)))))

  total-split : (g : Row → ℕ) (y : Owner) (qs : List Row) → total (λ r. if is_inside rs (Of r.serial) y then g r else 0) qs
      ≡ total (λ r. if is_inside low (Of r.serial) y then g r else 0) qs + (if is_inside low o y then total (λ r. if is_inside low (Of r.serial) (Of x) then g r else 0) qs else 0)
  total-split g y [] = by_test (is_inside low o y) (λ t. rw t refl) (λ t. rw t refl)
  total-split g y (q ∷ qs) =
      let ih = total-split g y qs in
      let e = row-split (g q) (Of q.serial) y in
      by_test (is_inside low o y)
      (λ t. let ih' = rw t at ih in let e' = rw t at e in rw t (omega (arith, ih', e')))
      (λ t. let ih' = rw t at ih in let e' = rw t at e in rw t (omega (arith, ih', e')))

  -- what x weighs with all inside it is added where its owner is inside of
  pub attached : (g : Row → ℕ) → SameWeights g low rs → (y : Owner) → weight_inside g rs y ≡ weight_inside g low y + (if is_inside low o y then weight_inside g low (Of x) else 0)
  attached g w y = w (λ s n. if is_inside rs (Of s) y then n else 0) ∙ total-split g y low

  -- and x weighs what it weighed
  pub own-weight : (g : Row → ℕ) → SameWeights g low rs → weight_inside g rs (Of x) ≡ weight_inside g low (Of x)
  own-weight g w = let e = attached g w (Of x) in let e' = rw apart at e in omega (arith, e')
