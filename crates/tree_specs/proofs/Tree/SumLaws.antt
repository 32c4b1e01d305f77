-- The sums of what is inside: what they are after an object has left its owner, came below one, or got another size.
use Rattle.std.proofs.Common.{◌≡◌, ◌≢◌, ℕ, zero, suc, ◌+◌, ◌≤◌, List, [], ◌∷◌, length, Option, Some, None, Bool, true, false, if◌then◌else◌, refl, sym, ◌∙◌, ap, subst, inl, inr, arith}
use Rattle.std.specs.Prelude.{◌||◌}
use Rattle.tree_specs.specs.declared.object.Obj.{Obj}
use Rattle.tree_specs.specs.declared.object.Owner.{Owner}
use Rattle.tree_specs.specs.declared.object.Owner.TheVariants.{Root, Of}
use Rattle.tree_specs.specs.declared.row.Row.{Row}
use Rattle.tree_specs.specs.Words.Objects.{same, same_owner}
use Rattle.tree_specs.specs.Tree.Pool.{row_of, owner_in, owner_of, reaches, is_inside, changed, without, left_row, owned_row, sized_row}
use Rattle.tree_specs.specs.Tree.Forest.{Rooted, Distinct}
use Rattle.tree_specs.specs.Tree.Inside.{total}
use Rattle.tree_specs.specs.Tree.Targets.{is_reference}
use Rattle.tree_specs.specs.Tree.Sums.{overhead, charge, sum_inside}
use Rattle.tree_specs.proofs.Tree.Numbered.{by_test, same_or_not, same-false}
use Rattle.tree_specs.proofs.Tree.Rows.{row_of-changed-other, row_of-changed-same, row_of-changed-none, row_of-without-same, row_of-without-other, row_of-serial, total-changed, total-without}
use Rattle.tree_specs.proofs.Tree.Ancestry.{reaches-inside, inside-self, inside-owner, no_way_back}
use Rattle.tree_specs.proofs.Tree.Rooted.{Rooted-left, Rooted-below}
use Rattle.tree_specs.proofs.Tree.Attached.{SameWeights, SameOwners, inside-same, inside-lone, weight-same, attached, own-weight, owner-stays}

-- ---- a row is changed

-- a change that leaves number and weight leaves all weights
pub changed-weights : (g : Row → ℕ) (f : Row → Row) (rs : List Row) (x : Obj) → ((r : Row) → (f r).serial ≡ r.serial) → ((r : Row) → g (f r) ≡ g r) → SameWeights g rs (changed f rs x)
changed-weights g f [] x k w h = refl
changed-weights g f (r ∷ rs) x k w h = by_test (same r.serial x)
    (λ t. let e = ap (λ (s : Obj). h s (g (f r))) (k r) in let e2 = ap (h r.serial) (w r) in rw t (omega (arith, e, e2)))
    (λ t. let ih = changed-weights g f rs x k w h in rw t (omega (arith, ih)))

-- the owner of an object in the rows where it has left
pub owner-left : (rs : List Row) (x : Obj) → owner_of (changed left_row rs x) x ≡ None
owner-left rs x = each (row_of rs x) refl
  where
    each : (q : Option Row) → row_of rs x ≡ q → owner_of (changed left_row rs x) x ≡ None
    each None e = ap owner_in (row_of-changed-none left_row rs x x (λ r. refl) e)
    each (Some r) e = ap owner_in (row_of-changed-same left_row rs x r (λ q. refl) e)

pub owner-other : (rs : List Row) (x y : Obj) → x ≢ y → owner_of rs y ≡ owner_of (changed left_row rs x) y
owner-other rs x y ne = sym (ap owner_in (row_of-changed-other left_row rs x y (λ r. refl) ne))

-- where it has left one comes no further
pub reach-left : (rs : List Row) (x : Obj) (n : ℕ) (o : Option Owner) (y : Owner) → reaches n (changed left_row rs x) o y ≡ true → reaches n rs o y ≡ true
reach-left rs x (suc n) (Some (Of z)) y h = by_test (same_owner (Of z) y)
    (λ t. rw t refl)
    (λ t. let h' : reaches n (changed left_row rs x) (owner_of (changed left_row rs x) z) y ≡ true = rw t at h in rw t (up (λ o k. reach-left rs x n o y k) h'))
  where
    up : ((o : Option Owner) → reaches n (changed left_row rs x) o y ≡ true → reaches n rs o y ≡ true) → reaches n (changed left_row rs x) (owner_of (changed left_row rs x) z) y ≡ true → reaches n rs (owner_of rs z) y ≡ true
    up ih k = elim (same_or_not x z) [
      | inl is ↦ let none : owner_of (changed left_row rs x) z ≡ None = subst (λ (v : Obj). owner_of (changed left_row rs x) v ≡ None) is (owner-left rs x) in let bad : false ≡ true = rw none at k in cc
      | inr ne ↦ ih (owner_of rs z) (ap (λ (o : Option Owner). reaches n (changed left_row rs x) o y) (owner-other rs x z ne) ∙ k)
    ]
reach-left rs x _ _ y h = h

-- ---- an object below its owner

module _ (rs : List Row) (x : Obj) (o : Owner) (rooted : Rooted rs) (below : owner_of rs x ≡ Some o) where
  abbrev low : List Row
  low = changed left_row rs x

  pub apart : is_inside low o (Of x) ≡ false
  apart = by_test (is_inside low o (Of x))
      (λ t. let back : is_inside rs o (Of x) ≡ true = reaches-inside rs (length low) o (Of x) (reach-left rs x (length low) (Some o) (Of x) t) in
      let no : reaches (length rs) rs (owner_of rs x) (Of x) ≡ false = no_way_back rs (length rs) (suc (length rs)) (Of x) (rooted (Of x)) in
      let no' : is_inside rs o (Of x) ≡ false = sym (ap (λ (p : Option Owner). reaches (length rs) rs p (Of x)) below) ∙ no in
      let bad : true ≡ false = sym back ∙ no' in cc)
      (λ t. t)

  weights : SameWeights charge low rs
  weights k = sym (changed-weights charge left_row rs x (λ r. refl) (λ r. refl) k)

  -- it adds what is inside it to those that its owner is inside of
  pub sum-below : (y : Owner) → sum_inside rs y ≡ sum_inside low y + (if is_inside rs o y then sum_inside rs (Of x) else 0)
  sum-below y =
      let a = attached low rs x o (λ y ne. owner-other rs x y ne) (owner-left rs x) below (Rooted-left rs x rooted) apart charge weights y in
      let w = own-weight low rs x o (λ y ne. owner-other rs x y ne) (owner-left rs x) below (Rooted-left rs x rooted) apart charge weights in
      let s = owner-stays low rs x o (λ y ne. owner-other rs x y ne) (owner-left rs x) below (Rooted-left rs x rooted) apart y in
      a ∙ rw (s, w) refl

  -- which is the same as where it has left
  pub sum-own : sum_inside rs (Of x) ≡ sum_inside low (Of x)
  sum-own = own-weight low rs x o (λ y ne. owner-other rs x y ne) (owner-left rs x) below (Rooted-left rs x rooted) apart charge weights

-- ---- an object without an owner

-- it leaves nobody
pub sum-lone : (rs : List Row) (x : Obj) → owner_of rs x ≡ None → (y : Owner) → sum_inside rs y ≡ sum_inside (changed left_row rs x) y
sum-lone rs x lone y = weight-same charge (changed left_row rs x) rs owners (λ k. sym (changed-weights charge left_row rs x (λ r. refl) (λ r. refl) k)) y
  where
    owners : SameOwners (changed left_row rs x) rs
    owners z = elim (same_or_not x z) [
      | inl is ↦ subst (λ (v : Obj). owner_of rs v ≡ owner_of (changed left_row rs x) v) is (lone ∙ sym (owner-left rs x))
      | inr ne ↦ owner-other rs x z ne
    ]

-- what is inside it is the same wherever it is
pub sum-anywhere : (rs : List Row) (x : Obj) → Rooted rs → sum_inside rs (Of x) ≡ sum_inside (changed left_row rs x) (Of x)
sum-anywhere rs x rooted = each (owner_of rs x) refl
  where
    each : (o : Option Owner) → owner_of rs x ≡ o → sum_inside rs (Of x) ≡ sum_inside (changed left_row rs x) (Of x)
    each None e = sum-lone rs x e (Of x)
    each (Some o) e = sum-own rs x o rooted e

-- ---- an owner that an object has left

-- a way that doesn't come to x is the same without it
reach-past : (rs : List Row) (x : Obj) (n : ℕ) (q y : Owner) → is_inside rs q (Of x) ≡ false → reaches n rs (Some q) y ≡ reaches n (changed left_row rs x) (Some q) y
reach-past rs x zero q y out = refl
reach-past rs x (suc n) Root y out = refl
reach-past rs x (suc n) (Of z) y out = ap (λ (b : Bool). same_owner (Of z) y || b) (on (λ q h. reach-past rs x n q y h) (owner_of rs z) refl)
  where
    ne : x ≢ z
    ne e = let back : is_inside rs (Of z) (Of x) ≡ true = subst (λ (v : Obj). is_inside rs (Of z) (Of v) ≡ true) (sym e) (inside-self rs (Of z)) in let bad : true ≡ false = sym back ∙ out in cc

    on : ((q : Owner) → is_inside rs q (Of x) ≡ false → reaches n rs (Some q) y ≡ reaches n (changed left_row rs x) (Some q) y) → (o : Option Owner) → owner_of rs z ≡ o
        → reaches n rs (owner_of rs z) y ≡ reaches n (changed left_row rs x) (owner_of (changed left_row rs x) z) y
    on ih None e = ap (λ (o : Option Owner). reaches n rs o y) e ∙ sym (ap (λ (o : Option Owner). reaches n (changed left_row rs x) o y) (sym (owner-other rs x z ne) ∙ e))
    on ih (Some q) e =
        let apart : (same_owner (Of z) (Of x) || is_inside rs q (Of x)) ≡ false = sym (inside-owner rs z q (Of x) e) ∙ out in
        let far : is_inside rs q (Of x) ≡ false = second (same_owner (Of z) (Of x)) (is_inside rs q (Of x)) apart in
        ap (λ (o : Option Owner). reaches n rs o y) e ∙ ih q far ∙ sym (ap (λ (o : Option Owner). reaches n (changed left_row rs x) o y) (sym (owner-other rs x z ne) ∙ e))
      where
        second : (a b : Bool) → (a || b) ≡ false → b ≡ false
        second true b h = cc
        second false b h = h

inside-past : (rs : List Row) (x : Obj) (q y : Owner) → is_inside rs q (Of x) ≡ false → is_inside rs q y ≡ is_inside (changed left_row rs x) q y
inside-past rs x q y out = by_test (is_inside rs q y)
    (λ t. t ∙ sym (reaches-inside (changed left_row rs x) (length rs) q y (sym (reach-past rs x (length rs) q y out) ∙ t)))
    (λ t. by_test (is_inside (changed left_row rs x) q y)
    (λ u. let v : is_inside rs q y ≡ true = reaches-inside rs (length (changed left_row rs x)) q y (reach-past rs x (length (changed left_row rs x)) q y out ∙ u) in v ∙ sym u)
    (λ u. t ∙ sym u))

-- what an object took from those that its owner was inside of
module _ (rs : List Row) (x : Obj) (r : Row) (from : Owner) (rooted : Rooted rs) (is : row_of rs x ≡ Some r) (out : is_inside rs from (Of x) ≡ false) where
  abbrev before : List Row
  before = changed (owned_row from) rs x

  was-below : owner_of before x ≡ Some from
  was-below = ap owner_in (row_of-changed-same (owned_row from) rs x r (λ q. refl) is)

  was-other : (y : Obj) → x ≢ y → owner_of before y ≡ owner_of rs y
  was-other y ne = ap owner_in (row_of-changed-other (owned_row from) rs x y (λ q. refl) ne)

  rooted-before : Rooted before
  rooted-before = Rooted-below rs before x from was-other rooted was-below out

  left-owners : SameOwners (changed left_row rs x) (changed left_row before x)
  left-owners y = elim (same_or_not x y) [
    | inl e ↦ subst (λ (v : Obj). owner_of (changed left_row before x) v ≡ owner_of (changed left_row rs x) v) e (owner-left before x ∙ sym (owner-left rs x))
    | inr ne ↦ sym (owner-other before x y ne) ∙ was-other y ne ∙ owner-other rs x y ne
  ]

  left-weights : SameWeights charge (changed left_row rs x) (changed left_row before x)
  left-weights k =
      let a = changed-weights charge left_row before x (λ q. refl) (λ q. refl) k in
      let b = changed-weights charge (owned_row from) rs x (λ q. refl) (λ q. refl) k in
      let c = changed-weights charge left_row rs x (λ q. refl) (λ q. refl) k in
      omega (arith, a, b, c)

  left-sum : (y : Owner) → sum_inside (changed left_row before x) y ≡ sum_inside (changed left_row rs x) y
  left-sum y = weight-same charge (changed left_row rs x) (changed left_row before x) left-owners left-weights y

  inside-before : (y : Owner) → is_inside before from y ≡ is_inside rs from y
  inside-before y =
      inside-past before x from y (by_test (is_inside before from (Of x))
      (λ t. let no : reaches (length before) before (owner_of before x) (Of x) ≡ false = no_way_back before (length before) (suc (length before)) (Of x) (rooted-before (Of x)) in
      let no' : is_inside before from (Of x) ≡ false = sym (ap (λ (p : Option Owner). reaches (length before) before p (Of x)) was-below) ∙ no in let bad : true ≡ false = sym t ∙ no' in cc)
      (λ t. t))
      ∙ inside-same (changed left_row rs x) (changed left_row before x) left-owners from y ∙ sym (inside-past rs x from y out)

  pub sum-before : (y : Owner) → sum_inside before y ≡ sum_inside (changed left_row rs x) y + (if is_inside rs from y then sum_inside rs (Of x) else 0)
  sum-before y =
      sum-below before x from rooted-before was-below y
      ∙ rw (left-sum y, inside-before y, sum-anywhere before x rooted-before ∙ left-sum (Of x) ∙ sym (sum-anywhere rs x rooted)) refl

-- ---- another size

-- an object of another size counts so much more or less where it is inside
pub sum-sized : (rs : List Row) (x : Obj) (r : Row) (size : ℕ) → row_of rs x ≡ Some r → is_reference r.kind ≡ false → (y : Owner)
    → (sum_inside (changed (sized_row size) rs x) y + (if is_inside rs (Of x) y then r.size else 0) ≡ sum_inside rs y + (if is_inside rs (Of x) y then size else 0))
    × ((if is_inside rs (Of x) y then size else 0) ≤ sum_inside (changed (sized_row size) rs x) y)
sum-sized rs x r size is object y =
    let h : Row → ℕ = λ q. if is_inside rs (Of q.serial) y then charge q else 0 in
    let t = total-changed h (sized_row size) rs x r is in
    let least = total-without h rs x r is in
    let s : r.serial ≡ x = row_of-serial rs x r is in
    let new : h (sized_row size r) ≡ (if is_inside rs (Of x) y then size + overhead else 0) = rw (s, object) refl in
    let old : h r ≡ (if is_inside rs (Of x) y then r.size + overhead else 0) = rw (s, object) refl in
    let e = same-view (changed (sized_row size) rs x) in
    by_test (is_inside rs (Of x) y)
    (λ u. let new' = rw u at new in let old' = rw u at old in rw u (omega (arith, t, e, new', old'), omega (arith, t, e, new', old', least)))
    (λ u. let new' = rw u at new in let old' = rw u at old in rw u (omega (arith, t, e, new', old'), omega arith))
  where
    owners : SameOwners rs (changed (sized_row size) rs x)
    owners z = elim (same_or_not x z) [
      | inl e ↦ subst (λ (v : Obj). owner_of (changed (sized_row size) rs x) v ≡ owner_of rs v) e (ap owner_in (row_of-changed-same (sized_row size) rs x r (λ q. refl) is) ∙ sym (ap owner_in is))
      | inr ne ↦ ap owner_in (row_of-changed-other (sized_row size) rs x z (λ q. refl) ne)
    ]

    same-view : (qs : List Row) → total (λ q. if is_inside (changed (sized_row size) rs x) (Of q.serial) y then charge q else 0) qs ≡ total (λ q. if is_inside rs (Of q.serial) y then charge q else 0) qs
    same-view [] = refl
    same-view (q ∷ qs) = let ih = same-view qs in let e = ap (λ (b : Bool). if b then charge q else 0) (inside-same rs (changed (sized_row size) rs x) owners (Of q.serial) y) in omega (arith, ih, e)

-- ---- an object that is no more

-- one without an owner counts for no other
pub sum-gone : (rs : List Row) (x : Obj) (r : Row) → Distinct rs → row_of rs x ≡ Some r → owner_of rs x ≡ None → (y : Obj) → x ≢ y → sum_inside (without rs x) (Of y) ≡ sum_inside rs (Of y)
sum-gone rs x r distinct is lone y ne =
    let h : Row → ℕ = λ q. if is_inside rs (Of q.serial) (Of y) then charge q else 0 in
    let t = total-without h rs x r is in
    let s : r.serial ≡ x = row_of-serial rs x r is in
    let far : is_inside rs (Of x) (Of y) ≡ false = inside-lone rs x (Of y) lone ∙ same-false x y ne in
    let none : h r ≡ 0 = rw (s, far) refl in
    let e = same-view (without rs x) in
    omega (arith, t, none, e)
  where
    owners : SameOwners rs (without rs x)
    owners z = elim (same_or_not x z) [
      | inl e ↦ subst (λ (v : Obj). owner_of (without rs x) v ≡ owner_of rs v) e (ap owner_in (row_of-without-same rs x distinct) ∙ sym lone)
      | inr other ↦ ap owner_in (row_of-without-other rs x z other)
    ]

    same-view : (qs : List Row) → total (λ q. if is_inside (without rs x) (Of q.serial) (Of y) then charge q else 0) qs ≡ total (λ q. if is_inside rs (Of q.serial) (Of y) then charge q else 0) qs
    same-view [] = refl
    same-view (q ∷ qs) = let ih = same-view qs in let e = ap (λ (b : Bool). if b then charge q else 0) (inside-same rs (without rs x) owners (Of q.serial) (Of y)) in omega (arith, ih, e)
