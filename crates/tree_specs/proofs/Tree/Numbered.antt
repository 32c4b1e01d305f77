-- Objects and owners are the same exactly where their numbers are.
use Rattle.std.proofs.Common.{◌≡◌, ◌≢◌, ℕ, Option, Some, None, Bool, true, false, refl, sym, ◌∙◌, ap, ◌⊎◌, inl, inr}
use Rattle.std.proofs.lemmas.Bool.{eqb-true, eq-eqb}
use Rattle.tree_specs.specs.declared.object.Obj.{Obj}
use Rattle.tree_specs.specs.declared.object.Owner.{Owner}
use Rattle.tree_specs.specs.declared.object.Owner.TheVariants.{Root, Of}
use Rattle.tree_specs.specs.Words.Objects.{same, same_owner}
use Rattle.tree_specs.specs.Tree.Pool.{is_below}

-- a test that is not false is true
pub by_test : {P : Type 0} (b : Bool) → (b ≡ true → P) → (b ≡ false → P) → P
by_test true h k = h refl
by_test false h k = k refl

pub same-true : (x y : Obj) → same x y ≡ true → x ≡ y
same-true x y h = ap (λ (n : ℕ). let o : Obj = record { 0 = n } in o) (eqb-true x.0 y.0 h)

pub same-equal : (x y : Obj) → x ≡ y → same x y ≡ true
same-equal x y e = eq-eqb x.0 y.0 (ap (λ (o : Obj). o.0) e)

pub same-false : (x y : Obj) → x ≢ y → same x y ≡ false
same-false x y h = by_test (same x y) (λ e. absurd (h (same-true x y e))) (λ e. e)

-- two objects are the same or not
pub same_or_not : (x y : Obj) → (x ≡ y) ⊎ (x ≢ y)
same_or_not x y = by_test (same x y)
    (λ t. inl (same-true x y t))
    (λ t. inr (λ e. let u : same x y ≡ true = same-equal x y e in let bad : true ≡ false = sym u ∙ t in cc))

pub same_owner-true : (o p : Owner) → same_owner o p ≡ true → o ≡ p
same_owner-true Root Root h = refl
same_owner-true Root (Of y) h = cc
same_owner-true (Of x) Root h = cc
same_owner-true (Of x) (Of y) h = ap Of (same-true x y h)

pub same_owner-equal : (o p : Owner) → o ≡ p → same_owner o p ≡ true
same_owner-equal Root Root e = refl
same_owner-equal Root (Of y) e = cc
same_owner-equal (Of x) Root e = cc
same_owner-equal (Of x) (Of y) e = same-equal x y (let e' : x ≡ y = cc in e')

pub same_owner-false : (o p : Owner) → o ≢ p → same_owner o p ≡ false
same_owner-false o p h = by_test (same_owner o p) (λ e. absurd (h (same_owner-true o p e))) (λ e. e)

pub is_below-some : (o : Option Owner) (p : Owner) → is_below o p ≡ true → o ≡ Some p
is_below-some None p h = cc
is_below-some (Some o) p h = ap Some (same_owner-true o p h)
