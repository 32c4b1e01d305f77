-- What each change leaves of the references.
use Rattle.std.proofs.Common.{◌≡◌, ◌≢◌, ℕ, suc, zero, length, List, [], ◌∷◌, Option, Some, None, Bool, true, false, refl, sym, ◌∙◌, ap, subst, inl, inr}
use Rattle.std.specs.Prelude.{nat_lt, not, ◌&&◌, is_some}
use Rattle.tree_specs.specs.declared.object.Obj.{Obj}
use Rattle.tree_specs.specs.declared.object.Owner.{Owner}
use Rattle.tree_specs.specs.declared.object.Owner.TheVariants.{Root, Of}
use Rattle.tree_specs.specs.declared.kind.Kind.{Kind}
use Rattle.tree_specs.specs.declared.kind.Kind.TheVariants as kind
use Rattle.tree_specs.specs.declared.row.Row.{Row}
use Rattle.tree_specs.specs.Words.Objects.{same, same_owner}
use Rattle.tree_specs.specs.Tree.Targets.{target_of, is_target, newer, newest, newest_ref}
use Rattle.tree_specs.specs.Tree.Pool.{reaches, without, owner_in, is_owner, is_inside, next_owner, is_below, newest_ref_of, row_of, is_object_row, target_in, target_at, first_kid, owner_of, changed}
use Rattle.tree_specs.specs.Calls.Refusals.{is_referable}
use Rattle.tree_specs.specs.Tree.Forest.{Distinct, IsForest}
use Rattle.tree_specs.specs.Invariants.Sound.{IsReferable, IsQuietRow, Refers}
use Rattle.tree_specs.proofs.Tree.Numbered.{by_test, same-true, same-equal, same-false, same_or_not, same_owner-false}
use Rattle.tree_specs.proofs.Tree.Rows.{first_kid-owner, row_of-without-other}
use Rattle.tree_specs.proofs.Tree.Ancestry.{reaches-inside}
use Rattle.tree_specs.proofs.Tree.Rooted.{is_there-owner}

-- ---- which reference is the newest

refers-to : (o : Option Obj) (x : Obj) → is_target o x ≡ true → o ≡ Some x
refers-to None x e = cc
refers-to (Some t) x e = ap Some (same-true t x e)

-- a row behind one of another number is the same row of all
behind-front : (s : Row) (rs : List Row) (y : Obj) (row : Row) → row_of rs s.serial ≡ None → row_of rs y ≡ Some row → row_of (s ∷ rs) y ≡ Some row
behind-front s rs y row none e =
    let other : same s.serial y ≡ false = same-false s.serial y (λ q. let bad : None ≡ Some row = sym none ∙ ap (row_of rs) q ∙ e in cc) in
    rw other e

-- the newest row of those that pass is one of them
pub newest-is : (q : Row → Bool) (rs : List Row) (r : Obj) → Distinct rs → newest q rs ≡ Some r → (row : Row) × (row_of rs r ≡ Some row) × (q row ≡ true)
newest-is q [] r d e = cc
newest-is q (s ∷ rs) r d e = by_test (q s)
    (λ t. let e' : newer s.serial (newest q rs) ≡ Some r = rw t at e in here t (newest q rs) refl e' (λ f. newest-is q rs r d.1 f))
    (λ t. let e' : newest q rs ≡ Some r = rw t at e in let w = newest-is q rs r d.1 e' in (w.0, behind-front s rs r w.0 d.0 w.1, w.2))
  where
    front : q s ≡ true → s.serial ≡ r → (row : Row) × (row_of (s ∷ rs) r ≡ Some row) × (q row ≡ true)
    front t e = (s, (let u : same s.serial r ≡ true = same-equal s.serial r e in rw u refl), t)

    here : q s ≡ true → (o : Option Obj) → newest q rs ≡ o → newer s.serial o ≡ Some r
        → (newest q rs ≡ Some r → (row : Row) × (row_of rs r ≡ Some row) × (q row ≡ true)) → (row : Row) × (row_of (s ∷ rs) r ≡ Some row) × (q row ≡ true)
    here t None n e ih = let e' : s.serial ≡ r = cc in front t e'
    here t (Some y) n e ih = by_test (nat_lt s.serial.0 y.0)
        (λ l. let e' : Some y ≡ Some r = rw l at e in let w = ih (n ∙ e') in (w.0, behind-front s rs r w.0 d.0 w.1, w.2))
        (λ l. let e' : Some s.serial ≡ Some r = rw l at e in let e'' : s.serial ≡ r = cc in front t e'')

-- the newest reference to an object is a row that refers to it
pub newest-refers : (rs : List Row) (x r : Obj) → Distinct rs → newest_ref rs x ≡ Some r → (row : Row) × (row_of rs r ≡ Some row) × (target_of row.kind ≡ Some x)
newest-refers rs x r d e = let w = newest-is (λ q. is_target (target_of q.kind) x) rs r d e in (w.0, w.1, refers-to (target_of w.0.kind) x w.2)

-- the newest reference of an owner is below it
pub newest-of-refers : (rs : List Row) (o : Owner) (x r : Obj) → Distinct rs → newest_ref_of rs o x ≡ Some r → (row : Row) × (row_of rs r ≡ Some row) × (target_of row.kind ≡ Some x) × (is_below row.owner o ≡ true)
newest-of-refers rs o x r d e =
    let w = newest-is (λ q. is_target (target_of q.kind) x && is_below q.owner o) rs r d e in
    let b = both-true (is_target (target_of w.0.kind) x) (is_below w.0.owner o) w.2 in
    (w.0, w.1, refers-to (target_of w.0.kind) x b.0, b.1)
  where
    both-true : (a b : Bool) → (a && b) ≡ true → (a ≡ true) × (b ≡ true)
    both-true true true e = (refl, refl)
    both-true true false e = cc
    both-true false b e = cc

newer-some : (s : Obj) (o : Option Obj) → newer s o ≢ None
newer-some s None e = cc
newer-some s (Some y) e = by_test (nat_lt s.0 y.0) (λ l. let bad : Some y ≡ None = rw l at e in cc) (λ l. let bad : Some s ≡ None = rw l at e in cc)

-- where there is no newest reference no row refers to the object
pub none-refers : (rs : List Row) (x y : Obj) → newest_ref rs x ≡ None → target_at rs y ≢ Some x
none-refers [] x y e t = cc
none-refers (s ∷ rs) x y e t = by_test (is_target (target_of s.kind) x)
    (λ u. let bad : newer s.serial (newest_ref rs x) ≡ None = rw u at e in newer-some s.serial (newest_ref rs x) bad)
    (λ u. let e' : newest_ref rs x ≡ None = rw u at e in by_test (same s.serial y)
    (λ v. let t' : target_of s.kind ≡ Some x = rw v at t in let w : is_target (target_of s.kind) x ≡ true = rw t' (same-equal x x refl) in let bad : true ≡ false = sym w ∙ u in cc)
    (λ v. let t' : target_at rs y ≡ Some x = rw v at t in none-refers rs x y e' t'))

-- an object that no row refers to
pub unreferred : (rs : List Row) (x : Obj) → Distinct rs → (IsReferable (row_of rs x) → ⊥) → Refers rs → newest_ref rs x ≡ None
unreferred rs x d not_so refers = each (newest_ref rs x) refl
  where
    each : (o : Option Obj) → newest_ref rs x ≡ o → newest_ref rs x ≡ None
    each None e = e
    each (Some r) e = let w = newest-refers rs x r d e in let t : target_at rs r ≡ Some x = rw w.1 w.2 in absurd (not_so (refers.target r x t))

-- a row that is changed and keeps its number and its kind
pub newest-changed : (g : Row → Row) (rs : List Row) (x y : Obj) → ((r : Row) → (g r).serial ≡ r.serial) → ((r : Row) → (g r).kind ≡ r.kind) → newest_ref (changed g rs x) y ≡ newest_ref rs y
newest-changed g [] x y k kinds = refl
newest-changed g (s ∷ rs) x y k kinds = by_test (same s.serial x)
    (λ t. rw (t, k s, kinds s) refl)
    (λ t. let ih = newest-changed g rs x y k kinds in rw (t, ih) refl)

-- ---- one row is another one

-- where the row of one object is changed
pub refers-at : (rs rs' : List Row) (x : Obj) → ((y : Obj) → x ≢ y → row_of rs' y ≡ row_of rs y)
    → ((t : Obj) → target_at rs' x ≡ Some t → IsReferable (row_of rs' t) × IsQuietRow (row_of rs' x))
    → ((y : Obj) → target_at rs y ≡ Some x → IsReferable (row_of rs' x)) → Refers rs → Refers rs'
refers-at rs rs' x other own still h = record {
  target = λ y t e. elim (same_or_not x y) [
    | inl is ↦ (own t (ap (target_at rs') is ∙ e)).0
    | inr ne ↦
        let e' : target_at rs y ≡ Some t = sym (ap target_in (other y ne)) ∙ e in
        elim (same_or_not x t) [
          | inl is ↦ subst (λ (z : Obj). IsReferable (row_of rs' z)) is (still y (e' ∙ ap Some (sym is)))
          | inr ne' ↦ rw (other t ne') (h.target y t e')
        ]
  ];
  quiet = λ y t e. elim (same_or_not x y) [
    | inl is ↦ subst (λ (z : Obj). IsQuietRow (row_of rs' z)) is (own t (ap (target_at rs') is ∙ e)).1
    | inr ne ↦ rw (other y ne) (h.quiet y t (sym (ap target_in (other y ne)) ∙ e))
  ];
}

-- no row, or the row of an object, refers to nothing
pub refers-nothing : (rs : List Row) (x t : Obj) → target_at rs x ≡ None → target_at rs x ≢ Some t
refers-nothing rs x t e q = let bad : None ≡ Some t = sym e ∙ q in cc

-- what may be referred to is no reference
pub plain-refers : (k : Kind) → is_referable k ≡ true → target_of k ≡ None
plain-refers kind.Plain e = refl
plain-refers kind.Request e = refl
plain-refers _ e = cc

pub referable-refers : (o : Option Row) → IsReferable o → target_in o ≡ None
referable-refers None h = absurd h
referable-refers (Some r) h = plain-refers r.kind h.0

-- ---- a reference owns nothing

pub object-refers : (o : Option Row) → is_object_row o ≡ true → target_in o ≡ None
object-refers None e = cc
object-refers (Some r) e = none (target_of r.kind) e
  where
    none : (o : Option Obj) → not (is_some o) ≡ true → o ≡ None
    none None e = refl
    none (Some t) e = cc

pub reference-childless : (rs : List Row) (r t : Obj) → IsForest rs → target_at rs r ≡ Some t → first_kid rs (Of r) ≡ None
reference-childless rs r t f e = each (first_kid rs (Of r)) refl
  where
    each : (o : Option Obj) → first_kid rs (Of r) ≡ o → first_kid rs (Of r) ≡ None
    each None k = k
    each (Some c) k =
        let owner : owner_of rs c ≡ Some (Of r) = first_kid-owner rs (Of r) c f.distinct k in
        let there : is_object_row (row_of rs r) ≡ true = rw owner at (is_there-owner rs rs c f.owned) in
        absurd (refers-nothing rs r t (object-refers (row_of rs r) there) e)

-- nothing but itself is inside a reference
pub reference-outside : (rs : List Row) (r t : Obj) (o : Owner) → IsForest rs → target_at rs r ≡ Some t → o ≢ Of r → is_inside rs o (Of r) ≡ false
reference-outside rs r t o f is ne = within (length rs) (Some o) (λ e. ne (let e' : o ≡ Of r = cc in e'))
  where
    owns-nothing : (y : Obj) → owner_of rs y ≢ Some (Of r)
    owns-nothing y e =
        let there : is_object_row (row_of rs r) ≡ true = rw e at (is_there-owner rs rs y f.owned) in
        refers-nothing rs r t (object-refers (row_of rs r) there) is

    owner-is : (o : Owner) → next_owner rs o ≢ Some (Of r)
    owner-is Root e = cc
    owner-is (Of y) e = owns-nothing y e

    within : (n : ℕ) (o : Option Owner) → o ≢ Some (Of r) → reaches n rs o (Of r) ≡ false
    within n None ne = refl
    within zero (Some o) ne = same_owner-false o (Of r) (λ e. ne (ap Some e))
    within (suc n) (Some o) ne = let u : same_owner o (Of r) ≡ false = same_owner-false o (Of r) (λ e. ne (ap Some e)) in rw u (within n (next_owner rs o) (owner-is o))

-- ---- what is left where a reference is gone

module _ (rs : List Row) (r t : Obj) (f : IsForest rs) (is : target_at rs r ≡ Some t) where
  owns-nothing : (o : Owner) → next_owner rs o ≢ Some (Of r)
  owns-nothing Root e = cc
  owns-nothing (Of y) e =
      let there : is_object_row (row_of rs r) ≡ true = rw e at (is_there-owner rs rs y f.owned) in
      refers-nothing rs r t (object-refers (row_of rs r) there) is

  next-without : (o : Owner) → o ≢ Of r → next_owner (without rs r) o ≡ next_owner rs o
  next-without Root ne = refl
  next-without (Of y) ne = ap owner_in (row_of-without-other rs r y (λ e. ne (ap Of (sym e))))

  reaches-without : (n : ℕ) (o : Option Owner) (y : Owner) → o ≢ Some (Of r) → reaches n (without rs r) o y ≡ true → reaches n rs o y ≡ true
  reaches-without n None y ne h = cc
  reaches-without zero (Some o) y ne h = h
  reaches-without (suc n) (Some o) y ne h = by_test (same_owner o y) (λ u. rw u refl)
      (λ u. let h' : reaches n (without rs r) (next_owner (without rs r) o) y ≡ true = rw u at h in
      let h'' : reaches n (without rs r) (next_owner rs o) y ≡ true = rw (next-without o (λ e. ne (ap Some e))) at h' in
      rw u (reaches-without n (next_owner rs o) y (owns-nothing o) h''))

  -- what was outside stays outside
  pub outside-without : (o y : Owner) → o ≢ Of r → is_inside rs o y ≡ false → is_inside (without rs r) o y ≡ false
  outside-without o y ne out = by_test (is_inside (without rs r) o y)
      (λ u. let i : is_inside rs o y ≡ true = reaches-inside rs (length (without rs r)) o y (reaches-without (length (without rs r)) (Some o) y (λ e. ne (let e' : o ≡ Of r = cc in e')) u) in
      let bad : true ≡ false = sym i ∙ out in cc)
      (λ u. u)

  pub owner-without : (o : Owner) → o ≢ Of r → is_owner rs o ≡ true → is_owner (without rs r) o ≡ true
  owner-without Root ne e = refl
  owner-without (Of y) ne e = ap is_object_row (row_of-without-other rs r y (λ q. ne (ap Of (sym q)))) ∙ e
