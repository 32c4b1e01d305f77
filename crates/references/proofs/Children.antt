-- The newest of the children of an owner that refer to an object, by a walk over them.
use Rattle.std.proofs.Common.{◌≡◌, ◌<◌, ◌≤◌, List, [], ◌∷◌, ◌++◌, Option, Some, None, true, false, refl, sym, ◌∙◌, ap, arith, append_assoc}
use Rattle.std.specs.Prelude.{slice_get, nat_lt}
use Rattle.std.proofs.lemmas.Bool.{eq-eqb, ltb-true, ltb-false, lt-ltb, le-ltb}
use Rattle.tree_specs.specs.declared.object.Obj.{Obj}
use Rattle.tree_specs.specs.declared.object.Owner.{Owner}
use Rattle.tree_specs.specs.declared.row.Row.{Row}
use Rattle.tree_specs.specs.Tree.Targets.{target_of as target_in_kind, is_target, newer}
use Rattle.tree_specs.specs.Tree.Pool.{row_of, is_below, target_in, kids, first_kid, next_kid, newest_ref_of}
use Rattle.tree_specs.specs.Tree.Forest.{Distinct}
use Rattle.tree_specs.proofs.Tree.Numbered.{by_test, same-true, same-equal}
use Rattle.tree_specs.proofs.Tree.Kids.{first_kid-kids, next_kid-kids}
use Rattle.references.specs.declared.refs.Pair.{Pair}
use Rattle.references.specs.Pairs.{target_of}
use Rattle.references.specs.Rows.{AreRefsOf}
use Rattle.references.specs.Linked.{with_ref, newest_among, newer_of_both, IsAtChild}
use Rattle.references.proofs.Rows.{row-behind}

-- the newest of all children that refer to an object is the newest reference that the owner has
among-kids : (ps : List Pair) (rs : List Row) (o : Owner) (x : Obj) → Distinct rs → ((y : Obj) (row : Row) → row_of rs y ≡ Some row → target_of ps y ≡ target_in_kind row.kind)
    → newest_among ps x (kids rs o) ≡ newest_ref_of rs o x
among-kids ps [] o x d there = refl
among-kids ps (r ∷ rs) o x d there =
    let here : target_of ps r.serial ≡ target_in_kind r.kind = there r.serial r (rw (same-equal r.serial r.serial refl) refl) in
    let ih = among-kids ps rs o x d.1 (λ y row e. there y row (row-behind r rs y row d.0 e)) in
    by_test (is_below r.owner o)
    (λ t. by_test (is_target (target_in_kind r.kind) x) (λ u. rw (t, here, u, ih) refl) (λ u. rw (t, here, u) ih))
    (λ t. by_test (is_target (target_in_kind r.kind) x) (λ u. rw (t, u) ih) (λ u. rw (t, u) ih))

pub at-first : (ps : List Pair) (rs : List Row) (o : Owner) (x : Obj) (child : Option Obj) → Distinct rs → AreRefsOf ps rs → child ≡ first_kid rs o → IsAtChild ps rs o x child None
at-first ps rs o x child d is e = record {
  before = [];
  after = kids rs o;
  children = refl;
  at_child = e ∙ first_kid-kids rs o;
  leads_to = among-kids ps rs o x d (λ y row f. is y ∙ ap target_in f);
}

-- neither is below the other
neither : (a b : Obj) → nat_lt a.0 b.0 ≡ false → nat_lt b.0 a.0 ≡ false → a ≡ b
neither a b t u = let l : b.0 ≤ a.0 = ltb-false a.0 b.0 t in let m : a.0 ≤ b.0 = ltb-false b.0 a.0 u in same-true a b (eq-eqb a.0 b.0 (omega (arith, l, m)))

-- it doesn't matter which of two comes first
newer-swapped : (a b : Obj) (o : Option Obj) → newer_of_both (newer a (Some b)) o ≡ newer b (newer a o)
newer-swapped a b None = by_test (nat_lt a.0 b.0)
    (λ t. let l : a.0 < b.0 = ltb-true a.0 b.0 t in let u : nat_lt b.0 a.0 ≡ false = le-ltb b.0 a.0 (omega (arith, l)) in rw (t, u) refl)
    (λ t. by_test (nat_lt b.0 a.0) (λ u. rw (t, u) refl) (λ u. rw (t, u) (ap Some (neither a b t u))))
newer-swapped a b (Some c) = by_test (nat_lt a.0 b.0)
    (λ t. let l : a.0 < b.0 = ltb-true a.0 b.0 t in let u : nat_lt b.0 a.0 ≡ false = le-ltb b.0 a.0 (omega (arith, l)) in
    by_test (nat_lt a.0 c.0)
    (λ v. rw (t, v) refl)
    (λ v. let m : c.0 ≤ a.0 = ltb-false a.0 c.0 v in let w : nat_lt b.0 c.0 ≡ false = le-ltb b.0 c.0 (omega (arith, l, m)) in rw (t, v, u, w) refl))
    (λ t. let l : b.0 ≤ a.0 = ltb-false a.0 b.0 t in
    by_test (nat_lt a.0 c.0)
    (λ v. let m : a.0 < c.0 = ltb-true a.0 c.0 v in let w : nat_lt b.0 c.0 ≡ true = lt-ltb b.0 c.0 (omega (arith, l, m)) in rw (t, v, w) refl)
    (λ v. by_test (nat_lt b.0 a.0) (λ u. rw (t, v, u) refl) (λ u. rw (t, v, u) (ap Some (neither a b t u)))))

newer-later : (a : Obj) (newest o : Option Obj) → newer_of_both (newer a newest) o ≡ newer_of_both newest (newer a o)
newer-later a None o = refl
newer-later a (Some b) o = newer-swapped a b o

with-later : (ps : List Pair) (x a : Obj) (newest o : Option Obj) → newer_of_both (with_ref ps x a newest) o ≡ newer_of_both newest (with_ref ps x a o)
with-later ps x a newest o = by_test (is_target (target_of ps a) x) (λ t. rw t (newer-later a newest o)) (λ t. rw t refl)

pub at-next : (ps : List Pair) (rs : List Row) (o : Owner) (x kid : Obj) (child newest child' newest' : Option Obj) → Distinct rs → IsAtChild ps rs o x child newest
    → child ≡ Some kid → child' ≡ next_kid rs kid → newest' ≡ with_ref ps x kid newest → IsAtChild ps rs o x child' newest'
at-next ps rs o x kid child newest child' newest' d h e next with = each h.before h.after h.children (sym h.at_child ∙ e) h.leads_to
  where
    each : (before after : List Obj) → kids rs o ≡ before ++ after → slice_get after 0 ≡ Some kid → newer_of_both newest (newest_among ps x after) ≡ newest_ref_of rs o x → IsAtChild ps rs o x child' newest'
    each before [] s f n = cc
    each before (k ∷ after) s f n =
        let one : k ≡ kid = cc in
        record {
          before = before ++ k ∷ [];
          after = after;
          children = s ∙ sym (append_assoc before (k ∷ []) after);
          at_child = next ∙ ap (next_kid rs) (sym one) ∙ next_kid-kids rs o k before after d s;
          leads_to = ap (λ (w : Option Obj). newer_of_both w (newest_among ps x after)) (with ∙ ap (λ (z : Obj). with_ref ps x z newest) (sym one))
              ∙ with-later ps x k newest (newest_among ps x after) ∙ n;
        }

newer-alone : (newest : Option Obj) → newer_of_both newest None ≡ newest
newer-alone None = refl
newer-alone (Some r) = refl

-- after the last child the newest one is found
pub at-end : (ps : List Pair) (rs : List Row) (o : Owner) (x : Obj) (child newest : Option Obj) → IsAtChild ps rs o x child newest → child ≡ None → newest ≡ newest_ref_of rs o x
at-end ps rs o x child newest h e = each h.after (sym h.at_child ∙ e) h.leads_to
  where
    each : (after : List Obj) → slice_get after 0 ≡ None → newer_of_both newest (newest_among ps x after) ≡ newest_ref_of rs o x → newest ≡ newest_ref_of rs o x
    each [] f n = sym (newer-alone newest) ∙ n
    each (k ∷ after) f n = cc
