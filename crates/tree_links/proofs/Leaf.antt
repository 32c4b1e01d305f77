-- Nothing else is inside an owner with no children.
use Rattle.std.proofs.Common.{◌≡◌, ℕ, suc, zero, true, false, List, [], ◌∷◌, length, Option, Some, None, is_some, refl, sym, ◌∙◌}
use Rattle.tree_specs.specs.declared.object.Obj.{Obj}
use Rattle.tree_specs.specs.declared.object.Owner.{Owner}
use Rattle.tree_specs.specs.declared.object.Owner.TheVariants.{Root, Of}
use Rattle.tree_specs.specs.declared.row.Row.{Row}
use Rattle.tree_specs.specs.Words.Objects.{same, same_owner}
use Rattle.tree_specs.specs.Tree.Pool.{owner_of, is_below, first_kid, next_owner, reaches, is_inside}
use Rattle.linked_lanes.proofs.Lanes.{by_test, not_both}

-- no row has this owner
unowned : (rs : List Row) (x : Obj) (p : Owner) → first_kid rs p ≡ None → is_below (owner_of rs x) p ≡ false
unowned [] x p e = refl
unowned (r ∷ rs) x p e = by_test (is_below r.owner p)
    (λ t. let bad : Some r.serial ≡ None = rw t at e in cc)
    (λ t. let e' : first_kid rs p ≡ None = rw t at e in by_test (same r.serial x) (λ u. rw u t) (λ u. rw u (unowned rs x p e')))

above : (rs : List Row) (o p : Owner) → first_kid rs p ≡ None → is_below (next_owner rs o) p ≡ false
above rs Root p e = refl
above rs (Of x) p e = unowned rs x p e

nowhere : (n : ℕ) (rs : List Row) (o : Option Owner) (p : Owner) → first_kid rs p ≡ None → is_below o p ≡ false → reaches n rs o p ≡ false
nowhere n rs None p e h = refl
nowhere zero rs (Some o) p e h = h
nowhere (suc n) rs (Some o) p e h = rw h (nowhere n rs (next_owner rs o) p e (above rs o p e))

pub leaf-inside : (rs : List Row) (o p : Owner) → first_kid rs p ≡ None → is_inside rs o p ≡ same_owner o p
leaf-inside rs o p e = by_test (same_owner o p)
    (λ t. here (length rs) t ∙ sym t)
    (λ t. nowhere (length rs) rs (Some o) p e t ∙ sym t)
  where
    here : (n : ℕ) → same_owner o p ≡ true → reaches n rs (Some o) p ≡ true
    here zero t = t
    here (suc n) t = rw t refl

pub no-kid : (rs : List Row) (o p : Owner) (kid : Option Obj) → kid ≡ first_kid rs p → is_some kid ≡ false → same_owner o p ≡ is_inside rs o p
no-kid rs o p None e h = sym (leaf-inside rs o p (sym e))
no-kid rs o p (Some k) e h = not_both refl h
