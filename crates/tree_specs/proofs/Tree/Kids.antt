-- The children of an owner, one after another.
use Rattle.std.proofs.Common.{◌≡◌, List, [], ◌∷◌, ◌++◌, Some, None, true, false, refl, sym, ◌∙◌, ap, slice_get}
use Rattle.tree_specs.specs.declared.object.Obj.{Obj}
use Rattle.tree_specs.specs.declared.object.Owner.{Owner}
use Rattle.tree_specs.specs.declared.row.Row.{Row}
use Rattle.tree_specs.specs.Words.Objects.{same}
use Rattle.tree_specs.specs.Tree.Pool.{owner_in, owner_of, is_below, kids, first_kid, behind, kid_behind, next_kid}
use Rattle.tree_specs.specs.Tree.Forest.{Distinct}
use Rattle.tree_specs.proofs.Tree.Numbered.{by_test, same-equal, same-false, is_below-some}

pub first_kid-kids : (rs : List Row) (p : Owner) → first_kid rs p ≡ slice_get (kids rs p) 0
first_kid-kids [] p = refl
first_kid-kids (r ∷ rs) p = by_test (is_below r.owner p) (λ t. rw t refl) (λ t. rw t (first_kid-kids rs p))

-- a child has a row with that owner, and behind it stand the children after it
pub record StandsIn (rs : List Row) (p : Owner) (x : Obj) (after : List Obj) : Type 0 where
  pub owned : owner_of rs x ≡ Some p
  pub behind : kids (behind rs x) p ≡ after

pub kids-split : (rs : List Row) (p : Owner) (x : Obj) (before after : List Obj) → Distinct rs → kids rs p ≡ before ++ x ∷ after → StandsIn rs p x after
kids-split [] p x [] after d e = cc
kids-split [] p x (b ∷ before) after d e = cc
kids-split (r ∷ rs) p x before after d e = by_test (is_below r.owner p)
    (λ t. here before t (rw t at e) (λ more f. kids-split rs p x more after d.1 f))
    (λ t. later (kids-split rs p x before after d.1 (rw t at e)))
  where
    -- a row behind the first one
    later : StandsIn rs p x after → StandsIn (r ∷ rs) p x after
    later h =
        let u : same r.serial x ≡ false = same-false r.serial x (λ q.
        let n : owner_of rs x ≡ None = ap (owner_of rs) (sym q) ∙ ap owner_in d.0 in
        let bad : Some p ≡ None = sym h.owned ∙ n in cc) in
        record { owned = rw u h.owned; behind = rw u h.behind }

    here : (before : List Obj) → is_below r.owner p ≡ true → r.serial ∷ kids rs p ≡ before ++ x ∷ after
        → ((more : List Obj) → kids rs p ≡ more ++ x ∷ after → StandsIn rs p x after) → StandsIn (r ∷ rs) p x after
    here [] t e go =
        let s : r.serial ≡ x = cc in
        let a : kids rs p ≡ after = cc in
        let u : same r.serial x ≡ true = same-equal r.serial x s in
        record { owned = rw u (is_below-some r.owner p t); behind = rw u a }
    here (b ∷ before) t e go = let a : kids rs p ≡ before ++ x ∷ after = cc in later (go before a)

pub next_kid-kids : (rs : List Row) (p : Owner) (x : Obj) (before after : List Obj) → Distinct rs → kids rs p ≡ before ++ x ∷ after → next_kid rs x ≡ slice_get after 0
next_kid-kids rs p x before after d e =
    let s = kids-split rs p x before after d e in
    ap (kid_behind rs x) s.owned ∙ first_kid-kids (behind rs x) p ∙ ap (λ (l : List Obj). slice_get l 0) s.behind
