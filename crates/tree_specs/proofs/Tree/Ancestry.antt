-- From owner to owner: no bound on steps bites, and what is inside what.
use Rattle.std.proofs.Common.{◌≡◌, ℕ, zero, suc, ◌≤◌, List, length, Option, Some, None, true, false, ◌||◌, refl, sym, ◌∙◌, ap, arith}
use Rattle.std.proofs.Math.Bool.{or-true}
use Rattle.tree_specs.specs.declared.object.Obj.{Obj}
use Rattle.tree_specs.specs.declared.object.Owner.{Owner}
use Rattle.tree_specs.specs.declared.object.Owner.TheVariants.{Root, Of}
use Rattle.tree_specs.specs.declared.row.Row.{Row}
use Rattle.tree_specs.specs.Words.Objects.{same_owner}
use Rattle.tree_specs.specs.Tree.Pool.{row_of, owner_in, owner_of, next_owner, reaches, is_inside}
use Rattle.tree_specs.specs.Tree.Forest.{ends, Rooted}
use Rattle.tree_specs.proofs.Tree.Numbered.{by_test, same_owner-true, same_owner-equal}
-- ---- a test that may hold of more objects with each step settles within as many steps as there are rows
use Rattle.tree_specs.proofs.Tree.Settling.{Settling, settles}

-- ---- ways that end

one_more : (rs : List Row) (n : ℕ) (o : Option Owner) → ends n rs o ≡ true → ends (suc n) rs o ≡ true
one_more rs n None h = refl
one_more rs zero (Some o) h = cc
one_more rs (suc n) (Some o) h = one_more rs n (next_owner rs o) h

-- what ends within n steps ends within more
pub ends-more : (rs : List Row) (n m : ℕ) (o : Option Owner) → ends n rs o ≡ true → n ≤ m → ends m rs o ≡ true
ends-more rs n m None h l = refl
ends-more rs zero m (Some o) h l = cc
ends-more rs (suc n) zero (Some o) h l = absurd (omega (arith, l))
ends-more rs (suc n) (suc m) (Some o) h l = ends-more rs n m (next_owner rs o) h (omega (arith, l))

ending-settles : (rs : List Row) → Settling rs (λ n x. ends (suc n) rs (Some (Of x)))
ending-settles rs = record {
  grows = λ n x h. one_more rs (suc n) (Some (Of x)) h;
  settled = λ n h x. go n h (owner_of rs x);
  elsewhere = λ n x e. let w : owner_of rs x ≡ None = ap owner_in e in ap (ends (suc n) rs) w ∙ sym (ap (ends n rs) w);
} where
  go : (n : ℕ) → ((x : Obj) → ends (suc (suc n)) rs (Some (Of x)) ≡ ends (suc n) rs (Some (Of x))) → (o : Option Owner)
      → ends (suc (suc n)) rs o ≡ ends (suc n) rs o
  go n h None = refl
  go n h (Some Root) = refl
  go n h (Some (Of x)) = h x

-- a way that ends at all ends within as many steps as there are rows, and one
pub ends-bound : (rs : List Row) (k : ℕ) (o : Owner) → ends k rs (Some o) ≡ true → ends (suc (length rs)) rs (Some o) ≡ true
ends-bound rs k Root h = refl
ends-bound rs k (Of x) h = settles rs (λ n x. ends (suc n) rs (Some (Of x))) (ending-settles rs) k x (one_more rs k (Some (Of x)) h)

-- ---- what is inside what

reach_more : (rs : List Row) (n : ℕ) (o : Option Owner) (y : Owner) → reaches n rs o y ≡ true → reaches (suc n) rs o y ≡ true
reach_more rs n None y h = cc
reach_more rs zero (Some o) y h = rw h refl
reach_more rs (suc n) (Some o) y h = by_test (same_owner o y)
    (λ t. rw t refl)
    (λ t. let h' : reaches n rs (next_owner rs o) y ≡ true = rw t at h in
    let ih : reaches (suc n) rs (next_owner rs o) y ≡ true = reach_more rs n (next_owner rs o) y h' in rw t ih)

-- the root and what is no row have no owner
pub reach-root : (rs : List Row) (n : ℕ) (y : Owner) → reaches n rs (Some Root) y ≡ same_owner Root y
reach-root rs zero y = refl
reach-root rs (suc n) y = by_test (same_owner Root y) (λ t. rw t refl) (λ t. rw t refl)

reach-no_row : (rs : List Row) (n : ℕ) (x : Obj) (y : Owner) → row_of rs x ≡ None → reaches n rs (Some (Of x)) y ≡ same_owner (Of x) y
reach-no_row rs zero x y e = refl
reach-no_row rs (suc n) x y e = by_test (same_owner (Of x) y) (λ t. rw t refl) (λ t. rw (t, e) refl)

reaching-settles : (rs : List Row) (y : Owner) → Settling rs (λ n x. reaches n rs (Some (Of x)) y)
reaching-settles rs y = record {
  grows = λ n x h. reach_more rs n (Some (Of x)) y h;
  settled = λ n h x. ap (λ b. same_owner (Of x) y || b) (go n h (owner_of rs x));
  elsewhere = λ n x e. reach-no_row rs (suc n) x y e ∙ sym (reach-no_row rs n x y e);
} where
  go : (n : ℕ) → ((x : Obj) → reaches (suc n) rs (Some (Of x)) y ≡ reaches n rs (Some (Of x)) y) → (o : Option Owner)
      → reaches (suc n) rs o y ≡ reaches n rs o y
  go n h None = refl
  go n h (Some Root) = reach-root rs (suc n) y ∙ sym (reach-root rs n y)
  go n h (Some (Of x)) = h x

-- the bound on the steps never bites: what reaches y at all is inside it
pub reaches-inside : (rs : List Row) (k : ℕ) (o y : Owner) → reaches k rs (Some o) y ≡ true → is_inside rs o y ≡ true
reaches-inside rs k Root y h = reach-root rs (length rs) y ∙ sym (reach-root rs k y) ∙ h
reaches-inside rs k (Of x) y h = settles rs (λ n x. reaches n rs (Some (Of x)) y) (reaching-settles rs y) k x h

-- an owner is inside itself
pub inside-self : (rs : List Row) (o : Owner) → is_inside rs o o ≡ true
inside-self rs o = reaches-inside rs zero o o (same_owner-equal o o refl)

-- an object is inside what it is and what its owner is inside of
pub inside-owner : (rs : List Row) (x : Obj) (o y : Owner) → owner_of rs x ≡ Some o → is_inside rs (Of x) y ≡ (same_owner (Of x) y || is_inside rs o y)
inside-owner rs x o y e = by_test (is_inside rs (Of x) y)
    (λ t. let up : (same_owner (Of x) y || reaches (length rs) rs (owner_of rs x) y) ≡ true = reach_more rs (length rs) (Some (Of x)) y t in
    t ∙ sym (rw e at up))
    (λ t. by_test (same_owner (Of x) y || is_inside rs o y)
    (λ u. let v : reaches (suc (length rs)) rs (Some (Of x)) y ≡ true = rw e u in reaches-inside rs (suc (length rs)) (Of x) y v ∙ sym u)
    (λ u. t ∙ sym u))

reach-on : (rs : List Row) (n : ℕ) (p : Option Owner) (y z : Owner) → reaches n rs p y ≡ true → is_inside rs y z ≡ true
    → reaches (length rs) rs p z ≡ true
reach-on rs n None y z h k = cc
reach-on rs zero (Some o) y z h k = let e : o ≡ y = same_owner-true o y h in rw e k
reach-on rs (suc n) (Some o) y z h k = by_test (same_owner o y)
    (λ t. let e : o ≡ y = same_owner-true o y t in rw e k)
    (λ t. let h' : reaches n rs (next_owner rs o) y ≡ true = rw t at h in
    let ih : reaches (length rs) rs (next_owner rs o) z ≡ true = reach-on rs n (next_owner rs o) y z h' k in
    let far : reaches (suc (length rs)) rs (Some o) z ≡ true = rw ih (or-true (same_owner o z)) in
    reaches-inside rs (suc (length rs)) o z far)

-- what is inside an owner is inside all that this owner is inside of
pub inside-trans : (rs : List Row) (x y z : Owner) → is_inside rs x y ≡ true → is_inside rs y z ≡ true → is_inside rs x z ≡ true
inside-trans rs x y z h k = reach-on rs (length rs) (Some x) y z h k

-- where one comes to y on a way that ends, the way from y ends
ends-reached : (rs : List Row) (n k : ℕ) (p : Option Owner) (y : Owner) → ends k rs p ≡ true → reaches n rs p y ≡ true → ends k rs (Some y) ≡ true
ends-reached rs n k None y h r = cc
ends-reached rs n zero (Some o) y h r = cc
ends-reached rs zero (suc k) (Some o) y h r = let e : o ≡ y = same_owner-true o y r in rw e at h
ends-reached rs (suc n) (suc k) (Some o) y h r = by_test (same_owner o y)
    (λ t. let e : o ≡ y = same_owner-true o y t in rw e at h)
    (λ t. let r' : reaches n rs (next_owner rs o) y ≡ true = rw t at r in one_more rs k (Some y) (ends-reached rs n k (next_owner rs o) y h r'))

-- a way that ends doesn't come back to where it began
pub no_way_back : (rs : List Row) (n k : ℕ) (o : Owner) → ends k rs (Some o) ≡ true → reaches n rs (next_owner rs o) o ≡ false
no_way_back rs n zero o h = cc
no_way_back rs n (suc k) o h = by_test (reaches n rs (next_owner rs o) o)
    (λ t. no_way_back rs n k o (ends-reached rs n k (next_owner rs o) o h t))
    (λ t. t)

-- an owner is not inside what it owns
pub inside-not_back : (rs : List Row) (c x : Obj) → Rooted rs → owner_of rs c ≡ Some (Of x) → is_inside rs (Of x) (Of c) ≡ false
inside-not_back rs c x rooted e = let h = no_way_back rs (length rs) (suc (length rs)) (Of c) (rooted (Of c)) in rw e at h
