-- What each change of the tree leaves of the nodes and the rows that they hold.
use Rattle.std.proofs.Common.{◌≡◌, ℕ, ◌-◌, true, false, cond, nat_eq, List, [], ◌∷◌, length, Option, Some, None, IsSome, is_some, refl, sym, ap, subst, ◌∙◌, arith}
use Rattle.std.proofs.lemmas.Bool.{eqb-true}
use Rattle.std.specs.Option.{option_map, option_and_then}
use Rattle.std.specs.FinMap as map
use Rattle.std.specs.FinMap.{len-remove}
use Rattle.std.proofs.lemmas.Cmp.{nat_cmp_total}
use Rattle.pool_arena.proofs.Keeps.{get-with_entry}
use Rattle.tree_specs.specs.declared.object.Obj.{Obj}
use Rattle.tree_specs.specs.declared.object.Owner.{Owner}
use Rattle.tree_specs.specs.declared.object.Owner.TheVariants.{Root, Of}
use Rattle.tree_specs.specs.declared.row.Row.{Row}
use Rattle.tree_specs.specs.Words.Objects.{same, same_owner}
use Rattle.tree_specs.specs.Tree.Pool.{of_rows, is_object_row, row_of, is_below, is_owner, is_object, without as rows_without, changed, owner_of, owner_in, owned_row}
use Rattle.tree_specs.specs.Tree.Forest.{Distinct as Once}
use Rattle.tree_specs.proofs.Tree.Numbered.{same_owner-equal}
use Rattle.tree_specs.proofs.Tree.Rows.{row_of-serial, Distinct-without, row_of-without-same}
use Rattle.linked_lanes.specs.Lane.{first, has, without}
use Rattle.tree_links.specs.Links.{IsTree}
use Rattle.linked_lanes.specs.Chain.{Chain, sides_in}
use Rattle.tree_links.specs.Nodes.{Nodes, Linked, Holds, IsLinked, HasHead, numbers, children, row_at, placed_at, kin_at, head_of, first_in, row_in, placed_in, kin_in, with_row, rows_of}
use Rattle.tree_links.specs.declared.node.Node.{Node}
use Rattle.linked_lanes.specs.declared.Sides.{Sides}
use Rattle.linked_lanes.proofs.Lanes.{by_test, not_both, false_by}
use Rattle.linked_lanes.proofs.Chains.{same_chain}
use Rattle.tree_links.proofs.Moves.{part, other, same_first, same_heads, same_kin}
use Rattle.tree_links.proofs.Listing.{obj, lane-changed, lane-without, numbers-has, children-has, row-changed, row-without, held-rows}
use Rattle.tree_links.proofs.Trees.{length-changed, length-without, Mends, changed-tree}

-- ---- the whole from its parts

pub is-linked : (m : Nodes) (front root : Option ℕ) (next : ℕ) (rows : List Row) → IsTree rows next → Holds m front root rows → IsLinked m front root next
is-linked m front root next rows t h =
    let e = sym (held-rows m front root rows t.forest.distinct h) in
    record { tree = subst (λ (l : List Row). IsTree l next) e t; holds = subst (λ (l : List Row). Holds m front root l) e h }

pub pool-is : (m : Nodes) (front root : Option ℕ) (next : ℕ) (rows : List Row) → IsTree rows next → Holds m front root rows
    → of_rows (rows_of m front) next ≡ of_rows rows next
pool-is m front root next rows t h = ap (λ (l : List Row). of_rows l next) (held-rows m front root rows t.forest.distinct h)

-- the same lanes in other words
pub relinked : (m : Nodes) (front root : Option ℕ) (A B : List ℕ) (K L : Owner → List ℕ) → A ≡ B → ((p : Owner) → K p ≡ L p) → Linked m front root A K → Linked m front root B L
relinked m front root A B K L e f l = record { placed = subst (Chain (placed_at m) front) e l.placed; kin = λ p. subst (Chain (kin_at m) (head_of m root p)) (f p) (l.kin p) }

-- ---- a row that is changed

module _ (m m' : Nodes) (x : ℕ) (f : Row → Row) (steps : (q : ℕ) → map.get m' q ≡ cond (nat_eq x q) (option_map (with_row f) (map.get m q)) (map.get m q)) where
  pub rowed : (q : ℕ) → row_at m' q ≡ cond (nat_eq x q) (option_map f (row_at m q)) (row_at m q)
  rowed q = ap (option_map row_in) (steps q) ∙ part row_in (with_row f) f (λ v. refl) (nat_eq x q) (map.get m q)

  pub rowed-linked : (front root : Option ℕ) (A : List ℕ) (K : Owner → List ℕ) → Linked m front root A K → Linked m' front root A K
  rowed-linked front root A K l = record {
    placed = same_chain (placed_at m) (placed_at m') front front A (λ q. ap (option_map placed_in) (steps q) ∙ other placed_in (with_row f) (λ v. refl) (nat_eq x q) (map.get m q)) refl l.placed;
    kin = same_kin m m' root K (λ q. ap (option_map kin_in) (steps q) ∙ other kin_in (with_row f) (λ v. refl) (nat_eq x q) (map.get m q))
        (λ q. ap (option_and_then first_in) (steps q) ∙ same_first (with_row f) (λ v. refl) (nat_eq x q) (map.get m q)) l.kin;
  }

  pub changed-holds : (front root : Option ℕ) (rows : List Row) → ((r : Row) → (f r).serial ≡ r.serial) → ((r : Row) → (f r).owner ≡ r.owner) → map.len m' ≡ map.len m
      → Holds m front root rows → Holds m' front root (changed f rows (obj x))
  changed-holds front root rows k o n h = record {
    row = λ q. rowed q ∙ ap (λ y. cond (nat_eq x q) (option_map f y) y) (h.row q) ∙ sym (row-changed f k rows (obj x) (obj q));
    linked = relinked m' front root (numbers rows) _ (children rows) _ (sym (lane-changed (λ r. true) f k (λ r. refl) rows (obj x)))
        (λ p. sym (lane-changed (λ r. is_below r.owner p) f k (λ r. ap (λ w. is_below w p) (o r)) rows (obj x)))
        (rowed-linked front root (numbers rows) (children rows) h.linked);
    count = n ∙ h.count ∙ sym (length-changed f rows (obj x));
  }

-- ---- a node that comes or goes

module _ (m m' : Nodes) (x : ℕ) (o : Option Node) (steps : (q : ℕ) → map.get m' q ≡ cond (nat_eq x q) o (map.get m q))
    (e : option_and_then first_in o ≡ option_and_then first_in (map.get m x)) where
  pub reset-firsts : (q : ℕ) → option_and_then first_in (map.get m' q) ≡ option_and_then first_in (map.get m q)
  reset-firsts q = by_test (nat_eq x q)
      (λ t. ap (option_and_then first_in) (rw t at (steps q)) ∙ e ∙ ap (λ y. option_and_then first_in (map.get m y)) (eqb-true x q t))
      (λ t. ap (option_and_then first_in) (rw t at (steps q)))

  -- in no lane
  pub reset-linked : (front root : Option ℕ) (A : List ℕ) (K : Owner → List ℕ) → has A x ≡ false → ((p : Owner) → has (K p) x ≡ false) → Linked m front root A K → Linked m' front root A K
  reset-linked front root A K a k l = record {
    placed = stays (placed_at m) (placed_at m') front front A (λ q t. ap (option_map placed_in) (rw t at (steps q))) refl a l.placed;
    kin = λ p. stays (kin_at m) (kin_at m') (head_of m root p) (head_of m' root p) (K p) (λ q t. ap (option_map kin_in) (rw t at (steps q))) (same_heads m m' root reset-firsts p) (k p) (l.kin p);
  }
    where
      stays : (C C' : ℕ → Option Sides) (h h' : Option ℕ) (xs : List ℕ) → ((q : ℕ) → nat_eq x q ≡ false → C' q ≡ C q) → h' ≡ h → has xs x ≡ false → Chain C h xs → Chain C' h' xs
      stays C C' h h' xs e f out c = record {
        at_head = f ∙ c.at_head;
        sides = λ q n. e q (false_by _ (λ t. not_both n (ap (has xs) (sym (eqb-true x q t)) ∙ out))) ∙ c.sides q n;
      }

pub removed-steps : (m : Nodes) (x q : ℕ) → map.get (map.remove m x) q ≡ cond (nat_eq x q) None (map.get m q)
removed-steps m x q = get-with_entry m x None q

pub added-steps : (m : Nodes) (x : ℕ) (v : Node) (q : ℕ) → map.get (map.insert m x v) q ≡ cond (nat_eq x q) (Some v) (map.get m q)
added-steps m x v q = get-with_entry m x (Some v) q

-- ---- one in its lanes

pub no-node : (m : Nodes) (q : ℕ) → row_at m q ≡ None → map.get m q ≡ None
no-node m q e = go (map.get m q) e
  where
    go : (o : Option Node) → option_map row_in o ≡ None → o ≡ None
    go None e = refl
    go (Some v) e = cc

pub is-node : (m : Nodes) (q : ℕ) (r : Row) → row_at m q ≡ Some r → IsSome (map.get m q)
is-node m q r e = go (map.get m q) e
  where
    go : (o : Option Node) → option_map row_in o ≡ Some r → IsSome o
    go None e = cc
    go (Some v) e = refl

pub owner-node : (m : Nodes) (rows : List Row) (o : Owner) → ((q : ℕ) → row_at m q ≡ row_of rows (obj q)) → is_owner rows o ≡ true → HasHead m o
owner-node m rows Root e h = tt
owner-node m rows (Of y) e h = go (row_of rows y) refl h
  where
    go : (w : Option Row) → row_of rows y ≡ w → is_object rows y ≡ true → HasHead m (Of y)
    go None f h = let bad : false ≡ true = sym (ap is_object_row f) ∙ h in cc
    go (Some r) f h = is-node m y.0 r (e y.0 ∙ f)

-- no lane has one that is no row, or has no owner
pub unowned : (rows : List Row) (x : ℕ) (p : Owner) → Once rows → owner_of rows (obj x) ≡ None → has (children rows p) x ≡ false
unowned rows x p d e = children-has rows p x d ∙ ap (λ w. is_below w p) e

pub left-length : (rows : List Row) (x : ℕ) (r : Row) → row_of rows (obj x) ≡ Some r → length (rows_without rows (obj x)) ≡ length rows - 1
left-length rows x r e = let n = length-without rows (obj x) r e in omega (arith, n)

pub len-gone : (m : Nodes) (x : ℕ) → IsSome (map.get m x) → map.len (map.remove m x) ≡ map.len m - 1
len-gone m x h = len-remove nat_cmp_total m x ∙ ap (λ b. cond b (map.len m - 1) (map.len m)) h

-- ---- the calls

pub pool-rows : (rs qs : List Row) (next : ℕ) → rs ≡ qs → of_rows rs next ≡ of_rows qs next
pool-rows rs qs next e = ap (λ (l : List Row). of_rows l next) e

module _ (m m' : Nodes) (x : ℕ) (f : Row → Row) (steps : (q : ℕ) → map.get m' q ≡ cond (nat_eq x q) (option_map (with_row f) (map.get m q)) (map.get m q))
    (size : map.len m' ≡ map.len m) (mends : Mends f) (front root : Option ℕ) (next : ℕ) (l : IsLinked m front root next) where
  mended-tree : IsTree (changed f (rows_of m front) (obj x)) next
  mended-tree = changed-tree f (rows_of m front) next (obj x) mends l.tree

  mended-holds : Holds m' front root (changed f (rows_of m front) (obj x))
  mended-holds = changed-holds m m' x f steps front root (rows_of m front) mends.place.serial mends.place.owner size l.holds

  pub mended-linked : IsLinked m' front root next
  mended-linked = is-linked m' front root next _ mended-tree mended-holds

  pub mended-rows : rows_of m' front ≡ changed f (rows_of m front) (obj x)
  mended-rows = held-rows m' front root _ mended-tree.forest.distinct mended-holds

-- ---- one and its places

pub there-is : {A : Type 0} (o : Option A) → is_some o ≡ true → (v : A) × (Some v ≡ o)
there-is None h = cc
there-is (Some v) h = (v, refl)

module _ (m : Nodes) (front root : Option ℕ) (rows : List Row) (d : Once rows) (h : Holds m front root rows) (x : ℕ) (v : Node) (e : Some v ≡ map.get m x) where
  pub its-row : row_of rows (obj x) ≡ Some v.row
  its-row = sym (h.row x) ∙ ap (option_map row_in) (sym e)

  pub is-numbered : has (numbers rows) x ≡ true
  is-numbered = numbers-has rows x d ∙ ap is_some its-row

  pub its-placed : v.placed ≡ sides_in (numbers rows) x
  its-placed = let s : Some v.placed ≡ Some (sides_in (numbers rows) x) = ap (option_map placed_in) e ∙ h.linked.placed.sides x is-numbered in cc

  pub its-kin : (p : Owner) → v.row.owner ≡ Some p → v.kin ≡ sides_in (children rows p) x
  its-kin p q =
      let in_lane : has (children rows p) x ≡ true = children-has rows p x d ∙ ap (λ w. is_below (owner_in w) p) its-row ∙ ap (λ w. is_below w p) q ∙ same_owner-equal p p refl in
      let s : Some v.kin ≡ Some (sides_in (children rows p) x) = ap (option_map kin_in) e ∙ (h.linked.kin p).sides x in_lane in cc

-- one that has left all lanes
module _ (rows : List Row) (d : Once rows) (x : ℕ) where
  pub out-once : Once (rows_without rows (obj x))
  out-once = Distinct-without rows (obj x) d

  pub out-numbers : has (numbers (rows_without rows (obj x))) x ≡ false
  out-numbers = numbers-has (rows_without rows (obj x)) x out-once ∙ ap is_some (row_of-without-same rows (obj x) d)

  pub out-children : (p : Owner) → has (children (rows_without rows (obj x)) p) x ≡ false
  out-children p = children-has (rows_without rows (obj x)) p x out-once ∙ ap (λ w. is_below (owner_in w) p) (row_of-without-same rows (obj x) d)

  pub out-linked : (m : Nodes) (front root : Option ℕ) → Linked m front root (without (numbers rows) x) (λ p. without (children rows p) x) → Linked m front root (numbers (rows_without rows (obj x))) (children (rows_without rows (obj x)))
  out-linked m front root l = relinked m front root _ _ (λ p. without (children rows p) x) (children (rows_without rows (obj x)))
      (sym (lane-without (λ r. true) rows (obj x) d)) (λ p. sym (lane-without (λ r. is_below r.owner p) rows (obj x) d)) l

-- one that was put in front below an owner
pub placed-holds : (m : Nodes) (front root : Option ℕ) (rows : List Row) (x : ℕ) (r : Row) (o : Owner) → Once rows → row_of rows (obj x) ≡ Some r
    → ((q : ℕ) → row_at m q ≡ cond (nat_eq x q) (option_map (owned_row o) (row_of rows (obj q))) (row_of rows (obj q))) → map.len m ≡ length rows
    → Linked m front root (x ∷ numbers (rows_without rows (obj x))) (λ p. cond (same_owner o p) (x ∷ children (rows_without rows (obj x)) p) (children (rows_without rows (obj x)) p))
    → Holds m front root (owned_row o r ∷ rows_without rows (obj x))
placed-holds m front root rows x r o d e rs n l =
    let s : r.serial ≡ obj x = row_of-serial rows (obj x) r e in
    let sx : x ≡ r.serial.0 = ap (λ (y : Obj). y.0) (sym s) in
    record {
      row = λ q. rs q ∙ ap (λ (y : Obj). cond (same y (obj q)) (option_map (owned_row o) (row_of rows (obj q))) (row_of rows (obj q))) (sym s) ∙ by_test (same r.serial (obj q))
          (λ t. rw t (ap (option_map (owned_row o)) (ap (λ y. row_of rows (obj y)) (sym (sx ∙ eqb-true r.serial.0 q t)) ∙ e)))
          (λ t. let t' : nat_eq x q ≡ false = ap (λ y. nat_eq y q) sx ∙ t in let w = row-without rows (obj x) (obj q) d in rw t (sym (rw t' at w)));
      linked = relinked m front root _ _ (λ p. cond (same_owner o p) (x ∷ children (rows_without rows (obj x)) p) (children (rows_without rows (obj x)) p)) (children (owned_row o r ∷ rows_without rows (obj x)))
          (ap (λ y. y ∷ numbers (rows_without rows (obj x))) sx) (λ p. ap (λ y. cond (same_owner o p) (y ∷ children (rows_without rows (obj x)) p) (children (rows_without rows (obj x)) p)) sx) l;
      count = (let k = length-without rows (obj x) r e in omega (arith, k, n));
    }

pub first-none : (xs : List ℕ) → option_map obj (first xs) ≡ None → xs ≡ []
first-none [] e = refl
first-none (x ∷ xs) e = cc
