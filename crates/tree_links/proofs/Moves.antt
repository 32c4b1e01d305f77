-- What one call that moves a node leaves of all lanes.
use Rattle.std.proofs.Common.{◌≡◌, ℕ, Bool, true, false, cond, nat_eq, List, [], ◌∷◌, Option, Some, None, IsSome, refl, sym, ap, subst, ◌∙◌}
use Rattle.std.proofs.lemmas.Bool.{eqb-true}
use Rattle.std.specs.Option.{option_map, option_and_then}
use Rattle.std.specs.FinMap as map
use Rattle.tree_specs.specs.declared.object.Obj.{Obj}
use Rattle.tree_specs.specs.declared.object.Owner.{Owner}
use Rattle.tree_specs.specs.declared.object.Owner.TheVariants.{Root, Of}
use Rattle.tree_specs.specs.Words.Objects.{same_owner}
use Rattle.tree_specs.proofs.Tree.Numbered.{same_owner-true}
use Rattle.linked_lanes.specs.Lane.{first, is_at, has, without, Distinct}
use Rattle.linked_lanes.specs.Chain.{Chain, sides_in, head_left}
use Rattle.tree_links.specs.Nodes.{Nodes, Linked, Apart, HasHead, head_of, row_at, placed_at, kin_at, row_in, placed_in, kin_in, first_in, placed_newer, placed_older, kin_newer, kin_older, with_first, Enters}
use Rattle.tree_links.specs.declared.node.Node.{Node}
use Rattle.linked_lanes.specs.declared.Sides.{Sides}
use Rattle.linked_lanes.proofs.Lanes.{by_test, not_both, false_by, without-absent, eqb-self}
use Rattle.linked_lanes.proofs.Chains.{newer_as, older_as, same_chain, left-chain, left-other, added-chain, added-other, off-first}

-- what a change of a node does to one of its parts
pub part : {B : Type 0} (g : Node → B) (f : Node → Node) (h : B → B) → ((v : Node) → g (f v) ≡ h (g v)) → (b : Bool) (o : Option Node)
    → option_map g (cond b (option_map f o) o) ≡ cond b (option_map h (option_map g o)) (option_map g o)
part g f h e true None = refl
part g f h e true (Some v) = ap Some (e v)
part g f h e false o = refl

pub other : {B : Type 0} (g : Node → B) (f : Node → Node) → ((v : Node) → g (f v) ≡ g v) → (b : Bool) (o : Option Node) → option_map g (cond b (option_map f o) o) ≡ option_map g o
other g f e true None = refl
other g f e true (Some v) = ap Some (e v)
other g f e false o = refl

-- a change that gives one of its parts
pub given : {B : Type 0} (g : Node → B) (f : Node → Node) (w : B) → ((v : Node) → g (f v) ≡ w) → (b : Bool) (o : Option Node) → (b ≡ true → IsSome o)
    → option_map g (cond b (option_map f o) o) ≡ cond b (Some w) (option_map g o)
given g f w e true None s = not_both (s refl) refl
given g f w e true (Some v) s = ap Some (e v)
given g f w e false o s = refl

-- a node in the place of what was there
pub in_place : {B : Type 0} (g : Node → B) (v : Node) (b : Bool) (o : Option Node) → option_map g (cond b (Some v) o) ≡ cond b (Some (g v)) (option_map g o)
in_place g v true o = refl
in_place g v false o = refl

-- a change that leaves the first children
pub same_first : (f : Node → Node) → ((v : Node) → first_in (f v) ≡ first_in v) → (b : Bool) (o : Option Node) → option_and_then first_in (cond b (option_map f o) o) ≡ option_and_then first_in o
same_first f e true None = refl
same_first f e true (Some v) = e v
same_first f e false o = refl

-- the same heads, if all nodes have the same first children
pub same_heads : (m m' : Nodes) (root : Option ℕ) → ((q : ℕ) → option_and_then first_in (map.get m' q) ≡ option_and_then first_in (map.get m q)) → (p : Owner) → head_of m' root p ≡ head_of m root p
same_heads m m' root e Root = refl
same_heads m m' root e (Of x) = e x.0

pub same_kin : (m m' : Nodes) (root : Option ℕ) (K : Owner → List ℕ) → ((q : ℕ) → kin_at m' q ≡ kin_at m q) → ((q : ℕ) → option_and_then first_in (map.get m' q) ≡ option_and_then first_in (map.get m q))
    → ((p : Owner) → Chain (kin_at m) (head_of m root p) (K p)) → (p : Owner) → Chain (kin_at m') (head_of m' root p) (K p)
same_kin m m' root K e f c p = same_chain (kin_at m) (kin_at m') (head_of m root p) (head_of m' root p) (K p) e (same_heads m m' root f p) (c p)

-- what two changes of neighbours leave alone
module _ (m m1 m2 : Nodes) (s : Sides) (f g : Node → Node)
    (olders : (q : ℕ) → map.get m1 q ≡ cond (is_at s.newer q) (option_map f (map.get m q)) (map.get m q))
    (newers : (q : ℕ) → map.get m2 q ≡ cond (is_at s.older q) (option_map g (map.get m1 q)) (map.get m1 q)) where
  unmoved : {B : Type 0} (part : Node → B) → ((v : Node) → part (f v) ≡ part v) → ((v : Node) → part (g v) ≡ part v) → (q : ℕ) → option_map part (map.get m2 q) ≡ option_map part (map.get m q)
  unmoved part a b q = ap (option_map part) (newers q) ∙ other part g b (is_at s.older q) (map.get m1 q) ∙ ap (option_map part) (olders q) ∙ other part f a (is_at s.newer q) (map.get m q)

  unmoved-first : ((v : Node) → first_in (f v) ≡ first_in v) → ((v : Node) → first_in (g v) ≡ first_in v) → (q : ℕ) → option_and_then first_in (map.get m2 q) ≡ option_and_then first_in (map.get m q)
  unmoved-first a b q = ap (option_and_then first_in) (newers q) ∙ same_first g b (is_at s.older q) (map.get m1 q) ∙ ap (option_and_then first_in) (olders q) ∙ same_first f a (is_at s.newer q) (map.get m q)

module _ (m m1 m2 : Nodes) (s : Sides) where
  -- one leaves the lane of all rows
  module _ (olders : (q : ℕ) → map.get m1 q ≡ cond (is_at s.newer q) (option_map (placed_older s.older) (map.get m q)) (map.get m q))
      (newers : (q : ℕ) → map.get m2 q ≡ cond (is_at s.older q) (option_map (placed_newer s.newer) (map.get m1 q)) (map.get m1 q)) where
    pub left-placed-rows : (q : ℕ) → row_at m2 q ≡ row_at m q
    left-placed-rows = unmoved m m1 m2 s (placed_older s.older) (placed_newer s.newer) olders newers row_in (λ v. refl) (λ v. refl)

    pub left-placed : (front front' root : Option ℕ) (A : List ℕ) (K : Owner → List ℕ) (x : ℕ) → front' ≡ head_left front s → Distinct A → has A x ≡ true → s ≡ sides_in A x
        → Linked m front root A K → Linked m2 front' root (without A x) K
    left-placed front front' root A K x f d h e l = record {
      placed = left-chain (placed_at m) (placed_at m1) (placed_at m2) s
          (λ q. ap (option_map placed_in) (olders q) ∙ part placed_in (placed_older s.older) (older_as s.older) (λ v. refl) (is_at s.newer q) (map.get m q))
          (λ q. ap (option_map placed_in) (newers q) ∙ part placed_in (placed_newer s.newer) (newer_as s.newer) (λ v. refl) (is_at s.older q) (map.get m1 q))
          front front' A x d h e f l.placed;
      kin = same_kin m m2 root K (unmoved m m1 m2 s (placed_older s.older) (placed_newer s.newer) olders newers kin_in (λ v. refl) (λ v. refl))
          (unmoved-first m m1 m2 s (placed_older s.older) (placed_newer s.newer) olders newers (λ v. refl) (λ v. refl)) l.kin;
    }

  -- one leaves the lane of an owner's children
  module _ (m' : Nodes) (olders : (q : ℕ) → map.get m1 q ≡ cond (is_at s.newer q) (option_map (kin_older s.older) (map.get m q)) (map.get m q))
      (newers : (q : ℕ) → map.get m2 q ≡ cond (is_at s.older q) (option_map (kin_newer s.newer) (map.get m1 q)) (map.get m1 q)) where
    pub left-kin-rows : (q : ℕ) → row_at m2 q ≡ row_at m q
    left-kin-rows = unmoved m m1 m2 s (kin_older s.older) (kin_newer s.newer) olders newers row_in (λ v. refl) (λ v. refl)

    same_placed : (q : ℕ) → placed_at m2 q ≡ placed_at m q
    same_placed = unmoved m m1 m2 s (kin_older s.older) (kin_newer s.newer) olders newers placed_in (λ v. refl) (λ v. refl)

    kept_firsts : (q : ℕ) → option_and_then first_in (map.get m2 q) ≡ option_and_then first_in (map.get m q)
    kept_firsts = unmoved-first m m1 m2 s (kin_older s.older) (kin_newer s.newer) olders newers (λ v. refl) (λ v. refl)

    -- an owner with a child has a place for its first one
    has_head : (root : Option ℕ) (o : Owner) (K : List ℕ) (x : ℕ) → has K x ≡ true → head_of m root o ≡ first K → HasHead m2 o
    has_head root Root K x h e = tt
    has_head root (Of y) K x h e = go (map.get m2 y.0) K h (kept_firsts y.0 ∙ e)
      where
        go : (o : Option Node) (K : List ℕ) → has K x ≡ true → option_and_then first_in o ≡ first K → IsSome o
        go None [] h e = not_both h refl
        go None (k ∷ ks) h e = cc
        go (Some v) K h e = refl

    module _ (root root' : Option ℕ) (o : Owner) (placed : (q : ℕ) → placed_at m' q ≡ placed_at m2 q) (kin : (q : ℕ) → kin_at m' q ≡ kin_at m2 q)
        (heads : HasHead m2 o → (p : Owner) → head_of m' root' p ≡ cond (same_owner o p) (head_left (head_of m2 root p) s) (head_of m2 root p)) where
      pub left-kin : (front : Option ℕ) (A : List ℕ) (K : Owner → List ℕ) (x : ℕ) → Distinct (K o) → has (K o) x ≡ true → s ≡ sides_in (K o) x → Apart K o
          → Linked m front root A K → Linked m' front root' A (λ p. without (K p) x)
      left-kin front A K x d h e apart l = record {
        placed = same_chain (placed_at m) (placed_at m') front front A (λ q. placed q ∙ same_placed q) refl l.placed;
        kin = λ p. by_test (same_owner o p)
            (λ t. let op = same_owner-true o p t in
            same_chain (kin_at m2) (kin_at m') (head_left (head_of m root p) s) (head_of m' root' p) (without (K p) x) kin
            (rw t at (mended p) ∙ ap (λ g. head_left g s) (same_heads m m2 root kept_firsts p))
            (left-chain (kin_at m) (kin_at m1) (kin_at m2) s older_steps newer_steps (head_of m root p) (head_left (head_of m root p) s) (K p) x
            (subst (λ p. Distinct (K p)) op d) (subst (λ p. has (K p) x ≡ true) op h) (subst (λ p. s ≡ sides_in (K p) x) op e) refl (l.kin p)))
            (λ t. subst (Chain (kin_at m') (head_of m' root' p)) (sym (without-absent (K p) x (apart p x t h)))
            (same_chain (kin_at m2) (kin_at m') (head_of m root p) (head_of m' root' p) (K p) kin (rw t at (mended p) ∙ same_heads m m2 root kept_firsts p)
            (left-other (kin_at m) (kin_at m1) (kin_at m2) s older_steps newer_steps (head_of m root p) (K o) (K p) x e
            (λ q n. false_by _ (λ w. not_both n (apart p q t w))) (l.kin p))));
      }
        where
          mended : (p : Owner) → head_of m' root' p ≡ cond (same_owner o p) (head_left (head_of m2 root p) s) (head_of m2 root p)
          mended = heads (has_head root o (K o) x h (l.kin o).at_head)

          older_steps : (q : ℕ) → kin_at m1 q ≡ cond (is_at s.newer q) (option_map (older_as s.older) (kin_at m q)) (kin_at m q)
          older_steps q = ap (option_map kin_in) (olders q) ∙ part kin_in (kin_older s.older) (older_as s.older) (λ v. refl) (is_at s.newer q) (map.get m q)

          newer_steps : (q : ℕ) → kin_at m2 q ≡ cond (is_at s.older q) (option_map (newer_as s.newer) (kin_at m1 q)) (kin_at m1 q)
          newer_steps q = ap (option_map kin_in) (newers q) ∙ part kin_in (kin_newer s.newer) (newer_as s.newer) (λ v. refl) (is_at s.older q) (map.get m1 q)

-- ---- entering

-- the lanes of one kind, once one has entered and the head of its lane notes it
module _ (C C1 C2 : ℕ → Option Sides) (h : Option ℕ) (x : ℕ) (own : (q : ℕ) → C1 q ≡ cond (nat_eq x q) (Some (record { newer = None; older = h })) (C q))
    (newers : (q : ℕ) → C2 q ≡ cond (is_at h q) (option_map (newer_as (Some x)) (C1 q)) (C1 q)) where
  others : (q : ℕ) → nat_eq x q ≡ false → C2 q ≡ cond (is_at h q) (option_map (newer_as (Some x)) (C q)) (C q)
  others q t = newers q ∙ ap (λ o. cond (is_at h q) (option_map (newer_as (Some x)) o) o) (rw t at (own q))

  entered-chain : (xs : List ℕ) → has xs x ≡ false → Chain C h xs → Chain C2 (Some x) (x ∷ xs)
  entered-chain xs out c =
      let off : is_at h x ≡ false = ap (λ o. is_at o x) c.at_head ∙ off-first xs x x out in
      added-chain C C2 h x others xs (rw off at (newers x) ∙ rw (eqb-self x) at (own x)) c

  entered-other : (g : Option ℕ) (xs ys : List ℕ) → has ys x ≡ false → h ≡ first xs → ((q : ℕ) → has ys q ≡ true → has xs q ≡ false) → Chain C g ys → Chain C2 g ys
  entered-other g xs ys out e apart c = added-other C C2 h x others g xs ys out e apart c

module _ (m m1 m2 m3 : Nodes) (front first former root : Option ℕ) (o : Owner) (x : ℕ)
    (placed_newers : (q : ℕ) → map.get m2 q ≡ cond (is_at front q) (option_map (placed_newer (Some x)) (map.get m1 q)) (map.get m1 q))
    (kin_newers : (q : ℕ) → map.get m3 q ≡ cond (is_at first q) (option_map (kin_newer (Some x)) (map.get m2 q)) (map.get m2 q)) where
  pub met-rows : (q : ℕ) → row_at m3 q ≡ row_at m1 q
  met-rows q = ap (option_map row_in) (kin_newers q) ∙ other row_in (kin_newer (Some x)) (λ v. refl) (is_at first q) (map.get m2 q)
      ∙ ap (option_map row_in) (placed_newers q) ∙ other row_in (placed_newer (Some x)) (λ v. refl) (is_at front q) (map.get m1 q)

  met_placed : (q : ℕ) → placed_at m3 q ≡ cond (is_at front q) (option_map (newer_as (Some x)) (placed_at m1 q)) (placed_at m1 q)
  met_placed q = ap (option_map placed_in) (kin_newers q) ∙ other placed_in (kin_newer (Some x)) (λ v. refl) (is_at first q) (map.get m2 q)
      ∙ ap (option_map placed_in) (placed_newers q) ∙ part placed_in (placed_newer (Some x)) (newer_as (Some x)) (λ v. refl) (is_at front q) (map.get m1 q)

  met_kin : (q : ℕ) → kin_at m3 q ≡ cond (is_at first q) (option_map (newer_as (Some x)) (kin_at m1 q)) (kin_at m1 q)
  met_kin q = ap (option_map kin_in) (kin_newers q) ∙ part kin_in (kin_newer (Some x)) (newer_as (Some x)) (λ v. refl) (is_at first q) (map.get m2 q)
      ∙ ap (λ k. cond (is_at first q) (option_map (newer_as (Some x)) k) k)
      (ap (option_map kin_in) (placed_newers q) ∙ other kin_in (placed_newer (Some x)) (λ v. refl) (is_at front q) (map.get m1 q))

  met_firsts : (q : ℕ) → option_and_then first_in (map.get m3 q) ≡ option_and_then first_in (map.get m1 q)
  met_firsts q = ap (option_and_then first_in) (kin_newers q) ∙ same_first (kin_newer (Some x)) (λ v. refl) (is_at first q) (map.get m2 q)
      ∙ ap (option_and_then first_in) (placed_newers q) ∙ same_first (placed_newer (Some x)) (λ v. refl) (is_at front q) (map.get m1 q)

  pub met : (A : List ℕ) (K : Owner → List ℕ) → has A x ≡ false → ((p : Owner) → has (K p) x ≡ false) → Apart K o → Enters m m1 front first former root o x
      → Linked m front former A K → Linked m3 (Some x) root (x ∷ A) (λ p. cond (same_owner o p) (x ∷ K p) (K p))
  met A K out out_kin apart e l = record {
    placed = entered-chain (placed_at m) (placed_at m1) (placed_at m3) front x e.placed met_placed A out l.placed;
    kin = λ p. by_test (same_owner o p)
        (λ t. rw t (same_chain (kin_at m3) (kin_at m3) (Some x) (head_of m3 root p) (x ∷ K p) (λ q. refl) (rw t at (heads p))
        (entered-chain (kin_at m) (kin_at m1) (kin_at m3) first x e.kin met_kin (K p) (out_kin p)
        (subst (λ g. Chain (kin_at m) g (K p)) (ap (head_of m former) (sym (same_owner-true o p t)) ∙ sym e.head) (l.kin p)))))
        (λ t. rw t (same_chain (kin_at m3) (kin_at m3) (head_of m former p) (head_of m3 root p) (K p) (λ q. refl) (rw t at (heads p))
        (entered-other (kin_at m) (kin_at m1) (kin_at m3) first x e.kin met_kin (head_of m former p) (K o) (K p) (out_kin p) (e.head ∙ (l.kin o).at_head)
        (λ q n. false_by _ (λ w. not_both n (apart p q t w))) (l.kin p))));
  }
    where
      heads : (p : Owner) → head_of m3 root p ≡ cond (same_owner o p) (Some x) (head_of m former p)
      heads p = same_heads m1 m3 root met_firsts p ∙ e.heads p

-- ---- a head

pub set-heads : (m m' : Nodes) (root : Option ℕ) (x : Obj) (w : Option ℕ) → ((q : ℕ) → map.get m' q ≡ cond (nat_eq x.0 q) (option_map (with_first w) (map.get m q)) (map.get m q))
    → IsSome (map.get m x.0) → (p : Owner) → head_of m' root p ≡ cond (same_owner (Of x) p) w (head_of m root p)
set-heads m m' root x w e is Root = refl
set-heads m m' root x w e is (Of y) = by_test (nat_eq x.0 y.0)
    (λ t. let xy = eqb-true x.0 y.0 t in rw t (ap (option_and_then first_in) (rw t at (e y.0)) ∙ go (map.get m y.0) (subst (λ k. IsSome (map.get m k)) xy is)))
    (λ t. rw t (ap (option_and_then first_in) (rw t at (e y.0))))
  where
    go : (o : Option Node) → IsSome o → option_and_then first_in (option_map (with_first w) o) ≡ w
    go None h = not_both h refl
    go (Some v) h = refl
