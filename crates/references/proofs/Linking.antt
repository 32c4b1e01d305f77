-- What adding a reference and dropping one leave of the neighbours and the heads.
use Rattle.std.proofs.Common.{◌≡◌, ℕ, suc, ◌<◌, ◌≤◌, Bool, true, false, cond, nat_eq, List, [], ◌∷◌, length, Option, Some, None, refl, sym, ap, subst, ◌∙◌, arith, add-one}
use Rattle.std.proofs.lemmas.Bool.{eqb-true}
use Rattle.std.specs.Option.{option_map, option_and_then}
use Rattle.std.specs.Ordering.{nat_cmp}
use Rattle.std.specs.FinMap as map
use Rattle.linked_lanes.specs.declared.Sides.{Sides}
use Rattle.linked_lanes.specs.Lane.{first, is_at, has, after, without as lane_without}
use Rattle.linked_lanes.specs.Chain.{Chain, sides_in, head_left, head_left_by}
use Rattle.linked_lanes.proofs.Lanes.{by_test, not_both, false_by, eqb-self, length-without, without-absent}
use Rattle.linked_lanes.proofs.Chains.{newer_as, older_as, kept_chain, stays, left-chain, left-other, added-chain, added-other}
use Rattle.references.specs.declared.refs.Pair.{Pair}
use Rattle.references.specs.declared.node.Node.{Node}
use Rattle.references.specs.declared.head.Head.{Head}
use Rattle.references.specs.Pairs.{pair, IsAbove, Descends, ArePairs, target_of, next_to, without, most}
use Rattle.references.specs.Linked.{numbered, pairs_in, lane, target_in, sides_of, newest_of, count_of, with_newer, with_older, joined, left, left_by, IsLinked}
use Rattle.references.proofs.Finding.{descends-without, without-none}
use Rattle.references.proofs.Rows.{target-without-same, target-without-other}
use Rattle.references.proofs.Lanes.{above-lane, above-target, lane-distinct, target-lane, lanes-apart, lane-dropped, few-lane, next-lane}
use Rattle.references.proofs.Listing.{target-in, descends-in, same-pairs}

-- the nodes and the heads, as functions, keep these pairs
pub record Keeps (N : ℕ → Option Node) (H : ℕ → Option Head) (ps : List Pair) : Type 0 where
  pub descends : Descends ps
  pub target : (q : ℕ) → target_of ps (numbered q) ≡ option_map target_in (N q)
  pub chain : (t : ℕ) → Chain (λ q. option_map sides_of (N q)) (option_map newest_of (H t)) (lane ps t)
  pub count : (t : ℕ) → count_of (H t) ≡ length (lane ps t)

-- what one change of a node does to its neighbours and its target
sides-newer : (w : Option ℕ) (b : Bool) (o : Option Node) → option_map sides_of (cond b (option_map (with_newer w) o) o) ≡ cond b (option_map (newer_as w) (option_map sides_of o)) (option_map sides_of o)
sides-newer w true None = refl
sides-newer w true (Some v) = refl
sides-newer w false o = refl

sides-older : (w : Option ℕ) (b : Bool) (o : Option Node) → option_map sides_of (cond b (option_map (with_older w) o) o) ≡ cond b (option_map (older_as w) (option_map sides_of o)) (option_map sides_of o)
sides-older w true None = refl
sides-older w true (Some v) = refl
sides-older w false o = refl

target-newer : (w : Option ℕ) (b : Bool) (o : Option Node) → option_map target_in (cond b (option_map (with_newer w) o) o) ≡ option_map target_in o
target-newer w true None = refl
target-newer w true (Some v) = refl
target-newer w false o = refl

target-older : (w : Option ℕ) (b : Bool) (o : Option Node) → option_map target_in (cond b (option_map (with_older w) o) o) ≡ option_map target_in o
target-older w true None = refl
target-older w true (Some v) = refl
target-older w false o = refl

module _ (N N' : ℕ → Option Node) (H H' : ℕ → Option Head) (ps : List Pair) (k : Keeps N H ps) (x : ℕ) where
  abbrev C : ℕ → Option Sides
  C q = option_map sides_of (N q)

  -- ---- adding

  module _ (t : ℕ) (older : Option ℕ) (above : IsAbove (numbered x) ps) (was : older ≡ option_map newest_of (H t))
      (nodes : (q : ℕ) → N' q ≡ cond (nat_eq x q) (Some (record { target = t; sides = record { newer = None; older = older } })) (cond (is_at older q) (option_map (with_newer (Some x)) (N q)) (N q)))
      (heads : (q : ℕ) → H' q ≡ cond (nat_eq t q) (Some (joined x (H t))) (H q)) where
    newest-joined : (o : Option Head) → option_map newest_of (Some (joined x o)) ≡ Some x
    newest-joined None = refl
    newest-joined (Some h) = refl

    count-joined : (o : Option Head) → count_of (Some (joined x o)) ≡ suc (count_of o)
    count-joined None = refl
    count-joined (Some h) = add-one h.count

    new-head : H' t ≡ Some (joined x (H t))
    new-head = heads t ∙ ap (λ b. cond b (Some (joined x (H t))) (H t)) (eqb-self t)

    others : (q : ℕ) → nat_eq x q ≡ false → option_map sides_of (N' q) ≡ cond (is_at older q) (option_map (newer_as (Some x)) (C q)) (C q)
    others q n = ap (option_map sides_of) (rw n at (nodes q)) ∙ sides-newer (Some x) (is_at older q) (N q)

    own : option_map sides_of (N' x) ≡ Some (record { newer = None; older = older })
    own = ap (option_map sides_of) (rw (eqb-self x) at (nodes x))

    grown : lane (pair (numbered x) (numbered t) ∷ ps) t ≡ x ∷ lane ps t
    grown = let u = eqb-self t in rw u refl

    pub add-keeps : Keeps N' H' (pair (numbered x) (numbered t) ∷ ps)
    add-keeps = record {
      descends = (above, k.descends);
      target = λ q. by_test (nat_eq x q)
          (λ n. rw n (sym (ap (option_map target_in) (rw n at (nodes q)))))
          (λ n. rw n (k.target q ∙ sym (ap (option_map target_in) (rw n at (nodes q)) ∙ target-newer (Some x) (is_at older q) (N q))));
      chain = λ s. by_test (nat_eq t s)
          (λ u. subst (λ s. Chain (λ q. option_map sides_of (N' q)) (option_map newest_of (H' s)) (lane (pair (numbered x) (numbered t) ∷ ps) s)) (eqb-true t s u) at_target)
          (λ u. rw u (subst (λ h. Chain (λ q. option_map sides_of (N' q)) (option_map newest_of h) (lane ps s)) (sym (rw u at (heads s)))
          (added-other C _ older x others _ (lane ps t) (lane ps s) (above-lane ps (numbered x) s above) (was ∙ (k.chain t).at_head) (λ q m. lanes-apart ps t s q k.descends u m) (k.chain s))));
      count = λ s. by_test (nat_eq t s)
          (λ u. subst (λ s. count_of (H' s) ≡ length (lane (pair (numbered x) (numbered t) ∷ ps) s)) (eqb-true t s u)
          (ap count_of new-head ∙ count-joined (H t) ∙ ap suc (k.count t) ∙ sym (ap length grown)))
          (λ u. rw u (ap count_of (rw u at (heads s)) ∙ k.count s));
    }
      where
        at_target : Chain (λ q. option_map sides_of (N' q)) (option_map newest_of (H' t)) (lane (pair (numbered x) (numbered t) ∷ ps) t)
        at_target = subst (λ l. Chain (λ q. option_map sides_of (N' q)) (option_map newest_of (H' t)) l) (sym grown)
            (subst (λ h. Chain (λ q. option_map sides_of (N' q)) h (x ∷ lane ps t)) (sym (ap (option_map newest_of) new-head ∙ newest-joined (H t)))
            (added-chain C _ older x others (lane ps t) own (subst (λ h. Chain C h (lane ps t)) (sym was) (k.chain t))))

  -- ---- dropping

  module _ (v : Node) (found : N x ≡ Some v) (N1 N2 : ℕ → Option Node)
      (taken : (q : ℕ) → N1 q ≡ cond (nat_eq x q) None (N q))
      (olders : (q : ℕ) → N2 q ≡ cond (is_at v.sides.newer q) (option_map (with_older v.sides.older) (N1 q)) (N1 q))
      (newers : (q : ℕ) → N' q ≡ cond (is_at v.sides.older q) (option_map (with_newer v.sides.newer) (N2 q)) (N2 q))
      (heads : (q : ℕ) → H' q ≡ cond (nat_eq v.target q) (option_and_then (left v.sides) (H v.target)) (H q)) where
    -- the neighbours if the one that leaves were still there
    abbrev C1 : ℕ → Option Sides
    C1 q = cond (is_at v.sides.newer q) (option_map (older_as v.sides.older) (C q)) (C q)

    abbrev C2 : ℕ → Option Sides
    C2 q = cond (is_at v.sides.older q) (option_map (newer_as v.sides.newer) (C1 q)) (C1 q)

    rest : (q : ℕ) → nat_eq x q ≡ false → option_map sides_of (N' q) ≡ C2 q
    rest q n =
        let one : option_map sides_of (N1 q) ≡ option_map sides_of (N q) = ap (option_map sides_of) (rw n at (taken q)) in
        ap (option_map sides_of) (newers q) ∙ sides-newer v.sides.newer (is_at v.sides.older q) (N2 q)
        ∙ ap (λ o. cond (is_at v.sides.older q) (option_map (newer_as v.sides.newer) o) o)
        (ap (option_map sides_of) (olders q) ∙ sides-older v.sides.older (is_at v.sides.newer q) (N1 q)
        ∙ ap (λ o. cond (is_at v.sides.newer q) (option_map (older_as v.sides.older) o) o) one)

    targets : (q : ℕ) → option_map target_in (N' q) ≡ option_map target_in (cond (nat_eq x q) None (N q))
    targets q = ap (option_map target_in) (newers q) ∙ target-newer v.sides.newer (is_at v.sides.older q) (N2 q)
        ∙ ap (option_map target_in) (olders q) ∙ target-older v.sides.older (is_at v.sides.newer q) (N1 q) ∙ ap (option_map target_in) (taken q)

    member : has (lane ps v.target) x ≡ true
    member = target-lane ps v.target x (k.target x ∙ ap (option_map target_in) found)

    sides : v.sides ≡ sides_in (lane ps v.target) x
    sides = let e : Some v.sides ≡ Some (sides_in (lane ps v.target) x) = sym (ap (option_map sides_of) found) ∙ (k.chain v.target).sides x member in cc

    left-head : H' v.target ≡ option_and_then (left v.sides) (H v.target)
    left-head = heads v.target ∙ ap (λ b. cond b (option_and_then (left v.sides) (H v.target)) (H v.target)) (eqb-self v.target)

    -- the references to the target, of which there was one
    there : (h : Head) × (H v.target ≡ Some h)
    there = go (H v.target) (lane ps v.target) member (k.chain v.target).at_head
      where
        go : (o : Option Head) (xs : List ℕ) → has xs x ≡ true → option_map newest_of o ≡ first xs → (h : Head) × (o ≡ Some h)
        go (Some h) xs m e = (h, refl)
        go None [] m e = not_both m refl
        go None (y ∷ ys) m e = cc

    newest-left : (a b : Option ℕ) (h : Head) → option_map newest_of (left_by a b h) ≡ head_left_by a b (Some h.newest)
    newest-left None None h = refl
    newest-left None (Some y) h = refl
    newest-left (Some z) b h = refl

    count-left : (a b : Option ℕ) (h : Head) (ys : List ℕ) → suc (length ys) ≡ h.count → head_left_by a b (Some h.newest) ≡ first ys → count_of (left_by a b h) ≡ length ys
    count-left None None h [] l e = refl
    count-left None None h (y ∷ ys) l e = cc
    count-left None (Some y) h ys l e = omega (arith, l)
    count-left (Some z) b h ys l e = omega (arith, l)

    newest : option_map newest_of (H' v.target) ≡ head_left (option_map newest_of (H v.target)) v.sides
    newest = ap (option_map newest_of) (left-head ∙ ap (option_and_then (left v.sides)) there.1) ∙ newest-left v.sides.newer v.sides.older there.0
        ∙ sym (ap (λ o. head_left (option_map newest_of o) v.sides) there.1)

    at_target : Chain (λ q. option_map sides_of (N' q)) (option_map newest_of (H' v.target)) (lane_without (lane ps v.target) x)
    at_target = kept_chain C2 _ _ _ (λ q m. rest q (stays (lane ps v.target) x q (lane-distinct ps v.target k.descends) m).0)
        (left-chain C C1 C2 v.sides (λ q. refl) (λ q. refl) (option_map newest_of (H v.target)) (option_map newest_of (H' v.target)) (lane ps v.target) x
        (lane-distinct ps v.target k.descends) member sides newest (k.chain v.target))

    count : count_of (H' v.target) ≡ length (lane_without (lane ps v.target) x)
    count = ap count_of (left-head ∙ ap (option_and_then (left v.sides)) there.1)
        ∙ count-left v.sides.newer v.sides.older there.0 (lane_without (lane ps v.target) x)
        (length-without (lane ps v.target) x member ∙ sym (k.count v.target) ∙ ap count_of there.1)
        (sym (ap (λ o. head_left (option_map newest_of o) v.sides) there.1) ∙ sym newest ∙ at_target.at_head)

    pub drop-keeps : Keeps N' H' (without ps (numbered x))
    drop-keeps = record {
      descends = descends-without ps (numbered x) k.descends;
      target = λ q. by_test (nat_eq x q)
          (λ n. ap (λ y. target_of (without ps (numbered x)) (numbered y)) (sym (eqb-true x q n)) ∙ target-without-same ps (numbered x) ∙ sym (targets q ∙ ap (λ b. option_map target_in (cond b None (N q))) n))
          (λ n. target-without-other ps (numbered x) (numbered q) n ∙ k.target q ∙ sym (targets q ∙ ap (λ b. option_map target_in (cond b None (N q))) n));
      chain = λ s. subst (λ l. Chain (λ q. option_map sides_of (N' q)) (option_map newest_of (H' s)) l) (sym (lane-dropped ps x s k.descends)) (by_test (nat_eq v.target s)
          (λ u. subst (λ s. Chain (λ q. option_map sides_of (N' q)) (option_map newest_of (H' s)) (lane_without (lane ps s) x)) (eqb-true v.target s u) at_target)
          (λ u. subst (λ l. Chain (λ q. option_map sides_of (N' q)) (option_map newest_of (H' s)) l) (sym (without-absent (lane ps s) x (out s u)))
          (subst (λ h. Chain (λ q. option_map sides_of (N' q)) (option_map newest_of h) (lane ps s)) (sym (rw u at (heads s)))
          (kept_chain C2 _ _ _ (λ q m. rest q (false_by _ (λ t. not_both m (ap (has (lane ps s)) (sym (eqb-true x q t)) ∙ out s u))))
          (left-other C C1 C2 v.sides (λ q. refl) (λ q. refl) _ (lane ps v.target) (lane ps s) x sides (λ q m. lanes-apart ps v.target s q k.descends u m) (k.chain s))))));
      count = λ s. by_test (nat_eq v.target s)
          (λ u. subst (λ s. count_of (H' s) ≡ length (lane_without (lane ps s) x)) (eqb-true v.target s u) count ∙ sym (ap length (lane-dropped ps x s k.descends)))
          (λ u. ap count_of (rw u at (heads s)) ∙ k.count s ∙ sym (ap length (lane-dropped ps x s k.descends ∙ without-absent (lane ps s) x (out s u))));
    }
      where
        out : (s : ℕ) → nat_eq v.target s ≡ false → has (lane ps s) x ≡ false
        out s u = false_by _ (λ m. not_both member (lanes-apart ps v.target s x k.descends u m))

-- what the calls need
module _ (N : ℕ → Option Node) (H : ℕ → Option Head) (ps : List Pair) (k : Keeps N H ps) where
  pub some-there : (t : ℕ) (h : Head) → H t ≡ Some h → 0 < h.count
  some-there t h e = go (lane ps t) (sym (ap (option_map newest_of) e) ∙ (k.chain t).at_head) (sym (ap count_of e) ∙ k.count t)
    where
      go : (xs : List ℕ) → Some h.newest ≡ first xs → h.count ≡ length xs → 0 < h.count
      go [] f l = cc
      go (y ∷ ys) f l = omega (arith, l)

  pub few-there : (t : ℕ) (h : Head) → H t ≡ Some h → h.count ≤ length ps
  few-there t h e = let c : h.count ≡ length (lane ps t) = sym (ap count_of e) ∙ k.count t in let f = few-lane ps t in omega (arith, c, f)

  pub none-above : (x : ℕ) → IsAbove (numbered x) ps → N x ≡ None
  none-above x above = go (N x) refl
    where
      go : (o : Option Node) → N x ≡ o → N x ≡ None
      go None e = e
      go (Some v) e = let bad : Some (target_in v) ≡ None = sym (ap (option_map target_in) e) ∙ sym (k.target x) ∙ above-target ps (numbered x) above in cc

  pub next-kept : (x : ℕ) (v : Node) → N x ≡ Some v → option_map numbered v.sides.older ≡ next_to ps (numbered x)
  next-kept x v e =
      let target = k.target x ∙ ap (option_map target_in) e in
      let is : Some v.sides ≡ Some (sides_in (lane ps v.target) x) = sym (ap (option_map sides_of) e) ∙ (k.chain v.target).sides x (target-lane ps v.target x target) in
      let older : v.sides.older ≡ after (lane ps v.target) x = cc in
      ap (option_map numbered) older ∙ next-lane ps v.target x k.descends target

  pub none-without : (x : ℕ) → N x ≡ None → without ps (numbered x) ≡ ps
  none-without x e = without-none ps (numbered x) (k.target x ∙ ap (option_map target_in) e)

module _ (m : map.FinMap nat_cmp Node) (h : map.FinMap nat_cmp Head) where
  pub linked-keeps : IsLinked m h → Keeps (map.get m) (map.get h) (pairs_in m)
  linked-keeps l = record { descends = descends-in m; target = target-in m; chain = l.chain; count = l.count }

  pub pairs-kept : (ps : List Pair) → Keeps (map.get m) (map.get h) ps → pairs_in m ≡ ps
  pairs-kept ps k = same-pairs m ps k.descends k.target

  pub keeps-linked : (ps : List Pair) → Keeps (map.get m) (map.get h) ps → length ps ≤ most → IsLinked m h
  keeps-linked ps k few = let e = sym (pairs-kept ps k) in record {
    chain = λ t. subst (λ l. Chain (λ q. option_map sides_of (map.get m q)) (option_map newest_of (map.get h t)) (lane l t)) e (k.chain t);
    count = λ t. k.count t ∙ ap (λ l. length (lane l t)) e;
    few = subst (λ l. length l ≤ most) e few;
  }

  pub are-pairs : IsLinked m h → ArePairs (pairs_in m)
  are-pairs l = record { descends = descends-in m; few = l.few }
