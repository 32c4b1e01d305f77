-- What joining a lane and leaving it, a lane that is added and one that is dropped leave of a family of lanes.
use Rattle.std.proofs.Common.{◌≡◌, ℕ, ◌<◌, true, false, cond, nat_eq, List, [], ◌∷◌, Option, Some, None, IsSome, is_some, refl, sym, ap, subst, ◌∙◌, arith}
use Rattle.std.proofs.lemmas.Bool.{eqb-true}
use Rattle.std.specs.Option.{option_map, option_or}
use Rattle.linked_lanes.specs.declared.Sides.{Sides}
use Rattle.linked_lanes.specs.declared.lane.Extent.{Extent}
use Rattle.linked_lanes.specs.Lane.{is_at, has, without, Distinct}
use Rattle.linked_lanes.specs.Chain.{Chain, sides_in, last_left}
use Rattle.linked_lanes.specs.Family.{Family, IsTold, IsWhole, no_ends, joined_by, left_by}
use Rattle.linked_lanes.proofs.Lanes.{by_test, not_both, false_by, eqb-self, is_at-same, without-absent, has-without-other, has-without-same, Distinct-without, length-without}
use Rattle.linked_lanes.proofs.Chains.{newer_as, older_as, kept_chain, stays, left-chain, left-other, added-chain, added-other}
use Rattle.linked_lanes.proofs.Ends.{last-joined, last-without, some-first, some-last}

none-has : (xs : List ℕ) → ((q : ℕ) → has xs q ≡ false) → xs ≡ []
none-has [] h = refl
none-has (x ∷ xs) h = let e : has (x ∷ xs) x ≡ true = rw (eqb-self x) refl in not_both e (h x)

-- the ends that tell a lane are whole
pub told-whole : (C : ℕ → Option Sides) (e : Extent) (xs : List ℕ) → IsTold C e xs → IsWhole e
told-whole C e xs t = record {
  newest = rw (t.chain.at_head, t.count) (some-first xs);
  oldest = rw (t.at_last, t.count) (some-last xs);
}

-- the same lanes, in other words
pub same-family : (K : ℕ → Option ℕ) (C : ℕ → Option Sides) (E : ℕ → Option Extent) (F F' : ℕ → List ℕ) → ((c : ℕ) → F' c ≡ F c) → Family K C E F → Family K C E F'
same-family K C E F F' same f = record {
  distinct = λ c. subst Distinct (sym (same c)) (f.distinct c);
  member = λ c q. ap (λ xs. has xs q) (same c) ∙ f.member c q;
  told = λ c e is. subst (IsTold C e) (sym (same c)) (f.told c e is);
  known = f.known;
}

module _ (K : ℕ → Option ℕ) (C : ℕ → Option Sides) (E : ℕ → Option Extent) (F : ℕ → List ℕ) (f : Family K C E F) where
  -- one that stands in a lane stands in no other
  pub apart : (c d q : ℕ) → nat_eq c d ≡ false → has (F c) q ≡ true → has (F d) q ≡ false
  apart c d q n m = f.member d q ∙ go (K q) (sym (f.member c q) ∙ m)
    where
      go : (o : Option ℕ) → is_at o c ≡ true → is_at o d ≡ false
      go None e = not_both e refl
      go (Some k) e = ap (λ (j : ℕ). nat_eq j d) (eqb-true k c e) ∙ n

  pub stands : (c q : ℕ) → K q ≡ Some c → has (F c) q ≡ true
  stands c q e = f.member c q ∙ ap (λ o. is_at o c) e ∙ eqb-self c

  -- one that stands in no lane
  pub stands_nowhere : (c q : ℕ) → K q ≡ None → has (F c) q ≡ false
  stands_nowhere c q e = f.member c q ∙ ap (λ o. is_at o c) e

  -- a lane with no ends has nobody in it
  pub unknown-empty : (c : ℕ) → E c ≡ None → F c ≡ []
  unknown-empty c e = none-has (F c) (λ q. false_by _ (λ m.
      let known : IsSome (E c) = f.known c q (is_at-same (K q) c (sym (f.member c q) ∙ m)) in
      not_both known (ap is_some e)))

  -- ---- leaving

  module _ (x c : ℕ) (s : Sides) (e : Extent) (within : K x ≡ Some c) (found : C x ≡ Some s) (ends : E c ≡ Some e) where
    pub found-sides : s ≡ sides_in (F c) x
    found-sides = let is : Some s ≡ Some (sides_in (F c) x) = sym found ∙ (f.told c e ends).chain.sides x (stands c x within) in cc

    pub found-count : 0 < e.count
    found-count = let l = length-without (F c) x (stands c x within) in let k = (f.told c e ends).count in omega (arith, l, k)

    module _ (K' : ℕ → Option ℕ) (N1 N2 C' : ℕ → Option Sides) (E' : ℕ → Option Extent)
        (gone : (q : ℕ) → K' q ≡ cond (nat_eq x q) None (K q))
        (taken : (q : ℕ) → N1 q ≡ cond (nat_eq x q) None (C q))
        (olders : (q : ℕ) → N2 q ≡ cond (is_at s.newer q) (option_map (older_as s.older) (N1 q)) (N1 q))
        (newers : (q : ℕ) → C' q ≡ cond (is_at s.older q) (option_map (newer_as s.newer) (N2 q)) (N2 q))
        (left : (d : ℕ) → E' d ≡ cond (nat_eq c d) (Some (left_by s e)) (E d)) where
      -- the neighbours if the one that leaves were still there
      abbrev C1 : ℕ → Option Sides
      C1 q = cond (is_at s.newer q) (option_map (older_as s.older) (C q)) (C q)

      abbrev C2 : ℕ → Option Sides
      C2 q = cond (is_at s.older q) (option_map (newer_as s.newer) (C1 q)) (C1 q)

      rest : (q : ℕ) → nat_eq x q ≡ false → C' q ≡ C2 q
      rest q n =
          let one : N1 q ≡ C q = rw n at (taken q) in
          newers q ∙ ap (λ o. cond (is_at s.older q) (option_map (newer_as s.newer) o) o)
          (olders q ∙ ap (λ o. cond (is_at s.newer q) (option_map (older_as s.older) o) o) one)

      own : IsTold C' (left_by s e) (without (F c) x)
      own =
          let t = f.told c e ends in
          let m = stands c x within in record {
            chain = kept_chain C2 C' _ (without (F c) x) (λ q h. rest q (stays (F c) x q (f.distinct c) h).0)
                (left-chain C C1 C2 s (λ q. refl) (λ q. refl) e.newest _ (F c) x (f.distinct c) m found-sides refl t.chain);
            at_last = (λ i. last_left (t.at_last i) (found-sides i)) ∙ sym (last-without (F c) x (f.distinct c) m);
            count = let k = t.count in let l = length-without (F c) x m in omega (arith, k, l);
          }

      other : (d : ℕ) (e' : Extent) → nat_eq c d ≡ false → E d ≡ Some e' → IsTold C' e' (without (F d) x)
      other d e' n is =
          let t = f.told d e' is in
          let out : has (F d) x ≡ false = apart c d x n (stands c x within) in
          subst (IsTold C' e') (sym (without-absent (F d) x out)) (record {
            chain = kept_chain C2 C' _ (F d) (λ q h. rest q (false_by _ (λ u. not_both h (ap (has (F d)) (sym (eqb-true x q u)) ∙ out))))
                (left-other C C1 C2 s (λ q. refl) (λ q. refl) e'.newest (F c) (F d) x found-sides
                (λ q h. false_by _ (λ k. not_both h (apart c d q n k))) t.chain);
            at_last = t.at_last;
            count = t.count;
          })

      told' : (d : ℕ) (e' : Extent) → E' d ≡ Some e' → IsTold C' e' (without (F d) x)
      told' d e' is = by_test (nat_eq c d)
          (λ t. let same : Some (left_by s e) ≡ Some e' = rw t at (sym (left d) ∙ is) in
          let same' : left_by s e ≡ e' = cc in
          subst (λ (k : ℕ). IsTold C' e' (without (F k) x)) (eqb-true c d t) (subst (λ (v : Extent). IsTold C' v (without (F c) x)) same' own))
          (λ t. other d e' t (rw t at (sym (left d) ∙ is)))

      known' : (d q : ℕ) → K' q ≡ Some d → IsSome (E' d)
      known' d q is = by_test (nat_eq x q)
          (λ t. let none : None ≡ Some d = rw t at (sym (gone q) ∙ is) in absurd (cc))
          (λ t. let was : K q ≡ Some d = rw t at (sym (gone q) ∙ is) in
          ap is_some (left d) ∙ by_test (nat_eq c d) (λ u. rw u refl) (λ u. rw u (f.known d q was)))

      pub left-family : Family K' C' E' (λ d. without (F d) x)
      left-family = record {
        distinct = λ d. Distinct-without (F d) x (f.distinct d);
        member = λ d q. by_test (nat_eq x q)
            (λ t. ap (has (without (F d) x)) (sym (eqb-true x q t)) ∙ has-without-same (F d) x (f.distinct d) ∙ sym (ap (λ o. is_at o d) (rw t at (gone q))))
            (λ t. has-without-other (F d) x q t ∙ f.member d q ∙ sym (ap (λ o. is_at o d) (rw t at (gone q))));
        told = told';
        known = known';
      }

    -- what it leaves is whole, whatever becomes of the neighbours
    pub left-whole : IsWhole (left_by s e)
    left-whole =
        let K' : ℕ → Option ℕ = λ q. cond (nat_eq x q) None (K q) in
        let N1 : ℕ → Option Sides = λ q. cond (nat_eq x q) None (C q) in
        let N2 : ℕ → Option Sides = λ q. cond (is_at s.newer q) (option_map (older_as s.older) (N1 q)) (N1 q) in
        let N3 : ℕ → Option Sides = λ q. cond (is_at s.older q) (option_map (newer_as s.newer) (N2 q)) (N2 q) in
        let E' : ℕ → Option Extent = λ d. cond (nat_eq c d) (Some (left_by s e)) (E d) in
        told-whole N3 (left_by s e) (without (F c) x) (own K' N1 N2 N3 E' (λ q. refl) (λ q. refl) (λ q. refl) (λ q. refl) (λ d. refl))

  -- ---- joining

  module _ (x c : ℕ) (e : Extent) (nowhere : K x ≡ None) (ends : E c ≡ Some e) (K' : ℕ → Option ℕ) (C' : ℕ → Option Sides) (E' : ℕ → Option Extent)
      (placed : (q : ℕ) → K' q ≡ cond (nat_eq x q) (Some c) (K q))
      (nodes : (q : ℕ) → C' q ≡ cond (nat_eq x q) (Some (record { newer = None; older = e.newest })) (cond (is_at e.newest q) (option_map (newer_as (Some x)) (C q)) (C q)))
      (joined : (d : ℕ) → E' d ≡ cond (nat_eq c d) (Some (joined_by x e)) (E d)) where
    abbrev G : ℕ → List ℕ
    G d = cond (nat_eq c d) (x ∷ F d) (F d)

    others : (q : ℕ) → nat_eq x q ≡ false → C' q ≡ cond (is_at e.newest q) (option_map (newer_as (Some x)) (C q)) (C q)
    others q n = rw n at (nodes q)

    front : IsTold C' (joined_by x e) (x ∷ F c)
    front =
        let t = f.told c e ends in record {
          chain = added-chain C C' e.newest x others (F c) (rw (eqb-self x) at (nodes x)) t.chain;
          at_last = ap (λ o. option_or o (Some x)) t.at_last ∙ sym (last-joined x (F c));
          count = let k = t.count in omega (arith, k);
        }

    beside : (d : ℕ) (e' : Extent) → nat_eq c d ≡ false → E d ≡ Some e' → IsTold C' e' (F d)
    beside d e' n is =
        let t = f.told d e' is in record {
          chain = added-other C C' e.newest x others e'.newest (F c) (F d) (stands_nowhere d x nowhere) (f.told c e ends).chain.at_head
              (λ q h. false_by _ (λ k. not_both h (apart c d q n k))) t.chain;
          at_last = t.at_last;
          count = t.count;
        }

    joined-told : (d : ℕ) (e' : Extent) → E' d ≡ Some e' → IsTold C' e' (G d)
    joined-told d e' is = by_test (nat_eq c d)
        (λ t. let same : Some (joined_by x e) ≡ Some e' = rw t at (sym (joined d) ∙ is) in
        let same' : joined_by x e ≡ e' = cc in
        rw t (subst (λ (k : ℕ). IsTold C' e' (x ∷ F k)) (eqb-true c d t) (subst (λ (v : Extent). IsTold C' v (x ∷ F c)) same' front)))
        (λ t. rw t (beside d e' t (rw t at (sym (joined d) ∙ is))))

    joined-known : (d q : ℕ) → K' q ≡ Some d → IsSome (E' d)
    joined-known d q is = ap is_some (joined d) ∙ by_test (nat_eq c d)
        (λ u. rw u refl)
        (λ u. rw u (by_test (nat_eq x q)
        (λ t. let here : Some c ≡ Some d = rw t at (sym (placed q) ∙ is) in
        let cd : c ≡ d = cc in not_both (ap (nat_eq c) (sym cd) ∙ eqb-self c) u)
        (λ t. f.known d q (rw t at (sym (placed q) ∙ is)))))

    joined-member : (d q : ℕ) → has (G d) q ≡ is_at (K' q) d
    joined-member d q = by_test (nat_eq c d)
        (λ t. by_test (nat_eq x q)
        (λ u. rw (t, u) (sym (ap (λ o. is_at o d) (rw u at (placed q)) ∙ t)))
        (λ u. rw (t, u) (f.member d q ∙ sym (ap (λ o. is_at o d) (rw u at (placed q))))))
        (λ t. rw t (by_test (nat_eq x q)
        (λ u. ap (has (F d)) (sym (eqb-true x q u)) ∙ stands_nowhere d x nowhere ∙ sym (ap (λ o. is_at o d) (rw u at (placed q)) ∙ t))
        (λ u. f.member d q ∙ sym (ap (λ o. is_at o d) (rw u at (placed q))))))

    pub joined-family : Family K' C' E' G
    joined-family = record {
      distinct = λ d. by_test (nat_eq c d) (λ t. rw t (stands_nowhere d x nowhere, f.distinct d)) (λ t. rw t (f.distinct d));
      member = joined-member;
      told = joined-told;
      known = joined-known;
    }

  -- ---- a lane that is added, and one that is dropped

  module _ (c : ℕ) (E' : ℕ → Option Extent) where
    pub grown-family : E c ≡ None → ((d : ℕ) → E' d ≡ cond (nat_eq c d) (Some no_ends) (E d)) → Family K C E' F
    grown-family fresh added = record {
      distinct = f.distinct;
      member = f.member;
      told = λ d e is. by_test (nat_eq c d)
          (λ t. let same : Some no_ends ≡ Some e = rw t at (sym (added d) ∙ is) in
          let same' : no_ends ≡ e = cc in
          let none : F d ≡ [] = ap F (sym (eqb-true c d t)) ∙ unknown-empty c fresh in
          subst (λ (v : Extent). IsTold C v (F d)) same' (subst (IsTold C no_ends) (sym none) empty))
          (λ t. f.told d e (rw t at (sym (added d) ∙ is)));
      known = λ d q is. ap is_some (added d) ∙ by_test (nat_eq c d) (λ t. rw t refl) (λ t. rw t (f.known d q is));
    }
      where
        empty : IsTold C no_ends []
        empty = record { chain = record { at_head = refl; sides = λ q h. not_both h refl }; at_last = refl; count = refl }

    pub shrunk-family : F c ≡ [] → ((d : ℕ) → E' d ≡ cond (nat_eq c d) None (E d)) → Family K C E' F
    shrunk-family none dropped = record {
      distinct = f.distinct;
      member = f.member;
      told = λ d e is. by_test (nat_eq c d)
          (λ t. let bad : None ≡ Some e = rw t at (sym (dropped d) ∙ is) in absurd (cc))
          (λ t. f.told d e (rw t at (sym (dropped d) ∙ is)));
      known = λ d q is. ap is_some (dropped d) ∙ by_test (nat_eq c d)
          (λ t. let here : has (F c) q ≡ true = ap (λ (k : ℕ). has (F k) q) (eqb-true c d t) ∙ stands d q is in
          not_both here (ap (λ xs. has xs q) none))
          (λ t. rw t (f.known d q is));
    }
