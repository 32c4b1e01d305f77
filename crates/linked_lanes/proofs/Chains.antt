-- What leaving a lane and joining it at its front leave of its links.
use Rattle.std.proofs.Common.{◌≡◌, ℕ, Bool, true, false, cond, nat_eq, List, [], ◌∷◌, Option, Some, None, refl, sym, ap, ◌∙◌}
use Rattle.std.proofs.lemmas.Bool.{eqb-true}
use Rattle.std.specs.Option.{option_map}
use Rattle.linked_lanes.specs.Lane.{first, is_at, has, after, before, before_from, without, Distinct}
use Rattle.linked_lanes.specs.Chain.{Chain, sides_in, head_left, head_left_by}
use Rattle.linked_lanes.specs.declared.Sides.{Sides}
use Rattle.linked_lanes.proofs.Lanes.{by_test, not_both, false_by, eqb-self, before_from-front, after-without, before-without, links_agree, has-first, has-after, has-before_from, first-without, has-without}

abbrev pub newer_as : Option ℕ → Sides → Sides
newer_as w s = record s { newer = w }

abbrev pub older_as : Option ℕ → Sides → Sides
older_as w s = record s { older = w }

abbrev pub new_side : Option ℕ → Sides → Sides
new_side w s = record { newer = None; older = w }

pub same_chain : (C C' : ℕ → Option Sides) (h h' : Option ℕ) (xs : List ℕ) → ((q : ℕ) → C' q ≡ C q) → h' ≡ h → Chain C h xs → Chain C' h' xs
same_chain C C' h h' xs e f c = record { at_head = f ∙ c.at_head; sides = λ q m. e q ∙ c.sides q m }

-- a lane is told by the links of its members
pub kept_chain : (C C' : ℕ → Option Sides) (h : Option ℕ) (xs : List ℕ) → ((q : ℕ) → has xs q ≡ true → C' q ≡ C q) → Chain C h xs → Chain C' h xs
kept_chain C C' h xs e c = record { at_head = c.at_head; sides = λ q m. e q m ∙ c.sides q m }

some_at : (f : Sides → Sides) (b : Bool) (s : Sides) → cond b (option_map f (Some s)) (Some s) ≡ Some (cond b (f s) s)
some_at f true s = refl
some_at f false s = refl

newer_at : (b : Bool) (w : Option ℕ) (s : Sides) → cond b (newer_as w s) s ≡ record { newer = cond b w s.newer; older = s.older }
newer_at true w s = refl
newer_at false w s = refl

older_at : (b : Bool) (w : Option ℕ) (s : Sides) → cond b (older_as w s) s ≡ record { newer = s.newer; older = cond b w s.older }
older_at true w s = refl
older_at false w s = refl

-- what stays in a lane that one leaves
pub stays : (xs : List ℕ) (x q : ℕ) → Distinct xs → has (without xs x) q ≡ true → (nat_eq x q ≡ false) × (has xs q ≡ true)
stays xs x q d m = by_test (has xs q)
    (λ h. (false_by _ (λ t. not_both m (go xs x q (eqb-true x q t) d)), h))
    (λ h. not_both m (has-without xs x q h))
  where
    go : (xs : List ℕ) (x q : ℕ) → x ≡ q → Distinct xs → has (without xs x) q ≡ false
    go [] x q e d = refl
    go (y ∷ ys) x q e d = by_test (nat_eq y x)
        (λ t. rw t (ap (has ys) (sym (eqb-true y x t ∙ e)) ∙ d.0))
        (λ t. let u : nat_eq y q ≡ false = ap (nat_eq y) (sym e) ∙ t in rw (t, u) (go ys x q e d.1))

-- one that is no member isn't where a link leads
module _ (xs : List ℕ) (x q : ℕ) (out : has xs q ≡ false) where
  pub off-after : is_at (after xs x) q ≡ false
  off-after = false_by _ (λ h. not_both (has-after xs x q h) out)

  pub off-before : is_at (before xs x) q ≡ false
  off-before = false_by _ (λ h. not_both (has-before_from None xs x q h refl) out)

  pub off-first : is_at (first xs) q ≡ false
  off-first = false_by _ (λ h. not_both (has-first xs q h) out)

-- one behind the head leaves the head
later-stays : (y : ℕ) (ys : List ℕ) (x : ℕ) (older head : Option ℕ) → has ys x ≡ true → head_left_by (before_from (Some y) ys x) older head ≡ head
later-stays y [] x older head m = not_both m refl
later-stays y (z ∷ zs) x older head m = by_test (nat_eq z x)
    (λ t. rw t refl)
    (λ t. let m' : has zs x ≡ true = rw t at m in rw t (later-stays z zs x older head m'))

-- ---- leaving

module _ (C C1 C2 : ℕ → Option Sides) (s : Sides)
    (olders : (q : ℕ) → C1 q ≡ cond (is_at s.newer q) (option_map (older_as s.older) (C q)) (C q))
    (newers : (q : ℕ) → C2 q ≡ cond (is_at s.older q) (option_map (newer_as s.newer) (C1 q)) (C1 q)) where
  both : (q : ℕ) (v : Sides) → C q ≡ Some v → C2 q ≡ Some (record { newer = cond (is_at s.older q) s.newer v.newer; older = cond (is_at s.newer q) s.older v.older })
  both q v e =
      let a : C1 q ≡ Some (record { newer = v.newer; older = cond (is_at s.newer q) s.older v.older }) =
      olders q ∙ ap (λ o. cond (is_at s.newer q) (option_map (older_as s.older) o) o) e ∙ some_at (older_as s.older) (is_at s.newer q) v ∙ ap Some (older_at (is_at s.newer q) s.older v) in
      newers q ∙ ap (λ o. cond (is_at s.older q) (option_map (newer_as s.newer) o) o) a ∙ some_at (newer_as s.newer) (is_at s.older q) _ ∙ ap Some (newer_at (is_at s.older q) s.newer _)

  pub left-chain : (h h' : Option ℕ) (xs : List ℕ) (x : ℕ) → Distinct xs → has xs x ≡ true → s ≡ sides_in xs x → h' ≡ head_left h s → Chain C h xs → Chain C2 h' (without xs x)
  left-chain h h' xs x d m e f c = record {
    at_head = f ∙ (λ i. head_left (c.at_head i) (e i)) ∙ go xs m ∙ sym (first-without xs x);
    sides = λ q n. let p = stays xs x q d n in
        let o1 : s.newer ≡ before xs x = ap (λ (t : Sides). t.newer) e in
        let o2 : s.older ≡ after xs x = ap (λ (t : Sides). t.older) e in
        let a1 : is_at s.older q ≡ is_at (before xs q) x = ap (λ o. is_at o q) o2 ∙ sym (links_agree xs x q d) in
        let a2 : is_at s.newer q ≡ is_at (after xs q) x = ap (λ o. is_at o q) o1 ∙ links_agree xs q x d in
        both q (sides_in xs q) (c.sides q p.1) ∙ (λ i. Some (record { newer = cond (a1 i) (o1 i) (before xs q); older = cond (a2 i) (o2 i) (after xs q) }))
        ∙ (λ i. Some (record { newer = sym (before-without xs x q d p.0) i; older = sym (after-without xs x q d p.0) i }));
  }
    where
      go : (xs : List ℕ) → has xs x ≡ true → head_left (first xs) (sides_in xs x) ≡ cond (is_at (first xs) x) (after xs x) (first xs)
      go [] m = not_both m refl
      go (y ∷ ys) m = by_test (nat_eq y x) (λ t. rw t refl) (λ t. let m' : has ys x ≡ true = rw t at m in rw t (later-stays y ys x (after ys x) (Some y) m'))

  -- the other lanes
  pub left-other : (h : Option ℕ) (xs ys : List ℕ) (x : ℕ) → s ≡ sides_in xs x → ((q : ℕ) → has ys q ≡ true → has xs q ≡ false) → Chain C h ys → Chain C2 h ys
  left-other h xs ys x e apart c = record {
    at_head = c.at_head;
    sides = λ q n.
        let off1 : is_at s.older q ≡ false = ap (λ (t : Sides). is_at t.older q) e ∙ off-after xs x q (apart q n) in
        let off2 : is_at s.newer q ≡ false = ap (λ (t : Sides). is_at t.newer q) e ∙ off-before xs x q (apart q n) in
        both q (sides_in ys q) (c.sides q n) ∙ (λ i. Some (record { newer = cond (off1 i) s.newer (before ys q); older = cond (off2 i) s.older (after ys q) }));
  }

-- ---- joining

-- one with its links that wasn't there
module _ (C C' : ℕ → Option Sides) (h : Option ℕ) (x : ℕ)
    (others : (q : ℕ) → nat_eq x q ≡ false → C' q ≡ cond (is_at h q) (option_map (newer_as (Some x)) (C q)) (C q)) where
  next_at : (q : ℕ) (v : Sides) → nat_eq x q ≡ false → C q ≡ Some v → C' q ≡ Some (record { newer = cond (is_at h q) (Some x) v.newer; older = v.older })
  next_at q v t e =
      others q t ∙ ap (λ o. cond (is_at h q) (option_map (newer_as (Some x)) o) o) e ∙ some_at (newer_as (Some x)) (is_at h q) v ∙ ap Some (newer_at (is_at h q) (Some x) v)

  pub added-chain : (xs : List ℕ) → C' x ≡ Some (record { newer = None; older = h }) → Chain C h xs → Chain C' (Some x) (x ∷ xs)
  added-chain xs own c = record {
    at_head = refl;
    sides = λ q m. by_test (nat_eq x q)
        (λ t. rw t (ap C' (sym (eqb-true x q t)) ∙ own ∙ (λ i. Some (record { newer = None; older = c.at_head i }))))
        (λ t. let m' : has xs q ≡ true = rw t at m in
        rw t (next_at q (sides_in xs q) t (c.sides q m')
        ∙ (λ i. Some (record { newer = cond (is_at (c.at_head i) q) (Some x) (before xs q); older = after xs q }))
        ∙ (λ i. Some (record { newer = sym (before_from-front (Some x) xs q) i; older = after xs q }))));
  }

  pub added-other : (g : Option ℕ) (xs ys : List ℕ) → has ys x ≡ false → h ≡ first xs → ((q : ℕ) → has ys q ≡ true → has xs q ≡ false) → Chain C g ys → Chain C' g ys
  added-other g xs ys out e apart c = record {
    at_head = c.at_head;
    sides = λ q n.
        let t : nat_eq x q ≡ false = false_by _ (λ t. not_both n (ap (has ys) (sym (eqb-true x q t)) ∙ out)) in
        let off : is_at h q ≡ false = ap (λ o. is_at o q) e ∙ off-first xs x q (apart q n) in
        next_at q (sides_in ys q) t (c.sides q n) ∙ (λ i. Some (record { newer = cond (off i) (Some x) (before ys q); older = after ys q }));
  }

-- one that was there already
module _ (C C1 C2 : ℕ → Option Sides) (h : Option ℕ) (x : ℕ)
    (newers : (q : ℕ) → C1 q ≡ cond (is_at h q) (option_map (newer_as (Some x)) (C q)) (C q))
    (own : (q : ℕ) → C2 q ≡ cond (nat_eq x q) (option_map (new_side h) (C1 q)) (C1 q)) where
  own-side : (s : Sides) → C x ≡ Some s → C2 x ≡ Some (record { newer = None; older = h })
  own-side s e = own x ∙ ap (λ b. cond b (option_map (new_side h) (C1 x)) (C1 x)) (eqb-self x)
      ∙ ap (option_map (new_side h)) (newers x ∙ ap (λ o. cond (is_at h x) (option_map (newer_as (Some x)) o) o) e ∙ some_at (newer_as (Some x)) (is_at h x) s)

  other-sides : (q : ℕ) → nat_eq x q ≡ false → C2 q ≡ cond (is_at h q) (option_map (newer_as (Some x)) (C q)) (C q)
  other-sides q t = rw t at (own q) ∙ newers q

  pub joined-chain : (s : Sides) (xs : List ℕ) → C x ≡ Some s → has xs x ≡ false → Chain C h xs → Chain C2 (Some x) (x ∷ xs)
  joined-chain s xs e out c = added-chain C C2 h x other-sides xs (own-side s e) c

  pub joined-other : (g : Option ℕ) (xs ys : List ℕ) → has ys x ≡ false → h ≡ first xs → ((q : ℕ) → has ys q ≡ true → has xs q ≡ false) → Chain C g ys → Chain C2 g ys
  joined-other g xs ys out e apart c = added-other C C2 h x other-sides g xs ys out e apart c
