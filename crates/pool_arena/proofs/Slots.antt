-- The map of the slots, read from the nodes.
use Rattle.std.proofs.Common.{◌≡◌, ◌≢◌, ℕ, zero, suc, true, false, cond, nat_eq, Option, Some, None, IsSome, is_some, List, [], ◌∷◌, refl, sym, ap, ◌∙◌}
use Rattle.std.proofs.lemmas.Bool.{eqb-true, eq-eqb}
use Rattle.std.proofs.lemmas.Option.{same_Some}
use Rattle.std.specs.FinMap as map
use Rattle.std.specs.FinMap.{get-empty}
use Rattle.std.specs.Ordering.{nat_cmp}
use Rattle.pool_arena.specs.declared.node.Node.{Node}
use Rattle.pool_arena.specs.Nodes.{pair_at, IsNowhere}
use Rattle.pool_arena.specs.Places.{slots_in}
use Rattle.pool_arena.proofs.Keeps.{get-with_entry, by_test, eqb-false, same_pairs}
use Rattle.pool_arena.proofs.Walks.{same_read}

-- no two nodes hold one key
abbrev pub Apart : List Node → Type 0
Apart nodes = (key s t i j : ℕ) → pair_at nodes i ≡ Some (key, s) → pair_at nodes j ≡ Some (key, t) → i ≡ j

get-with_slot : (m : map.FinMap nat_cmp ℕ) (key slot q : ℕ) → map.get (map.insert m key slot) q ≡ cond (nat_eq key q) (Some slot) (map.get m q)
get-with_slot m key slot q = get-with_entry m key (Some slot) q

-- a slot in the map is held by a node
pub held_by : (nodes : List Node) (q s : ℕ) → map.get (slots_in nodes) q ≡ Some s → (i : ℕ) × (pair_at nodes i ≡ Some (q, s))
held_by [] q s e = let n = get-empty {X = ℕ} nat_cmp q in absurd (cc)
held_by (node ∷ rest) q s e = go (λ h. let w = held_by rest q s h in (suc w.0, w.1)) node.slot refl
  where
    go : (map.get (slots_in rest) q ≡ Some s → (i : ℕ) × (pair_at (node ∷ rest) i ≡ Some (q, s))) → (o : Option ℕ) → node.slot ≡ o → (i : ℕ) × (pair_at (node ∷ rest) i ≡ Some (q, s))
    go later None f = later (rw f at e)
    go later (Some t) f =
        let got : cond (nat_eq node.key q) (Some t) (map.get (slots_in rest) q) ≡ Some s = sym (get-with_slot (slots_in rest) node.key t q) ∙ rw f at e in
        by_test (nat_eq node.key q)
        (λ y. let same : Some t ≡ Some s = rw y at got in (zero, rw f (ap (λ (o : Option ℕ). elim o as (λ _. Option (ℕ × ℕ)) [ None ↦ None | Some x ↦ Some (node.key, x) ]) same ∙ ap (λ k. Some (k, s)) (eqb-true node.key q y))))
        (λ y. later (rw y at got))

-- a key that a node holds has a slot in the map
pub has_slot : (nodes : List Node) (i q s : ℕ) → pair_at nodes i ≡ Some (q, s) → IsSome (map.get (slots_in nodes) q)
has_slot [] i q s e = absurd (cc)
has_slot (node ∷ rest) i q s e = go (λ j h. has_slot rest j q s h) node.slot refl i e
  where
    go : ((j : ℕ) → pair_at rest j ≡ Some (q, s) → IsSome (map.get (slots_in rest) q)) → (o : Option ℕ) → node.slot ≡ o → (i : ℕ) → pair_at (node ∷ rest) i ≡ Some (q, s) → IsSome (map.get (slots_in (node ∷ rest)) q)
    go later None f zero h = let bad : ◌≡◌ {A = Option (ℕ × ℕ)} None (Some (q, s)) = rw f at h in absurd (cc)
    go later None f (suc i) h = rw f (later i h)
    go later (Some t) f zero h =
        let pair : ◌≡◌ {A = Option (ℕ × ℕ)} (Some (node.key, t)) (Some (q, s)) = rw f at h in
        let key : node.key ≡ q = ap (λ (p : ℕ × ℕ). p.0) (same_Some (node.key, t) (q, s) pair) in
        rw (f, get-with_slot (slots_in rest) node.key t q, eq-eqb node.key q key) refl
    go later (Some t) f (suc i) h = rw (f, get-with_slot (slots_in rest) node.key t q)
        (by_test (nat_eq node.key q) (λ y. rw y refl) (λ y. rw y (later i h)))

-- and it is that one
pub slot_of_held : (nodes : List Node) → Apart nodes → (i q s : ℕ) → pair_at nodes i ≡ Some (q, s) → map.get (slots_in nodes) q ≡ Some s
slot_of_held nodes one i q s e = go (map.get (slots_in nodes) q) refl (has_slot nodes i q s e)
  where
    go : (o : Option ℕ) → map.get (slots_in nodes) q ≡ o → IsSome (map.get (slots_in nodes) q) → map.get (slots_in nodes) q ≡ Some s
    go None f h = let bad : false ≡ true = sym (ap is_some f) ∙ h in absurd (cc)
    go (Some t) f h =
        let w = held_by nodes q t f in
        let at : pair_at nodes w.0 ≡ Some (q, s) = ap (pair_at nodes) (one q t s w.0 i w.1 e) ∙ e in
        let same : ◌≡◌ {A = ℕ × ℕ} (q, t) (q, s) = same_read (pair_at nodes w.0) (q, t) (q, s) w.1 at in
        f ∙ ap (λ (p : ℕ × ℕ). Some p.1) same

pub no_slot : (nodes : List Node) (q : ℕ) → map.get (slots_in nodes) q ≡ None → IsNowhere nodes q
no_slot nodes q e i s h = let bad : false ≡ true = sym (ap is_some e) ∙ has_slot nodes i q s h in absurd (cc)

-- the slot of a key that is nowhere
pub none_of_nowhere : (nodes : List Node) (q : ℕ) → IsNowhere nodes q → map.get (slots_in nodes) q ≡ None
none_of_nowhere nodes q none = go (map.get (slots_in nodes) q) refl
  where
    go : (o : Option ℕ) → map.get (slots_in nodes) q ≡ o → map.get (slots_in nodes) q ≡ None
    go None e = e
    go (Some s) e = let w = held_by nodes q s e in absurd (none w.0 s w.1)

-- two maps with the same answers at each key that one of them has
pub same_by_answers : (m n : map.FinMap nat_cmp ℕ) → ((q s : ℕ) → map.get m q ≡ Some s → map.get n q ≡ Some s) → ((q s : ℕ) → map.get n q ≡ Some s → map.get m q ≡ Some s) → m ≡ n
same_by_answers m n there back = same_pairs m n (λ q. go q (map.get m q) refl (map.get n q) refl)
  where
    go : (q : ℕ) (o : Option ℕ) → map.get m q ≡ o → (p : Option ℕ) → map.get n q ≡ p → map.get m q ≡ map.get n q
    go q None e None f = e ∙ sym f
    go q None e (Some s) f = back q s f ∙ sym f
    go q (Some s) e p f = e ∙ sym (there q s e)

-- the same pairs are held
pub slots_same : (nodes others : List Node) → Apart nodes → Apart others → ((j : ℕ) → pair_at others j ≡ pair_at nodes j) → slots_in others ≡ slots_in nodes
slots_same nodes others one two same = same_by_answers (slots_in others) (slots_in nodes)
    (λ q s e. let w = held_by others q s e in slot_of_held nodes one w.0 q s (sym (same w.0) ∙ w.1))
    (λ q s e. let w = held_by nodes q s e in slot_of_held others two w.0 q s (same w.0 ∙ w.1))

-- ---- changes

-- at one index there is another pair, or none
pub record Changes (nodes others : List Node) (i : ℕ) (now : Option (ℕ × ℕ)) : Type 0 where
  pub here : pair_at others i ≡ now
  pub else : (j : ℕ) → j ≢ i → pair_at others j ≡ pair_at nodes j

pub either : {P : Type 0} (k l : ℕ) → (k ≡ l → P) → (k ≢ l → P) → P
either k l same differ = by_test (nat_eq k l) (λ t. same (eqb-true k l t)) (λ t. differ (λ e. let bad : true ≡ false = sym (eq-eqb k l e) ∙ t in absurd (cc)))

module _ (nodes others : List Node) (i key slot : ℕ) (one : Apart nodes) where
  -- a key that wasn't held is
  module _ (change : Changes nodes others i (Some (key, slot))) (was : pair_at nodes i ≡ None) (free : IsNowhere nodes key) where
    stays : (j q s : ℕ) → pair_at nodes j ≡ Some (q, s) → pair_at others j ≡ Some (q, s)
    stays j q s e = either j i (λ (d : j ≡ i). let bad : None ≡ Some (q, s) = sym was ∙ sym (ap (pair_at nodes) d) ∙ e in absurd (cc)) (λ d. change.else j d ∙ e)

    -- what is held is the new pair or one from before
    pub new_or_old : {P : Type 0} (j q s : ℕ) → pair_at others j ≡ Some (q, s) → (j ≡ i → q ≡ key → s ≡ slot → P) → (q ≢ key → pair_at nodes j ≡ Some (q, s) → P) → P
    new_or_old j q s e new old = either j i
        (λ (d : j ≡ i).
        let pair : ◌≡◌ {A = ℕ × ℕ} (q, s) (key, slot) = same_read (pair_at others j) (q, s) (key, slot) e (ap (pair_at others) d ∙ change.here) in
        new d (ap (λ (p : ℕ × ℕ). p.0) pair) (ap (λ (p : ℕ × ℕ). p.1) pair))
        (λ (d : j ≢ i).
        let at : pair_at nodes j ≡ Some (q, s) = sym (change.else j d) ∙ e in
        old (λ k. free j s (at ∙ ap (λ x. Some (x, s)) k)) at)

    pub apart_with : Apart others
    apart_with q s t j k e f =
        new_or_old j q s e
        (λ d qk sl. new_or_old k q t f (λ d2 _ _. d ∙ sym d2) (λ ne _. absurd (ne qk)))
        (λ ne at. new_or_old k q t f (λ _ qk _. absurd (ne qk)) (λ _ at2. one q s t j k at at2))

    pub slots_with : slots_in others ≡ map.insert (slots_in nodes) key slot
    slots_with = same_by_answers (slots_in others) (map.insert (slots_in nodes) key slot)
        (λ q s e. let w = held_by others q s e in get-with_slot (slots_in nodes) key slot q ∙
        new_or_old w.0 q s w.1
        (λ d qk sl. rw (eq-eqb key q (sym qk)) (ap Some (sym sl)))
        (λ ne at. rw (eqb-false key q (λ x. ne (sym x))) (slot_of_held nodes one w.0 q s at)))
        (λ q s e. let got : cond (nat_eq key q) (Some slot) (map.get (slots_in nodes) q) ≡ Some s = sym (get-with_slot (slots_in nodes) key slot q) ∙ e in
        by_test (nat_eq key q)
        (λ t. let same : Some slot ≡ Some s = rw t at got in
        slot_of_held others apart_with i q s (change.here ∙ ap (λ x. Some (x, slot)) (eqb-true key q t) ∙ ap (λ x. Some (q, x)) (same_Some slot s same)))
        (λ t. let w = held_by nodes q s (rw t at got) in slot_of_held others apart_with w.0 q s (stays w.0 q s w.1)))

  -- a key that was held isn't
  module _ (change : Changes nodes others i None) (was : pair_at nodes i ≡ Some (key, slot)) where
    -- what is held was held before
    pub left_over : (j q s : ℕ) → pair_at others j ≡ Some (q, s) → (q ≢ key) × (pair_at nodes j ≡ Some (q, s))
    left_over j q s e = either j i
        (λ (d : j ≡ i). let bad : None ≡ Some (q, s) = sym change.here ∙ sym (ap (pair_at others) d) ∙ e in absurd (cc))
        (λ (d : j ≢ i). let at : pair_at nodes j ≡ Some (q, s) = sym (change.else j d) ∙ e in
        ((λ k. d (one key s slot j i (at ∙ ap (λ x. Some (x, s)) k) was)), at))

    pub apart_without : Apart others
    apart_without q s t j k e f = one q s t j k (left_over j q s e).1 (left_over k q t f).1

    pub slots_without : slots_in others ≡ map.remove (slots_in nodes) key
    slots_without = same_by_answers (slots_in others) (map.remove (slots_in nodes) key)
        (λ q s e. let w = held_by others q s e in let l = left_over w.0 q s w.1 in
        get-with_entry (slots_in nodes) key None q ∙ rw (eqb-false key q (λ x. l.0 (sym x))) (slot_of_held nodes one w.0 q s l.1))
        (λ q s e. let got : cond (nat_eq key q) None (map.get (slots_in nodes) q) ≡ Some s = sym (get-with_entry (slots_in nodes) key None q) ∙ e in
        by_test (nat_eq key q)
        (λ t. let bad : None ≡ Some s = rw t at got in absurd (cc))
        (λ t. let w = held_by nodes q s (rw t at got) in
        slot_of_held others apart_without w.0 q s (change.else w.0 (λ d.
        let pair : ◌≡◌ {A = ℕ × ℕ} (q, s) (key, slot) = same_read (pair_at nodes w.0) (q, s) (key, slot) w.1 (ap (pair_at nodes) d ∙ was) in
        let bad : true ≡ false = sym (eq-eqb key q (sym (ap (λ (p : ℕ × ℕ). p.0) pair))) ∙ t in absurd (cc)) ∙ w.1)))
