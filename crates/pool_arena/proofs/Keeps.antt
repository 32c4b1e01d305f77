-- What each change of the places and the slots leaves of the map.
use Rattle.std.proofs.Common.{◌≡◌, ◌≢◌, ℕ, ◌+◌, ◌-◌, Bool, true, false, cond, nat_eq, List, [], ◌∷◌, get_or, Option, Some, None, IsSome, is_some, count_by, refl, sym, ap, ◌∙◌, arith}
use Rattle.std.proofs.lemmas.Bool.{eqb-true, eq-eqb}
use Rattle.std.specs.Prelude.{min}
use Rattle.std.specs.Option.{option_and_then, OnSome}
use Rattle.std.specs.Ordering.{nat_cmp, eq_by_cmp, is_eq}
use Rattle.std.specs.declared.cmp.Ordering.{Ordering}
use Rattle.std.specs.declared.cmp.Ordering.TheVariants.{Less, Equal, Greater}
use Rattle.std.proofs.lemmas.Cmp.{eq_by_cmp_equiv}
use Rattle.std.proofs.lemmas.List.Sums.{sum_by-set}
use Rattle.std.specs.Cmp.{nat_cmp_total}
use Rattle.std.specs.FinMap as map
use Rattle.std.specs.FinMap.{same_map, nat_cmp-IsAntisymmetric, get-insert, get-remove, get-empty, get-entries, len-insert, len-remove, len-empty}
use Rattle.std.specs.FinMap.Entries.{find}
use Rattle.slab.specs.Slab.{Slab, get as slot_get, slab_len, Updates as SlotUpdates, with_value as slot_with}
use Rattle.slab.proofs.SlabLemmas.{Updates-with_value, ContainsKey-within}
use Rattle.pool_arena.specs.declared.places.Places.{Places}
use Rattle.pool_arena.specs.Places.{slots_of, spare as room}
use Rattle.pool_arena.specs.Arena.{held, pairs_of, with_entry, with_value, AreTied}

pub by_test : {P : Type 0} (b : Bool) → (b ≡ true → P) → (b ≡ false → P) → P
by_test true h k = h refl
by_test false h k = k refl

pub eqb-false : (x y : ℕ) → x ≢ y → nat_eq x y ≡ false
eqb-false x y h = by_test (nat_eq x y) (λ e. absurd (h (eqb-true x y e))) (λ e. e)

pub ties : (q k : ℕ) → eq_by_cmp nat_cmp q k ≡ nat_eq k q
ties q k = by_test (nat_eq k q)
    (λ t. let e : k ≡ q = eqb-true k q t in rw (t, e) ((eq_by_cmp_equiv nat_cmp_total).refl q))
    (λ t. go (eq_by_cmp nat_cmp q k) refl (λ e. let h : q ≡ k = same_by (nat_cmp q k) refl e in let w : nat_eq k q ≡ true = eq-eqb _ _ (sym h) in let bad : true ≡ false = sym w ∙ t in absurd (cc)) ∙ sym t)
  where
    go : (b : Bool) → eq_by_cmp nat_cmp q k ≡ b → (eq_by_cmp nat_cmp q k ≡ true → ⊥) → eq_by_cmp nat_cmp q k ≡ false
    go true e h = absurd (h e)
    go false e h = e

    same_by : (r : Ordering) → nat_cmp q k ≡ r → eq_by_cmp nat_cmp q k ≡ true → q ≡ k
    same_by Less e h = let bad : false ≡ true = sym (ap is_eq e) ∙ h in absurd (cc)
    same_by Equal e h = nat_cmp-IsAntisymmetric q k e
    same_by Greater e h = let bad : false ≡ true = sym (ap is_eq e) ∙ h in absurd (cc)

module _ {X : Type 0} where
  pub get-with_entry : (m : map.FinMap nat_cmp X) (k : ℕ) (o : Option X) (q : ℕ) → map.get (with_entry m k o) q ≡ cond (nat_eq k q) o (map.get m q)
  get-with_entry m k None q = get-remove nat_cmp_total m k q ∙ ap (λ b. cond b None (map.get m q)) (ties q k)
  get-with_entry m k (Some v) q = get-insert nat_cmp_total m k v q ∙ ap (λ b. cond b (Some v) (map.get m q)) (ties q k)

  pub get-pairs_of : (es : List (ℕ × ℕ)) (s : Slab X) (q : ℕ) → map.get (pairs_of es s) q ≡ option_and_then (slot_get s) (find nat_cmp q es)
  get-pairs_of [] s q = get-empty nat_cmp q
  get-pairs_of (e ∷ es) s q =
      let ih = get-pairs_of es s q in
      get-with_entry (pairs_of es s) e.0 (slot_get s e.1) q ∙ by_test (nat_eq e.0 q)
      (λ t. let u : eq_by_cmp nat_cmp q e.0 ≡ true = ties q e.0 ∙ t in rw (t, u) refl)
      (λ t. let u : eq_by_cmp nat_cmp q e.0 ≡ false = ties q e.0 ∙ t in rw (t, u) ih)

  pub same_pairs : (m n : map.FinMap nat_cmp X) → ((q : ℕ) → map.get m q ≡ map.get n q) → m ≡ n
  same_pairs m n h = same_map nat_cmp_total nat_cmp-IsAntisymmetric m n h

-- places and slots as functions
module _ {X : Type 0} where
  pub record Fits2 (P : ℕ → Option ℕ) (G : ℕ → Option X) : Type 0 where
    pub filled : (k i : ℕ) → P k ≡ Some i → IsSome (G i)
    pub apart : (k l i : ℕ) → P k ≡ Some i → P l ≡ Some i → k ≡ l

  pub none_is_none : (o : Option X) → IsSome o → o ≡ None → {Q : Type 0} → Q
  none_is_none None h e = absurd (cc)
  none_is_none (Some v) h e = absurd (cc)

  module _ (P P' : ℕ → Option ℕ) (G G' : ℕ → Option X) (f : Fits2 P G) (k i : ℕ) where
    -- a new key at a slot that was empty
    module _ (v : X) (p : (q : ℕ) → P' q ≡ cond (nat_eq k q) (Some i) (P q)) (here : G' i ≡ Some v) (others : (j : ℕ) → j ≢ i → G' j ≡ G j) (empty : G i ≡ None) where
      off : (q j : ℕ) → P q ≡ Some j → j ≢ i
      off q j e h = none_is_none (G j) (f.filled q j e) (ap G h ∙ empty)

      pub added-reads : (q : ℕ) → option_and_then G' (P' q) ≡ cond (nat_eq k q) (Some v) (option_and_then G (P q))
      added-reads q = by_test (nat_eq k q)
          (λ t. let a : P' q ≡ Some i = rw t at (p q) in rw (a, t) here)
          (λ t. let a : P' q ≡ P q = rw t at (p q) in rw (a, t) (go (P q) refl))
        where
          go : (o : Option ℕ) → P q ≡ o → option_and_then G' o ≡ option_and_then G o
          go None e = refl
          go (Some j) e = others j (off q j e)

      pub added-fits : Fits2 P' G'
      added-fits = record {
        filled = λ l j e. by_test (nat_eq k l)
            (λ t. let a : P' l ≡ Some i = rw t at (p l) in let b : Some j ≡ Some i = sym e ∙ a in let d : j ≡ i = cc in rw (d, here) refl)
            (λ t. let a : P' l ≡ P l = rw t at (p l) in let b : P l ≡ Some j = sym a ∙ e in rw (others j (off l j b)) (f.filled l j b));
        apart = λ l m j e d. by_test (nat_eq k l)
            (λ t. let a : P' l ≡ Some i = rw t at (p l) in let b : Some j ≡ Some i = sym e ∙ a in let ji : j ≡ i = cc in
            by_test (nat_eq k m)
            (λ u. sym (eqb-true k l t) ∙ eqb-true k m u)
            (λ u. let a2 : P' m ≡ P m = rw u at (p m) in absurd (off m j (sym a2 ∙ d) ji)))
            (λ t. let a : P' l ≡ P l = rw t at (p l) in
            by_test (nat_eq k m)
            (λ u. let a2 : P' m ≡ Some i = rw u at (p m) in let b : Some j ≡ Some i = sym d ∙ a2 in let ji : j ≡ i = cc in absurd (off l j (sym a ∙ e) ji))
            (λ u. let a2 : P' m ≡ P m = rw u at (p m) in f.apart l m j (sym a ∙ e) (sym a2 ∙ d)));
      }

    module _ (held_at : P k ≡ Some i) where
      away : (q j : ℕ) → nat_eq k q ≡ false → P q ≡ Some j → j ≢ i
      away q j t e h =
          let kq : k ≡ q = f.apart k q i held_at (e ∙ ap Some h) in
          let bad : true ≡ false = sym (eq-eqb k q kq) ∙ t in absurd (cc)

      -- a key goes, and its slot is empty
      module _ (p : (q : ℕ) → P' q ≡ cond (nat_eq k q) None (P q)) (others : (j : ℕ) → j ≢ i → G' j ≡ G j) where
        pub taken-reads : (q : ℕ) → option_and_then G' (P' q) ≡ cond (nat_eq k q) None (option_and_then G (P q))
        taken-reads q = by_test (nat_eq k q)
            (λ t. let a : P' q ≡ None = rw t at (p q) in rw (a, t) refl)
            (λ t. let a : P' q ≡ P q = rw t at (p q) in rw (a, t) (go t (P q) refl))
          where
            go : nat_eq k q ≡ false → (o : Option ℕ) → P q ≡ o → option_and_then G' o ≡ option_and_then G o
            go t None e = refl
            go t (Some j) e = others j (away q j t e)

        was : (l j : ℕ) → P' l ≡ Some j → (nat_eq k l ≡ false) × (P l ≡ Some j)
        was l j e = by_test (nat_eq k l)
            (λ t. let a : P' l ≡ None = rw t at (p l) in let bad : Some j ≡ None = sym e ∙ a in absurd (cc))
            (λ t. let a : P' l ≡ P l = rw t at (p l) in (t, sym a ∙ e))

        pub taken-fits : Fits2 P' G'
        taken-fits = record {
          filled = λ l j e. let w = was l j e in rw (others j (away l j w.0 w.1)) (f.filled l j w.1);
          apart = λ l m j e d. f.apart l m j (was l j e).1 (was m j d).1;
        }

      -- a write at the key
      module _ (v : X) (here : G' i ≡ Some v) (others : (j : ℕ) → j ≢ i → G' j ≡ G j) where
        pub written-reads : (q : ℕ) → option_and_then G' (P q) ≡ cond (nat_eq k q) (Some v) (option_and_then G (P q))
        written-reads q = by_test (nat_eq k q)
            (λ t. let a : P q ≡ Some i = ap P (sym (eqb-true k q t)) ∙ held_at in rw (a, t) here)
            (λ t. rw t (go t (P q) refl))
          where
            go : nat_eq k q ≡ false → (o : Option ℕ) → P q ≡ o → option_and_then G' o ≡ option_and_then G o
            go t None e = refl
            go t (Some j) e = others j (away q j t e)

module _ {X : Type 0} where
  -- the slots of keys, with a value
  abbrev pub pairs : map.FinMap nat_cmp ℕ → Slab X → map.FinMap nat_cmp X
  pairs m s = pairs_of (map.entries m) s

  pub fits2 : (m : map.FinMap nat_cmp ℕ) (s : Slab X) → AreTied m s → Fits2 (map.get m) (slot_get s)
  fits2 m s h = record { filled = h.filled; apart = h.apart }

  pub reads : (m : map.FinMap nat_cmp ℕ) (s : Slab X) (q : ℕ) → map.get (pairs m s) q ≡ option_and_then (slot_get s) (map.get m q)
  reads m s q = get-pairs_of (map.entries m) s q ∙ ap (option_and_then (slot_get s)) (sym (get-entries m q))

  -- a key with no value has no slot
  pub no_place : (m : map.FinMap nat_cmp ℕ) (s : Slab X) (k : ℕ) → AreTied m s → map.get (pairs m s) k ≡ None → map.get m k ≡ None
  no_place m s k tied none = go (map.get m k) refl
    where
      go : (o : Option ℕ) → map.get m k ≡ o → map.get m k ≡ None
      go None e = e
      go (Some i) e = none_is_none (slot_get s i) (tied.filled k i e) (ap (option_and_then (slot_get s)) (sym e) ∙ sym (reads m s k) ∙ none)

  pub on_some : {P : Type 0} (o : Option X) → IsSome o → OnSome o P → P
  on_some None h p = absurd (cc)
  on_some (Some v) h p = p

  -- no keys
  pub empty-pairs : (m : map.FinMap nat_cmp ℕ) (s : Slab X) → m ≡ map.empty → pairs m s ≡ map.empty
  empty-pairs m s e = same_pairs (pairs m s) map.empty (λ q.
      reads m s q ∙ ap (option_and_then (slot_get s)) (ap (λ x. map.get x q) e ∙ get-empty {X = ℕ} nat_cmp q) ∙ sym (get-empty nat_cmp q))

  pub empty_tied : (m : map.FinMap nat_cmp ℕ) (s : Slab X) → m ≡ map.empty → slab_len s ≡ 0 → AreTied m s
  empty_tied m s e n =
      let none = λ (k : ℕ). ap (λ x. map.get x k) e ∙ get-empty {X = ℕ} nat_cmp k in record {
        filled = λ k i f. none_is_none (Some i) refl (sym f ∙ none k);
        apart = λ k l i f g. none_is_none (Some i) refl (sym f ∙ none k);
        counted = ap map.len (empty-pairs m s e) ∙ len-empty nat_cmp X ∙ sym n;
      }

  -- a new pair
  module _ (m : map.FinMap nat_cmp ℕ) (s s' : Slab X) (tied : AreTied m s) (k i : ℕ) (v : X)
      (slots : SlotUpdates s s' i (Some v)) (empty : slot_get s i ≡ None) where
    abbrev placed : map.FinMap nat_cmp ℕ
    placed = map.insert m k i

    pub add-pairs : pairs placed s' ≡ map.insert (pairs m s) k v
    add-pairs = same_pairs _ _ (λ q. reads placed s' q ∙ added-reads (map.get m) (map.get placed) _ _ (fits2 m s tied) k i v (get-with_entry m k (Some i)) slots.changed slots.others empty q
        ∙ sym (get-with_entry (pairs m s) k (Some v) q ∙ ap (cond (nat_eq k q) (Some v)) (reads m s q)))

    pub add-tied : map.get (pairs m s) k ≡ None → slab_len s' ≡ slab_len s + 1 → AreTied placed s'
    add-tied new more =
        let f = added-fits (map.get m) (map.get placed) _ _ (fits2 m s tied) k i v (get-with_entry m k (Some i)) slots.changed slots.others empty in
        let one : map.len (map.insert (pairs m s) k v) ≡ map.len (pairs m s) + 1 =
        len-insert nat_cmp_total (pairs m s) k v ∙ ap (λ o. cond (is_some o) (map.len (pairs m s)) (map.len (pairs m s) + 1)) new in
        record { filled = f.filled; apart = f.apart; counted = ap map.len add-pairs ∙ one ∙ ap (λ n. n + 1) tied.counted ∙ sym more }

  -- a pair goes
  module _ (m : map.FinMap nat_cmp ℕ) (s s' : Slab X) (tied : AreTied m s) (k i : ℕ) (at : map.get m k ≡ Some i) (slots : SlotUpdates s s' i None) where
    abbrev left : map.FinMap nat_cmp ℕ
    left = map.remove m k

    pub take-pairs : pairs left s' ≡ map.remove (pairs m s) k
    take-pairs = same_pairs _ _ (λ q. reads left s' q ∙ taken-reads (map.get m) (map.get left) _ _ (fits2 m s tied) k i at (get-with_entry m k None) slots.others q
        ∙ sym (get-with_entry (pairs m s) k None q ∙ ap (cond (nat_eq k q) None) (reads m s q)))

    was_there : IsSome (map.get (pairs m s) k)
    was_there = rw (reads m s k, at) (tied.filled k i at)

    pub take-tied : slab_len s' + 1 ≡ slab_len s → AreTied left s'
    take-tied fewer =
        let f = taken-fits (map.get m) (map.get left) _ _ (fits2 m s tied) k i at (get-with_entry m k None) slots.others in
        let one : map.len (map.remove (pairs m s) k) ≡ map.len (pairs m s) - 1 =
        len-remove nat_cmp_total (pairs m s) k ∙ ap (λ b. cond b (map.len (pairs m s) - 1) (map.len (pairs m s))) was_there in
        let count = tied.counted in
        record { filled = f.filled; apart = f.apart; counted = ap map.len take-pairs ∙ one ∙ omega (arith, count, fewer) }

  pub removed_nothing : (m : map.FinMap nat_cmp ℕ) (s : Slab X) (k : ℕ) → map.get m k ≡ None → map.remove (pairs m s) k ≡ pairs m s
  removed_nothing m s k none = same_pairs _ _ (λ q. get-with_entry (pairs m s) k None q ∙ by_test (nat_eq k q)
      (λ t. let e : k ≡ q = eqb-true k q t in rw t (sym (reads m s q ∙ ap (option_and_then (slot_get s)) (ap (map.get m) (sym e) ∙ none))))
      (λ t. rw t refl))

  -- a write through `get_mut`
  module _ (m : map.FinMap nat_cmp ℕ) (s : Slab X) (tied : AreTied m s) (k i : ℕ) (at : map.get m k ≡ Some i) (w : X) where
    pub write-pairs : pairs m (slot_with s i w) ≡ map.insert (pairs m s) k w
    write-pairs =
        let u = Updates-with_value s i w (tied.filled k i at) in
        same_pairs _ _ (λ q. reads m (slot_with s i w) q ∙ written-reads (map.get m) (map.get m) _ _ (fits2 m s tied) k i at w u.changed u.others q
        ∙ sym (get-with_entry (pairs m s) k (Some w) q ∙ ap (cond (nat_eq k q) (Some w)) (reads m s q)))

    pub write-count : slab_len (slot_with s i w) ≡ slab_len s
    write-count =
        let full = tied.filled k i at in
        let within = ContainsKey-within s i full in
        let sums = sum_by-set (λ o. cond (is_some o) 1 0) s.slots i (Some w) None within in
        let one : ◌≡◌ {A = ℕ} (cond (is_some (slot_get s i)) 1 0) 1 = ap (λ (b : Bool). cond {A = ℕ} b 1 0) full in
        omega (arith, sums, one)

    pub write-tied : AreTied m (slot_with s i w)
    write-tied =
        let u = Updates-with_value s i w (tied.filled k i at) in
        let there : IsSome (map.get (pairs m s) k) = rw (reads m s k, at) (tied.filled k i at) in
        let same : map.len (map.insert (pairs m s) k w) ≡ map.len (pairs m s) =
        len-insert nat_cmp_total (pairs m s) k w ∙ ap (λ b. cond b (map.len (pairs m s)) (map.len (pairs m s) + 1)) there in
        record {
          filled = λ l j e. by_test (nat_eq i j)
              (λ t. let d : i ≡ j = eqb-true i j t in rw (ap (slot_get (slot_with s i w)) (sym d), u.changed) refl)
              (λ t. let d : j ≢ i = λ x. (let bad : true ≡ false = sym (eq-eqb i j (sym x)) ∙ t in absurd (cc)) in rw (u.others j d) (tied.filled l j e));
          apart = tied.apart;
          counted = ap map.len write-pairs ∙ same ∙ tied.counted ∙ sym write-count;
        }

  pub write-held : (p : Places) (s : Slab X) → AreTied (slots_of p) s → (k i : ℕ) → map.get (slots_of p) k ≡ Some i → (w : X) → held p (slot_with s i w) ≡ with_value (held p s) k w
  write-held p s tied k i at w =
      let those = write-pairs (slots_of p) s tied k i at w in
      let count = write-count (slots_of p) s tied k i at w in
      λ j. record { pairs = those j; spare = min (s.capacity - count j) (room p) }

module _ {X : Type 0} where
  pub pairs_of-slots : (es : List (ℕ × ℕ)) (s s' : Slab X) → s'.slots ≡ s.slots → pairs_of es s' ≡ pairs_of es s
  pairs_of-slots [] s s' e = refl
  pairs_of-slots (x ∷ es) s s' e = λ j. with_entry (pairs_of-slots es s s' e j) x.0 (get_or (e j) x.1 None)

  -- the same values in the same slots
  pub same-tied : (m : map.FinMap nat_cmp ℕ) (s s' : Slab X) → s'.slots ≡ s.slots → AreTied m s → AreTied m s'
  same-tied m s s' e tied = record {
    filled = λ k i f. rw e (tied.filled k i f);
    apart = tied.apart;
    counted = ap map.len (pairs_of-slots (map.entries m) s s' e) ∙ tied.counted ∙ ap (count_by is_some) (sym e);
  }

pub removed_none : {X : Type 0} (m : map.FinMap nat_cmp X) (k : ℕ) → map.get m k ≡ None → map.remove m k ≡ m
removed_none m k none = same_pairs _ _ (λ q. get-with_entry m k None q ∙ by_test (nat_eq k q)
    (λ t. rw t (sym (ap (map.get m) (sym (eqb-true k q t)) ∙ none)))
    (λ t. rw t refl))
