-- What a time that goes leaves of the heap and the places.
use Rattle.std.proofs.Common.{◌≡◌, ◌≢◌, ℕ, ◌<◌, ◌≤◌, cond, nat_eq, List, [], ◌∷◌, ◌++◌, length, set, slice_get, get_or, Option, Some, None, true, false, sym, ◌∙◌, ap, arith}
use Rattle.std.proofs.lemmas.Bool.{eqb-true, eq-eqb}
use Rattle.std.proofs.lemmas.List.{length-append, length-set}
use Rattle.std.proofs.lemmas.Option.{slice_get_past, slice_get_within, slice_get-get_or}
use Rattle.std.specs.Option.{option_map}
use Rattle.tree_specs.specs.declared.due.Due.{Due}
use Rattle.tree_specs.specs.Events.Pending.{put_in}
use Rattle.tree_specs.proofs.Tree.Numbered.{by_test}
use Rattle.timers.specs.Heaped.{sorted, Told, Reorders, Removes, object_of, is_early, IsHeap, Settles, with_place, Places, PlacesBut}
use Rattle.timers.proofs.Moves.{same_or, below, not-above, through}
use Rattle.timers.proofs.Sorted.{told-set, told-front, told-last, sorted-exchange, sorted-append}
use Rattle.timers.proofs.Places.{set-same, set-other}
use Rattle.timers.proofs.Entering.{before-end, at-end, past-end, by_end}

-- the last time z is taken from those before it, ds
module _ (ds : List Due) (z : Due) (at : ℕ) (P : ℕ → Option ℕ) (h : IsHeap (slice_get (ds ++ z ∷ []))) (k : PlacesBut (slice_get (ds ++ z ∷ [])) P at) where
  abbrev pub H : ℕ → Option Due
  H = slice_get (ds ++ z ∷ [])

  inside : (q i : ℕ) → option_map object_of (H i) ≡ Some q → i ≢ length ds → i < length ds
  inside q i e n = by_end (length ds) i (λ l. l) (λ l. absurd (n l))
      (λ l. let bad : None ≡ Some q = sym (ap (option_map object_of) (past-end ds z i l)) ∙ e in cc)

  -- ---- another one goes than the last

  module _ (in_at : at < length ds) where
    abbrev pub V : ℕ → Option Due
    V = slice_get (set ds at z)

    v-other : (j : ℕ) → j < length ds → j ≢ at → V j ≡ H j
    v-other j l n = set-other ds at j z n ∙ sym (before-end ds z j l)

    v-past : (j : ℕ) → length ds ≤ j → V j ≡ None
    v-past j l = slice_get_past (set ds at z) j (let n = length-set ds at z in omega (arith, n, l))

    last-there : P z.object.0 ≡ Some (length ds)
    last-there = k.there (length ds) z (at-end ds z) (not-above at (length ds) in_at)

    early-past : (j : ℕ) (o : Option Due) → length ds ≤ j → is_early (V j) o ≡ false
    early-past j o l = ap (λ w. is_early w o) (v-past j l)

    pub leaves-settles : Settles V at
    leaves-settles = record {
      others = λ p j c n m. by_end (length ds) j
          (λ l. let pj = below p j c in (λ i. is_early (v-other j l n i) (v-other p (omega (arith, pj, l)) m i)) ∙ h p j c)
          (λ l. early-past j (V p) (omega (arith, l)))
          (λ l. early-past j (V p) (omega (arith, l)));
      around = λ p j c e. by_end (length ds) j
          (λ l. let pat = below p at c in let atj = below at j e in
          (λ i. is_early (v-other j l (not-above at j atj) i) (v-other p (omega (arith, pat, in_at)) (λ u. absurd (omega (arith, u, pat))) i))
          ∙ through (H p) (H at) (H j) (get_or ds at z) (before-end ds z at in_at ∙ slice_get-get_or ds at z in_at) (h p at c) (h at j e))
          (λ l. early-past j (V p) (omega (arith, l)))
          (λ l. early-past j (V p) (omega (arith, l)));
    }

    moved-there : (i : ℕ) (d : Due) → V i ≡ Some d → with_place P z.object.0 at d.object.0 ≡ Some i
    moved-there i d e = same_or i at
        (λ u. let s : Some z ≡ Some d = sym (set-same ds at z in_at) ∙ ap V (sym u) ∙ e in let zd : z ≡ d = cc in
        ap (λ b. cond b (Some at) (P d.object.0)) (eq-eqb z.object.0 d.object.0 (ap (λ (g : Due). g.object.0) zd)) ∙ ap Some (sym u))
        (λ n. by_end (length ds) i
        (λ l. let was : P d.object.0 ≡ Some i = k.there i d (sym (v-other i l n) ∙ e) n in
        let zd : nat_eq z.object.0 d.object.0 ≡ false = by_test (nat_eq z.object.0 d.object.0)
        (λ t. let s : Some (length ds) ≡ Some i = sym last-there ∙ ap P (eqb-true z.object.0 d.object.0 t) ∙ was in let li : length ds ≡ i = cc in absurd (omega (arith, l, li)))
        (λ t. t) in
        ap (λ b. cond b (Some at) (P d.object.0)) zd ∙ was)
        (λ l. let bad : None ≡ Some d = sym (v-past i (omega (arith, l))) ∙ e in cc)
        (λ l. let bad : None ≡ Some d = sym (v-past i (omega (arith, l))) ∙ e in cc))

    moved-back : (q i : ℕ) → with_place P z.object.0 at q ≡ Some i → option_map object_of (V i) ≡ Some q
    moved-back q i e = by_test (nat_eq z.object.0 q)
        (λ t. let s : Some at ≡ Some i = sym (ap (λ b. cond b (Some at) (P q)) t) ∙ e in let ati : at ≡ i = cc in
        ap (λ j. option_map object_of (V j)) (sym ati) ∙ ap (option_map object_of) (set-same ds at z in_at) ∙ ap Some (eqb-true z.object.0 q t))
        (λ t. let was : P q ≡ Some i = sym (ap (λ b. cond b (Some at) (P q)) t) ∙ e in
        let b = k.back q i was in
        let l = inside q i b.1 (λ u. let s : Some z.object.0 ≡ Some q = sym (ap (option_map object_of) (at-end ds z)) ∙ ap (λ j. option_map object_of (H j)) (sym u) ∙ b.1 in
        let zq : z.object.0 ≡ q = cc in let w : nat_eq z.object.0 q ≡ true = eq-eqb z.object.0 q zq in let bad : true ≡ false = sym w ∙ t in absurd (cc)) in
        ap (option_map object_of) (v-other i l b.0) ∙ b.1)

    pub leaves-places : Places V (with_place P z.object.0 at)
    leaves-places = record { there = moved-there; back = moved-back }

    pub leaves-dues : (es : List Due) → Reorders (set ds at z) es → Removes (ds ++ z ∷ []) es at
    leaves-dues es r =
        let told = λ (N : ℕ → Option Due) (t : Told N (ds ++ z ∷ [])). told-set N ds at z (told-front N ds (z ∷ []) t) (told-last N ds z t) in
        let all = length-append ds (z ∷ []) in
        let one = length-set ds at z in
        let same = r.count in record {
          count = omega (arith, all, one, same);
          order = λ N d t e.
              let front = told-front N ds (z ∷ []) t in
              let last = told-last N ds z t in
              sorted-append N ds z front last ∙ sym (sorted-exchange N ds at z d front last (sym (before-end ds z at in_at) ∙ e)) ∙ ap (put_in d) (sym (r.order N (told N t)));
          told = λ N t. r.told N (told N t);
        }

  -- ---- the last one goes

  module _ (is_last : at ≡ length ds) where
    pub ends-heap : IsHeap (slice_get ds)
    ends-heap p j c = by_end (length ds) j
        (λ l. let pj = below p j c in (λ i. is_early (sym (before-end ds z j l) i) (sym (before-end ds z p (omega (arith, pj, l))) i)) ∙ h p j c)
        (λ l. ap (λ w. is_early w (slice_get ds p)) (slice_get_past ds j (omega (arith, l))))
        (λ l. ap (λ w. is_early w (slice_get ds p)) (slice_get_past ds j (omega (arith, l))))

    pub ends-places : Places (slice_get ds) P
    ends-places = record {
      there = λ i d e. let l = slice_get_within ds i d e in k.there i d (before-end ds z i l ∙ e) (λ u. absurd (omega (arith, l, u, is_last)));
      back = λ q i e. let b = k.back q i e in
          ap (option_map object_of) (sym (before-end ds z i (inside q i b.1 (λ u. b.0 (u ∙ sym is_last))))) ∙ b.1;
    }

    pub ends-dues : Removes (ds ++ z ∷ []) ds at
    ends-dues = record {
      count = (let all = length-append ds (z ∷ []) in omega (arith, all));
      order = λ N d t e.
          let s : Some z ≡ Some d = sym (at-end ds z) ∙ ap H (sym is_last) ∙ e in
          let zd : z ≡ d = cc in
          sorted-append N ds z (told-front N ds (z ∷ []) t) (told-last N ds z t) ∙ ap (λ (g : Due). put_in g (sorted ds)) zd;
      told = λ N t. told-front N ds (z ∷ []) t;
    }

-- an object isn't held any more
pub places-but : (H : ℕ → Option Due) (P P' : ℕ → Option ℕ) (x at : ℕ) → Places H P → P x ≡ Some at → ((q : ℕ) → P' q ≡ cond (nat_eq x q) None (P q)) → PlacesBut H P' at
places-but H P P' x at k e gone = record {
  there = λ i d u n. gone d.object.0 ∙ by_test (nat_eq x d.object.0)
      (λ t. let s : Some at ≡ Some i = sym e ∙ ap P (eqb-true x d.object.0 t) ∙ k.there i d u in let ati : at ≡ i = cc in absurd (n (sym ati)))
      (λ t. rw t (k.there i d u));
  back = λ q i u. by_test (nat_eq x q)
      (λ t. let bad : None ≡ Some i = sym (ap (λ b. cond b None (P q)) t) ∙ sym (gone q) ∙ u in cc)
      (λ t. let was : P q ≡ Some i = sym (ap (λ b. cond b None (P q)) t) ∙ sym (gone q) ∙ u in (
        (λ ia. let s : Some q ≡ Some x = sym (k.back q i was) ∙ ap (λ j. option_map object_of (H j)) ia ∙ k.back x at e in
            let qx : q ≡ x = cc in let w : nat_eq x q ≡ true = eq-eqb x q (sym qx) in let bad : true ≡ false = sym w ∙ t in absurd (cc)),
        k.back q i was,
      ));
}
