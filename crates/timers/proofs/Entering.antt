-- What a new time leaves of the heap and the places.
use Rattle.std.proofs.Common.{◌≡◌, ℕ, zero, suc, ◌<◌, cond, nat_eq, List, [], ◌∷◌, ◌++◌, length, set, slice_get, Option, Some, None, false, refl, sym, ◌∙◌, ap, arith}
use Rattle.std.proofs.lemmas.Bool.{eqb-true, eq-eqb}
use Rattle.std.proofs.lemmas.List.{length-append}
use Rattle.std.proofs.lemmas.Option.{slice_get_past, slice_get_within}
use Rattle.std.specs.Option.{option_map}
use Rattle.tree_specs.specs.declared.due.Due.{Due}
use Rattle.tree_specs.proofs.Tree.Numbered.{by_test}
use Rattle.timers.specs.Heaped.{Told, object_of, is_early, IsHeap, Rises, with_place, Places, IsKept}
use Rattle.timers.proofs.Moves.{below}
use Rattle.timers.proofs.Sorted.{told-own}

-- ---- one more at the end

pub before-end : (ds : List Due) (d : Due) (k : ℕ) → k < length ds → slice_get (ds ++ d ∷ []) k ≡ slice_get ds k
before-end [] d k l = absurd (omega (arith, l))
before-end (f ∷ fs) d zero l = refl
before-end (f ∷ fs) d (suc k) l = before-end fs d k (omega (arith, l))

pub at-end : (ds : List Due) (d : Due) → slice_get (ds ++ d ∷ []) (length ds) ≡ Some d
at-end [] d = refl
at-end (f ∷ fs) d = at-end fs d

pub past-end : (ds : List Due) (d : Due) (k : ℕ) → length ds < k → slice_get (ds ++ d ∷ []) k ≡ None
past-end ds d k l = slice_get_past (ds ++ d ∷ []) k (let n = length-append ds (d ∷ []) in omega (arith, n, l))

pub set-end : (ds : List Due) (d : Due) → set (ds ++ d ∷ []) (length ds) d ≡ ds ++ d ∷ []
set-end [] d = refl
set-end (f ∷ fs) d = ap (λ l. f ∷ l) (set-end fs d)

-- before, at or past the end
pub by_end : {Q : Type 0} (n k : ℕ) → (k < n → Q) → (k ≡ n → Q) → (n < k → Q) → Q
by_end zero zero h e p = e refl
by_end zero (suc k) h e p = p (omega arith)
by_end (suc n) zero h e p = h (omega arith)
by_end (suc n) (suc k) h e p = by_end n k (λ l. h (omega (arith, l))) (λ l. e (ap suc l)) (λ l. p (omega (arith, l)))

pub with-itself : (P : ℕ → Option ℕ) (x at : ℕ) → with_place P x at x ≡ Some at
with-itself P x at = ap (λ b. cond b (Some at) (P x)) (eq-eqb x x refl)

module _ (ds : List Due) (d : Due) (h : IsHeap (slice_get ds)) where
  pub entered-rises : Rises (slice_get (ds ++ d ∷ [])) (length ds)
  entered-rises = record {
    others = λ p j c n. by_end (length ds) j
        (λ l. let pj = below p j c in (λ i. is_early (before-end ds d j l i) (before-end ds d p (omega (arith, pj, l)) i)) ∙ h p j c)
        (λ l. absurd (n l))
        (λ l. ap (λ o. is_early o (slice_get (ds ++ d ∷ []) p)) (past-end ds d j l));
    around = λ p j c e. ap (λ o. is_early o (slice_get (ds ++ d ∷ []) p)) (past-end ds d j (below (length ds) j e));
  }

module _ (ds : List Due) (d : Due) (P P' : ℕ → Option ℕ) (k : Places (slice_get ds) P) (absent : P d.object.0 ≡ None)
    (write : (q : ℕ) → P' q ≡ with_place P d.object.0 (length ds) q) where
  other : (i : ℕ) (f : Due) → slice_get ds i ≡ Some f → nat_eq d.object.0 f.object.0 ≡ false
  other i f e = by_test (nat_eq d.object.0 f.object.0)
      (λ t. let bad : Some i ≡ None = sym (k.there i f e) ∙ ap P (sym (eqb-true d.object.0 f.object.0 t)) ∙ absent in cc)
      (λ t. t)

  new-there : (i : ℕ) (f : Due) → slice_get (ds ++ d ∷ []) i ≡ Some f → P' f.object.0 ≡ Some i
  new-there i f e = write f.object.0 ∙ by_end (length ds) i
      (λ l. let was : slice_get ds i ≡ Some f = sym (before-end ds d i l) ∙ e in ap (λ b. cond b (Some (length ds)) (P f.object.0)) (other i f was) ∙ k.there i f was)
      (λ l. let same : Some d ≡ Some f = sym (at-end ds d) ∙ ap (slice_get (ds ++ d ∷ [])) (sym l) ∙ e in let df : d ≡ f = cc in
      ap (λ b. cond b (Some (length ds)) (P f.object.0)) (eq-eqb d.object.0 f.object.0 (ap (λ (g : Due). g.object.0) df)) ∙ ap Some (sym l))
      (λ l. let bad : None ≡ Some f = sym (past-end ds d i l) ∙ e in cc)

  new-back : (q i : ℕ) → P' q ≡ Some i → option_map object_of (slice_get (ds ++ d ∷ []) i) ≡ Some q
  new-back q i e = by_test (nat_eq d.object.0 q)
      (λ t. let s : Some (length ds) ≡ Some i = sym (ap (λ b. cond b (Some (length ds)) (P q)) t) ∙ sym (write q) ∙ e in let li : length ds ≡ i = cc in
      ap (λ j. option_map object_of (slice_get (ds ++ d ∷ []) j)) (sym li) ∙ ap (option_map object_of) (at-end ds d) ∙ ap Some (eqb-true d.object.0 q t))
      (λ t. let was : P q ≡ Some i = sym (ap (λ b. cond b (Some (length ds)) (P q)) t) ∙ sym (write q) ∙ e in
      ap (option_map object_of) (before-end ds d i (within (slice_get ds i) i refl (k.back q i was))) ∙ k.back q i was)
    where
      within : (o : Option Due) (i : ℕ) → slice_get ds i ≡ o → option_map object_of (slice_get ds i) ≡ Some q → i < length ds
      within None i u h = let bad : None ≡ Some q = sym (ap (option_map object_of) u) ∙ h in cc
      within (Some f) i u h = slice_get_within ds i f u

  pub entered-places : Places (slice_get (ds ++ d ∷ [])) (with_place P' d.object.0 (length ds))
  entered-places =
      let e = λ (q : ℕ). by_test (nat_eq d.object.0 q)
      (λ t. rw t (sym (write q ∙ ap (λ b. cond b (Some (length ds)) (P q)) t)))
      (λ t. rw t refl) in
      record { there = λ i f u. e f.object.0 ∙ new-there i f u; back = λ q i u. new-back q i (sym (e q) ∙ u) }

-- all that holds, from the heap and the places
pub kept : (N : ℕ → Option Due) (es : List Due) (P : ℕ → Option ℕ) → IsHeap (slice_get es) → Places (slice_get es) P → Told N es → IsKept es P
kept N es P h k t = record { heap = h; places = k; told = told-own N es t }
