-- What one step leaves of the places.
use Rattle.std.proofs.Common.{◌≡◌, ◌≢◌, ℕ, zero, suc, ◌<◌, cond, nat_eq, List, [], ◌∷◌, length, set, slice_get, Option, Some, None, IsSome, true, false, is_some, refl, sym, ◌∙◌, ap, arith}
use Rattle.std.proofs.lemmas.Bool.{eqb-true, eq-eqb}
use Rattle.std.specs.Option.{option_map}
use Rattle.tree_specs.specs.declared.due.Due.{Due}
use Rattle.tree_specs.proofs.Tree.Numbered.{by_test}
use Rattle.timers.specs.Heaped.{object_of, with_place, Places}
use Rattle.timers.proofs.Moves.{Swaps, same_or}

-- ---- one write of a list

pub set-same : (ds : List Due) (i : ℕ) (d : Due) → i < length ds → slice_get (set ds i d) i ≡ Some d
set-same [] i d l = absurd (omega (arith, l))
set-same (f ∷ fs) zero d l = refl
set-same (f ∷ fs) (suc i) d l = set-same fs i d (omega (arith, l))

pub set-other : (ds : List Due) (i k : ℕ) (d : Due) → k ≢ i → slice_get (set ds i d) k ≡ slice_get ds k
set-other [] i k d n = refl
set-other (f ∷ fs) zero zero d n = absurd (n refl)
set-other (f ∷ fs) zero (suc k) d n = refl
set-other (f ∷ fs) (suc i) zero d n = refl
set-other (f ∷ fs) (suc i) (suc k) d n = set-other fs i k d (λ e. n (ap suc e))

-- ---- one write of the places

abbrev pub noted : (ℕ → Option ℕ) → ℕ → ℕ → ℕ → Option ℕ
noted P x at q = cond (nat_eq x q) (option_map (λ _. at) (P q)) (P q)

differ : (x y : ℕ) → x ≢ y → nat_eq x y ≡ false
differ x y n = by_test (nat_eq x y) (λ t. absurd (n (eqb-true x y t))) (λ t. t)

self : (x : ℕ) → nat_eq x x ≡ true
self x = eq-eqb x x refl

noted-held : (P : ℕ → Option ℕ) (x at i : ℕ) → P x ≡ Some i → noted P x at x ≡ Some at
noted-held P x at i e = rw (self x) (ap (option_map (λ _. at)) e)

noted-some : (P : ℕ → Option ℕ) (x at q : ℕ) → IsSome (P q) → IsSome (noted P x at q)
noted-some P x at q h = by_test (nat_eq x q) (λ t. rw t (go (P q) h)) (λ t. rw t h)
  where
    go : (o : Option ℕ) → IsSome o → IsSome (option_map (λ _. at) o)
    go None h = h
    go (Some i) h = refl

-- one is held after a write as it was before
pub held-noted : (P P' : ℕ → Option ℕ) (y at x : ℕ) → ((q : ℕ) → P' q ≡ noted P y at q) → IsSome (P x) → IsSome (P' x)
held-noted P P' y at x e h = ap is_some (e x) ∙ noted-some P y at x h

-- the time d, whose place is to be `at`, goes to p, and the one that was there comes to `at`
module _ (H H' : ℕ → Option Due) (P P' : ℕ → Option ℕ) (at p : ℕ) (d f : Due) (apart : at ≢ p) (s : Swaps H H' at p) (here : H at ≡ Some d) (other : H p ≡ Some f)
    (k : Places H (with_place P d.object.0 at)) (write : (q : ℕ) → P' q ≡ noted P f.object.0 at q) where
  abbrev pub x : ℕ
  x = d.object.0

  abbrev pub y : ℕ
  y = f.object.0

  one-place : (i j : ℕ) (g h : Due) → H i ≡ Some g → H j ≡ Some h → g.object.0 ≡ h.object.0 → i ≡ j
  one-place i j g h e u o = let t : Some i ≡ Some j = sym (k.there i g e) ∙ ap (with_place P x at) o ∙ k.there j h u in cc

  xy : nat_eq x y ≡ false
  xy = differ x y (λ e. apart (one-place at p d f here other e))

  -- where it isn't d
  placed : (i : ℕ) (g : Due) → H i ≡ Some g → nat_eq x g.object.0 ≡ false → P g.object.0 ≡ Some i
  placed i g e n = sym (ap (λ b. cond b (Some at) (P g.object.0)) n) ∙ k.there i g e

  moved-there : (i : ℕ) (g : Due) → H' i ≡ Some g → with_place P' x p g.object.0 ≡ Some i
  moved-there i g e = same_or i at
      (λ u. let gf : f ≡ g = (let t : Some f ≡ Some g = sym (s.first ∙ other) ∙ ap H' (sym u) ∙ e in cc) in
      ap (λ (h : Due). with_place P' x p h.object.0) (sym gf) ∙ ap (λ b. cond b (Some p) (P' y)) xy ∙ write y ∙ noted-held P y at p (placed p f other xy) ∙ ap Some (sym u))
      (λ m. same_or i p
      (λ u. let gd : d ≡ g = (let t : Some d ≡ Some g = sym (s.second ∙ here) ∙ ap H' (sym u) ∙ e in cc) in
      ap (λ (h : Due). with_place P' x p h.object.0) (sym gd) ∙ ap (λ b. cond b (Some p) (P' x)) (self x) ∙ ap Some (sym u))
      (λ n. let was : H i ≡ Some g = sym (s.others i m n) ∙ e in
      let xg : nat_eq x g.object.0 ≡ false = differ x g.object.0 (λ o. m (one-place i at g d was here (sym o))) in
      let yg : nat_eq y g.object.0 ≡ false = differ y g.object.0 (λ o. n (one-place i p g f was other (sym o))) in
      ap (λ b. cond b (Some p) (P' g.object.0)) xg ∙ write g.object.0 ∙ ap (λ b. cond b (option_map (λ _. at) (P g.object.0)) (P g.object.0)) yg ∙ placed i g was xg))

  -- one that isn't d has been held
  was-back : (q i : ℕ) → nat_eq x q ≡ false → P q ≡ Some i → option_map object_of (H i) ≡ Some q
  was-back q i n e = k.back q i (ap (λ b. cond b (Some at) (P q)) n ∙ e)

  place-of : (q i : ℕ) → option_map (λ _. at) (P q) ≡ Some i → i ≡ at
  place-of q i e = go (P q) e
    where
      go : (o : Option ℕ) → option_map (λ _. at) o ≡ Some i → i ≡ at
      go None e = cc
      go (Some j) e = cc

  moved-back : (q i : ℕ) → with_place P' x p q ≡ Some i → option_map object_of (H' i) ≡ Some q
  moved-back q i e = by_test (nat_eq x q)
      (λ t. let e' : Some p ≡ Some i = rw t at e in let pi : p ≡ i = cc in
      ap (λ j. option_map object_of (H' j)) (sym pi) ∙ ap (option_map object_of) (s.second ∙ here) ∙ ap Some (eqb-true x q t))
      (λ t. let e' : P' q ≡ Some i = rw t at e in by_test (nat_eq y q)
      (λ u. let at_i : i ≡ at = place-of q i (sym (ap (λ b. cond b (option_map (λ _. at) (P q)) (P q)) u) ∙ sym (write q) ∙ e') in
      ap (λ j. option_map object_of (H' j)) at_i ∙ ap (option_map object_of) (s.first ∙ other) ∙ ap Some (eqb-true y q u))
      (λ u. let at_q : P q ≡ Some i = sym (ap (λ b. cond b (option_map (λ _. at) (P q)) (P q)) u) ∙ sym (write q) ∙ e' in
      let was = was-back q i t at_q in
      ap (option_map object_of) (s.others i
      (λ m. let bad : Some x ≡ Some q = sym (ap (option_map object_of) (ap H m ∙ here)) ∙ was in let o : x ≡ q = cc in let w : nat_eq x q ≡ true = eq-eqb x q o in let no : true ≡ false = sym w ∙ t in cc)
      (λ m. let bad : Some y ≡ Some q = sym (ap (option_map object_of) (ap H m ∙ other)) ∙ was in let o : y ≡ q = cc in let w : nat_eq y q ≡ true = eq-eqb y q o in let no : true ≡ false = sym w ∙ u in cc)) ∙ was))

  pub places-step : Places H' (with_place P' x p)
  places-step = record { there = moved-there; back = moved-back }

-- the same places in other words
pub same-places : (H : ℕ → Option Due) (P P' : ℕ → Option ℕ) → ((q : ℕ) → P' q ≡ P q) → Places H P → Places H P'
same-places H P P' e k = record { there = λ i d h. e d.object.0 ∙ k.there i d h; back = λ q i h. k.back q i (sym (e q) ∙ h) }

-- the time goes where it is to be
pub places-end : (H : ℕ → Option Due) (P P' : ℕ → Option ℕ) (x at : ℕ) → IsSome (P x) → ((q : ℕ) → P' q ≡ noted P x at q) → Places H (with_place P x at) → Places H P'
places-end H P P' x at h e k = same-places H (with_place P x at) P' (λ q. e q ∙ by_test (nat_eq x q)
    (λ t. rw t (go (P q) (ap (λ y. is_some (P y)) (sym (eqb-true x q t)) ∙ h)))
    (λ t. rw t refl)) k
  where
    go : (o : Option ℕ) → IsSome o → option_map (λ _. at) o ≡ Some at
    go None h = cc
    go (Some i) h = refl
