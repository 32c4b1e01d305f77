-- One step up or down, as the writes of the heap make it.
use Rattle.std.proofs.Common.{◌≡◌, ◌≢◌, ℕ, zero, suc, ◌+◌, ◌<◌, cond, nat_eq, List, [], ◌∷◌, length, get_or, set, slice_get, Option, Some, None, IsSome, is_some, ◌*◌, ◌^◌, true, false, refl, sym, ◌∙◌, ap, subst, arith}
use Rattle.std.proofs.lemmas.Bool.{eqb-true}
use Rattle.std.proofs.lemmas.List.{length-set}
use Rattle.std.proofs.lemmas.Option.{slice_get_within, slice_get_read}
use Rattle.tree_specs.specs.declared.due.Due.{Due}
use Rattle.tree_specs.specs.Events.Pending.{comes_before}
use Rattle.tree_specs.proofs.Tree.Numbered.{by_test}
use Rattle.timers.specs.Heaped.{sorted, Told, is_early, IsChild, IsHeap, IsLateParent, IsEarlyChild, IsFirstOfTwo, Rises, Sinks, Settles, Sifts, IsNext, places_left, Places, Reorders, with_place}
use Rattle.timers.specs.declared.heap.Way.{Way}
use Rattle.timers.specs.declared.heap.Way.TheVariants.{Up, Down}
use Rattle.timers.proofs.Sorted.{reorders-swap}
use Rattle.timers.proofs.Moves.{Swaps, early-some, early-none, not-above, not-below, below, rise-step, rise-end, sink-step, sink-end, settle-rises, settle-sinks}
use Rattle.timers.proofs.Places.{set-same, set-other, noted, held-noted, places-step}

set-twice : (ds : List Due) (i : ℕ) (d f : Due) → set (set ds i d) i f ≡ set ds i f
set-twice [] i d f = refl
set-twice (g ∷ gs) zero d f = refl
set-twice (g ∷ gs) (suc i) d f = ap (λ l. g ∷ l) (set-twice gs i d f)

-- the time f goes from p to `at`, where d was to go
module _ (ds : List Due) (at p : ℕ) (d f : Due) (in_at : at < length ds) (in_p : p < length ds) (apart : at ≢ p) (is : slice_get ds p ≡ Some f) where
  pub here : slice_get (set ds at d) at ≡ Some d
  here = set-same ds at d in_at

  pub other : slice_get (set ds at d) p ≡ Some f
  other = set-other ds at p d (λ e. apart (sym e)) ∙ is

  swaps : Swaps (slice_get (set ds at d)) (slice_get (set (set ds at f) p d)) at p
  swaps = record {
    first = set-other (set ds at f) p at d apart ∙ set-same ds at f in_at ∙ sym other;
    second = set-same (set ds at f) p d (let l = length-set ds at f in omega (arith, l, in_p)) ∙ sym here;
    others = λ k m n. set-other (set ds at f) p k d n ∙ set-other ds at k f m ∙ sym (set-other ds at k d m);
  }

  pub stepped : Reorders (set ds at d) (set (set ds at f) p d)
  stepped =
      let r = reorders-swap (set ds at d) at p d f here other in
      let e = set-twice ds at d f in
      record { count = ap (λ l. length (set l p d)) (sym e) ∙ r.count; order = λ N t. ap (λ l. sorted (set l p d)) (sym e) ∙ r.order N t; told = λ N t. subst (λ l. Told N (set l p d)) e (r.told N t) }

  pub risen : Rises (slice_get (set ds at d)) at → IsChild p at → is_early (Some d) (Some f) ≡ true → Rises (slice_get (set (set ds at f) p d)) p
  risen r up early = rise-step _ _ at p swaps r up ((λ i. is_early (here i) (other i)) ∙ early)

  pub sunk : Sinks (slice_get (set ds at d)) at → IsChild at p → is_early (Some f) (Some d) ≡ true → ((k : ℕ) → IsChild at k → is_early (slice_get (set ds at d) k) (Some f) ≡ false) → Sinks (slice_get (set (set ds at f) p d)) p
  sunk r down early least = sink-step _ _ at p swaps r down ((λ i. is_early (other i) (here i)) ∙ early) (λ k c. ap (is_early (slice_get (set ds at d) k)) other ∙ least k c)

  pub replaced : (P P' : ℕ → Option ℕ) → Places (slice_get (set ds at d)) (with_place P d.object.0 at) → ((q : ℕ) → P' q ≡ noted P f.object.0 at q) → Places (slice_get (set (set ds at f) p d)) (with_place P' d.object.0 p)
  replaced P P' k write = places-step _ _ P P' at p d f apart swaps here other k write

-- ---- the steps of the code

-- what holds once the time f of the place p has come to `at`, where d was to go, and d is to go to p
pub record Gone (ds es : List Due) (P P' : ℕ → Option ℕ) (at p : ℕ) (d f : Due) : Type 0 where
  pub within : p < length es
  pub moved : IsSome (P f.object.0)
  pub held : IsSome (P' d.object.0)
  pub places : Places (slice_get (set es p d)) (with_place P' d.object.0 p)
  pub dues : Reorders (set ds at d) (set es p d)

module _ (ds es : List Due) (P P' : ℕ → Option ℕ) (at p : ℕ) (d f : Due) (in_at : at < length ds) (held : IsSome (P d.object.0))
    (k : Places (slice_get (set ds at d)) (with_place P d.object.0 at)) (read : f ≡ get_or ds p f) (e : es ≡ set ds at f) (write : (q : ℕ) → P' q ≡ noted P f.object.0 at q) where
  went : (in_p : p < length ds) → at ≢ p → Gone ds es P P' at p d f
  went in_p apart =
      let is : slice_get ds p ≡ Some f = slice_get_read ds (length ds) p f refl in_p read in
      let l = length-set ds at f in record {
        moved = by_test (nat_eq d.object.0 f.object.0)
            (λ t. ap (λ q. is_some (P q)) (sym (eqb-true d.object.0 f.object.0 t)) ∙ held)
            (λ t. ap is_some (sym (ap (λ b. cond b (Some at) (P f.object.0)) t) ∙ k.there p f (other ds at p d f in_at in_p apart is)));
        within = (let l' : length es ≡ length ds = ap length e ∙ l in omega (arith, l', in_p));
        held = held-noted P P' f.object.0 at d.object.0 write held;
        places = subst (λ l. Places (slice_get (set l p d)) (with_place P' d.object.0 p)) (sym e) (replaced ds at p d f in_at in_p apart is P P' k write);
        dues = subst (λ l. Reorders (set ds at d) (set l p d)) (sym e) (stepped ds at p d f in_at in_p apart is);
      }

  rise-goes : Rises (slice_get (set ds at d)) at → IsLateParent (slice_get ds) at d (Some p) → Gone ds es P P' at p d f × Rises (slice_get (set es p d)) p
  rise-goes r late =
      let some = early-some (Some d) (slice_get ds p) late.1 in
      let in_p = slice_get_within ds p some.0 some.1 in
      let is : slice_get ds p ≡ Some f = slice_get_read ds (length ds) p f refl in_p read in
      let apart : at ≢ p = not-above p at (below p at late.0) in (
        went in_p apart,
        subst (λ l. Rises (slice_get (set l p d)) p) (sym e) (risen ds at p d f in_at in_p apart is r late.0 (ap (is_early (Some d)) (sym is) ∙ late.1)),
      )

  sink-goes : Sinks (slice_get (set ds at d)) at → IsEarlyChild (slice_get ds) at d (Some p) → Gone ds es P P' at p d f × Sinks (slice_get (set es p d)) p
  sink-goes r early =
      let in_p : p < length ds = there (slice_get ds p) refl early.1 in
      let is : slice_get ds p ≡ Some f = slice_get_read ds (length ds) p f refl in_p read in
      let apart : at ≢ p = not-below at p (below at p early.0) in (
        went in_p apart,
        subst (λ l. Sinks (slice_get (set l p d)) p) (sym e) (sunk ds at p d f in_at in_p apart is r early.0 (ap (λ o. is_early o (Some d)) (sym is) ∙ early.1)
            (λ q c. ap (λ o. is_early o (Some f)) (set-other ds at q d (not-above at q (below at q c))) ∙ ap (is_early (slice_get ds q)) (sym is) ∙ early.2 q c)),
      )
    where
      there : (o : Option Due) → slice_get ds p ≡ o → is_early (slice_get ds p) (Some d) ≡ true → p < length ds
      there None u h = let bad : false ≡ true = ap (λ w. is_early w (Some d)) (sym u) ∙ h in cc
      there (Some g) u h = slice_get_within ds p g u

  pub sift-goes : (way : Way) → Sifts way (slice_get (set ds at d)) at → IsNext way (slice_get ds) at d (Some p) → Gone ds es P P' at p d f × Sifts way (slice_get (set es p d)) p
  sift-goes Up r next = rise-goes r next
  sift-goes Down r next = sink-goes r next

-- there are fewer places left from the next one on
pub sift-nearer : (way : Way) (H : ℕ → Option Due) (at p : ℕ) (d : Due) → at < 2 ^ 64 → IsNext way H at d (Some p) → places_left way p < places_left way at
sift-nearer Up H at p d fits next = below p at next.0
sift-nearer Down H at p d fits next = let deeper = below at p next.0 in omega (arith, deeper, fits)

-- d stays where it is
module _ (ds : List Due) (at : ℕ) (d : Due) (in_at : at < length ds) where
  here_is : slice_get (set ds at d) at ≡ Some d
  here_is = set-same ds at d in_at

  late-there : IsLateParent (slice_get ds) at d None → (p : ℕ) → IsChild p at → is_early (slice_get (set ds at d) at) (slice_get (set ds at d) p) ≡ false
  late-there none p c = (λ i. is_early (here_is i) (set-other ds at p d (not-below p at (below p at c)) i)) ∙ none p c

  rise-stays : Rises (slice_get (set ds at d)) at → IsLateParent (slice_get ds) at d None → IsHeap (slice_get (set ds at d))
  rise-stays r none = rise-end _ at r (late-there none)

  sink-stays : Sinks (slice_get (set ds at d)) at → IsEarlyChild (slice_get ds) at d None → IsHeap (slice_get (set ds at d))
  sink-stays r none = sink-end _ at r (λ k c. (λ i. is_early (set-other ds at k d (not-above at k (below at k c)) i) (here_is i)) ∙ none k c)

  pub sift-stays : (way : Way) → Sifts way (slice_get (set ds at d)) at → IsNext way (slice_get ds) at d None → IsHeap (slice_get (set ds at d))
  sift-stays Up r none = rise-stays r none
  sift-stays Down r none = sink-stays r none

  pub settles-up : (p : ℕ) → Settles (slice_get (set ds at d)) at → IsLateParent (slice_get ds) at d (Some p) → Rises (slice_get (set ds at d)) at
  settles-up p r late = settle-rises _ at p r late.0 ((λ i. is_early (here_is i) (set-other ds at p d (not-below p at (below p at late.0)) i)) ∙ late.1)

  pub settles-down : Settles (slice_get (set ds at d)) at → IsLateParent (slice_get ds) at d None → Sinks (slice_get (set ds at d)) at
  settles-down r none = settle-sinks _ at r (late-there none)

  pub settles : (o : Option ℕ) → Settles (slice_get (set ds at d)) at → IsLateParent (slice_get ds) at d o → IsSome o → Rises (slice_get (set ds at d)) at
  settles None r late s = cc
  settles (Some p) r late s = settles-up p r late

  pub settles-not : (o : Option ℕ) → Settles (slice_get (set ds at d)) at → IsLateParent (slice_get ds) at d o → is_some o ≡ false → Sinks (slice_get (set ds at d)) at
  settles-not None r late s = settles-down r late
  settles-not (Some p) r late s = cc

-- none of two comes before the time that the first of them doesn't come before
pub none-early : (ds : List Due) (at c : ℕ) (d f : Due) → IsFirstOfTwo (slice_get ds) (2 * at + 1) c → f ≡ get_or ds c f → comes_before f d ≡ false → (k : ℕ) → IsChild at k → is_early (slice_get ds k) (Some d) ≡ false
none-early ds at c d f first read late k child =
    let is : slice_get ds c ≡ Some f = slice_get_read ds (length ds) c f refl (within (slice_get ds c) refl first.there) read in
    let c0 = child.0 in
    let c1 = child.1 in
    early-none (Some d) (slice_get ds k) f late (ap (is_early (slice_get ds k)) (sym is) ∙ first.least k (omega (arith, c0)) (omega (arith, c1)))
  where
    within : (o : Option Due) → slice_get ds c ≡ o → IsSome (slice_get ds c) → c < length ds
    within None u h = let bad : false ≡ true = ap is_some (sym u) ∙ h in cc
    within (Some g) u h = slice_get_within ds c g u
