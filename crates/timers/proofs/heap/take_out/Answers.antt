use Rattle.std.proofs.Common.{◌≡◌, ◌<◌, ◌≤◌, List, ◌++◌, ◌∷◌, [], length, set, slice_get, Option, Some, sym, ap, subst, ◌∙◌, arith}
use Rattle.std.proofs.lemmas.List.{length-append}
use Rattle.std.specs.Option.{option_to_list}
use Rattle.tree_specs.specs.declared.due.Due.{Due}
use Rattle.timers.specs.declared.heap.Place.{Place}
use Rattle.timers.specs.Heaped.{IsHeap, Settles, Places, PlacesBut, IsSettled, Removes, with_place}
use Rattle.timers.specs.Heaps.{at_in, CanLeave, IsLeft, IsSameBeside}
use Rattle.timers.proofs.Entering.{at-end}
use Rattle.timers.proofs.Leaving.{leaves-settles, leaves-places, leaves-dues, ends-heap, ends-places, ends-dues}
use Rattle.timers.proofs.Noting.{Noted, beside-none}
use Rattle.timers.proofs.heap.take_out.Goals as goal

-- the times with the last one apart, and what holds of them so
module _ (p : Place) (ds es : List Due) (d : Due) (o : Option Due) (m : Noted) (items : ds ≡ es ++ option_to_list o) (is : o ≡ Some d) (can : CanLeave p ds m) where
  split : ds ≡ es ++ d ∷ []
  split = items ∙ ap (λ o. es ++ option_to_list o) is

  heap_apart : IsHeap (slice_get (es ++ d ∷ []))
  heap_apart = subst (λ l. IsHeap (slice_get l)) split can.heap

  places_apart : PlacesBut (slice_get (es ++ d ∷ [])) (at_in m p.context) p.at
  places_apart = subst (λ l. PlacesBut (slice_get l) (at_in m p.context) p.at) split can.places

  its-context : d.context.0 ≡ p.context
  its-context = can.own (length es) d (ap (λ l. slice_get l (length es)) split ∙ at-end es d)

  -- another one goes than the last
  module _ (within : p.at < length es) where
    moves-heap : Settles (slice_get (set es p.at d)) p.at
    moves-heap = leaves-settles es d p.at (at_in m p.context) heap_apart places_apart within

    moves-places : Places (slice_get (set es p.at d)) (with_place (at_in m d.context.0) d.object.0 p.at)
    moves-places = subst (λ c. Places (slice_get (set es p.at d)) (with_place (at_in m c) d.object.0 p.at)) (sym its-context) (leaves-places es d p.at (at_in m p.context) heap_apart places_apart within)

    moves : (fs : List Due) (n : Noted) → IsSettled (set es p.at d) fs (at_in n d.context.0) → IsSameBeside m n d.context.0 → IsLeft p ds fs m n
    moves fs n settled beside = record {
      heap = settled.heap;
      places = subst (λ c. Places (slice_get fs) (at_in n c)) its-context settled.places;
      dues = subst (λ l. Removes l fs p.at) (sym split) (leaves-dues es d p.at (at_in m p.context) heap_apart places_apart within fs settled.dues);
      beside = subst (IsSameBeside m n) its-context beside;
    }

  -- the last one goes
  stays : length es ≤ p.at → IsLeft p ds es m m
  stays past =
      let l = ap length split in
      let k = length-append es (d ∷ []) in
      let in_at = can.within in
      let is_last : p.at ≡ length es = omega (arith, in_at, past, l, k) in record {
        heap = ends-heap es d p.at (at_in m p.context) heap_apart places_apart is_last;
        places = ends-places es d p.at (at_in m p.context) heap_apart places_apart is_last;
        dues = subst (λ l. Removes l es p.at) (sym split) (ends-dues es d p.at (at_in m p.context) heap_apart places_apart is_last);
        beside = beside-none m p.context;
      }

pub settle-requires-clause-heap : goal.settle-requires-clause-heap
settle-requires-clause-heap c =
    let b = c.if-place-len.true in
    let n = c.len.ensures in
    moves-heap _ _ _ _ _ _ c.pop.ensures.items c.in-Some.is c.requires (omega (arith, b, n))

pub settle-requires-clause-places : goal.settle-requires-clause-places
settle-requires-clause-places c =
    let b = c.if-place-len.true in
    let n = c.len.ensures in
    moves-places _ _ _ _ _ _ c.pop.ensures.items c.in-Some.is c.requires (omega (arith, b, n))

pub returns-then-place-len-clause-left : goal.returns-then-place-len-clause-left
returns-then-place-len-clause-left c =
    let b = c.if-place-len.true in
    let n = c.len.ensures in
    moves _ _ _ _ _ _ c.pop.ensures.items c.in-Some.is c.requires (omega (arith, b, n)) _ _ c.settle.ensures.settled c.settle.ensures.beside

pub returns-else-place-len-clause-left : goal.returns-else-place-len-clause-left
returns-else-place-len-clause-left c =
    let b = c.if-place-len.false in
    let n = c.len.ensures in
    stays _ _ _ _ _ _ c.pop.ensures.items c.in-Some.is c.requires (omega (arith, b, n))
