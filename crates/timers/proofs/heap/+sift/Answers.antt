use Rattle.std.proofs.Common.{refl, subst, sym, arith, slice_get}
use Rattle.timers.specs.Heaped.{IsNext, IsHeap, Places}
use Rattle.timers.specs.Heaps.{at_in}
use Rattle.timers.proofs.Noting.{noted-beside, beside-both}
use Rattle.timers.proofs.Places.{places-end}
use Rattle.timers.proofs.Sorted.{reorders-both}
use Rattle.timers.proofs.Sifting.{sift-goes, sift-nearer, sift-stays}
use Rattle.timers.proofs.heap.+sift.Goals as goal

pub sift-requires : goal.sift-requires
sift-requires t c =
    let next = subst (IsNext c.args.way (slice_get c.args.dues.now.items) c.args.at c.args.due) c.in-Some.is c.next_place.ensures in
    let g = sift-goes c.args.dues.now.items c.put.new.dues.items (at_in c.args.places.now.pairs c.args.due.context.0) (at_in c.put.new.places.pairs c.args.due.context.0) c.args.at c.in-Some.next c.args.due c.index-other.result.now
    c.requires.at c.requires.held c.requires.places c.index-other.ensures c.put.ensures.dues (c.put.ensures.noted.places c.args.due.context.0) c.args.way c.requires.heap next in
    let nearer = sift-nearer c.args.way (slice_get c.args.dues.now.items) c.args.at c.in-Some.next c.args.due c.ranges.at.fits next in
    let measure = c.decreases in
    (omega (arith, nearer, measure), (g.0.within, (g.0.held, (g.1, g.0.places))))

pub returns-in-Some-clause-settled : goal.returns-in-Some-clause-settled
returns-in-Some-clause-settled t c =
    let next = subst (IsNext c.args.way (slice_get c.args.dues.now.items) c.args.at c.args.due) c.in-Some.is c.next_place.ensures in
    let g = sift-goes c.args.dues.now.items c.put.new.dues.items (at_in c.args.places.now.pairs c.args.due.context.0) (at_in c.put.new.places.pairs c.args.due.context.0) c.args.at c.in-Some.next c.args.due c.index-other.result.now
    c.requires.at c.requires.held c.requires.places c.index-other.ensures c.put.ensures.dues (c.put.ensures.noted.places c.args.due.context.0) c.args.way c.requires.heap next in
    let below = c.sift.ensures.settled in
    record { heap = below.heap; places = below.places; dues = reorders-both _ _ _ g.0.dues below.dues }

pub returns-in-Some-clause-beside : goal.returns-in-Some-clause-beside
returns-in-Some-clause-beside t c =
    let next = subst (IsNext c.args.way (slice_get c.args.dues.now.items) c.args.at c.args.due) c.in-Some.is c.next_place.ensures in
    let g = sift-goes c.args.dues.now.items c.put.new.dues.items (at_in c.args.places.now.pairs c.args.due.context.0) (at_in c.put.new.places.pairs c.args.due.context.0) c.args.at c.in-Some.next c.args.due c.index-other.result.now
    c.requires.at c.requires.held c.requires.places c.index-other.ensures c.put.ensures.dues (c.put.ensures.noted.places c.args.due.context.0) c.args.way c.requires.heap next in
    beside-both (noted-beside _ c.args.at c.args.due.context.0 c.put.ensures.noted g.0.moved) c.sift.ensures.beside

pub returns-in-None-clause-beside : goal.returns-in-None-clause-beside
returns-in-None-clause-beside t c = noted-beside _ c.args.at c.args.due.context.0 c.put-in-None.ensures.noted c.requires.held

pub returns-in-None-clause-settled : goal.returns-in-None-clause-settled
returns-in-None-clause-settled t c =
    let none = subst (IsNext c.args.way (slice_get c.args.dues.now.items) c.args.at c.args.due) c.in-None.is c.next_place.ensures in
    record {
      heap = subst (λ l. IsHeap (slice_get l)) (sym c.put-in-None.ensures.dues) (sift-stays c.args.dues.now.items c.args.at c.args.due c.requires.at c.args.way c.requires.heap none);
      places = subst (λ l. Places (slice_get l) (at_in c.put-in-None.new.places.pairs c.args.due.context.0)) (sym c.put-in-None.ensures.dues)
          (places-end _ _ _ c.args.due.object.0 c.args.at c.requires.held (c.put-in-None.ensures.noted.places c.args.due.context.0) c.requires.places);
      dues = rw c.put-in-None.ensures.dues (record { count = refl; order = λ N t. refl; told = λ N t. t });
    }
