use Rattle.std.proofs.Common.{◌≡◌, ◌≤◌, is_some, refl}
use Rattle.timers.specs.Heaps.{items_of, room_of, IsLeft}
use Rattle.timers.proofs.Written.{written, written-beside, room-left}
use Rattle.timers.proofs.heaps.take_out_other.Goals as goal

pub returns-in-Some-clause-left : goal.returns-in-Some-clause-left
returns-in-Some-clause-left c =
    written _ c.args.place.context c.take_out.new.dues (λ o u. IsLeft c.args.place (items_of o) (items_of u) c.args.places.now.pairs c.take_out.new.places.pairs)
    c.in-Some.dues.now c.in-Some.ensures.value c.take_out.ensures.left

pub returns-in-Some-clause-open : goal.returns-in-Some-clause-open
returns-in-Some-clause-open c = written _ c.args.place.context c.take_out.new.dues (λ o u. is_some u ≡ is_some o) c.in-Some.dues.now c.in-Some.ensures.value refl

pub returns-in-Some-clause-beside : goal.returns-in-Some-clause-beside
returns-in-Some-clause-beside c = written-beside _ c.args.place.context c.take_out.new.dues

pub returns-in-Some-clause-room : goal.returns-in-Some-clause-room
returns-in-Some-clause-room c =
    written _ c.args.place.context c.take_out.new.dues (λ o u. room_of o ≤ room_of u) c.in-Some.dues.now c.in-Some.ensures.value
    (room-left c.in-Some.dues.now c.take_out.new.dues c.take_out.ensures.capacity c.take_out.ensures.left.dues.count)
