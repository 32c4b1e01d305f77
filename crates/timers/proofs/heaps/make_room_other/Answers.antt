use Rattle.std.proofs.Common.{◌≡◌, ◌<◌, ◌≤◌, is_some, refl, arith}
use Rattle.std.proofs.lemmas.Result.{on_ok_weaker}
use Rattle.timers.specs.Heaps.{items_of, room_of}
use Rattle.timers.proofs.Written.{written, written-each, room-kept, room-one}
use Rattle.timers.proofs.heaps.make_room_other.Goals as goal

pub returns-in-Some-clause-dues : goal.returns-in-Some-clause-dues
returns-in-Some-clause-dues c =
    written-each _ c.args.c c.make_room.new.dues (λ o u. items_of u ≡ items_of o) c.in-Some.dues.now c.in-Some.ensures.value c.make_room.ensures.items (λ o. refl)

pub returns-in-Some-clause-open : goal.returns-in-Some-clause-open
returns-in-Some-clause-open c = written-each _ c.args.c c.make_room.new.dues (λ o u. is_some u ≡ is_some o) c.in-Some.dues.now c.in-Some.ensures.value refl (λ o. refl)

pub returns-in-Some-clause-kept : goal.returns-in-Some-clause-kept
returns-in-Some-clause-kept c =
    written-each _ c.args.c c.make_room.new.dues (λ o u. room_of o ≤ room_of u) c.in-Some.dues.now c.in-Some.ensures.value
    (room-kept c.in-Some.dues.now c.make_room.new.dues c.make_room.ensures.kept c.make_room.ensures.len) (λ o. omega arith)

pub returns-in-Some-clause-room : goal.returns-in-Some-clause-room
returns-in-Some-clause-room c = on_ok_weaker c.make_room.result
    (λ room is. written _ c.args.c c.make_room.new.dues (λ o u. 0 < room_of u) c.in-Some.dues.now c.in-Some.ensures.value (room-one c.make_room.new.dues room))
    c.make_room.ensures.room
