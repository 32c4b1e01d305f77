use Rattle.std.proofs.Common.{Option, refl, subst}
use Rattle.std.specs.Option.{option_map}
use Rattle.host_core.specs.declared.short_reply.ShortReply.{ShortReply}
use Rattle.host_core.specs.Moves.{reply_of}
use Rattle.host_core.specs.Hosts.{host_view}
use Rattle.host_core.specs.Promises.{TakesCall}
use Rattle.host_core.proofs.Straying.{no-some}
use Rattle.host_core.proofs.host.Host.call.Goals as goal
use Rattle.host_core.proofs.Quiet.{no-report, quiet-caller, quiet-whole, quiet-room, quiet-done}

pub take-requires-clause-fits : goal.take-requires-clause-fits
take-requires-clause-fits c = rw c.requires.asked refl

pub begin_call-requires : goal.begin_call-requires
begin_call-requires c =
    let now = c.self.inside.active in
    let parts = c.self.inside.parts in
    let room = c.make_room in
    let asked = quiet-caller c.args.self.now now parts c.args.call c.self.invariant.0 c.self.invariant.1 c.self.view_is c.requires.asked c.requires.sound in
    let may = quiet-room c.args.self.now now parts c.args.call c.self.invariant.0 c.self.invariant.1 c.self.view_is c.requires.asked c.requires.sound room.new.parts room.ensures.waiting c.in_ok-make_room.ensures.ok (no-report c.args.call c.in_default.not-Report) room.ensures.order c.in_ok-make_room.ensures.places in
    record {
      asked = rw asked refl;
      no_report = no-report c.args.call c.in_default.not-Report;
      fit = may.fit;
      whole = quiet-whole c.args.self.now now parts c.args.call c.self.invariant.0 c.self.invariant.1 c.self.view_is c.requires.asked c.requires.sound room.new.parts room.ensures.waiting c.in_ok-make_room.ensures.ok;
      room = may.room;
    }

pub invariant_of-self-2 : goal.invariant_of-self-2
invariant_of-self-2 c =
    let room = c.make_room in
    let does = c.begin_call in
    let done = quiet-done c.args.self.now c.self.inside.active c.self.inside.parts c.args.call c.self.invariant.0 c.self.invariant.1 c.self.view_is c.requires.asked c.requires.sound room.new.parts room.ensures.waiting c.in_ok-make_room.ensures.ok
    does.result does.new.now does.new.parts does.ensures.asked does.ensures.replied does.ensures.begun in
    (done.ready, done.speaks)

pub invariant_of-self-in_default-begin_call : goal.invariant_of-self-in_default-begin_call
invariant_of-self-in_default-begin_call c =
    let room = c.make_room in
    let does = c.begin_call in
    let done = quiet-done c.args.self.now c.self.inside.active c.self.inside.parts c.args.call c.self.invariant.0 c.self.invariant.1 c.self.view_is c.requires.asked c.requires.sound room.new.parts room.ensures.waiting c.in_ok-make_room.ensures.ok
    does.result does.new.now does.new.parts does.ensures.asked does.ensures.replied does.ensures.begun in
    (done.ready, done.speaks)

pub returns-in_default-begin_call-clause-ok : goal.returns-in_default-begin_call-clause-ok
returns-in_default-begin_call-clause-ok c =
    let room = c.make_room in
    let does = c.begin_call in
    let done = quiet-done c.args.self.now c.self.inside.active c.self.inside.parts c.args.call c.self.invariant.0 c.self.invariant.1 c.self.view_is c.requires.asked c.requires.sound room.new.parts room.ensures.waiting c.in_ok-make_room.ensures.ok
    does.result does.new.now does.new.parts does.ensures.asked does.ensures.replied does.ensures.begun in
    subst (λ (z : Option ShortReply). TakesCall c.args.self.now c.args.call (option_map reply_of z) (host_view does.new.now does.new.parts)) (no-some does.result c.in_default-begin_call.not-Some) done.taken

pub returns-clause-ok : goal.returns-clause-ok
returns-clause-ok c =
    let room = c.make_room in
    let does = c.begin_call in
    let done = quiet-done c.args.self.now c.self.inside.active c.self.inside.parts c.args.call c.self.invariant.0 c.self.invariant.1 c.self.view_is c.requires.asked c.requires.sound room.new.parts room.ensures.waiting c.in_ok-make_room.ensures.ok
    does.result does.new.now does.new.parts does.ensures.asked does.ensures.replied does.ensures.begun in
    rw c.reply.ensures (subst (λ (z : Option ShortReply). TakesCall c.args.self.now c.args.call (option_map reply_of z) (host_view does.new.now does.new.parts)) c.in-Some.is done.taken)
