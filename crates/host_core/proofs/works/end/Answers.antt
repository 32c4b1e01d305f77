use Rattle.std.proofs.Common.{refl}
use Rattle.host_core.specs.declared.active.Active.TheVariants as active
use Rattle.host_core.specs.declared.parts.Parts.{Parts}
use Rattle.host_core.specs.declared.waiting.Waiting.TheVariants as waiting
use Rattle.host_core.proofs.Resuming.{end_along, end_ready, end_answers, again_along, again_ready, turn_ready, work_ready, popped_one}
use Rattle.host_core.proofs.works.end.Goals as goal

-- ---- the open frees

pub returns-in-Some-Freeing-clause-along : goal.returns-in-Some-Freeing-clause-along
returns-in-Some-Freeing-clause-along c = again_along c.args.answer c.args.parts.now (record { waiting = c.pop.new.self; objects = c.free_again.new.objects }) (popped_one _ _ _ _ c.in-Some-Freeing.ensures.items c.in-Some-Freeing.field-0-is) c.free_again.ensures.begins c.requires

pub returns-in-Some-Freeing-clause-ready : goal.returns-in-Some-Freeing-clause-ready
returns-in-Some-Freeing-clause-ready c =
    let again = c.free_again.ensures in
    again_ready c.args.answer c.args.parts.now (record { waiting = c.pop.new.self; objects = c.free_again.new.objects }) (popped_one _ _ _ _ c.in-Some-Freeing.ensures.items c.in-Some-Freeing.field-0-is) again.begins c.requires again.at_work again.settled again.requests c.in-Some-Freeing.ensures.capacity

-- ---- a caller

pub returns-in-Some-Awaiting-clause-along : goal.returns-in-Some-Awaiting-clause-along
returns-in-Some-Awaiting-clause-along c =
    end_along c.args.answer (waiting.Awaiting c.in-Some-Awaiting.ask c.in-Some-Awaiting.x) (active.Caller c.after.result) c.args.parts.now (record { waiting = c.pop.new.self; objects = c.args.parts.now.objects }) tt tt (popped_one _ _ _ _ c.in-Some-Awaiting.ensures.items c.in-Some-Awaiting.field-0-is) refl (rw (c.after.ensures, c.freed.ensures, c.of_free.ensures) refl) c.requires

-- ---- a turn

pub returns-in-Some-Turn-clause-along : goal.returns-in-Some-Turn-clause-along
returns-in-Some-Turn-clause-along c =
    end_along c.args.answer (waiting.Turn c.in-Some-Turn.frame) (active.Turning c.new.result) c.args.parts.now (record { waiting = c.pop.new.self; objects = c.args.parts.now.objects }) tt tt (popped_one _ _ _ _ c.in-Some-Turn.ensures.items c.in-Some-Turn.field-0-is) refl (rw (c.new.ensures, c.turn_resumed.ensures) refl) c.requires

pub returns-in-Some-Turn-clause-ready : goal.returns-in-Some-Turn-clause-ready
returns-in-Some-Turn-clause-ready c =
    let new : Parts = record { waiting = c.pop.new.self; objects = c.args.parts.now.objects } in
    let ready = turn_ready c.args.answer c.in-Some-Turn.frame c.args.parts.now.objects (end_answers c.args.answer (waiting.Turn c.in-Some-Turn.frame) c.args.parts.now new c.requires (popped_one _ _ _ _ c.in-Some-Turn.ensures.items c.in-Some-Turn.field-0-is)) in
    end_ready c.args.answer (waiting.Turn c.in-Some-Turn.frame) (active.Turning c.new.result) c.args.parts.now new tt tt (popped_one _ _ _ _ c.in-Some-Turn.ensures.items c.in-Some-Turn.field-0-is) refl (rw (c.new.ensures, c.turn_resumed.ensures) refl) c.requires
    (rw (c.new.ensures, c.turn_resumed.ensures) (record { question = refl; frame = ready.0 })) (rw (c.new.ensures, c.turn_resumed.ensures) ready.1) c.in-Some-Turn.ensures.capacity

-- ---- the work of a request

pub returns-in-Some-Work-clause-along : goal.returns-in-Some-Work-clause-along
returns-in-Some-Work-clause-along c =
    end_along c.args.answer (waiting.Work c.in-Some-Work.work) (active.Requesting c.resumed.result) c.args.parts.now (record { waiting = c.pop.new.self; objects = c.args.parts.now.objects }) tt tt (popped_one _ _ _ _ c.in-Some-Work.ensures.items c.in-Some-Work.field-0-is) refl (rw c.resumed.ensures refl) c.requires

pub returns-in-Some-Work-clause-ready : goal.returns-in-Some-Work-clause-ready
returns-in-Some-Work-clause-ready c =
    let new : Parts = record { waiting = c.pop.new.self; objects = c.args.parts.now.objects } in
    let ready = work_ready c.args.answer c.in-Some-Work.work c.resumed.result c.args.parts.now.objects (end_answers c.args.answer (waiting.Work c.in-Some-Work.work) c.args.parts.now new c.requires (popped_one _ _ _ _ c.in-Some-Work.ensures.items c.in-Some-Work.field-0-is)) c.resumed.ensures in
    end_ready c.args.answer (waiting.Work c.in-Some-Work.work) (active.Requesting c.resumed.result) c.args.parts.now new tt tt (popped_one _ _ _ _ c.in-Some-Work.ensures.items c.in-Some-Work.field-0-is) refl (rw c.resumed.ensures refl) c.requires ready.0 ready.1 c.in-Some-Work.ensures.capacity
