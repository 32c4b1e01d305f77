use Rattle.std.proofs.Common.{refl, subst}
use Rattle.tree_specs.specs.declared.free_step.FreeStep.{FreeStep}
use Rattle.host_core.specs.Going.{with_objects, CameFrom}
use Rattle.host_core.proofs.StepsSilently.{onward-along}
use Rattle.host_core.proofs.FreeStepping.{asks_onward, asks_ready, receiving-before, vacating-before, before_onward, before_ready, free_leads}
use Rattle.host_core.proofs.works.leave_free.Goals as goal

-- ---- a destructor is asked

pub returns-in-Ask-clause-onward : goal.returns-in-Ask-clause-onward
returns-in-Ask-clause-onward c = λ o came.
    let p = c.args.parts.now in
    let k = subst (λ (t : FreeStep). CameFrom o t p) c.in-Ask.is came in
    asks_onward (with_objects o p) p.objects k.ready k.quiet k.requests c.in-Ask.x c.destructor.result (record { waiting = c.push_reserved.new.self; objects = p.objects }) refl c.push_reserved.ensures.items k.steps c.destructor.ensures

pub returns-in-Ask-clause-ready : goal.returns-in-Ask-clause-ready
returns-in-Ask-clause-ready c =
    let p = c.args.parts.now in
    let o = c.requires.came.0 in
    let k = subst (λ (t : FreeStep). CameFrom o t p) c.in-Ask.is c.requires.came.1 in
    asks_ready (with_objects o p) p.objects k.ready k.quiet k.requests c.in-Ask.x c.destructor.result (record { waiting = c.push_reserved.new.self; objects = p.objects }) refl c.push_reserved.ensures.items k.steps c.destructor.ensures

-- ---- what comes before the freeing of a request, or of a queue

pub returns-in-Prepare-clause-onward : goal.returns-in-Prepare-clause-onward
returns-in-Prepare-clause-onward c = λ o came. before_onward (receiving-before c.in-Prepare.x) o c.args.parts.now c.args.step c.in-Prepare.is came (record { waiting = c.push_reserved-in-Prepare.new.self; objects = c.args.parts.now.objects }) refl c.push_reserved-in-Prepare.ensures.items

pub returns-in-Prepare-clause-ready : goal.returns-in-Prepare-clause-ready
returns-in-Prepare-clause-ready c = before_ready (receiving-before c.in-Prepare.x) c.requires.came.0 c.args.parts.now c.args.step c.in-Prepare.is c.requires.came.1 (record { waiting = c.push_reserved-in-Prepare.new.self; objects = c.args.parts.now.objects }) refl c.push_reserved-in-Prepare.ensures.items c.push_reserved-in-Prepare.ensures.capacity

pub returns-in-Drain-clause-onward : goal.returns-in-Drain-clause-onward
returns-in-Drain-clause-onward c = λ o came. before_onward (vacating-before c.in-Drain.queue) o c.args.parts.now c.args.step c.in-Drain.is came (record { waiting = c.push_reserved-in-Drain.new.self; objects = c.args.parts.now.objects }) refl c.push_reserved-in-Drain.ensures.items

pub returns-in-Drain-clause-ready : goal.returns-in-Drain-clause-ready
returns-in-Drain-clause-ready c = before_ready (vacating-before c.in-Drain.queue) c.requires.came.0 c.args.parts.now c.args.step c.in-Drain.is c.requires.came.1 (record { waiting = c.push_reserved-in-Drain.new.self; objects = c.args.parts.now.objects }) refl c.push_reserved-in-Drain.ensures.items c.push_reserved-in-Drain.ensures.capacity

-- ---- it is over

pub end-requires : goal.end-requires
end-requires c = (free_leads c.requires.came.0 c.args.parts.now c.args.step c.in-Done.answer c.in-Done.is c.requires.came.1).may

pub returns-in-Done-clause-onward : goal.returns-in-Done-clause-onward
returns-in-Done-clause-onward c = λ o came. onward-along _ _ _ (free_leads o c.args.parts.now c.args.step c.in-Done.answer c.in-Done.is came).onward c.end.ensures.along
