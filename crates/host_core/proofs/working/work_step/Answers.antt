use Rattle.host_core.proofs.working.work_step.Goals as goal

pub returns-in-Receiving-clause-goes : goal.returns-in-Receiving-clause-goes
returns-in-Receiving-clause-goes c = rw c.in-Receiving.is (c.over.ensures.goes c.args.objects.now)

pub returns-in-Triggering-clause-goes : goal.returns-in-Triggering-clause-goes
returns-in-Triggering-clause-goes c = rw c.in-Triggering.is (c.over-in-Triggering.ensures.goes c.args.objects.now)
