use Rattle.std.proofs.Common.{sym, ◌∙◌, arith}
use Rattle.host_core.proofs.StepsSilently.{stays, along-then}
use Rattle.host_core.proofs.Speaking.{ready-settled}
use Rattle.host_core.proofs.works.settle_works.Goals as goal

pub loop-now-init : goal.loop-now-init
loop-now-init c = record { ready = c.requires; along = stays _ c.requires.whole }

pub speaks-requires : goal.speaks-requires
speaks-requires c = ready-settled c.loop-now.now c.loop-now.parts.objects c.loop-now.invariant.ready.ready

pub quiet_step-requires-clause-quiet : goal.quiet_step-requires-clause-quiet
quiet_step-requires-clause-quiet c = sym (c.speaks.ensures c.loop-now.parts.waiting.items) ∙ c.loop-now-test.true

pub loop-now-smaller : goal.loop-now-smaller
loop-now-smaller c = c.quiet_step.ensures.onward.cheaper _ (c.loop-now.invariant.along.rows _ (omega arith))

pub loop-now-preserved : goal.loop-now-preserved
loop-now-preserved c = record { ready = c.quiet_step.ensures.ready; along = along-then _ _ _ c.loop-now.invariant.along c.quiet_step.ensures.onward.along }

pub returns-clause-settled : goal.returns-clause-settled
returns-clause-settled c = sym (c.speaks.ensures c.loop-now.parts.waiting.items) ∙ c.loop-now-test.false
