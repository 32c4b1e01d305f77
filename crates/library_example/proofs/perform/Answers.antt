use Rattle.std.proofs.Common.{sym}
use Rattle.library_example.proofs.Performing.{begun, answered}
use Rattle.library_example.proofs.perform.Goals as goal

pub loop-init : goal.loop-init
loop-init c = begun _ _ _ _ _ c.in_ok-take.ensures.taken

pub loop-preserved : goal.loop-preserved
loop-preserved c = answered _ _ _ _ _ c.in-Some.input _ _ _ c.loop.invariant (sym c.in-Some.ensures.answer) c.in_ok-take-in-Some.ensures.taken

pub returns-in-None-clause-not_asked : goal.returns-in-None-clause-not_asked
returns-in-None-clause-not_asked c = (λ e. cc, λ n. absurd (n c.loop.invariant.quiet))

pub returns-clause-not_asked : goal.returns-clause-not_asked
returns-clause-not_asked c = (λ e. cc, λ n. absurd (n c.loop.invariant.quiet))
