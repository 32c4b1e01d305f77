use Rattle.host_core.proofs.StepsSilently.{onward-along}
use Rattle.host_core.proofs.works.quiet_work.Goals as goal

pub go_on-requires : goal.go_on-requires
go_on-requires c = c.quiet_move-step.ensures.may

pub returns-clause-onward : goal.returns-clause-onward
returns-clause-onward c = onward-along _ _ _ c.quiet_move-step.ensures.onward c.go_on.ensures.along
