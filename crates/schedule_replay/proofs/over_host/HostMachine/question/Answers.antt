use Rattle.schedule_replay.proofs.HostLaws.{host_waits}
use Rattle.schedule_replay.proofs.over_host.HostMachine.question.Goals as goal

pub returns-clause-waits : goal.returns-clause-waits
returns-clause-waits c = λ some. host_waits _ (c.question.ensures.waits some)
