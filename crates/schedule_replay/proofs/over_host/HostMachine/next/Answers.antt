use Rattle.schedule_replay.proofs.HostLaws.{host_next}
use Rattle.schedule_replay.proofs.over_host.HostMachine.next.Goals as goal

pub returns : goal.returns
returns c = host_next _ _ _ c.next.ensures
