use Rattle.schedule_replay.proofs.HostLaws.{host_takes, not-asked, taken-token}
use Rattle.schedule_replay.proofs.over_host.HostMachine.offer.Goals as goal

pub returns-clause-ok : goal.returns-clause-ok
returns-clause-ok c = host_takes _ _ _ _ c.requires.waits c.offer.ensures.ok

pub returns-clause-not_asked : goal.returns-clause-not_asked
returns-clause-not_asked c = λ e. not-asked _ c.requires.waits _ (c.offer.ensures.not_asked.0 e)

pub returns-clause-taken : goal.returns-clause-taken
returns-clause-taken c = λ fd e. taken-token _ c.requires.waits _ fd ((c.offer.ensures.taken fd).0 e) (c.offer.ensures.strays fd e)
