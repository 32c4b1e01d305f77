use Rattle.host_core.proofs.StepsSilently.{stays}
use Rattle.host_core.proofs.works.settle.Goals as goal

pub returns-in-Caller-clause-along : goal.returns-in-Caller-clause-along
returns-in-Caller-clause-along c = stays _ c.requires.whole
