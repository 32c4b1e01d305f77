use Rattle.host_core.proofs.Allowed.{release_frees, release_unlinks}
use Rattle.host_core.proofs.working.begins.Goals as goal

pub returns-in-Frees-clause-step : goal.returns-in-Frees-clause-step
returns-in-Frees-clause-step c = λ plan errand p r. release_frees c.in-Frees.x plan errand p (rw c.in-Frees.is at r)

pub returns-in-Unlinks-clause-step : goal.returns-in-Unlinks-clause-step
returns-in-Unlinks-clause-step c = λ plan errand p r. release_unlinks c.in-Unlinks.owner c.in-Unlinks.x plan errand p (rw c.in-Unlinks.is at r)
