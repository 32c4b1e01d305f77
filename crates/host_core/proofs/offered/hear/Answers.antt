use Rattle.std.proofs.Common.{subst}
use Rattle.host_core.specs.declared.active.Active.{Active}
use Rattle.host_core.specs.Hosts.{given_view, host_view, TellsSameStory}
use Rattle.host_core.proofs.StepsSilently.{along-then}
use Rattle.host_core.proofs.offered.hear.Goals as goal

pub returns-clause-along : goal.returns-clause-along
returns-clause-along c =
    along-then _ _ _ (subst (λ (z : Active). TellsSameStory (given_view z c.args.input c.args.parts.now) (host_view c.answered-next.result c.answered-next.new.parts)) c.take.ensures c.answered-next.ensures.along) c.settle_on.ensures.along
