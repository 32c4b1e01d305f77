use Rattle.host_core.proofs.StepsSilently.{begin_waits}
use Rattle.host_core.proofs.Telling.{begins_ready}
use Rattle.host_core.proofs.host.Host.new.Goals as goal

pub invariant_of-result : goal.invariant_of-result
invariant_of-result c = begins_ready c.args.first _ c.requires c.new.ensures.items c.in_ok-new.ensures

pub returns-clause-waits : goal.returns-clause-waits
returns-clause-waits c = rw (c.new.ensures.items, c.in_ok-new.ensures) (begin_waits c.args.first c.requires)
