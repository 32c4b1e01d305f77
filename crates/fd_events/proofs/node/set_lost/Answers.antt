use Rattle.pool_arena.proofs.Steps.{mapped-at, len-old}
use Rattle.fd_events.specs.Linked.{with_loss}
use Rattle.fd_events.proofs.node.set_lost.Goals as goal

pub returns-in-Some-clause-nodes : goal.returns-in-Some-clause-nodes
returns-in-Some-clause-nodes c = λ q. mapped-at c.args.nodes.now c.args.x (with_loss) c.in-Some.node.now c.in-Some.ensures.value q

pub returns-in-Some-clause-len : goal.returns-in-Some-clause-len
returns-in-Some-clause-len c = len-old c.args.nodes.now.pairs c.args.x _ c.in-Some.node.now c.in-Some.ensures.value
