use Rattle.pool_arena.proofs.Steps.{mapped-at}
use Rattle.request_queue.specs.Linked.{begun}
use Rattle.request_queue.proofs.node.begin.Goals as goal

pub returns-in-Some-clause-nodes : goal.returns-in-Some-clause-nodes
returns-in-Some-clause-nodes c = mapped-at c.args.nodes.now c.args.entry begun c.in-Some.node.now c.in-Some.ensures.value
