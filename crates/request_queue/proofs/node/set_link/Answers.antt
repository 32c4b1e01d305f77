use Rattle.pool_arena.proofs.Steps.{mapped-at, len-old}
use Rattle.request_queue.specs.Linked.{with_link}
use Rattle.request_queue.proofs.node.set_link.Goals as goal

pub returns-in-Some-get_mut-clause-nodes : goal.returns-in-Some-get_mut-clause-nodes
returns-in-Some-get_mut-clause-nodes c = λ q. rw (c.in-Some.is, c.note.ensures) (mapped-at c.args.nodes.now c.in-Some.entry (with_link c.args.link) c.in-Some-get_mut.node.now c.in-Some-get_mut.ensures.value q)

pub returns-in-Some-get_mut-clause-len : goal.returns-in-Some-get_mut-clause-len
returns-in-Some-get_mut-clause-len c = len-old c.args.nodes.now.pairs c.in-Some.entry _ c.in-Some-get_mut.node.now c.in-Some-get_mut.ensures.value
