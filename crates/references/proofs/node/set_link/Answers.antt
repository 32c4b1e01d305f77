use Rattle.pool_arena.proofs.Steps.{mapped-at}
use Rattle.references.specs.Linked.{with_link}
use Rattle.references.proofs.node.set_link.Goals as goal

pub returns-in-Some-get_mut-clause-nodes : goal.returns-in-Some-get_mut-clause-nodes
returns-in-Some-get_mut-clause-nodes c = λ q. rw (c.in-Some.is, c.note.ensures) (mapped-at c.args.nodes.now c.in-Some.reference (with_link c.args.link) c.in-Some-get_mut.node.now c.in-Some-get_mut.ensures.value q)
