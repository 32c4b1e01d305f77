use Rattle.std.proofs.Common.{nat_eq, refl, ap, ◌∙◌}
use Rattle.std.specs.Option.{option_map}
use Rattle.pool_arena.specs.Arena.{get}
use Rattle.pool_arena.proofs.Steps.{mapped-at, len-old}
use Rattle.linked_lanes.specs.Chain.{noted}
use Rattle.immediates.specs.Linked.{context_of, sides_of}
use Rattle.immediates.proofs.Nodes.{with_link, read-changed, read-same}
use Rattle.immediates.proofs.node.set_link.Goals as goal

pub returns-in-Some-get_mut-clause-sides : goal.returns-in-Some-get_mut-clause-sides
returns-in-Some-get_mut-clause-sides c = λ q. rw (c.in-Some.is, c.note.ensures)
    (ap (option_map sides_of) (mapped-at c.args.nodes.now c.in-Some.x (with_link c.args.link) c.in-Some-get_mut.node.now c.in-Some-get_mut.ensures.value q)
    ∙ read-changed sides_of (with_link c.args.link) (noted c.args.link) (λ v. refl) (nat_eq c.in-Some.x q) (get c.args.nodes.now q))

pub returns-in-Some-get_mut-clause-contexts : goal.returns-in-Some-get_mut-clause-contexts
returns-in-Some-get_mut-clause-contexts c = λ q. rw c.note.ensures
    (ap (option_map context_of) (mapped-at c.args.nodes.now c.in-Some.x (with_link c.args.link) c.in-Some-get_mut.node.now c.in-Some-get_mut.ensures.value q)
    ∙ read-same context_of (with_link c.args.link) (λ v. refl) (nat_eq c.in-Some.x q) (get c.args.nodes.now q))

pub returns-in-Some-get_mut-clause-len : goal.returns-in-Some-get_mut-clause-len
returns-in-Some-get_mut-clause-len c = len-old c.args.nodes.now.pairs c.in-Some.x _ c.in-Some-get_mut.node.now c.in-Some-get_mut.ensures.value
