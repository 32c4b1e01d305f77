use Rattle.tree_links.specs.Nodes.{with_first}
use Rattle.pool_arena.proofs.Steps.{mapped-at, len-old}
use Rattle.tree_links.proofs.node.set_first.Goals as goal

pub returns-clause-nodes : goal.returns-clause-nodes
returns-clause-nodes c = λ q. mapped-at c.args.nodes.now c.args.x (with_first c.args.first) c.in_ok-node.node.now c.in_ok-node.ensures.value q

pub returns-clause-len : goal.returns-clause-len
returns-clause-len c = len-old c.args.nodes.now.pairs c.args.x _ c.in_ok-node.node.now c.in_ok-node.ensures.value
