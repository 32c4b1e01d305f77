use Rattle.tree_links.proofs.Moves.{met}
use Rattle.tree_links.proofs.node.meet_newer.Goals as goal

pub returns-clause-linked : goal.returns-clause-linked
returns-clause-linked c = λ m former root o.
    met m _ _ _ c.args.front c.args.first former root o c.args.x c.set_link.ensures.nodes c.set_link-2.ensures.nodes
