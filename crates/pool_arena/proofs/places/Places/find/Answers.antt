use Rattle.std.proofs.Common.{◌≡◌, Some, slice_get, length, ap, sym, ◌∙◌}
use Rattle.pool_arena.specs.Nodes.{head, rest_of}
use Rattle.pool_arena.proofs.Walks.{leaf_ends}
use Rattle.pool_arena.proofs.places.Places.find.Goals as goal

pub returns-in-Some-2-clause-found : goal.returns-in-Some-2-clause-found
returns-in-Some-2-clause-found c i found =
    let heads = c.args.self.now.heads.items in
    let nodes = c.args.self.now.nodes.items in
    let node = c.in-Some.node.now in
    let at : slice_get nodes (head heads c.args.key) ≡ Some node = ap (slice_get nodes) (sym c.head-first.ensures) ∙ sym c.in-Some.ensures in
    let leaf = c.is_leaf.ensures c.if-is_leaf.true in
    absurd (leaf_ends nodes c.args.key found.0 (head heads c.args.key) (rest_of (length heads) c.args.key) i node c.requires.kept.few at c.if-node-key.false leaf found.1)
