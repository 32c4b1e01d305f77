use Rattle.std.proofs.Common.{◌≡◌}
use Rattle.tree_specs.specs.Tree.Pool.{is_below, owner_of}
use Rattle.references.specs.Pairs.{count_to, first_to}
use Rattle.references.specs.Linked.{first_passing, IsAtChild}
use Rattle.references.proofs.refs.Refs.first_owned.Given as goal

abbrev pub invariant-loop-left : goal.invariant-loop-left
invariant-loop-left l =
    (first_passing (λ r. is_below (owner_of l.tree.rows r) l.owner) l.self.pairs l.left l.at
    ≡ first_passing (λ r. is_below (owner_of l.tree.rows r) l.owner) l.self.pairs (count_to l.self.pairs l.fn.target) (first_to l.self.pairs l.fn.target))
    × IsAtChild l.self.pairs l.tree.rows l.owner l.fn.target l.child l.newest

abbrev pub decreases-loop-left : goal.decreases-loop-left
decreases-loop-left l = l.left
