use Rattle.std.proofs.Common.{◌≤◌, length}
use Rattle.tree_links.specs.Links.{pool_of}
use Rattle.references.specs.Rows.{AreRefsOf}
use Rattle.destructors.specs.Frees.{before, frees_of, Silently}
use Rattle.destructors.specs.Works.{IsAtWork}
use Rattle.destructors.specs.Engine.{IsBetweenCalls}
use Rattle.destructors.proofs.Keeping.{free_cost}
use Rattle.destructors.proofs.works.settle.Given as goal

-- the frees are ready, and have made moves that tell nothing
abbrev pub invariant-loop-work : goal.invariant-loop-work
invariant-loop-work l = record {
  ready : IsBetweenCalls l.innermost l.tree;
  moves_on : Silently (frees_of l.initial.innermost l.initial.tree) (frees_of l.innermost l.tree);
  at_work : IsAtWork (frees_of l.initial.innermost l.initial.tree) → IsAtWork (frees_of l.innermost l.tree);
  rows : length l.tree.rows ≤ length l.initial.tree.rows;
  spare : l.initial.tree.spare ≤ l.tree.spare;
  refs : AreRefsOf l.refs.pairs l.tree.rows;
}

abbrev pub decreases-loop-work : goal.decreases-loop-work
decreases-loop-work l = free_cost (length l.initial.tree.rows) (before l.innermost l.tree.frees) (pool_of l.tree)
