use Rattle.std.proofs.Common.{◌≡◌, Some}
use Rattle.tree_links.specs.Walk.{left, IsDeep}
use Rattle.tree_links.proofs.walk.place_after.Given as goal

abbrev pub invariant-loop-depth : goal.invariant-loop-depth
invariant-loop-depth l = record {
  left : left l.fn.place.depth l.tree.rows (Some l.fn.place.owner) ≡ left l.depth l.tree.rows (Some l.owner);
  deep : IsDeep l.tree.rows (Some (record { owner = l.owner; depth = l.depth }));
}

abbrev pub decreases-loop-depth : goal.decreases-loop-depth
decreases-loop-depth l = l.depth
