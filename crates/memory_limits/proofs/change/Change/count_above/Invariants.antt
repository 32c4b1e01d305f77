use Rattle.std.proofs.Common.{◌≡◌, suc, length, Some}
use Rattle.tree_specs.specs.declared.object.Owner.TheVariants.{Of}
use Rattle.memory_limits.specs.Limits.{listed}
use Rattle.memory_limits.proofs.Climbing.{climbed}
use Rattle.memory_limits.proofs.change.Change.count_above.Given as goal

-- what is still to be counted makes it whole
abbrev pub invariant-loop-steps : goal.invariant-loop-steps
invariant-loop-steps l = record {
  limited : climbed l.steps l.self l.tree.rows (Some l.at) (listed l.all.pairs) ≡ climbed (suc (length l.tree.rows)) l.self l.tree.rows (Some (Of l.fn.x)) (listed l.initial.all.pairs);
  spare : l.all.spare ≡ l.initial.all.spare;
}

abbrev pub decreases-loop-steps : goal.decreases-loop-steps
decreases-loop-steps l = l.steps
