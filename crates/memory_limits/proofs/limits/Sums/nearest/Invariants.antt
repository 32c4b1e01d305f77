use Rattle.std.proofs.Common.{◌≡◌, Some}
use Rattle.memory_limits.specs.Limits.{nearest_in, nearest_limited}
use Rattle.memory_limits.proofs.limits.Sums.nearest.Given as goal

-- the nearest is among those that are left to look at
abbrev pub invariant-loop-steps : goal.invariant-loop-steps
invariant-loop-steps l = nearest_in l.steps l.self.limited l.tree.rows (Some l.at) ≡ nearest_limited l.self.limited l.tree.rows l.fn.owner

abbrev pub decreases-loop-steps : goal.decreases-loop-steps
decreases-loop-steps l = l.steps
