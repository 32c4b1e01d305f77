use Rattle.std.proofs.Common.{◌≡◌, length, Some}
use Rattle.tree_specs.specs.Calls.Refusals.{checked, fits_in}
use Rattle.memory_limits.proofs.limits.Sums.fits.Given as goal

-- what is left to look at decides
abbrev pub invariant-loop-steps : goal.invariant-loop-steps
invariant-loop-steps l = checked (fits_in l.steps l.tree.rows l.fn.wanted (Some l.at)) ≡ checked (fits_in (length l.tree.rows) l.tree.rows l.fn.wanted (Some l.fn.owner))

abbrev pub decreases-loop-steps : goal.decreases-loop-steps
decreases-loop-steps l = l.steps
