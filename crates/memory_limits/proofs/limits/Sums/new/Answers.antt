use Rattle.std.proofs.Common.{◌∙◌, ap}
use Rattle.memory_limits.specs.Limits.{listed}
use Rattle.memory_limits.proofs.Listed.{empty-listed}
use Rattle.memory_limits.proofs.limits.Sums.new.Goals as goal

pub returns : goal.returns
returns c = ap listed c.new.ensures.empty ∙ empty-listed
