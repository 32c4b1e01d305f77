use Rattle.memory_limits.proofs.Kept.{all-kept}
use Rattle.memory_limits.proofs.limits.Sums.sum.Goals as goal

pub sum_of-requires : goal.sum_of-requires
sum_of-requires c = all-kept c.args.self.now.limited c.args.tree.now.rows c.in-Of.x c.requires
