use Rattle.object_pool.proofs.Requesting.{cleaned-agree}
use Rattle.object_pool.proofs.pool.ObjectPool.to_clean.Goals as goal

pub invariant_of-self : goal.invariant_of-self
invariant_of-self c = cleaned-agree c.self.inside c.to_clean.new.self c.to_clean.result c.args.x c.to_clean.ensures.upcoming c.to_clean.ensures.kept c.to_clean.ensures.contexts c.self.invariant
