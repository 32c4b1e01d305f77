use Rattle.object_pool.proofs.Keeping.{picked-agree}
use Rattle.object_pool.proofs.pool.ObjectPool.clock.Goals as goal

pub invariant_of-self : goal.invariant_of-self
invariant_of-self c = picked-agree c.self.inside c.clock.new.self c.clock.result c.clock.ensures.upcoming c.clock.ensures.kept c.clock.ensures.contexts c.self.invariant
