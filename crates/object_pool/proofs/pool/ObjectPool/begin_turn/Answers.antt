use Rattle.object_pool.proofs.Keeping.{picked-agree}
use Rattle.object_pool.proofs.pool.ObjectPool.begin_turn.Goals as goal

pub invariant_of-self : goal.invariant_of-self
invariant_of-self c = picked-agree c.self.inside c.begin.new.self c.begin.result c.begin.ensures.upcoming c.begin.ensures.kept c.begin.ensures.contexts c.self.invariant
