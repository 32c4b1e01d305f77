use Rattle.object_pool.proofs.Keeping.{closed-agree}
use Rattle.object_pool.proofs.pool.ObjectPool.close.Goals as goal

pub invariant_of-self : goal.invariant_of-self
invariant_of-self c = closed-agree c.self.inside c.close.new.self c.args.fd c.close.ensures.upcoming c.close.ensures.kept c.close.ensures.contexts c.self.invariant
