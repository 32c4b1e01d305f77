use Rattle.object_pool.proofs.Requesting.{finished-agree}
use Rattle.object_pool.proofs.pool.ObjectPool.finish_request.Goals as goal

pub invariant_of-self : goal.invariant_of-self
invariant_of-self c = finished-agree c.self.inside c.finish.new.self c.args.x c.args.state c.finish.ensures.upcoming c.finish.ensures.kept c.finish.ensures.contexts c.self.invariant
