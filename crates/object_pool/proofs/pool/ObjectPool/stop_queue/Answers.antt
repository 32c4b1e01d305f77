use Rattle.std.proofs.Common.{false}
use Rattle.object_pool.proofs.Queueing.{ran-agree}
use Rattle.object_pool.proofs.pool.ObjectPool.stop_queue.Goals as goal

pub invariant_of-self : goal.invariant_of-self
invariant_of-self c = ran-agree c.self.inside c.stop.new.self c.args.queue false c.stop.ensures.upcoming c.stop.ensures.kept c.stop.ensures.contexts c.self.invariant
