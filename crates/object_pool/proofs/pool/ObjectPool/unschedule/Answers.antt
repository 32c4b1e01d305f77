use Rattle.object_pool.proofs.Keeping.{unscheduled-agree}
use Rattle.object_pool.proofs.pool.ObjectPool.unschedule.Goals as goal

pub invariant_of-self : goal.invariant_of-self
invariant_of-self c = unscheduled-agree c.self.inside c.unschedule.new.self c.args.x c.unschedule.ensures.upcoming c.unschedule.ensures.kept c.unschedule.ensures.contexts c.self.invariant
