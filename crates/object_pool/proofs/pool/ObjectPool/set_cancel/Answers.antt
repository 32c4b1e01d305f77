use Rattle.tree_specs.specs.Events.Requests.{cancelled_by}
use Rattle.object_pool.proofs.Requesting.{renoted-agree}
use Rattle.object_pool.proofs.pool.ObjectPool.set_cancel.Goals as goal

pub invariant_of-self : goal.invariant_of-self
invariant_of-self c = renoted-agree c.self.inside c.set_cancel.new.self (cancelled_by c.args.routine) c.args.x c.set_cancel.ensures.upcoming c.set_cancel.ensures.kept c.set_cancel.ensures.contexts c.self.invariant
