use Rattle.tree_specs.specs.Events.Requests.{called_back}
use Rattle.object_pool.proofs.Requesting.{renoted-agree}
use Rattle.object_pool.proofs.pool.ObjectPool.set_callback.Goals as goal

pub invariant_of-self : goal.invariant_of-self
invariant_of-self c = renoted-agree c.self.inside c.set_callback.new.self (called_back c.args.routine c.args.user) c.args.x c.set_callback.ensures.upcoming c.set_callback.ensures.kept c.set_callback.ensures.contexts c.self.invariant
