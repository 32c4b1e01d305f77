use Rattle.tree_specs.specs.Events.Requests.{failed_with}
use Rattle.object_pool.proofs.Requesting.{renoted-agree}
use Rattle.object_pool.proofs.pool.ObjectPool.set_error.Goals as goal

pub invariant_of-self : goal.invariant_of-self
invariant_of-self c = renoted-agree c.self.inside c.set_error.new.self (failed_with c.args.error) c.args.x c.set_error.ensures.upcoming c.set_error.ensures.kept c.set_error.ensures.contexts c.self.invariant
