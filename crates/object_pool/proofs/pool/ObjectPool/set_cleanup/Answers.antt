use Rattle.tree_specs.specs.Events.Requests.{cleaned_by}
use Rattle.object_pool.proofs.Requesting.{renoted-agree}
use Rattle.object_pool.proofs.pool.ObjectPool.set_cleanup.Goals as goal

pub invariant_of-self : goal.invariant_of-self
invariant_of-self c = renoted-agree c.self.inside c.set_cleanup.new.self (cleaned_by c.args.routine) c.args.x c.set_cleanup.ensures.upcoming c.set_cleanup.ensures.kept c.set_cleanup.ensures.contexts c.self.invariant
