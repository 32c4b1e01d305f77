use Rattle.tree_specs.specs.Events.Requests.{deferring}
use Rattle.object_pool.proofs.Requesting.{renoted-agree}
use Rattle.object_pool.proofs.pool.ObjectPool.defer.Goals as goal

pub invariant_of-self : goal.invariant_of-self
invariant_of-self c = renoted-agree c.self.inside c.defer.new.self (deferring c.args.context) c.args.x c.defer.ensures.upcoming c.defer.ensures.kept c.defer.ensures.contexts c.self.invariant
