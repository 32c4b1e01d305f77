use Rattle.tree_specs.specs.declared.request.State.TheVariants.{Received}
use Rattle.object_pool.proofs.Keeping.{unscheduled-agree}
use Rattle.object_pool.proofs.Requesting.{finished-agree}
use Rattle.object_pool.proofs.pool.ObjectPool.receive_request.Goals as goal

pub invariant_of-self : goal.invariant_of-self
invariant_of-self c =
    let b = c.self.inside in
    finished-agree (record b { events = c.unschedule.new.self }) c.finish.new.self c.args.x Received c.finish.ensures.upcoming c.finish.ensures.kept c.finish.ensures.contexts
    (unscheduled-agree b c.unschedule.new.self c.args.x c.unschedule.ensures.upcoming c.unschedule.ensures.kept c.unschedule.ensures.contexts c.self.invariant)
