use Rattle.std.proofs.Common.{length, sym, ap, ◌∙◌}
use Rattle.object_pool.specs.Upcoming.{Upcoming}
use Rattle.object_pool.proofs.Queueing.{triggered-agree}
use Rattle.object_pool.proofs.pool.ObjectPool.trigger.Goals as goal

pub invariant_of-self : goal.invariant_of-self
invariant_of-self c = triggered-agree c.self.inside c.trigger.new.self c.args.queue c.trigger.ensures.upcoming (ap (λ (u : Upcoming). length u.queues.entries) (sym c.trigger.ensures.upcoming) ∙ c.trigger.ensures.many) c.trigger.ensures.kept c.trigger.ensures.contexts c.self.invariant
