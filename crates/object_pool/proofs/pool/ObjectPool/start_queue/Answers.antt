use Rattle.std.proofs.Common.{ap, ◌∙◌}
use Rattle.object_pool.specs.Objects.{Objects}
use Rattle.object_pool.proofs.Hosted.{holds-usable}
use Rattle.object_pool.proofs.Keeping.{waits}
use Rattle.object_pool.proofs.Queueing.{running-all}
use Rattle.object_pool.proofs.pool.ObjectPool.start_queue.Goals as goal

pub start-requires-clause-place : goal.start-requires-clause-place
start-requires-clause-place c = (c.self.invariant.event (c.self.invariant.placed (ap (λ (o : Objects). o.ready) c.self.view_is ∙ c.requires)).2).event

pub start-requires-clause-usable : goal.start-requires-clause-usable
start-requires-clause-usable c = holds-usable c.self.inside.tree.rows c.self.inside.events c.self.invariant.contexts

pub invariant_of-self : goal.invariant_of-self
invariant_of-self c = waits c.self.inside c.start.new.self (rw c.start.ensures.upcoming (running-all c.self.inside.tree.next c.self.inside.tree.rows c.self.inside.events.upcoming c.args.queue c.self.invariant.given)) c.start.ensures.contexts c.self.invariant
