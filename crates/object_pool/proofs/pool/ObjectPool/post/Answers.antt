use Rattle.std.proofs.Common.{ap, ◌∙◌}
use Rattle.object_pool.specs.Objects.{Objects}
use Rattle.object_pool.proofs.Keeping.{waits-alike}
use Rattle.object_pool.proofs.Opening.{held-usable}
use Rattle.object_pool.proofs.pool.ObjectPool.post.Goals as goal

pub post-requires-clause-place : goal.post-requires-clause-place
post-requires-clause-place c = (c.self.invariant.event (c.self.invariant.placed (ap (λ (o : Objects). o.ready) c.self.view_is ∙ c.requires.ready)).2).event

pub post-requires-clause-context : goal.post-requires-clause-context
post-requires-clause-context c = held-usable c.self.inside c.args.self.now c.self.view_is c.self.invariant c.args.context c.requires.context

pub invariant_of-self : goal.invariant_of-self
invariant_of-self c = waits-alike c.self.inside c.post.new.self _ _ _ c.post.ensures.upcoming c.post.ensures.contexts c.self.invariant
