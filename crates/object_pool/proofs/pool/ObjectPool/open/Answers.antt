use Rattle.std.proofs.Common.{ap, ◌∙◌}
use Rattle.object_pool.specs.Objects.{Objects}
use Rattle.object_pool.proofs.Keeping.{waits-alike}
use Rattle.object_pool.proofs.pool.ObjectPool.open.Goals as goal

pub open-requires : goal.open-requires
open-requires c = (c.self.invariant.event (c.self.invariant.placed (ap (λ (o : Objects). o.ready) c.self.view_is ∙ c.requires)).2).event

pub invariant_of-self : goal.invariant_of-self
invariant_of-self c = waits-alike c.self.inside c.open.new.self _ _ _ c.open.ensures.upcoming c.open.ensures.contexts c.self.invariant
