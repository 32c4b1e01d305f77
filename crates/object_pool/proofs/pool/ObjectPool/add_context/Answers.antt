use Rattle.std.proofs.Common.{ap, ◌∙◌}
use Rattle.object_pool.specs.Objects.{Objects}
use Rattle.object_pool.proofs.Keeping.{context-added}
use Rattle.object_pool.proofs.pool.ObjectPool.add_context.Goals as goal

pub add_context-requires-clause-place : goal.add_context-requires-clause-place
add_context-requires-clause-place c = (c.self.invariant.event (c.self.invariant.placed (ap (λ (o : Objects). o.ready) c.self.view_is ∙ c.requires.ready)).2).event

pub add_context-requires-clause-spare : goal.add_context-requires-clause-spare
add_context-requires-clause-spare c = c.self.invariant.context (c.self.invariant.placed (ap (λ (o : Objects). o.ready) c.self.view_is ∙ c.requires.ready)).3

pub invariant_of-self : goal.invariant_of-self
invariant_of-self c =
    let context = c.add_row-context.ensures in
    let e = c.add_context.ensures in
    context-added c.self.inside c.add_row-context.new.tree c.add_row-context.new.sums c.add_context.new.self c.add_row-context.result c.args.owner c.fixed-name.result context.spare
    (ap (λ (o : Objects). o.ready) c.self.view_is ∙ c.requires.ready) context.serial context.fresh context.rows context.works context.limits e.upcoming e.added e.held c.self.invariant
