use Rattle.std.proofs.Common.{◌≡◌, None, true, refl, sym, ap, subst, ◌∙◌}
use Rattle.tree_specs.specs.declared.object.Obj.{Obj}
use Rattle.tree_specs.specs.declared.kind.Kind.TheVariants.{Queue}
use Rattle.tree_specs.specs.Events.Queues.{running_of}
use Rattle.object_pool.specs.Objects.{Objects}
use Rattle.object_pool.proofs.Keeping.{event-added}
use Rattle.object_pool.proofs.Given.{given-later, kept-put, unkept}
use Rattle.object_pool.proofs.pool.ObjectPool.add_queue.Goals as goal

pub add_queue-requires-clause-place : goal.add_queue-requires-clause-place
add_queue-requires-clause-place c = (c.self.invariant.event (c.self.invariant.placed (ap (λ (o : Objects). o.ready) c.self.view_is ∙ c.requires.ready)).2).event

pub add_queue-requires-clause-new : goal.add_queue-requires-clause-new
add_queue-requires-clause-new c =
    let queues = c.self.inside.events.upcoming.queues in
    subst (λ (x : Obj). running_of queues x ≡ None) (sym c.add_row-queue.ensures.serial) (unkept c.self.inside.tree.next queues.running c.self.invariant.given.queues)

pub invariant_of-self : goal.invariant_of-self
invariant_of-self c =
    let queue = c.add_row-queue.ensures in
    let before = c.self.inside.events.upcoming in
    event-added c.self.inside c.add_row-queue.new.tree c.add_row-queue.new.sums c.add_queue.new.self c.add_row-queue.result Queue c.args.owner c.args.name queue.spare (ap (λ (o : Objects). o.ready) c.self.view_is ∙ c.requires.ready) refl refl
    queue.serial queue.fresh queue.rows queue.works queue.limits
    (λ le lt. let later = given-later _ c.add_row-queue.new.tree.next before le c.self.invariant.given in
    rw c.add_queue.ensures.upcoming
    (record { times = later.times; ring = later.ring; requests = later.requests; queues = kept-put _ before.queues.running c.add_row-queue.result.0 true lt later.queues; entries = later.entries }))
    c.add_queue.ensures.contexts c.self.invariant
