use Rattle.std.proofs.Common.{◌≡◌, false, refl, sym, ap, subst, ◌∙◌}
use Rattle.tree_specs.specs.declared.object.Obj.{Obj}
use Rattle.tree_specs.specs.declared.kind.Kind.TheVariants.{Descriptor}
use Rattle.tree_specs.specs.Events.Rotation.{is_watching}
use Rattle.object_pool.specs.Objects.{Objects}
use Rattle.object_pool.proofs.Keeping.{event-added}
use Rattle.object_pool.specs.Upcoming.{watcher_number}
use Rattle.object_pool.proofs.Given.{given-later, before-pushed, unwatching}
use Rattle.object_pool.proofs.Opening.{held-usable}
use Rattle.object_pool.proofs.pool.ObjectPool.add_descriptor.Goals as goal

pub watch-requires-clause-place : goal.watch-requires-clause-place
watch-requires-clause-place c = (c.self.invariant.event (c.self.invariant.placed (ap (λ (o : Objects). o.ready) c.self.view_is ∙ c.requires.ready)).2).event

pub watch-requires-clause-event : goal.watch-requires-clause-event
watch-requires-clause-event c =
    let ring = c.self.inside.events.upcoming.ring in
    subst (λ (x : Obj). is_watching ring x ≡ false) (sym c.add_row-event.ensures.serial) (unwatching c.self.inside.tree.next ring c.self.invariant.given.ring)

pub watch-requires-clause-context : goal.watch-requires-clause-context
watch-requires-clause-context c = held-usable c.self.inside c.args.self.now c.self.view_is c.self.invariant c.args.handler.context c.requires.context

pub invariant_of-self : goal.invariant_of-self
invariant_of-self c =
    let before = c.self.inside.events.upcoming in
    event-added c.self.inside c.add_row-event.new.tree c.add_row-event.new.sums c.watch.new.self c.add_row-event.result Descriptor c.args.owner c.fixed-name.result
    c.add_row-event.ensures.spare (ap (λ (o : Objects). o.ready) c.self.view_is ∙ c.requires.ready) refl refl
    c.add_row-event.ensures.serial c.add_row-event.ensures.fresh c.add_row-event.ensures.rows c.add_row-event.ensures.works c.add_row-event.ensures.limits
    (λ le lt. let later = given-later _ c.add_row-event.new.tree.next before le c.self.invariant.given in
    rw c.watch.ensures.upcoming (record { times = later.times; ring = before-pushed watcher_number _ before.ring _ lt later.ring; requests = later.requests; queues = later.queues; entries = later.entries }))
    c.watch.ensures.contexts c.self.invariant
