use Rattle.std.proofs.Common.{◌≡◌, false, refl, sym, ap, subst, ◌∙◌}
use Rattle.tree_specs.specs.declared.object.Obj.{Obj}
use Rattle.tree_specs.specs.declared.kind.Kind.TheVariants.{Timer}
use Rattle.tree_specs.specs.Events.Pending.{disarmed, is_numbered}
use Rattle.object_pool.specs.Objects.{Objects}
use Rattle.object_pool.proofs.Keeping.{event-added}
use Rattle.object_pool.proofs.Given.{given-later, times-armed, unnumbered}
use Rattle.object_pool.proofs.Opening.{held-usable}
use Rattle.object_pool.proofs.pool.ObjectPool.add_timer.Goals as goal

pub arm-requires-clause-place : goal.arm-requires-clause-place
arm-requires-clause-place c = (c.self.invariant.event (c.self.invariant.placed (ap (λ (o : Objects). o.ready) c.self.view_is ∙ c.requires.ready)).2).event

pub arm-requires-clause-number : goal.arm-requires-clause-number
arm-requires-clause-number c =
    let dues = c.self.inside.events.upcoming.times in
    let next = c.self.inside.tree.next in
    subst (λ (x : Obj). is_numbered (disarmed dues x) x.0 ≡ false) (sym c.add_row-timer.ensures.serial) (unnumbered next dues (record { 0 = next }) c.self.invariant.given.times)

pub arm-requires-clause-context : goal.arm-requires-clause-context
arm-requires-clause-context c = held-usable c.self.inside c.args.self.now c.self.view_is c.self.invariant c.args.handler.context c.requires.context

pub invariant_of-self : goal.invariant_of-self
invariant_of-self c =
    let timer = c.add_row-timer.ensures in
    let before = c.self.inside.events.upcoming in
    event-added c.self.inside c.add_row-timer.new.tree c.add_row-timer.new.sums c.arm.new.self c.add_row-timer.result Timer c.args.owner c.fixed-name.result timer.spare (ap (λ (o : Objects). o.ready) c.self.view_is ∙ c.requires.ready) refl refl
    timer.serial timer.fresh timer.rows timer.works timer.limits
    (λ le lt. let later = given-later _ c.add_row-timer.new.tree.next before le c.self.invariant.given in
    rw c.arm.ensures.upcoming
    (record { times = times-armed _ before.times c.add_row-timer.result c.args.time c.add_row-timer.result.0 c.args.handler.context lt later.times; ring = later.ring; requests = later.requests; queues = later.queues; entries = later.entries }))
    c.arm.ensures.contexts c.self.invariant
