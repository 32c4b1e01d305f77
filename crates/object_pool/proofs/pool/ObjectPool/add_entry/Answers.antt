use Rattle.std.proofs.Common.{refl, sym, ap, subst, ◌∙◌}
use Rattle.tree_specs.specs.declared.object.Obj.{Obj}
use Rattle.tree_specs.specs.declared.object.Owner.TheVariants.{Of}
use Rattle.tree_specs.specs.declared.kind.Kind.TheVariants.{Entry}
use Rattle.tree_specs.specs.Events.Queues.{has_queue, new_entry}
use Rattle.request_queue.specs.Register.{IsAbove}
use Rattle.object_pool.specs.Objects.{Objects}
use Rattle.object_pool.proofs.Keeping.{event-added}
use Rattle.object_pool.proofs.Given.{given-later, kept-put}
use Rattle.object_pool.proofs.Queueing.{above-all}
use Rattle.object_pool.proofs.Hosted.{holds-usable}
use Rattle.object_pool.proofs.Requesting.{grows}
use Rattle.object_pool.proofs.pool.ObjectPool.add_entry.Goals as goal

pub add_entry-requires-clause-place : goal.add_entry-requires-clause-place
add_entry-requires-clause-place c = (c.self.invariant.event (c.self.invariant.placed (ap (λ (o : Objects). o.ready) c.self.view_is ∙ c.requires.ready)).2).event

pub add_entry-requires-clause-queue : goal.add_entry-requires-clause-queue
add_entry-requires-clause-queue c = ap (λ (o : Objects). has_queue o.pool.queues c.args.queue) c.self.view_is ∙ c.requires.queue

pub add_entry-requires-clause-newest : goal.add_entry-requires-clause-newest
add_entry-requires-clause-newest c =
    let entries = c.self.inside.events.upcoming.queues.entries in
    subst (λ (x : Obj). IsAbove x entries) (sym c.add_row-entry.ensures.serial) (above-all c.self.inside.tree.next entries c.self.invariant.given.entries)

-- an entry is no context
pub add_entry-requires-clause-usable : goal.add_entry-requires-clause-usable
add_entry-requires-clause-usable c =
    let b = c.self.inside in
    let entry = c.add_row-entry in
    holds-usable entry.new.tree.rows b.events (λ d is. c.self.invariant.contexts d (grows entry.new.tree b.tree Entry (Of c.args.x) 0 c.fixed.result refl entry.ensures.rows d is))

pub invariant_of-self : goal.invariant_of-self
invariant_of-self c =
    let entry = c.add_row-entry.ensures in
    let before = c.self.inside.events.upcoming in
    event-added c.self.inside c.add_row-entry.new.tree c.add_row-entry.new.sums c.add_entry.new.self c.add_row-entry.result Entry (Of c.args.x) c.fixed.result entry.spare (ap (λ (o : Objects). o.ready) c.self.view_is ∙ c.requires.ready) refl refl
    entry.serial entry.fresh entry.rows entry.works entry.limits
    (λ le lt. let later = given-later _ c.add_row-entry.new.tree.next before le c.self.invariant.given in
    rw c.add_entry.ensures.upcoming
    (record { times = later.times; ring = later.ring; requests = later.requests; queues = later.queues; entries = kept-put _ before.queues.entries c.add_row-entry.result.0 (new_entry c.args.queue c.args.x c.args.trigger) lt later.entries }))
    c.add_entry.ensures.contexts c.self.invariant
