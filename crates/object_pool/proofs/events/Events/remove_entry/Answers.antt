use Rattle.std.proofs.Common.{◌≡◌, ◌∙◌, Option, Some, None, length, refl, ap, arith}
use Rattle.std.specs.Option.{IsSome}
use Rattle.tree_specs.specs.declared.coming.Coming.{Coming}
use Rattle.object_pool.specs.Upcoming.{Upcoming, count_of}
use Rattle.object_pool.proofs.Fewer.{coming-entries, left-count}
use Rattle.object_pool.proofs.events.Events.remove_entry.Goals as goal

pub invariant_of-self : goal.invariant_of-self
invariant_of-self c =
    let had = c.self.invariant in
    let e = c.remove_entry-coming.ensures in
    let left = left-count c.self.inside.queues.queues c.remove_entry-coming.new.self.queues c.args.e c.remove_entry-coming.result e.queues e.result in
    omega (arith, had, left)

counted : (o : Option Coming) → IsSome o → count_of o ≡ 1
counted None s = cc
counted (Some y) s = refl

pub look_at-requires-clause-room : goal.look_at-requires-clause-room
look_at-requires-clause-room c = λ comes.
    let had = c.self.invariant in
    let e = c.remove_entry-coming.ensures in
    let left = left-count c.self.inside.queues.queues c.remove_entry-coming.new.self.queues c.args.e c.remove_entry-coming.result e.queues e.result in
    let one = counted c.remove_entry-coming.result comes in
    omega (arith, left, one, had)

-- the queue takes the place of the entry that has left
pub returns-clause-kept : goal.returns-clause-kept
returns-clause-kept c =
    let e = c.remove_entry-coming.ensures in
    let l = c.look_at.ensures in
    let left = left-count c.self.inside.queues.queues c.remove_entry-coming.new.self.queues c.args.e c.remove_entry-coming.result e.queues e.result in
    let entries = ap (λ (u : Upcoming). length u.queues.entries) l.upcoming ∙ coming-entries c.args.tree.now.rows c.remove_entry-coming.result _ in
    let spare = l.spare in
    let queues = l.rest.queues in
    let room = e.spare in
    rw (← c.self.view_is) (record {
      soon = omega (arith, left, entries, spare);
      times = l.rest.times;
      ring = l.rest.ring;
      descriptors = l.rest.descriptors;
      handlers = l.rest.handlers;
      requests = l.rest.requests;
      queues = omega (arith, queues, room);
    })
