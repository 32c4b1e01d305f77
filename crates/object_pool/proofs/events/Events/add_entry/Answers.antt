use Rattle.std.proofs.Common.{◌≤◌, ◌+◌, length, ap, sym, subst, arith}
use Rattle.tree_specs.specs.Events.Queues.{Queues, new_entry, with_entry}
use Rattle.object_pool.specs.Upcoming.{HasPlace}
use Rattle.object_pool.proofs.Fewer.{entries-more}
use Rattle.object_pool.proofs.events.Events.add_entry.Goals as goal

-- there is a place for one entry more, and one besides
room : (c : goal.After-add_entry-coming) → length c.add_entry-coming.new.self.queues.entries + 1 ≤ c.self.inside.order.soon.spare
room c =
    let place = (subst HasPlace (sym c.self.view_is) c.requires.place).soon in
    let qs = c.self.inside.queues.queues in
    let more : length (with_entry qs c.args.e (new_entry c.args.q c.args.request c.args.trigger)).entries ≤ length qs.entries + 1 = entries-more qs.entries c.args.e.0 (new_entry c.args.q c.args.request c.args.trigger) in
    let new = ap (λ (z : Queues). length z.entries) c.add_entry-coming.ensures.queues in
    omega (arith, place, more, new)

pub invariant_of-self : goal.invariant_of-self
invariant_of-self c = let r = room c in omega (arith, r)

pub look_at-requires-clause-room : goal.look_at-requires-clause-room
look_at-requires-clause-room c = λ comes.
    let place = (subst HasPlace (sym c.self.view_is) c.requires.place).soon in
    let qs = c.self.inside.queues.queues in
    let more : length (with_entry qs c.args.e (new_entry c.args.q c.args.request c.args.trigger)).entries ≤ length qs.entries + 1 = entries-more qs.entries c.args.e.0 (new_entry c.args.q c.args.request c.args.trigger) in
    let new = ap (λ (z : Queues). length z.entries) c.add_entry-coming.ensures.queues in
    omega (arith, place, more, new)
