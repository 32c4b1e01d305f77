use Rattle.std.proofs.Common.{refl, sym, subst}
use Rattle.pool_arena.proofs.NumberMaps.{removed_listed}
use Rattle.object_pool.specs.Upcoming.{Agenda, IsForgettable}
use Rattle.object_pool.proofs.Lists.{keeps-dropped, least}
use Rattle.object_pool.proofs.events.Events.forget.Goals as goal

-- nothing comes in it
pub close_context-requires : goal.close_context-requires
close_context-requires c =
    let n = subst (λ (a : Agenda). IsForgettable c.args.x a.upcoming) (sym c.self.view_is) c.requires in
    record { soon = n.soon; times = n.times; ring = n.ring }

pub returns-clause-upcoming : goal.returns-clause-upcoming
returns-clause-upcoming c =
    let d = c.close_context.ensures in
    rw (← c.self.view_is, d.soon, d.times, d.ring, c.forget.ensures.notes, c.forget_queue.ensures.queues, c.take.ensures.pairs, removed_listed c.self.inside.handlers.pairs c.args.x.0) refl

pub returns-clause-contexts : goal.returns-clause-contexts
returns-clause-contexts c =
    let d = c.close_context.ensures in
    rw (← c.self.view_is) (keeps-dropped c.args.x _ _ d.soon_contexts d.times_contexts d.ring_contexts (least _ _ _ _ _ _ d.kept.soon_contexts d.kept.times_contexts d.kept.ring_contexts))
