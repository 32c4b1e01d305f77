use Rattle.std.proofs.Common.{◌≡◌, ℕ, ◌<◌, ◌-◌, ◌^◌, false, refl, sym, ap, subst, ◌∙◌}
use Rattle.tree_specs.specs.Events.Pending.{disarmed, is_numbered}
use Rattle.object_pool.specs.Objects.{Objects}
use Rattle.object_pool.specs.Upcoming.{timed_under}
use Rattle.object_pool.proofs.Given.{unnumbered}
use Rattle.object_pool.proofs.Requesting.{taken-next, timed-agree}
use Rattle.object_pool.proofs.Opening.{held-usable}
use Rattle.object_pool.proofs.pool.ObjectPool.set_end_time.Goals as goal

pub set_time-requires-clause-number : goal.set_time-requires-clause-number
set_time-requires-clause-number c =
    let next = c.self.inside.tree.next in
    let times = c.self.inside.events.upcoming.times in
    let is = taken-next next c.in-Some.number (subst (λ (o : Objects). o.pool.next < 2 ^ 64 - 1) (sym c.self.view_is) c.requires.numbered) c.in-Some.ensures.number in
    subst (λ (n : ℕ). is_numbered (disarmed times c.args.x) n ≡ false) (sym is) (unnumbered next times c.args.x c.self.invariant.given.times)

pub set_time-requires-clause-context : goal.set_time-requires-clause-context
set_time-requires-clause-context c = held-usable c.self.inside c.args.self.now c.self.view_is c.self.invariant c.args.context c.requires.context

pub invariant_of-self : goal.invariant_of-self
invariant_of-self c =
    let b = c.self.inside in
    let is = taken-next b.tree.next c.in-Some.number (subst (λ (o : Objects). o.pool.next < 2 ^ 64 - 1) (sym c.self.view_is) c.requires.numbered) c.in-Some.ensures.number in
    timed-agree b c.take_number.new.self c.set_time.new.self c.args.x c.args.time c.args.context (ap (λ (o : Objects). o.ready) c.self.view_is ∙ c.requires.ready) (c.in-Some.ensures.taken refl) c.take_number.ensures.works
    (c.set_time.ensures.upcoming ∙ ap (λ (n : ℕ). timed_under c.args.x c.args.time n c.args.context b.events.upcoming) is) c.set_time.ensures.contexts c.self.invariant
