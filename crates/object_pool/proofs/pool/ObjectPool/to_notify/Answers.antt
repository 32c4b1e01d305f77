use Rattle.object_pool.proofs.Requesting.{posted-agree}
use Rattle.object_pool.proofs.pool.ObjectPool.to_notify.Goals as goal

pub invariant_of-self : goal.invariant_of-self
invariant_of-self c =
    let notify = c.to_notify-notify in
    posted-agree c.self.inside notify.new.self notify.result c.args.x notify.ensures.upcoming notify.ensures.kept notify.ensures.contexts c.self.invariant

pub invariant_of-self-then-is_usable : goal.invariant_of-self-then-is_usable
invariant_of-self-then-is_usable c =
    let notify = c.to_notify-notify in
    posted-agree c.self.inside notify.new.self notify.result c.args.x notify.ensures.upcoming notify.ensures.kept notify.ensures.contexts c.self.invariant

pub invariant_of-self-else-is_usable : goal.invariant_of-self-else-is_usable
invariant_of-self-else-is_usable c =
    let notify = c.to_notify-notify in
    posted-agree c.self.inside notify.new.self notify.result c.args.x notify.ensures.upcoming notify.ensures.kept notify.ensures.contexts c.self.invariant
