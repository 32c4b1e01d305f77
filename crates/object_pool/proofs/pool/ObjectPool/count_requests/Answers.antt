use Rattle.std.proofs.Common.{◌≤◌, subst, arith}
use Rattle.object_pool.specs.Objects.{Objects}
use Rattle.object_pool.specs.Requests.{count_unreceived}
use Rattle.requests.specs.Register.{AreInOrder}
use Rattle.object_pool.proofs.Fewer.{unreceived-most}
use Rattle.object_pool.proofs.pool.ObjectPool.count_requests.Goals as goal

pub returns-clause-many : goal.returns-clause-many
returns-clause-many c =
    let most = unreceived-most c.self.inside.events.upcoming.requests in
    let all = c.count_requests.ensures.many in
    subst (λ (o : Objects). count_unreceived o.pool.requests ≤ c.count_requests.result) c.self.view_is (omega (arith, most, all))

pub returns-clause-order : goal.returns-clause-order
returns-clause-order c = subst (λ (o : Objects). AreInOrder o.pool.requests) c.self.view_is c.count_requests.ensures.order
