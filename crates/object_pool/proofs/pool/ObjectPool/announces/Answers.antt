use Rattle.std.proofs.Common.{is_some, ap, ◌∙◌}
use Rattle.destructors.specs.Frees.{frees_of, next_of, is_event}
use Rattle.object_pool.specs.Objects.{Objects, frees_in}
use Rattle.object_pool.proofs.Announcing.{lets-go, lets-none-go, told-beside}
use Rattle.object_pool.proofs.Opening.{settled-inside}
use Rattle.object_pool.proofs.pool.ObjectPool.announces.Goals as goal

pub lets_go-requires-clause-settled : goal.lets_go-requires-clause-settled
lets_go-requires-clause-settled c = settled-inside c.self.inside c.args.self.now c.self.view_is c.requires

pub announces-requires-clause-settled : goal.announces-requires-clause-settled
announces-requires-clause-settled c = settled-inside c.self.inside c.args.self.now c.self.view_is c.requires

pub returns-in-Some : goal.returns-in-Some
returns-in-Some c =
    let ring = c.self.inside.events.upcoming.ring in
    let frees = frees_of c.self.inside.engine c.self.inside.tree in
    c.is_some.ensures ∙ ap is_some c.closes_with.ensures ∙ lets-go ring (next_of frees).0 c.in-Some.x c.in-Some.ensures ∙ told-beside c.self.inside.events.upcoming frees
    ∙ ap (λ (o : Objects). is_event o.pool.ring (next_of (frees_in o)).0) c.self.view_is

pub returns-in-None : goal.returns-in-None
returns-in-None c =
    let ring = c.self.inside.events.upcoming.ring in
    let frees = frees_of c.self.inside.engine c.self.inside.tree in
    c.announces.ensures ∙ lets-none-go ring (next_of frees).0 c.in-None.ensures ∙ told-beside c.self.inside.events.upcoming frees
    ∙ ap (λ (o : Objects). is_event o.pool.ring (next_of (frees_in o)).0) c.self.view_is
