use Rattle.std.proofs.Common.{subst}
use Rattle.destructors.specs.Engine.{IsPreparing}
use Rattle.destructors.specs.Frees.{Begins, frees_of, prepared}
use Rattle.object_pool.specs.Objects.{Objects}
use Rattle.object_pool.specs.Upcoming.{frees_beside}
use Rattle.object_pool.proofs.Beside.{begins-beside}
use Rattle.object_pool.proofs.Keeping.{begun}
use Rattle.object_pool.proofs.Numbers.{begins-next}
use Rattle.object_pool.proofs.Onward.{prepared-at_work}
use Rattle.object_pool.proofs.Opening.{awaits-inside, innermost-has}
use Rattle.object_pool.proofs.pool.ObjectPool.prepared.Goals as goal

pub prepared-requires-clause-preparing : goal.prepared-requires-clause-preparing
prepared-requires-clause-preparing c = innermost-has IsPreparing c.self.inside c.args.self.now c.self.view_is c.self.invariant c.requires.preparing

pub prepared-requires-clause-awaiting : goal.prepared-requires-clause-awaiting
prepared-requires-clause-awaiting c = awaits-inside c.self.inside c.args.self.now c.self.view_is c.requires.awaiting

pub invariant_of-self : goal.invariant_of-self
invariant_of-self c = let e = c.prepared.ensures in begun c.self.inside _ _ _ c.self.invariant e.refs e.same (begins-next _ _ _ e.begins) e.places e.kept e.room

pub returns-clause-begins : goal.returns-clause-begins
returns-clause-begins c =
    subst (λ (o : Objects). Begins (prepared o.works) o.pool (frees_beside c.self.inside.events.upcoming (frees_of c.prepared.new.self c.prepared.new.tree))) c.self.view_is
    (begins-beside c.self.inside.events.upcoming _ _ _ c.prepared.ensures.begins)

pub returns-clause-at_work : goal.returns-clause-at_work
returns-clause-at_work c = prepared-at_work c.args.self.now.works c.args.self.now.pool _ c.requires.preparing c.requires.awaiting (returns-clause-begins c)
