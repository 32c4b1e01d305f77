use Rattle.std.proofs.Common.{◌∷◌, subst, refl}
use Rattle.tree_specs.specs.declared.frame.FreeFrame.TheVariants.{Beginning}
use Rattle.destructors.specs.Frees.{Begins, frees_of}
use Rattle.destructors.proofs.Begins.{may-free}
use Rattle.object_pool.specs.Objects.{Objects}
use Rattle.object_pool.specs.Upcoming.{frees_beside}
use Rattle.object_pool.proofs.Beside.{begins-beside}
use Rattle.object_pool.proofs.Keeping.{begun}
use Rattle.object_pool.proofs.Numbers.{begins-next}
use Rattle.object_pool.proofs.Onward.{begun-works}
use Rattle.object_pool.proofs.Opening.{awaits-inside, room-begins}
use Rattle.object_pool.proofs.pool.ObjectPool.begin_free.Goals as goal

pub begin_free-requires-clause-awaiting : goal.begin_free-requires-clause-awaiting
begin_free-requires-clause-awaiting c = awaits-inside c.self.inside c.args.self.now c.self.view_is c.requires.awaiting

pub begin_free-requires-clause-room : goal.begin_free-requires-clause-room
begin_free-requires-clause-room c = room-begins (Beginning c.args.x) c.self.inside c.args.self.now c.self.view_is refl c.requires.room c.self.invariant

pub invariant_of-self : goal.invariant_of-self
invariant_of-self c = let e = c.begin_free.ensures in begun c.self.inside _ _ _ c.self.invariant e.refs e.same (begins-next _ _ _ e.begins) e.places e.kept e.room

pub returns-clause-begins : goal.returns-clause-begins
returns-clause-begins c =
    subst (λ (o : Objects). Begins (Beginning c.args.x ∷ o.works) o.pool (frees_beside c.self.inside.events.upcoming (frees_of c.begin_free.new.self c.begin_free.new.tree))) c.self.view_is
    (begins-beside c.self.inside.events.upcoming _ _ _ c.begin_free.ensures.begins)

pub returns-clause-at_work : goal.returns-clause-at_work
returns-clause-at_work c = begun-works (Beginning c.args.x) c.args.self.now.works c.args.self.now.pool _ (may-free c.args.x c.args.self.now.pool c.requires.unheld c.requires.object) c.requires.awaiting (returns-clause-begins c)
