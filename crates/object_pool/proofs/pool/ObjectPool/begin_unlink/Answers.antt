use Rattle.std.proofs.Common.{◌∷◌, subst, refl}
use Rattle.tree_specs.specs.declared.frame.FreeFrame.TheVariants.{Unlinking}
use Rattle.destructors.specs.Frees.{Begins, frees_of}
use Rattle.destructors.proofs.Begins.{may-unlink}
use Rattle.object_pool.specs.Objects.{Objects}
use Rattle.object_pool.specs.Upcoming.{frees_beside}
use Rattle.object_pool.proofs.Beside.{begins-beside}
use Rattle.object_pool.proofs.Keeping.{begun}
use Rattle.object_pool.proofs.Numbers.{begins-next}
use Rattle.object_pool.proofs.Onward.{begun-works}
use Rattle.object_pool.proofs.Opening.{awaits-inside, room-begins}
use Rattle.object_pool.proofs.pool.ObjectPool.begin_unlink.Goals as goal

pub begin_unlink-requires-clause-awaiting : goal.begin_unlink-requires-clause-awaiting
begin_unlink-requires-clause-awaiting c = awaits-inside c.self.inside c.args.self.now c.self.view_is c.requires.awaiting

pub begin_unlink-requires-clause-room : goal.begin_unlink-requires-clause-room
begin_unlink-requires-clause-room c = room-begins (Unlinking c.args.owner c.args.x) c.self.inside c.args.self.now c.self.view_is refl c.requires.room c.self.invariant

pub invariant_of-self : goal.invariant_of-self
invariant_of-self c = let e = c.begin_unlink.ensures in begun c.self.inside _ _ _ c.self.invariant e.refs e.same (begins-next _ _ _ e.begins) e.places e.kept e.room

pub returns-clause-begins : goal.returns-clause-begins
returns-clause-begins c =
    subst (λ (o : Objects). Begins (Unlinking c.args.owner c.args.x ∷ o.works) o.pool (frees_beside c.self.inside.events.upcoming (frees_of c.begin_unlink.new.self c.begin_unlink.new.tree))) c.self.view_is
    (begins-beside c.self.inside.events.upcoming _ _ _ c.begin_unlink.ensures.begins)

pub returns-clause-at_work : goal.returns-clause-at_work
returns-clause-at_work c = begun-works (Unlinking c.args.owner c.args.x) c.args.self.now.works c.args.self.now.pool _ (may-unlink c.args.owner c.args.x c.args.self.now.pool c.requires.live c.requires.object) c.requires.awaiting (returns-clause-begins c)
