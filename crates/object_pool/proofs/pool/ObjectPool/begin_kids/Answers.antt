use Rattle.std.proofs.Common.{◌∷◌, subst, ap, ◌∙◌}
use Rattle.tree_specs.specs.declared.frame.FreeFrame.TheVariants.{Looping}
use Rattle.tree_specs.specs.declared.frame.Purpose.TheVariants.{Emptying}
use Rattle.destructors.specs.Frees.{Begins, frees_of}
use Rattle.destructors.proofs.Begins.{may-empty}
use Rattle.object_pool.specs.Objects.{Objects}
use Rattle.object_pool.specs.Upcoming.{frees_beside}
use Rattle.object_pool.proofs.Beside.{begins-beside}
use Rattle.object_pool.proofs.Keeping.{begun}
use Rattle.object_pool.proofs.Numbers.{begins-next}
use Rattle.object_pool.proofs.Onward.{begun-works}
use Rattle.object_pool.proofs.Opening.{awaits-inside, room-ready}
use Rattle.object_pool.proofs.pool.ObjectPool.begin_kids.Goals as goal

pub begin_kids-requires-clause-awaiting : goal.begin_kids-requires-clause-awaiting
begin_kids-requires-clause-awaiting c = awaits-inside c.self.inside c.args.self.now c.self.view_is c.requires.awaiting

pub begin_kids-requires-clause-room : goal.begin_kids-requires-clause-room
begin_kids-requires-clause-room c = room-ready (Looping c.args.x Emptying) c.self.inside (ap (λ (o : Objects). o.ready) c.self.view_is ∙ c.requires.ready) c.self.invariant

pub invariant_of-self : goal.invariant_of-self
invariant_of-self c = let e = c.begin_kids.ensures in begun c.self.inside _ _ _ c.self.invariant e.refs e.same (begins-next _ _ _ e.begins) e.places e.kept e.room

pub returns-clause-begins : goal.returns-clause-begins
returns-clause-begins c =
    subst (λ (o : Objects). Begins (Looping c.args.x Emptying ∷ o.works) o.pool (frees_beside c.self.inside.events.upcoming (frees_of c.begin_kids.new.self c.begin_kids.new.tree))) c.self.view_is
    (begins-beside c.self.inside.events.upcoming _ _ _ c.begin_kids.ensures.begins)

pub returns-clause-at_work : goal.returns-clause-at_work
returns-clause-at_work c = begun-works (Looping c.args.x Emptying) c.args.self.now.works c.args.self.now.pool _ (may-empty c.args.x c.args.self.now.pool) c.requires.awaiting (returns-clause-begins c)
