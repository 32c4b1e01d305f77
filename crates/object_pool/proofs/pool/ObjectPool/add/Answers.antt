use Rattle.std.proofs.Common.{◌≡◌, true, sym, subst}
use Rattle.object_pool.specs.Objects.{Objects}
use Rattle.object_pool.proofs.Keeping.{row-added}
use Rattle.object_pool.proofs.pool.ObjectPool.add.Goals as goal

pub invariant_of-self : goal.invariant_of-self
invariant_of-self c =
    row-added c.self.inside c.add_row.new.tree c.add_row.new.sums c.self.inside.event c.add_row.result c.args.kind c.args.owner c.args.size c.args.name
    c.add_row.ensures.spare c.self.invariant.event
    (subst (λ (o : Objects). o.ready ≡ true) (sym c.self.view_is) c.requires.ready) c.requires.object c.requires.no_context
    c.add_row.ensures.serial c.add_row.ensures.fresh c.add_row.ensures.rows c.add_row.ensures.works c.add_row.ensures.limits c.self.invariant
