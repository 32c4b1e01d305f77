use Rattle.std.proofs.Common.{◌≡◌, true, subst, sym}
use Rattle.tree_specs.specs.Tree.Pool.{is_row}
use Rattle.object_pool.specs.Objects.{Objects}
use Rattle.object_pool.proofs.Keeping.{placed-agree}
use Rattle.object_pool.proofs.pool.ObjectPool.place.Goals as goal

pub invariant_of-self : goal.invariant_of-self
invariant_of-self c =
    placed-agree c.self.inside c.place.new.self c.count_went.new.sums c.args.x c.args.owner
    (subst (λ (o : Objects). is_row o.pool.rows c.args.x ≡ true) (sym c.self.view_is) c.requires.is) c.place.ensures.rows c.place.ensures.works c.place.ensures.spare c.count_went.ensures.kept c.count_went.ensures.spare c.self.invariant
