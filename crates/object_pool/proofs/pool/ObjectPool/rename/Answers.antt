use Rattle.std.proofs.Common.{refl}
use Rattle.tree_specs.specs.Tree.Pool.{named_row}
use Rattle.object_pool.proofs.Keeping.{changed-agree}
use Rattle.object_pool.proofs.pool.ObjectPool.rename.Goals as goal

pub invariant_of-self : goal.invariant_of-self
invariant_of-self c =
    changed-agree (named_row c.args.name) c.self.inside c.set_name.new.self c.args.x c.set_name.ensures.rows c.set_name.ensures.works c.set_name.ensures.spare
    (λ r. refl) (λ r. refl) (λ r. refl) (λ r. refl) (λ r. refl) (λ r. refl) c.self.invariant
