use Rattle.std.proofs.Common.{refl}
use Rattle.tree_specs.specs.Tree.Pool.{hooked_row}
use Rattle.object_pool.proofs.Keeping.{changed-agree}
use Rattle.object_pool.proofs.pool.ObjectPool.hook.Goals as goal

pub invariant_of-self : goal.invariant_of-self
invariant_of-self c =
    changed-agree (hooked_row c.args.routine) c.self.inside c.set_hook.new.self c.args.x c.set_hook.ensures.rows c.set_hook.ensures.works c.set_hook.ensures.spare
    (λ r. refl) (λ r. refl) (λ r. refl) (λ r. refl) (λ r. refl) (λ r. refl) c.self.invariant
