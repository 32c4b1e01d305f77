use Rattle.std.proofs.Common.{refl}
use Rattle.tree_specs.specs.Events.Rotation.{flagged}
use Rattle.object_pool.proofs.Keeping.{rewatched-agree}
use Rattle.object_pool.proofs.pool.ObjectPool.set_flags.Goals as goal

pub invariant_of-self : goal.invariant_of-self
invariant_of-self c = rewatched-agree c.self.inside c.set_flags.new.self (flagged c.args.flags) c.args.x c.set_flags.ensures.upcoming (λ w. refl) c.set_flags.ensures.kept c.set_flags.ensures.contexts c.self.invariant
