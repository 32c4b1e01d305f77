use Rattle.std.proofs.Common.{refl}
use Rattle.tree_specs.specs.Events.Rotation.{closing}
use Rattle.object_pool.proofs.Keeping.{rewatched-agree}
use Rattle.object_pool.proofs.pool.ObjectPool.set_closing.Goals as goal

pub invariant_of-self : goal.invariant_of-self
invariant_of-self c = rewatched-agree c.self.inside c.set_closing.new.self closing c.args.x c.set_closing.ensures.upcoming (λ w. refl) c.set_closing.ensures.kept c.set_closing.ensures.contexts c.self.invariant
