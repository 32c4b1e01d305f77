use Rattle.object_pool.proofs.Keeping.{turned-agree}
use Rattle.object_pool.proofs.pool.ObjectPool.rotate.Goals as goal

pub invariant_of-self : goal.invariant_of-self
invariant_of-self c = turned-agree c.self.inside c.turn_back.new.self c.args.x c.turn_back.ensures.upcoming c.turn_back.ensures.kept c.turn_back.ensures.contexts c.self.invariant
