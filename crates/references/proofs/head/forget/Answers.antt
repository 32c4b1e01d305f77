use Rattle.std.proofs.Common.{None, refl}
use Rattle.pool_arena.proofs.Steps.{gone-at}
use Rattle.references.proofs.head.forget.Goals as goal

pub returns-clause-heads : goal.returns-clause-heads
returns-clause-heads c = gone-at c.args.heads.now c.args.target c.take-head.new.self None c.take-head.ensures.pairs refl
