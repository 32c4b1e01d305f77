use Rattle.std.proofs.Common.{[], length, ap, arith}
use Rattle.library_example.proofs.collect.Goals as goal

pub tells-smaller : goal.tells-smaller
tells-smaller c = let e = ap length (c.in-Some.ensures.1 []) in omega (arith, e)
