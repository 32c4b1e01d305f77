use Rattle.std.proofs.Common.{◌+◌, ◌≤◌, ◌∷◌, length, arith}
use Rattle.destructors.proofs.engine.wait.Goals as goal

pub push_free-requires : goal.push_free-requires
push_free-requires c = let room : length (c.in-Some.work ∷ c.args.tree.now.frees) ≤ length c.args.tree.now.frees + c.args.tree.now.room = rw c.in-Some.is at c.requires in omega (arith, room)
