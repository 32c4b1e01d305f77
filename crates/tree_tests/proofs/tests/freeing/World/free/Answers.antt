use Rattle.std.proofs.Common.{rules}
use Rattle.tree_specs.specs.declared.frame.FreeFrame.TheVariants.{Beginning}
use Rattle.destructors.proofs.Begins.{any-room-for}
use Rattle.tree_tests.proofs.tests.freeing.World.free.Goals as goal

pub begin_free-requires-clause-room : goal.begin_free-requires-clause-room
begin_free-requires-clause-room g c = any-room-for (Beginning c.args.x) _ c.reserve.new.self (search rules)

pub begin_free-requires-clause-kept : goal.begin_free-requires-clause-kept
begin_free-requires-clause-kept g c = rw c.new-self.ensures (search rules)
