use Rattle.std.proofs.Common.{rules}
use Rattle.tree_specs.specs.declared.frame.FreeFrame.TheVariants.{Beginning}
use Rattle.destructors.proofs.Begins.{any-room-for}
use Rattle.destructors.proofs.Settling.{kept-same}
use Rattle.tree_tests.proofs.tests.freeing.World.nest.Goals as goal

pub begin_free-requires-clause-room : goal.begin_free-requires-clause-room
begin_free-requires-clause-room g c = any-room-for (Beginning c.args.x) _ c.reserve.new.self (search rules)

pub begin_free-requires-clause-kept : goal.begin_free-requires-clause-kept
begin_free-requires-clause-kept g c = kept-same c.step.new.self c.step.new.tree c.reserve.new.self c.reserve.ensures.works c.step.ensures.kept
