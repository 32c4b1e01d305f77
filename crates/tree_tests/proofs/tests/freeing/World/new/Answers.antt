use Rattle.std.proofs.Common.{rules, arith}
use Rattle.destructors.proofs.Resting.{empty-rests}
use Rattle.tree_tests.proofs.tests.freeing.World.new.Goals as goal

pub returns : goal.returns
returns c = record { alone = search rules; waiting = search (rules, empty-rests 1 (omega arith)); refs = search rules }
