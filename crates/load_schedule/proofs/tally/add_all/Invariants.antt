use Rattle.std.proofs.Common.{◌≡◌, ◌++◌, take}
use Rattle.load_schedule.specs.Tallies.{noted}
use Rattle.load_schedule.proofs.tally.add_all.Given as goal

abbrev pub invariant-loop-byte : goal.invariant-loop-byte
invariant-loop-byte l = noted l.history.items ≡ noted l.initial.history.items ++ take l.byte-index l.bytes
