use Rattle.std.proofs.Common.{◌<◌}
use Rattle.timers.specs.Timetable.{AreByObject}
use Rattle.timers.proofs.tests.arm_at_draws.Given as goal

abbrev pub invariant-loop-before : goal.invariant-loop-before
invariant-loop-before l = record {
  state : l.drawn < 2147483648;
  numbers : AreByObject l.times.dues;
}
