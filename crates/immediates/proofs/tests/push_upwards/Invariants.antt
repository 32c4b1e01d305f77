use Rattle.std.proofs.Common.{◌≡◌, ◌+◌, ◌≤◌}
use Rattle.immediates.proofs.tests.push_upwards.Given as goal

abbrev pub invariant-loop-before : goal.invariant-loop-before
invariant-loop-before l = record {
  spare : l.fn.soon.spare ≤ l.soon.spare + l.before;
  contexts : l.soon.contexts ≡ l.fn.soon.contexts;
}
