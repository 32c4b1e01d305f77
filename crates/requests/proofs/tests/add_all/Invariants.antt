use Rattle.std.proofs.Common.{◌+◌, ◌≤◌}
use Rattle.requests.proofs.tests.add_all.Given as goal

abbrev pub invariant-loop-before : goal.invariant-loop-before
invariant-loop-before l = l.fn.requests.spare ≤ l.requests.spare + l.before
