use Rattle.std.proofs.Common.{◌+◌, ◌≤◌}
use Rattle.fd_events.proofs.tests.add_all.Given as goal

abbrev pub invariant-loop-fd : goal.invariant-loop-fd
invariant-loop-fd l = l.fn.ring.spare ≤ l.ring.spare + l.fd
