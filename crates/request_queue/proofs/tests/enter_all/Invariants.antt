use Rattle.std.proofs.Common.{◌+◌, ◌≤◌}
use Rattle.request_queue.specs.Register.{IsAbove}
use Rattle.request_queue.specs.Linked.{numbered}
use Rattle.request_queue.proofs.tests.enter_all.Given as goal

abbrev pub invariant-loop-e : goal.invariant-loop-e
invariant-loop-e l = record {
  newest : IsAbove (numbered l.e) l.queues.queues.entries;
  room : l.fn.queues.spare + l.fn.from ≤ l.queues.spare + l.e;
}
