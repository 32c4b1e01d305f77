use Rattle.pool_arena.proofs.Steps.{mapped-at}
use Rattle.request_queue.specs.Linked.{left}
use Rattle.request_queue.proofs.line.leave.Goals as goal

pub returns-in-Some-clause-lines : goal.returns-in-Some-clause-lines
returns-in-Some-clause-lines c = rw (c.head_after.ensures, c.last_after.ensures) (mapped-at c.args.lines.now c.args.queue (left c.args.sides) c.in-Some.line.now c.in-Some.ensures.value)
