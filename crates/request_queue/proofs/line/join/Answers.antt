use Rattle.pool_arena.proofs.Steps.{mapped-at}
use Rattle.request_queue.specs.Linked.{joined}
use Rattle.request_queue.proofs.line.join.Goals as goal

pub returns-in-Some-clause-lines : goal.returns-in-Some-clause-lines
returns-in-Some-clause-lines c = rw c.or.ensures (mapped-at c.args.lines.now c.args.queue (joined c.args.entry) c.in-Some.line.now c.in-Some.ensures.value)
