use Rattle.pool_arena.proofs.Steps.{mapped-at}
use Rattle.request_queue.specs.Linked.{run_by}
use Rattle.request_queue.proofs.line.set_running.Goals as goal

pub returns-in-Some-clause-lines : goal.returns-in-Some-clause-lines
returns-in-Some-clause-lines c = mapped-at c.args.lines.now c.args.queue (run_by c.args.running) c.in-Some.line.now c.in-Some.ensures.value
