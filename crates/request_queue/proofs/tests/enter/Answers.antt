use Rattle.request_queue.specs.Linked.{numbered}
use Rattle.request_queue.proofs.Order.{above-next, above-put}
use Rattle.request_queue.proofs.tests.enter.Goals as goal

pub returns-then-is_none-clause-newest : goal.returns-then-is_none-clause-newest
returns-then-is_none-clause-newest c = above-next c.args.queues.now.queues.entries (numbered c.args.e) c.requires.newest

pub returns-clause-newest : goal.returns-clause-newest
returns-clause-newest c = rw c.add_entry.ensures.queues (above-put c.args.queues.now.queues.entries (numbered c.args.e) _ c.requires.newest)
