use Rattle.std.proofs.Common.{sym, ◌∙◌}
use Rattle.tree_specs.specs.Events.Queues.{next_of}
use Rattle.request_queue.proofs.Linking.{coming-is, next-entered, none-comes}
use Rattle.request_queue.proofs.queues.Queues.coming.Goals as goal

pub returns-in_err-first : goal.returns-in_err-first
returns-in_err-first c = c.from_residual.ensures ∙ none-comes c.args.q (next_of c.args.self.now.queues c.args.q) c.in_err-first.ensures.next

pub returns-in_err-entry : goal.returns-in_err-entry
returns-in_err-entry c =
    next-entered c.args.self.now.queues c.args.q c.in_ok-first.first c.in_ok-first.ensures.order (sym c.in_ok-first.ensures.next) (sym c.in_err-entry.ensures)

pub returns : goal.returns
returns c = coming-is c.args.self.now.queues c.args.q c.in_ok-first.first c.in_ok-entry.entry c.in_ok-first.ensures.order (sym c.in_ok-first.ensures.next) (sym c.in_ok-entry.ensures)
