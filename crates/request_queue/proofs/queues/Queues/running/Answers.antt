use Rattle.std.proofs.Common.{sym, ap, ◌∙◌}
use Rattle.tree_specs.specs.Events.Queues.{running_of}
use Rattle.request_queue.specs.Register.{Register}
use Rattle.request_queue.specs.Linked.{running_in}
use Rattle.request_queue.proofs.Listing.{found-listed}
use Rattle.request_queue.proofs.queues.Queues.running.Goals as goal

pub returns : goal.returns
returns c =
    c.running.ensures ∙ sym (found-listed running_in c.self.inside.lines.pairs c.args.q.0)
    ∙ ap (λ (r : Register). running_of r.queues c.args.q) c.self.view_is
