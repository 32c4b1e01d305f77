use Rattle.std.proofs.Common.{length, ap, ◌∙◌}
use Rattle.request_queue.specs.Register.{Register}
use Rattle.request_queue.specs.Linked.{running_in}
use Rattle.request_queue.proofs.Listing.{many-listed}
use Rattle.request_queue.proofs.queues.Queues.count.Goals as goal

pub returns : goal.returns
returns c = c.len.ensures ∙ many-listed running_in c.self.inside.lines.pairs ∙ ap (λ (r : Register). length r.queues.running) c.self.view_is
