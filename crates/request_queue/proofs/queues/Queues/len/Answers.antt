use Rattle.std.proofs.Common.{length, ap, ◌∙◌}
use Rattle.request_queue.specs.Register.{Register}
use Rattle.request_queue.specs.Linked.{entry_in}
use Rattle.request_queue.proofs.Listing.{many-listed}
use Rattle.request_queue.proofs.queues.Queues.len.Goals as goal

pub returns : goal.returns
returns c = c.len.ensures ∙ many-listed entry_in c.self.inside.nodes.pairs ∙ ap (λ (r : Register). length r.queues.entries) c.self.view_is
