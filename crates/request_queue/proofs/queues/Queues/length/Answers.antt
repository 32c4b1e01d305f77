use Rattle.std.proofs.Common.{ap, ◌∙◌}
use Rattle.tree_specs.specs.Events.Queues.{length_of}
use Rattle.request_queue.specs.Register.{Register}
use Rattle.request_queue.specs.Linked.{Ends}
use Rattle.request_queue.proofs.Lanes.{length-lane}
use Rattle.request_queue.proofs.queues.Queues.length.Goals as goal

pub returns : goal.returns
returns c =
    c.length.ensures ∙ ap (λ (e : Ends). e.length) (c.self.invariant.ends c.args.q) ∙ length-lane _ c.args.q
    ∙ ap (λ (r : Register). length_of r.queues c.args.q) c.self.view_is
