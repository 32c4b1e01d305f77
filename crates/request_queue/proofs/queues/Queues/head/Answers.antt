use Rattle.std.proofs.Common.{ap, ◌∙◌}
use Rattle.std.specs.Option.{option_map}
use Rattle.tree_specs.specs.Events.Queues.{head_of}
use Rattle.request_queue.specs.Register.{Register, object_of}
use Rattle.request_queue.specs.Linked.{numbered}
use Rattle.request_queue.proofs.Linking.{linked-keeps, head-kept}
use Rattle.request_queue.proofs.queues.Queues.head.Goals as goal

pub returns : goal.returns
returns c =
    c.obj.ensures ∙ ap (option_map numbered) c.oldest.ensures ∙ head-kept _ _ _ (linked-keeps _ _ c.self.invariant) c.args.q
    ∙ ap (λ (r : Register). option_map object_of (head_of r.queues c.args.q)) c.self.view_is
