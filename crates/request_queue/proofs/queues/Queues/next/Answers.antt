use Rattle.std.proofs.Common.{ap, subst, ◌∙◌}
use Rattle.std.specs.Option.{option_map}
use Rattle.tree_specs.specs.Events.Queues.{next_of}
use Rattle.request_queue.specs.Register.{AreInOrder, Register, object_of}
use Rattle.request_queue.specs.Linked.{numbered}
use Rattle.request_queue.proofs.Linking.{linked-keeps, next-kept}
use Rattle.request_queue.proofs.queues.Queues.next.Goals as goal

pub returns-clause-order : goal.returns-clause-order
returns-clause-order c = subst (λ (r : Register). AreInOrder r.queues.entries) c.self.view_is (linked-keeps _ _ c.self.invariant).sorted

pub returns-clause-next : goal.returns-clause-next
returns-clause-next c =
    c.obj.ensures ∙ ap (option_map numbered) c.next_in.ensures ∙ next-kept _ _ _ (linked-keeps _ _ c.self.invariant) c.args.q
    ∙ ap (λ (r : Register). option_map object_of (next_of r.queues c.args.q)) c.self.view_is
