use Rattle.std.proofs.Common.{None, ap, ◌∙◌}
use Rattle.std.specs.FinMap as map
use Rattle.tree_specs.specs.Events.Queues.{has_entries, without_queue}
use Rattle.pool_arena.proofs.Keeps.{get-with_entry}
use Rattle.request_queue.specs.Register.{Register}
use Rattle.request_queue.specs.Linked.{queues_in}
use Rattle.request_queue.proofs.Linking.{Keeps, linked-keeps, keeps-linked, queues-kept, forget-keeps}
use Rattle.request_queue.proofs.queues.Queues.forget_queue.Goals as goal

forgotten : (c : goal.After-take) → Keeps (map.get c.take.new.self.pairs) (map.get c.self.inside.nodes.pairs) (without_queue (queues_in c.self.inside.lines.pairs c.self.inside.nodes.pairs) c.args.q)
forgotten c =
    forget-keeps _ _ _ _ (linked-keeps _ _ c.self.invariant) c.args.q (ap (λ (r : Register). has_entries r.queues c.args.q) c.self.view_is ∙ c.requires)
    (λ j. ap (λ m. map.get m j) c.take.ensures.pairs ∙ get-with_entry _ _ None j)

pub invariant_of-self : goal.invariant_of-self
invariant_of-self c = keeps-linked _ _ _ (forgotten c)

pub returns-clause-queues : goal.returns-clause-queues
returns-clause-queues c = queues-kept _ _ _ (forgotten c) ∙ ap (λ (r : Register). without_queue r.queues c.args.q) c.self.view_is
