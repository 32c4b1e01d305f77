use Rattle.std.proofs.Common.{true, Some, ap, ◌∙◌}
use Rattle.std.specs.FinMap as map
use Rattle.tree_specs.specs.Events.Queues.{running_of, with_queue}
use Rattle.pool_arena.proofs.Keeps.{get-with_entry}
use Rattle.request_queue.specs.Register.{Register}
use Rattle.request_queue.specs.Linked.{queues_in}
use Rattle.request_queue.proofs.Linking.{Keeps, linked-keeps, keeps-linked, queues-kept, no-line, new-keeps}
use Rattle.request_queue.proofs.queues.Queues.add_queue.Goals as goal

pub add-requires-clause-vacant : goal.add-requires-clause-vacant
add-requires-clause-vacant c = no-line _ _ _ (linked-keeps _ _ c.self.invariant) c.args.q (ap (λ (r : Register). running_of r.queues c.args.q) c.self.view_is ∙ c.requires.new)

added : (c : goal.After-add) → Keeps (map.get c.add.new.self.pairs) (map.get c.self.inside.nodes.pairs) (with_queue (queues_in c.self.inside.lines.pairs c.self.inside.nodes.pairs) c.args.q true)
added c =
    new-keeps _ _ _ _ (linked-keeps _ _ c.self.invariant) c.args.q (ap (λ (r : Register). running_of r.queues c.args.q) c.self.view_is ∙ c.requires.new)
    (λ j. ap (λ m. map.get m j) c.add.ensures.pairs ∙ get-with_entry _ _ (Some _) j)

pub invariant_of-self : goal.invariant_of-self
invariant_of-self c = keeps-linked _ _ _ (added c)

pub returns-clause-queues : goal.returns-clause-queues
returns-clause-queues c = queues-kept _ _ _ (added c) ∙ ap (λ (r : Register). with_queue r.queues c.args.q true) c.self.view_is
