use Rattle.std.proofs.Common.{ap, ◌∙◌}
use Rattle.std.specs.FinMap as map
use Rattle.tree_specs.specs.Events.Queues.{run_as}
use Rattle.request_queue.specs.Register.{Register}
use Rattle.request_queue.specs.Linked.{queues_in}
use Rattle.request_queue.proofs.Linking.{Keeps, linked-keeps, keeps-linked, queues-kept, run-keeps}
use Rattle.request_queue.proofs.queues.Queues.run.Goals as goal

ran : (c : goal.After-set_running) → Keeps (map.get c.set_running.new.lines.pairs) (map.get c.self.inside.nodes.pairs) (run_as (queues_in c.self.inside.lines.pairs c.self.inside.nodes.pairs) c.args.q c.args.running)
ran c = run-keeps _ _ _ _ (linked-keeps _ _ c.self.invariant) c.args.q c.args.running c.set_running.ensures.lines

pub invariant_of-self : goal.invariant_of-self
invariant_of-self c = keeps-linked _ _ _ (ran c)

pub returns-clause-queues : goal.returns-clause-queues
returns-clause-queues c = queues-kept _ _ _ (ran c) ∙ ap (λ (r : Register). run_as r.queues c.args.q c.args.running) c.self.view_is
