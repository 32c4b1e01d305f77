use Rattle.std.proofs.Common.{sym, ap, ◌∙◌}
use Rattle.std.specs.Option.{option_map}
use Rattle.tree_specs.specs.Events.Queues.{entry_of}
use Rattle.request_queue.specs.Register.{Register}
use Rattle.request_queue.specs.Linked.{entry_in}
use Rattle.request_queue.proofs.Listing.{found-listed}
use Rattle.request_queue.proofs.queues.Queues.entry.Goals as goal

pub returns-in-None : goal.returns-in-None
returns-in-None c =
    ap (option_map entry_in) c.in-None.ensures ∙ sym (found-listed entry_in c.self.inside.nodes.pairs c.args.e.0)
    ∙ ap (λ (r : Register). entry_of r.queues c.args.e) c.self.view_is

pub returns-in-Some : goal.returns-in-Some
returns-in-Some c =
    ap (option_map entry_in) c.in-Some.ensures ∙ sym (found-listed entry_in c.self.inside.nodes.pairs c.args.e.0)
    ∙ ap (λ (r : Register). entry_of r.queues c.args.e) c.self.view_is
