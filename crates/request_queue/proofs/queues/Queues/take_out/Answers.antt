use Rattle.std.proofs.Common.{◌≡◌, None, sym, ap, subst, ◌∙◌}
use Rattle.std.specs.FinMap as map
use Rattle.std.specs.Option.{option_map}
use Rattle.pool_arena.specs.Arena.{get}
use Rattle.pool_arena.proofs.Keeps.{get-with_entry, removed_none}
use Rattle.tree_specs.specs.Events.Queues.{entry_of, without_entry}
use Rattle.request_queue.specs.Register.{Register}
use Rattle.request_queue.specs.Linked.{queues_in, entry_in, queue_of, running_in, listed, IsLinked}
use Rattle.request_queue.proofs.Listing.{found-listed}
use Rattle.request_queue.proofs.Linking.{Keeps, linked-keeps, keeps-linked, queues-kept}
use Rattle.request_queue.proofs.Leaving.{some-there, leave-keeps, none-leaves}
use Rattle.request_queue.proofs.queues.Queues.take_out.Goals as goal

-- ---- no entry

same : (c : goal.After-from_residual) → c.take.new.self.pairs ≡ c.self.inside.nodes.pairs
same c = c.take.ensures.pairs ∙ removed_none c.self.inside.nodes.pairs c.args.e.0 (sym c.in_err-entry.ensures.value)

pub invariant_of-self : goal.invariant_of-self
invariant_of-self c = subst (λ m. IsLinked c.self.inside.lines.pairs m) (sym (same c)) c.self.invariant

pub returns-in_err-entry-clause-result : goal.returns-in_err-entry-clause-result
returns-in_err-entry-clause-result c =
    c.from_residual.ensures ∙ ap (λ o. option_map queue_of (option_map entry_in o)) c.in_err-entry.ensures.value
    ∙ sym (ap (option_map queue_of) (found-listed entry_in c.self.inside.nodes.pairs c.args.e.0)) ∙ ap (λ (r : Register). option_map queue_of (entry_of r.queues c.args.e)) c.self.view_is

pub returns-in_err-entry-clause-queues : goal.returns-in_err-entry-clause-queues
returns-in_err-entry-clause-queues c =
    let stays = none-leaves c.self.inside.nodes.pairs c.args.e.0 (sym c.in_err-entry.ensures.value) in
    ap (queues_in c.self.inside.lines.pairs) (same c) ∙ (λ i. record { running = listed running_in c.self.inside.lines.pairs; entries = sym stays i })
    ∙ ap (λ (r : Register). without_entry r.queues c.args.e) c.self.view_is

-- ---- an entry

pub leave-requires : goal.leave-requires
leave-requires c = some-there _ _ _ (linked-keeps _ _ c.self.invariant) c.args.e.0 c.in_ok-entry.field-0 (sym c.in_ok-entry.ensures.value)

left : (c : goal.After-result-1) → Keeps (map.get c.leave.new.lines.pairs) (map.get c.set_link-2.new.nodes.pairs) (without_entry (queues_in c.self.inside.lines.pairs c.self.inside.nodes.pairs) c.args.e)
left c =
    leave-keeps _ _ _ (linked-keeps _ _ c.self.invariant) c.args.e.0 c.in_ok-entry.field-0 (sym c.in_ok-entry.ensures.value) _ _ (get c.take.new.self) (get c.set_link.new.nodes)
    (λ j. ap (λ m. map.get m j) c.take.ensures.pairs ∙ get-with_entry _ _ None j) c.set_link.ensures.nodes c.set_link-2.ensures.nodes c.leave.ensures.lines

pub invariant_of-self-2 : goal.invariant_of-self-2
invariant_of-self-2 c = keeps-linked _ _ _ (left c)

pub returns-clause-result : goal.returns-clause-result
returns-clause-result c =
    ap (λ o. option_map queue_of (option_map entry_in o)) c.in_ok-entry.ensures.value
    ∙ sym (ap (option_map queue_of) (found-listed entry_in c.self.inside.nodes.pairs c.args.e.0)) ∙ ap (λ (r : Register). option_map queue_of (entry_of r.queues c.args.e)) c.self.view_is

pub returns-clause-queues : goal.returns-clause-queues
returns-clause-queues c = queues-kept _ _ _ (left c) ∙ ap (λ (r : Register). without_entry r.queues c.args.e) c.self.view_is
