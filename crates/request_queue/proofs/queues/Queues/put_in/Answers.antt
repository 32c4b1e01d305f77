use Rattle.std.proofs.Common.{◌≡◌, ℕ, ◌+◌, ◌<◌, Some, cond, nat_eq, length, sym, ap, subst, ◌∙◌, arith}
use Rattle.std.specs.FinMap as map
use Rattle.pool_arena.proofs.Keeps.{get-with_entry}
use Rattle.pool_arena.proofs.Steps.{len-new}
use Rattle.tree_specs.specs.Events.Queues.{has_queue, with_entry}
use Rattle.linked_lanes.specs.declared.Link.TheVariants.{Newer}
use Rattle.request_queue.specs.Register.{Register, IsAbove}
use Rattle.request_queue.specs.Linked.{queues_in, entry_in}
use Rattle.request_queue.proofs.Listing.{many-listed}
use Rattle.request_queue.proofs.Linking.{Keeps, linked-keeps, keeps-linked, queues-kept, few-there}
use Rattle.request_queue.proofs.Adding.{none-there, add-keeps}
use Rattle.request_queue.proofs.queues.Queues.put_in.Goals as goal

pub add-requires-clause-vacant : goal.add-requires-clause-vacant
add-requires-clause-vacant c =
    c.set_link.ensures.nodes c.args.e.0
    ∙ none-there _ _ _ (linked-keeps _ _ c.self.invariant) c.args.e (Newer (Some c.args.e.0)) c.newest-older.result (subst (λ (r : Register). IsAbove c.args.e r.queues.entries) (sym c.self.view_is) c.requires.newest)

pub join-requires : goal.join-requires
join-requires c = λ l e.
    let few = few-there _ _ _ (linked-keeps _ _ c.self.invariant) c.args.entry.queue l e in
    let range : c.len-entries.result < 18446744073709551616 = c.len-entries.type_inv in
    let vacant =
    c.set_link.ensures.nodes c.args.e.0
    ∙ none-there _ _ _ (linked-keeps _ _ c.self.invariant) c.args.e (Newer (Some c.args.e.0)) c.newest-older.result (subst (λ (r : Register). IsAbove c.args.e r.queues.entries) (sym c.self.view_is) c.requires.newest) in
    let counted : c.len-entries.result ≡ length (queues_in c.self.inside.lines.pairs c.self.inside.nodes.pairs).entries + 1 =
    c.len-entries.ensures ∙ ap (λ m. map.len m) c.add.ensures.pairs ∙ len-new c.set_link.new.nodes.pairs c.args.e.0 _ vacant
    ∙ ap (λ (n : ℕ). n + 1) (c.set_link.ensures.len ∙ many-listed entry_in c.self.inside.nodes.pairs) in
    omega (arith, few, range, counted)

added : (c : goal.After-join) → Keeps (map.get c.join.new.lines.pairs) (map.get c.add.new.self.pairs) (with_entry (queues_in c.self.inside.lines.pairs c.self.inside.nodes.pairs) c.args.e c.args.entry)
added c =
    add-keeps _ _ _ _ _ (linked-keeps _ _ c.self.invariant) c.args.e c.args.entry c.newest-older.result
    (subst (λ (r : Register). IsAbove c.args.e r.queues.entries) (sym c.self.view_is) c.requires.newest)
    (ap (λ (r : Register). has_queue r.queues c.args.entry.queue) c.self.view_is ∙ c.requires.queue) c.newest-older.ensures
    (λ j. ap (λ m. map.get m j) c.add.ensures.pairs ∙ get-with_entry _ _ (Some _) j ∙ ap (cond (nat_eq c.args.e.0 j) _) (c.set_link.ensures.nodes j))
    c.join.ensures.lines

pub invariant_of-self : goal.invariant_of-self
invariant_of-self c = keeps-linked _ _ _ (added c)

pub returns-clause-queues : goal.returns-clause-queues
returns-clause-queues c = queues-kept _ _ _ (added c) ∙ ap (λ (r : Register). with_entry r.queues c.args.e c.args.entry) c.self.view_is
