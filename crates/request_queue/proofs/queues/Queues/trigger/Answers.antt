use Rattle.std.proofs.Common.{◌≡◌, ℕ, cond, nat_eq, length, Some, sym, ap, subst, ◌∙◌}
use Rattle.std.specs.FinMap as map
use Rattle.std.specs.Option.{option_map}
use Rattle.pool_arena.specs.Arena.{get}
use Rattle.tree_specs.specs.declared.object.Obj.{Obj}
use Rattle.tree_specs.specs.Events.Queues.{Queues, head_of, triggered}
use Rattle.request_queue.specs.Register.{Register, turn_of, triggered_by}
use Rattle.request_queue.specs.Linked.{queues_in, turn_in, begun}
use Rattle.request_queue.proofs.Linking.{Keeps, linked-keeps, keeps-linked, queues-kept, IsNext, next-is, turn-kept, trigger-keeps, triggered-many}
use Rattle.request_queue.proofs.queues.Queues.trigger.Goals as goal

next : (c : goal.After-begin) → IsNext c.args.self.now.queues c.args.q c.in_ok-first.first
next c = next-is c.args.self.now.queues c.args.q c.in_ok-first.first (sym c.in_ok-first.ensures.next)

head : (c : goal.After-begin) → head_of (queues_in c.self.inside.lines.pairs c.self.inside.nodes.pairs) c.args.q ≡ Some (next c).entry
head c = ap (λ (r : Register). head_of r.queues c.args.q) c.self.view_is ∙ (next c).head

kept : (c : goal.After-begin) → Keeps (map.get c.self.inside.lines.pairs) (map.get c.begin.new.nodes.pairs) (triggered (queues_in c.self.inside.lines.pairs c.self.inside.nodes.pairs) (next c).entry)
kept c =
    trigger-keeps _ _ _ (linked-keeps _ _ c.self.invariant) c.args.q _ (next c).entry (head c)
    (subst (λ (z : Obj). (j : ℕ) → get c.begin.new.nodes j ≡ cond (nat_eq z.0 j) (option_map begun (get c.self.inside.nodes j)) (get c.self.inside.nodes j)) (sym (next c).object) c.begin.ensures.nodes)

pub invariant_of-self : goal.invariant_of-self
invariant_of-self c = keeps-linked _ _ _ (kept c)

pub returns-clause-turn : goal.returns-clause-turn
returns-clause-turn c =
    c.begin.ensures.turn ∙ ap (λ (z : Obj). option_map turn_in (get c.self.inside.nodes z.0)) (sym (next c).object)
    ∙ turn-kept _ _ _ (linked-keeps _ _ c.self.invariant) c.args.q (next c).entry (head c) ∙ sym (ap (option_map turn_of) (next c).next)

pub returns-clause-queues : goal.returns-clause-queues
returns-clause-queues c =
    queues-kept _ _ _ (kept c) ∙ ap (λ (r : Register). triggered r.queues (next c).entry) c.self.view_is
    ∙ sym (ap (λ o. triggered_by o c.args.self.now.queues) (next c).next)

pub returns-clause-many : goal.returns-clause-many
returns-clause-many c =
    ap (λ (qs : Queues). length qs.entries) (queues-kept _ _ _ (kept c))
    ∙ triggered-many _ _ _ (linked-keeps _ _ c.self.invariant) c.args.q (next c).entry (head c) ∙ ap (λ (r : Register). length r.queues.entries) c.self.view_is
