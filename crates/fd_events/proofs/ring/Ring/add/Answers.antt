use Rattle.std.proofs.Common.{ℕ, Some, cond, nat_eq, ap, ◌∙◌}
use Rattle.std.specs.FinMap as map
use Rattle.pool_arena.proofs.Keeps.{get-with_entry}
use Rattle.pool_arena.proofs.Steps.{len-new}
use Rattle.tree_specs.specs.Events.Rotation.{is_watching, is_watched}
use Rattle.fd_events.specs.declared.change.Change.TheVariants.{Joins}
use Rattle.tree_specs.specs.Events.Contexts.{has_context}
use Rattle.fd_events.specs.Rotation.{Rotation}
use Rattle.fd_events.proofs.Keeping.{none-there, has-fewer, keeps-added, keeps-noted}
use Rattle.fd_events.proofs.ring.Ring.add.Goals as goal

pub add-requires-2-clause-vacant : goal.add-requires-2-clause-vacant
add-requires-2-clause-vacant c =
    none-there c.self.inside.lane c.self.inside.holders.pairs _ _ c.self.invariant c.args.x
    (ap (λ (r : Rotation). is_watching r.watches c.args.x) c.self.view_is ∙ c.requires.absent)

pub join-requires : goal.join-requires
join-requires c =
    has-fewer c.self.inside.lane c.self.inside.holders.pairs _ _ c.self.invariant c.args.c _
    (ap (λ (r : Rotation). has_context r.contexts c.args.c) c.self.view_is ∙ c.requires.known)
    (ap (λ m. map.len m) c.add-2.ensures.pairs ∙ len-new c.self.inside.lane.nodes.pairs c.args.x.0 _
    (none-there c.self.inside.lane c.self.inside.holders.pairs _ _ c.self.invariant c.args.x
    (ap (λ (r : Rotation). is_watching r.watches c.args.x) c.self.view_is ∙ c.requires.absent)))

pub invariant_of-self : goal.invariant_of-self
invariant_of-self c =
    keeps-noted _ _ c.self.inside.changes.items c.and-self-inside.result.items (Joins c.watch.result) c.and-self-inside.ensures
    (rw c.watch.ensures (keeps-added c.self.inside.lane c.self.inside.holders.pairs _ _ c.self.invariant c.args.x _ c.add-2.new.self c.join.new.self c.add.new.self.pairs
    (ap (λ (r : Rotation). is_watching r.watches c.args.x) c.self.view_is ∙ c.requires.absent)
    (ap (λ (r : Rotation). is_watched r.watches c.args.fd) c.self.view_is ∙ c.requires.free)
    c.add-2.ensures.pairs
    (ap (λ m. map.len m) c.add-2.ensures.pairs ∙ len-new c.self.inside.lane.nodes.pairs c.args.x.0 _
    (none-there c.self.inside.lane c.self.inside.holders.pairs _ _ c.self.invariant c.args.x
    (ap (λ (r : Rotation). is_watching r.watches c.args.x) c.self.view_is ∙ c.requires.absent)))
    c.join.ensures.lane c.join.ensures.watches c.join.ensures.len c.join.ensures.open_ones
    (λ q. ap (λ m. map.get m q) c.add.ensures.pairs ∙ get-with_entry _ _ (Some _) q ∙ ap (λ (n : ℕ). cond (nat_eq n q) (Some c.args.x.0) (map.get c.self.inside.holders.pairs q)) c.from.ensures)))
