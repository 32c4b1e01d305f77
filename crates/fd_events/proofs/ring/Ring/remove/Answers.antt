use Rattle.std.proofs.Common.{◌≡◌, ℕ, IsSome, None, Some, is_some, cond, nat_eq, sym, ap, ◌∙◌}
use Rattle.std.specs.FinMap as map
use Rattle.std.specs.Option.{option_map}
use Rattle.pool_arena.proofs.Keeps.{get-with_entry}
use Rattle.pool_arena.proofs.Steps.{len-gone}
use Rattle.tree_specs.specs.Events.Rotation.{watch_of}
use Rattle.fd_events.specs.declared.change.Change.TheVariants.{Leaves}
use Rattle.fd_events.specs.Rotation.{Rotation}
use Rattle.fd_events.specs.Changes.{watches_of}
use Rattle.fd_events.specs.Linked.{watching, context_in, lane_in}
use Rattle.fd_events.proofs.Holding.{unwatched-none, is_some-map}
use Rattle.fd_events.proofs.Keeping.{can-leave, context-there, sides-there, keeps-gone, keeps-noted}
use Rattle.fd_events.proofs.ring.Ring.remove.Goals as goal

-- ---- one that watches nothing

pub returns-in_err-node-clause-watch : goal.returns-in_err-node-clause-watch
returns-in_err-node-clause-watch c =
    c.from_residual.ensures ∙ ap (option_map (watching c.args.x.0)) c.in_err-node.ensures
    ∙ c.self.invariant.held c.args.x.0 ∙ ap (λ (r : Rotation). watch_of r.watches c.args.x) c.self.view_is

pub returns-in_err-node-clause-watches : goal.returns-in_err-node-clause-watches
returns-in_err-node-clause-watches c =
    sym (unwatched-none c.args.self.now.watches c.args.x (ap is_some (sym (returns-in_err-node-clause-watch c) ∙ c.from_residual.ensures)))

-- ---- one that watches

pub leave-requires : goal.leave-requires
leave-requires c = can-leave c.self.inside.lane c.self.inside.holders.pairs _ _ c.self.invariant c.args.x c.in_ok-node.node (sym c.in_ok-node.ensures)

pub invariant_of-self : goal.invariant_of-self
invariant_of-self c =
    let k = c.self.invariant in
    let ws = watches_of c.self.inside.changes.items in
    let found : map.get c.self.inside.lane.nodes.pairs c.args.x.0 ≡ Some c.in_ok-node.node = sym c.in_ok-node.ensures in
    let there : IsSome (map.get c.leave.new.self.nodes.pairs c.args.x.0) =
    sym (is_some-map (watching c.args.x.0) (map.get c.leave.new.self.nodes.pairs c.args.x.0)) ∙ ap is_some (c.leave.ensures.watches c.args.x.0)
    ∙ ap (λ o. is_some (option_map (watching c.args.x.0) o)) found in
    keeps-noted _ _ c.self.inside.changes.items c.and-self-inside.result.items (Leaves c.args.x) c.and-self-inside.ensures
    (keeps-gone c.self.inside.lane c.self.inside.holders.pairs _ _ k c.args.x c.in_ok-node.node found c.leave.new.self
    (c.leave.ensures.lane (context_in ws) (lane_in ws) c.args.x.0 k.lane (context-there c.self.inside.lane c.self.inside.holders.pairs _ _ k c.args.x c.in_ok-node.node found) (sides-there c.self.inside.lane c.self.inside.holders.pairs _ _ k c.args.x c.in_ok-node.node found))
    c.leave.ensures.watches c.leave.ensures.len c.leave.ensures.open_ones c.take-node.new.self c.take-holder.new.self.pairs
    (λ q. ap (λ m. map.get m q) c.take-node.ensures.pairs ∙ get-with_entry _ _ None q)
    (ap (λ m. map.len m) c.take-node.ensures.pairs ∙ len-gone c.leave.new.self.nodes.pairs c.args.x.0 there)
    (λ q. ap (λ m. map.get m q) c.take-holder.ensures.pairs ∙ get-with_entry _ _ None q ∙ ap (λ (n : ℕ). cond (nat_eq n q) None (map.get c.self.inside.holders.pairs q)) c.from.ensures))

pub returns-clause-watch : goal.returns-clause-watch
returns-clause-watch c =
    ap Some c.watch.ensures ∙ ap (option_map (watching c.args.x.0)) c.in_ok-node.ensures
    ∙ c.self.invariant.held c.args.x.0 ∙ ap (λ (r : Rotation). watch_of r.watches c.args.x) c.self.view_is
