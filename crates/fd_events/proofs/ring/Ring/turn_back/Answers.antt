use Rattle.std.proofs.Common.{◌≡◌, None, Some, is_some, sym, ap, ◌∙◌}
use Rattle.std.specs.FinMap as map
use Rattle.std.specs.Option.{option_map}
use Rattle.tree_specs.specs.Events.Rotation.{watch_of, unwatched, behind_all}
use Rattle.fd_events.specs.declared.change.Change.TheVariants.{Turns}
use Rattle.fd_events.specs.Rotation.{Rotation}
use Rattle.fd_events.specs.Linked.{watching}
use Rattle.fd_events.proofs.Holding.{unwatched-none}
use Rattle.fd_events.proofs.Keeping.{can-leave, fewer-left, keeps-turned, keeps-noted, left-by}
use Rattle.fd_events.proofs.ring.Ring.turn_back.Goals as goal

pub leave-requires : goal.leave-requires
leave-requires c = can-leave c.self.inside.lane c.self.inside.holders.pairs _ _ c.self.invariant c.args.x c.in-Some.node (sym c.node.ensures ∙ c.in-Some.is)

pub join-requires : goal.join-requires
join-requires c =
    let found : map.get c.self.inside.lane.nodes.pairs c.args.x.0 ≡ Some c.in-Some.node = sym c.node.ensures ∙ c.in-Some.is in
    fewer-left c.self.inside.lane c.self.inside.holders.pairs _ _ c.self.invariant c.args.x c.in-Some.node found c.leave.new.self
    (left-by c.self.inside.lane c.self.inside.holders.pairs _ _ c.self.invariant c.args.x c.in-Some.node found c.leave.new.self c.leave.ensures.lane)
    c.leave.ensures.watches c.leave.ensures.len c.leave.ensures.open_ones

pub invariant_of-self : goal.invariant_of-self
invariant_of-self c =
    let found : map.get c.self.inside.lane.nodes.pairs c.args.x.0 ≡ Some c.in-Some.node = sym c.node.ensures ∙ c.in-Some.is in
    keeps-noted _ _ c.self.inside.changes.items c.and-self-inside.result.items (Turns c.args.x) c.and-self-inside.ensures
    (keeps-turned c.self.inside.lane c.self.inside.holders.pairs _ _ c.self.invariant c.args.x c.in-Some.node found c.leave.new.self
    (left-by c.self.inside.lane c.self.inside.holders.pairs _ _ c.self.invariant c.args.x c.in-Some.node found c.leave.new.self c.leave.ensures.lane)
    c.leave.ensures.watches c.leave.ensures.len c.leave.ensures.open_ones
    c.join.new.self c.join.ensures.lane c.join.ensures.watches c.join.ensures.len c.join.ensures.open_ones)

pub returns-in_default-clause-watches : goal.returns-in_default-clause-watches
returns-in_default-clause-watches c =
    let none : watch_of c.args.self.now.watches c.args.x ≡ None =
    sym (ap (λ (r : Rotation). watch_of r.watches c.args.x) c.self.view_is) ∙ sym (c.self.invariant.held c.args.x.0)
    ∙ ap (option_map (watching c.args.x.0)) (sym c.node.ensures ∙ c.in_default.is) in
    sym (ap (behind_all (unwatched c.args.self.now.watches c.args.x)) none ∙ unwatched-none c.args.self.now.watches c.args.x (ap is_some none))
