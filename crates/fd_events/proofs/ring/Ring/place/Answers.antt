use Rattle.std.proofs.Common.{◌≡◌, Some, ◌∷◌, [], sym, subst, ◌∙◌}
use Rattle.std.specs.Option.{option_map}
use Rattle.tree_specs.specs.Events.Rotation.{ring_in}
use Rattle.fd_events.specs.Rotation.{Rotation}
use Rattle.fd_events.specs.Linked.{numbered, watching, from_on, IsPlace}
use Rattle.fd_events.proofs.Places.{place-none, place-other, place-some}
use Rattle.fd_events.proofs.ring.Ring.place.Goals as goal

pub returns-in_err-node : goal.returns-in_err-node
returns-in_err-node c =
    subst (IsPlace (ring_in c.args.self.now.watches c.args.c) c.args.x) (sym c.from_residual.ensures)
    (subst (λ (r : Rotation). from_on (ring_in r.watches c.args.c) (Some c.args.x) ≡ []) c.self.view_is
    (place-none c.self.inside.lane c.self.inside.holders.pairs _ _ c.self.invariant c.args.c c.args.x (sym c.in_err-node.ensures)))

pub returns-then-not-is_in : goal.returns-then-not-is_in
returns-then-not-is_in c =
    subst (λ (r : Rotation). from_on (ring_in r.watches c.args.c) (Some c.args.x) ≡ []) c.self.view_is
    (place-other c.self.inside.lane c.self.inside.holders.pairs _ _ c.self.invariant c.args.c c.args.x c.in_ok-node.node (sym c.in_ok-node.ensures) (sym c.is_in.ensures ∙ c.if-not-is_in.true))

pub returns : goal.returns
returns c =
    subst (λ (r : Rotation). from_on (ring_in r.watches c.args.c) (Some c.args.x) ≡ watching c.args.x.0 c.in_ok-node.node ∷ from_on (ring_in r.watches c.args.c) (option_map numbered c.in_ok-node.node.sides.newer)) c.self.view_is
    (place-some c.self.inside.lane c.self.inside.holders.pairs _ _ c.self.invariant c.args.c c.args.x c.in_ok-node.node (sym c.in_ok-node.ensures) (sym c.is_in.ensures ∙ c.if-not-is_in.false))
    ∙ (λ i. sym c.watch.ensures i ∷ from_on (ring_in c.args.self.now.watches c.args.c) (sym c.obj.ensures i))
