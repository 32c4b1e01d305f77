use Rattle.std.proofs.Common.{length, sym, ap, ◌∙◌}
use Rattle.tree_specs.specs.Events.Rotation.{ring_in}
use Rattle.fd_events.specs.Rotation.{Rotation}
use Rattle.fd_events.proofs.Places.{length-none, length-some}
use Rattle.fd_events.proofs.ring.Ring.len.Goals as goal

pub returns-in-None : goal.returns-in-None
returns-in-None c =
    length-none c.self.inside.lane c.self.inside.holders.pairs _ _ c.self.invariant c.args.c (sym c.get.ensures ∙ c.in-None.is)
    ∙ ap (λ (r : Rotation). length (ring_in r.watches c.args.c)) c.self.view_is

pub returns-in-Some : goal.returns-in-Some
returns-in-Some c =
    length-some c.self.inside.lane c.self.inside.holders.pairs _ _ c.self.invariant c.args.c c.in-Some.ends (sym c.get.ensures ∙ c.in-Some.is)
    ∙ ap (λ (r : Rotation). length (ring_in r.watches c.args.c)) c.self.view_is
