use Rattle.std.proofs.Common.{◌∙◌}
use Rattle.tree_specs.specs.Events.Rotation.{ring_in}
use Rattle.fd_events.specs.Picking.{first_event}
use Rattle.fd_events.proofs.ring.Ring.first_ready.Goals as goal

pub returns-in-Stopped : goal.returns-in-Stopped
returns-in-Stopped c =
    c.first_coming.ensures _ _ c.self.invariant
    ∙ (λ i. first_event (ring_in (c.self.view_is i).watches c.args.c) (c.as_slice-ready.ensures.value i))
