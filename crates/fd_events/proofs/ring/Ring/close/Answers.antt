use Rattle.std.proofs.Common.{ap, ◌∙◌}
use Rattle.tree_specs.specs.Events.Rotation.{ring_in}
use Rattle.fd_events.specs.declared.change.Change.TheVariants.{Closes}
use Rattle.fd_events.specs.Rotation.{Rotation}
use Rattle.fd_events.proofs.Keeping.{keeps-closed, keeps-noted}
use Rattle.fd_events.proofs.ring.Ring.close.Goals as goal

pub invariant_of-self : goal.invariant_of-self
invariant_of-self c =
    keeps-noted _ _ c.self.inside.changes.items c.and-self-inside.result.items (Closes c.args.c) c.and-self-inside.ensures
    (keeps-closed c.self.inside.lane c.self.inside.holders.pairs _ _ c.self.invariant c.args.c
    (ap (λ (r : Rotation). ring_in r.watches c.args.c) c.self.view_is ∙ c.requires) c.drop_lane.new.self c.drop_lane.ensures.lanes)
