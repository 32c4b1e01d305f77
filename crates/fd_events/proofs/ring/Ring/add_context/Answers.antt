use Rattle.std.proofs.Common.{is_some, sym, ap, ◌∙◌}
use Rattle.fd_events.specs.declared.change.Change.TheVariants.{Opens}
use Rattle.fd_events.proofs.Holding.{none}
use Rattle.fd_events.proofs.Keeping.{keeps-opened, keeps-noted}
use Rattle.fd_events.proofs.ring.Ring.add_context.Goals as goal

pub invariant_of-self : goal.invariant_of-self
invariant_of-self c =
    keeps-noted _ _ c.self.inside.changes.items c.and-self-inside.result.items (Opens c.args.c) c.and-self-inside.ensures
    (keeps-opened c.self.inside.lane c.self.inside.holders.pairs _ _ c.self.invariant c.args.c c.add_lane.new.self
    (none _ (ap is_some (sym c.get.ensures) ∙ sym c.is_some.ensures ∙ c.if-is_some.false)) c.add_lane.ensures.lanes)
