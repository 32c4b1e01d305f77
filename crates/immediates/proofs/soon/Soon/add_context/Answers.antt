use Rattle.std.proofs.Common.{is_some, sym, ap, ◌∙◌}
use Rattle.immediates.specs.declared.change.Change.TheVariants.{Opens}
use Rattle.immediates.proofs.Keeping.{none-from, keeps-opened, keeps-noted}
use Rattle.immediates.proofs.soon.Soon.add_context.Goals as goal

pub invariant_of-self : goal.invariant_of-self
invariant_of-self c =
    keeps-noted _ _ c.self.inside.changes.items c.and-self-inside.result.items (Opens c.args.c) c.and-self-inside.ensures
    (keeps-opened c.self.inside.nodes.pairs c.self.inside.ends.lanes _ _ c.self.invariant c.args.c c.add_lane.new.self.lanes
    (none-from _ (ap is_some (sym c.get.ensures) ∙ sym c.is_some.ensures ∙ c.if-is_some.false)) c.add_lane.ensures.lanes)
