use Rattle.std.proofs.Common.{ap, ◌∙◌}
use Rattle.immediates.specs.declared.change.Change.TheVariants.{Closes}
use Rattle.tree_specs.specs.Events.Pending.{soon_in}
use Rattle.immediates.specs.Waiting.{Waiting}
use Rattle.immediates.proofs.Keeping.{keeps-closed, keeps-noted}
use Rattle.immediates.proofs.soon.Soon.close.Goals as goal

pub invariant_of-self : goal.invariant_of-self
invariant_of-self c =
    keeps-noted _ _ c.self.inside.changes.items c.and-self-inside.result.items (Closes c.args.c) c.and-self-inside.ensures
    (keeps-closed c.self.inside.nodes.pairs c.self.inside.ends.lanes _ _ c.self.invariant c.args.c
    (ap (λ (v : Waiting). soon_in v.coming c.args.c) c.self.view_is ∙ c.requires) c.drop_lane.new.self.lanes c.drop_lane.ensures.lanes)
