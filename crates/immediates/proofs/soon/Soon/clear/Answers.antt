use Rattle.std.proofs.Common.{rules, ◌≡◌, [], sym, ◌∙◌}
use Rattle.tree_specs.specs.Events.Pending.{soon_in}
use Rattle.immediates.proofs.Contexts.{none-without}
use Rattle.immediates.proofs.soon.Soon.clear.Goals as goal

pub returns-clause-coming : goal.returns-clause-coming
returns-clause-coming c =
    let none : soon_in c.loop-c.self.coming c.args.c ≡ [] = search rules in
    sym (none-without c.loop-c.self.coming c.args.c none) ∙ c.loop-c.invariant.elsewhere
