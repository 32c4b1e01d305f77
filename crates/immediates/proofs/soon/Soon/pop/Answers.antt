use Rattle.std.proofs.Common.{List, sym, ap, ◌∙◌}
use Rattle.tree_specs.specs.declared.coming.Coming.{Coming}
use Rattle.tree_specs.specs.Events.Pending.{soon_in, soon_without}
use Rattle.immediates.proofs.Contexts.{next-here, next-elsewhere}
use Rattle.immediates.proofs.soon.Soon.pop.Goals as goal

pub returns-in-Some-clause-here : goal.returns-in-Some-clause-here
returns-in-Some-clause-here c =
    ap (λ (xs : List Coming). soon_in xs c.args.c) c.remove.ensures.coming
    ∙ next-here c.args.self.now.coming c.args.c c.in-Some.x c.next-next.ensures.once (sym c.next-next.ensures.next ∙ c.in-Some.is)

pub returns-in-Some-clause-elsewhere : goal.returns-in-Some-clause-elsewhere
returns-in-Some-clause-elsewhere c =
    ap (λ (xs : List Coming). soon_without xs c.args.c) c.remove.ensures.coming
    ∙ next-elsewhere c.args.self.now.coming c.args.c c.in-Some.x c.next-next.ensures.once (sym c.next-next.ensures.next ∙ c.in-Some.is)
