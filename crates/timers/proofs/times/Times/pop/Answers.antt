use Rattle.std.proofs.Common.{List, sym, ap, ◌∙◌}
use Rattle.tree_specs.specs.declared.due.Due.{Due}
use Rattle.tree_specs.specs.Events.Pending.{times_in, times_without}
use Rattle.timers.proofs.Contexts.{first-here, first-elsewhere}
use Rattle.timers.proofs.times.Times.pop.Goals as goal

pub returns-in-Some-clause-here : goal.returns-in-Some-clause-here
returns-in-Some-clause-here c =
    ap (λ (ds : List Due). times_in ds c.args.c) c.disarm.ensures.dues
    ∙ first-here c.args.self.now.dues c.args.c c.in-Some.due c.earliest-first.ensures.once (sym c.earliest-first.ensures.first ∙ c.in-Some.is)

pub returns-in-Some-clause-elsewhere : goal.returns-in-Some-clause-elsewhere
returns-in-Some-clause-elsewhere c =
    ap (λ (ds : List Due). times_without ds c.args.c) c.disarm.ensures.dues
    ∙ first-elsewhere c.args.self.now.dues c.args.c c.in-Some.due c.earliest-first.ensures.once (sym c.earliest-first.ensures.first ∙ c.in-Some.is)
