use Rattle.std.proofs.Common.{Option, sym, ap, subst, ◌∙◌}
use Rattle.tree_specs.specs.declared.due.Due.{Due}
use Rattle.timers.specs.Timetable.{AreByObject, left_after}
use Rattle.timers.proofs.ByObject.{by-object-without}
use Rattle.timers.proofs.tests.next.Goals as goal

pub returns-in-Some-clause-numbers : goal.returns-in-Some-clause-numbers
returns-in-Some-clause-numbers c =
    subst AreByObject (sym (c.pop.ensures.dues ∙ ap (λ (o : Option Due). left_after o c.args.times.now.dues) c.in-Some.is))
    (by-object-without c.args.times.now.dues c.in-Some.due.object c.requires)
