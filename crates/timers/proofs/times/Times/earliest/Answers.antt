use Rattle.std.proofs.Common.{List, slice_get, ap, ◌∙◌}
use Rattle.tree_specs.specs.declared.due.Due.{Due}
use Rattle.tree_specs.specs.Events.Pending.{times_in}
use Rattle.timers.specs.Timetable.{Timetable}
use Rattle.timers.specs.Heaped.{by_number}
use Rattle.timers.specs.Heaps.{dues_in}
use Rattle.timers.proofs.Holding.{top-same}
use Rattle.timers.proofs.times.Times.earliest.Goals as goal

pub returns-clause-first : goal.returns-clause-first
returns-clause-first c =
    let ds = dues_in c.self.inside.heaps c.args.c.0 in
    let kept = c.self.invariant.0.heaps c.args.c.0 in
    c.top.ensures ∙ top-same (by_number ds) ds kept.heap kept.told ∙ ap (λ (l : List Due). slice_get l 0) (c.self.invariant.0.told c.args.c.0)
    ∙ ap (λ (v : Timetable). slice_get (times_in v.dues c.args.c) 0) c.self.view_is
