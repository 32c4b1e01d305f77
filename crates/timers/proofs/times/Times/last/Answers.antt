use Rattle.std.proofs.Common.{List, refl, sym, ap, ◌∙◌}
use Rattle.tree_specs.specs.declared.due.Due.{Due}
use Rattle.tree_specs.specs.Words.Objects.{same}
use Rattle.tree_specs.specs.Events.Pending.{is_armed, times_in}
use Rattle.tree_specs.proofs.Tree.Numbered.{same-equal}
use Rattle.timers.specs.Timetable.{Timetable}
use Rattle.timers.specs.Heaped.{sorted}
use Rattle.timers.specs.Heaps.{dues_in}
use Rattle.timers.proofs.Sorted.{found-sorted}
use Rattle.timers.proofs.Holding.{armed-at, last-none}
use Rattle.timers.proofs.times.Times.last.Goals as goal

pub returns-clause-armed : goal.returns-clause-armed
returns-clause-armed c =
    let x = c.in_ok-last.field-0.object in
    let ds = dues_in c.self.inside.heaps c.args.c.0 in
    ap (λ (v : Timetable). is_armed (times_in v.dues c.args.c) x) (sym c.self.view_is) ∙ ap (λ (l : List Due). is_armed l x) (sym (c.self.invariant.0.told c.args.c.0))
    ∙ found-sorted (λ f. same f.object x) ds ∙ armed-at ds _ c.in_ok-last.field-0 x (sym c.last.ensures ∙ c.in_ok-last.was) (same-equal x x refl)

pub returns-in_err-last-clause-none : goal.returns-in_err-last-clause-none
returns-in_err-last-clause-none c = λ e.
    ap (λ (v : Timetable). times_in v.dues c.args.c) (sym c.self.view_is) ∙ sym (c.self.invariant.0.told c.args.c.0)
    ∙ ap sorted (last-none (dues_in c.self.inside.heaps c.args.c.0) (sym c.last.ensures ∙ c.in_err-last.was))
