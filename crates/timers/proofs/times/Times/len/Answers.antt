use Rattle.std.proofs.Common.{length, sym, ap, ◌∙◌}
use Rattle.tree_specs.specs.Events.Pending.{times_in}
use Rattle.timers.specs.Timetable.{Timetable}
use Rattle.timers.proofs.Sorted.{length-sorted}
use Rattle.timers.proofs.times.Times.len.Goals as goal

pub returns : goal.returns
returns c = c.len.ensures ∙ sym (length-sorted _) ∙ ap length (c.self.invariant.0.told c.args.c.0) ∙ ap (λ (v : Timetable). length (times_in v.dues c.args.c)) c.self.view_is
