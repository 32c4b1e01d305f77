use Rattle.std.proofs.Common.{ap, ◌∙◌}
use Rattle.tree_specs.specs.Events.Pending.{times_in}
use Rattle.timers.specs.declared.change.Change.TheVariants.{Closes}
use Rattle.timers.specs.Timetable.{Timetable}
use Rattle.timers.proofs.Keeping.{keeps-closed, room-closed, keeps-noted}
use Rattle.timers.proofs.times.Times.close.Goals as goal

pub invariant_of-self : goal.invariant_of-self
invariant_of-self c =
    let none = ap (λ (v : Timetable). times_in v.dues c.args.c) c.self.view_is ∙ c.requires in (
      keeps-noted c.remove.new.self c.self.inside.places.pairs c.self.inside.changes.items c.and-self-inside.result.items (Closes c.args.c) c.and-self-inside.ensures
          (keeps-closed c.self.inside.heaps _ _ _ c.self.invariant.0 c.args.c c.remove.new.self c.remove.ensures.first c.remove.ensures.others none),
      room-closed c.self.inside.heaps _ _ _ c.self.invariant.0 c.args.c c.remove.new.self c.remove.ensures.first c.remove.ensures.others none _ _ c.self.invariant.1,
    )
