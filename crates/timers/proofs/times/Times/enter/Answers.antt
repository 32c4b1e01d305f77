use Rattle.std.proofs.Common.{◌≡◌, ◌<◌, None, sym, ap, subst, ◌∙◌}
use Rattle.tree_specs.specs.Events.Pending.{is_armed, is_numbered}
use Rattle.timers.specs.declared.change.Change.TheVariants.{Enters}
use Rattle.timers.specs.Timetable.{Timetable}
use Rattle.timers.specs.Heaps.{room_in, is_open, HasRoom}
use Rattle.timers.proofs.Keeping.{can-enter, keeps-entered, room-entered, keeps-noted, unfilled}
use Rattle.timers.proofs.times.Times.enter.Goals as goal

pub enter-requires-clause-can : goal.enter-requires-clause-can
enter-requires-clause-can c =
    can-enter c.self.inside.heaps _ _ _ c.self.invariant.0 c.args.due
    (ap (λ (v : Timetable). is_armed v.dues c.args.due.object) c.self.view_is ∙ c.requires.absent)
    (ap (λ (v : Timetable). is_numbered v.dues c.args.due.number) c.self.view_is ∙ c.requires.number)

pub invariant_of-self : goal.invariant_of-self
invariant_of-self c =
    let absent = ap (λ (v : Timetable). is_armed v.dues c.args.due.object) c.self.view_is ∙ c.requires.absent in
    let none : c.self.inside.filled ≡ None = unfilled c.self.inside.filled (subst (λ (v : Timetable). 0 < v.spare) (sym c.self.view_is) c.requires.room) in
    let h = c.self.inside.heaps in (
      keeps-noted c.enter.new.self c.enter.new.places.pairs c.self.inside.changes.items c.and-self-inside.result.items (Enters c.args.due) c.and-self-inside.ensures
          (keeps-entered h _ _ _ c.self.invariant.0 c.args.due absent c.enter.new.self c.enter.new.places.pairs c.enter.ensures.entered c.enter.ensures.open c.enter.ensures.beside),
      room-entered h _ _ _ c.self.invariant.0 c.args.due absent c.enter.new.self c.enter.new.places.pairs c.enter.ensures.entered c.enter.ensures.open c.enter.ensures.beside
          c.self.inside.places.spare c.enter.new.places.spare (subst (HasRoom (room_in h) (is_open h) c.self.inside.places.spare) none c.self.invariant.1),
    )
