use Rattle.std.proofs.Common.{◌≡◌, ◌<◌, None, sym, subst, ◌∙◌}
use Rattle.timers.specs.declared.change.Change.TheVariants.{Opens}
use Rattle.timers.specs.Heaps.{is_open, room_in, HasRoom}
use Rattle.timers.specs.Timetable.{Timetable}
use Rattle.timers.proofs.Keeping.{none-from, keeps-opened, room-opened, keeps-noted, unfilled}
use Rattle.timers.proofs.times.Times.add_context.Goals as goal

pub add-requires-clause-vacant : goal.add-requires-clause-vacant
add-requires-clause-vacant c = none-from _ (sym c.has.ensures ∙ c.if-has.false)

pub invariant_of-self : goal.invariant_of-self
invariant_of-self c =
    let absent = none-from _ (sym c.has.ensures ∙ c.if-has.false) in
    let h = c.self.inside.heaps in
    let none : c.self.inside.filled ≡ None = unfilled c.self.inside.filled (subst (λ (v : Timetable). 0 < v.spare) (sym c.self.view_is) c.requires.room) in (
      keeps-noted c.add.new.self c.self.inside.places.pairs c.self.inside.changes.items c.and-self-inside.result.items (Opens c.args.c) c.and-self-inside.ensures
          (keeps-opened h _ _ _ c.self.invariant.0 c.args.c c.add.new.self c.add.ensures absent),
      room-opened h _ _ _ c.self.invariant.0 c.args.c c.add.new.self c.add.ensures absent c.self.inside.places.spare (subst (HasRoom (room_in h) (is_open h) c.self.inside.places.spare) none c.self.invariant.1),
    )
