use Rattle.std.proofs.Common.{◌≡◌, ◌≤◌, is_some, false, sym, ap, subst, ◌∙◌}
use Rattle.pool_arena.proofs.Keeps.{removed_none}
use Rattle.tree_specs.specs.Events.Pending.{is_armed}
use Rattle.timers.specs.declared.change.Change.TheVariants.{Leaves}
use Rattle.timers.specs.Timetable.{Timetable}
use Rattle.timers.specs.Changes.{dues_of, contexts_of}
use Rattle.timers.specs.Heaps.{dues_in, room_in, is_open, AreKept}
use Rattle.timers.proofs.Comes.{nobody-gone}
use Rattle.timers.proofs.Keeping.{armed-noted, armed-here, can-leave, keeps-left, room-left, room-more, keeps-noted}
use Rattle.timers.proofs.times.Times.disarm.Goals as goal

-- ---- one that has no time

absent : (c : goal.In_default) → is_armed c.args.self.now.dues c.args.x ≡ false
absent c =
    ap (λ (v : Timetable). is_armed v.dues c.args.x) (sym c.self.view_is)
    ∙ armed-noted c.self.inside.heaps _ _ _ c.self.invariant.0 c.args.x ∙ ap is_some (sym c.take.ensures.value ∙ c.in_default.is)

pub invariant_of-self : goal.invariant_of-self
invariant_of-self c =
    let h = c.self.inside.heaps in
    let same_ones = c.take.ensures.pairs ∙ removed_none c.self.inside.places.pairs c.args.x.0 (sym c.take.ensures.value ∙ c.in_default.is) in (
      subst (λ m. AreKept (dues_in h) (is_open h) m (dues_of c.self.inside.changes.items) (contexts_of c.self.inside.changes.items)) (sym same_ones) c.self.invariant.0,
      room-more (room_in h) (is_open h) c.self.inside.places.spare c.take.new.self.spare c.self.inside.filled c.take.ensures.spare c.self.invariant.1,
    )

pub returns-in_default-clause-result : goal.returns-in_default-clause-result
returns-in_default-clause-result c = sym (absent c)

pub returns-in_default-clause-dues : goal.returns-in_default-clause-dues
returns-in_default-clause-dues c = ap (λ (v : Timetable). v.dues) c.self.view_is ∙ sym (nobody-gone c.args.self.now.dues c.args.x (absent c))

-- ---- one that has one

pub take_out-requires : goal.take_out-requires
take_out-requires c =
    can-leave c.self.inside.heaps _ _ _ c.self.invariant.0 c.args.x c.in-Some.place (sym c.take.ensures.value ∙ c.in-Some.is) c.take.new.self.pairs c.take.ensures.pairs

pub invariant_of-self-2 : goal.invariant_of-self-2
invariant_of-self-2 c =
    let found = sym c.take.ensures.value ∙ c.in-Some.is in
    let h = c.self.inside.heaps in
    let fewer = c.take.ensures.spare in (
      keeps-noted c.take_out.new.self c.take_out.new.places.pairs c.self.inside.changes.items c.and-self-inside.result.items (Leaves c.args.x) c.and-self-inside.ensures
          (keeps-left h _ _ _ c.self.invariant.0 c.args.x c.in-Some.place found c.take.new.self.pairs c.take.ensures.pairs
          c.take_out.new.self c.take_out.new.places.pairs c.take_out.ensures.left c.take_out.ensures.open c.take_out.ensures.beside),
      room-left h _ _ _ c.self.invariant.0 c.args.x c.in-Some.place found c.take.new.self.pairs c.take.ensures.pairs
          c.take_out.new.self c.take_out.new.places.pairs c.take_out.ensures.left c.take_out.ensures.open c.take_out.ensures.beside
          c.self.inside.places.spare c.take_out.new.places.spare c.self.inside.filled c.take_out.ensures.room
          (subst (λ n. c.self.inside.places.spare ≤ n) (sym c.take_out.ensures.spare) fewer) c.self.invariant.1,
    )

pub returns-clause-result : goal.returns-clause-result
returns-clause-result c =
    sym (armed-here c.self.inside.heaps _ _ _ c.self.invariant.0 c.args.x c.in-Some.place (sym c.take.ensures.value ∙ c.in-Some.is) c.take.new.self.pairs c.take.ensures.pairs)
    ∙ ap (λ (v : Timetable). is_armed v.dues c.args.x) c.self.view_is
