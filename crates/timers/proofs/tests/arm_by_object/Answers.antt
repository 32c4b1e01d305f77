use Rattle.std.proofs.Common.{sym, subst}
use Rattle.timers.specs.Timetable.{AreByObject}
use Rattle.timers.proofs.ByObject.{by-object-armed, free-by-object}
use Rattle.timers.proofs.tests.arm_by_object.Goals as goal

pub arm-requires-clause-number : goal.arm-requires-clause-number
arm-requires-clause-number c = free-by-object c.reserve.new.self.dues (record { 0 = c.args.x }) (subst AreByObject (sym c.reserve.ensures.dues) c.requires.numbers)

pub returns-clause-numbers : goal.returns-clause-numbers
returns-clause-numbers c =
    subst AreByObject (sym c.arm.ensures.dues) (by-object-armed c.reserve.new.self.dues (record { 0 = c.args.x }) c.args.time c.args.c (subst AreByObject (sym c.reserve.ensures.dues) c.requires.numbers))
