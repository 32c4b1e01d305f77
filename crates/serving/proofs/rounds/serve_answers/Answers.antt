use Rattle.std.proofs.Common.{refl, arith, ◌+◌}
use Rattle.std.proofs.lemmas.Result.{err_from_is_err_and}
use Rattle.serving.specs.declared.stop.Stop.TheVariants as stops
use Rattle.serving.specs.Serving.{scene}
use Rattle.serving.proofs.ServingLaws.{serves_shown, serves_round}
use Rattle.serving.proofs.StoppingLaws.{stops_here, stops_later}
use Rattle.serving.proofs.rounds.serve_answers.Goals as goal

pub loop-given-init : goal.loop-given-init
loop-given-init g c =
    let course = g.M.Machine.course in
    let told = g.L.Link.told in
    let times = g.C.Clock.told c.args.clock.now in
    let acts = g.R.Routines.told c.args.routines.now in
    let held = g.K.Sink.held c.args.out.now in
    let first = c.in_ok-tell_events.ensures in
    record {
      served = serves_shown (scene (course c.args.machine.now) (told c.args.link.now) times acts held) (scene (course c.tell_events.new.machine) (told c.tell_events.new.link) times acts held) first.shows refl refl refl;
      asks = first.asks;
      servable = first.servable;
      within = omega arith;
      later = omega (arith, first.faults);
      more = omega arith;
    }

pub loop-given-preserved : goal.loop-given-preserved
loop-given-preserved g c =
    let course = g.M.Machine.course in
    let told = g.L.Link.told in
    let times = g.C.Clock.told in
    let acts = g.R.Routines.told in
    let held = g.K.Sink.held in
    let one = c.in_ok-answer_one.ensures in
    let next = c.in_ok-tell_events-2.ensures in
    let start = scene (course c.args.machine.now) (told c.args.link.now) (times c.args.clock.now) (acts c.args.routines.now) (held c.args.out.now) in
    let before = scene (course c.loop-given.machine) (told c.loop-given.link) (times c.loop-given.clock) (acts c.loop-given.routines) (held c.loop-given.out) in
    let answered = scene (course c.answer_one.new.machine) (told c.answer_one.new.link) (times c.answer_one.new.clock) (acts c.answer_one.new.routines) (held c.answer_one.new.out) in
    let shown = scene (course c.tell_events-in-loop-given.new.machine) (told c.tell_events-in-loop-given.new.link) (times c.answer_one.new.clock) (acts c.answer_one.new.routines) (held c.answer_one.new.out) in
    record {
      served = serves_round c.loop-given.given start before answered shown c.loop-given.invariant.served one.serves (serves_shown answered shown next.shows refl refl refl);
      asks = next.asks;
      servable = next.servable;
      within = omega (arith, c.loop-given-test.true);
      later = omega (arith, c.loop-given.invariant.later, one.link_cause.later, next.faults);
      more = omega (arith, c.loop-given.invariant.more, one.write_cause.later);
    }

pub returns-in_err-answer_one-clause-stops : goal.returns-in_err-answer_one-clause-stops
returns-in_err-answer_one-clause-stops g c =
    let course = g.M.Machine.course in
    let told = g.L.Link.told in
    let times = g.C.Clock.told in
    let acts = g.R.Routines.told in
    let held = g.K.Sink.held in
    let p = err_from_is_err_and c.from_residual-in_err-answer_one.result c.from_residual-in_err-answer_one.ensures.1 in
    let start = scene (course c.args.machine.now) (told c.args.link.now) (times c.args.clock.now) (acts c.args.routines.now) (held c.args.out.now) in
    let before = scene (course c.loop-given.machine) (told c.loop-given.link) (times c.loop-given.clock) (acts c.loop-given.routines) (held c.loop-given.out) in
    let after = scene (course c.answer_one.new.machine) (told c.answer_one.new.link) (times c.answer_one.new.clock) (acts c.answer_one.new.routines) (held c.answer_one.new.out) in
    rw (p.1, p.2) (stops_later c.in_err-answer_one.field-0.0 c.loop-given.given 0 c.args.answers start before after (omega (arith, c.loop-given.invariant.within))
    c.loop-given.invariant.served c.in_err-answer_one.ensures.stops)

pub returns-in_err-tell_events-clause-stops : goal.returns-in_err-tell_events-clause-stops
returns-in_err-tell_events-clause-stops g c =
    let course = g.M.Machine.course in
    let told = g.L.Link.told in
    let times = g.C.Clock.told in
    let acts = g.R.Routines.told in
    let held = g.K.Sink.held in
    let start = scene (course c.args.machine.now) (told c.args.link.now) (times c.args.clock.now) (acts c.args.routines.now) (held c.args.out.now) in
    let shown = scene (course c.tell_events.new.machine) (told c.tell_events.new.link) (times c.args.clock.now) (acts c.args.routines.now) (held c.args.out.now) in
    let p = err_from_is_err_and c.from_residual.result c.from_residual.ensures.1 in
    rw (p.1, p.2) (stops_later stops.Memory 0 0 c.args.answers start shown shown (omega arith)
    (serves_shown start shown c.in_err-tell_events.ensures.shows refl refl refl) (stops_here shown))

pub returns-in_err-tell_events-2-clause-stops : goal.returns-in_err-tell_events-2-clause-stops
returns-in_err-tell_events-2-clause-stops g c =
    let course = g.M.Machine.course in
    let told = g.L.Link.told in
    let times = g.C.Clock.told in
    let acts = g.R.Routines.told in
    let held = g.K.Sink.held in
    let start = scene (course c.args.machine.now) (told c.args.link.now) (times c.args.clock.now) (acts c.args.routines.now) (held c.args.out.now) in
    let before = scene (course c.loop-given.machine) (told c.loop-given.link) (times c.loop-given.clock) (acts c.loop-given.routines) (held c.loop-given.out) in
    let answered = scene (course c.answer_one.new.machine) (told c.answer_one.new.link) (times c.answer_one.new.clock) (acts c.answer_one.new.routines) (held c.answer_one.new.out) in
    let shown = scene (course c.tell_events-in-loop-given.new.machine) (told c.tell_events-in-loop-given.new.link) (times c.answer_one.new.clock) (acts c.answer_one.new.routines) (held c.answer_one.new.out) in
    let p = err_from_is_err_and c.from_residual-in_err-tell_events-2.result c.from_residual-in_err-tell_events-2.ensures.1 in
    rw (p.1, p.2) (stops_later stops.Memory (c.loop-given.given + 1) 0 c.args.answers start shown shown (omega (arith, c.loop-given-test.true))
    (serves_round c.loop-given.given start before answered shown c.loop-given.invariant.served c.in_ok-answer_one.ensures.serves
    (serves_shown answered shown c.in_err-tell_events-2.ensures.shows refl refl refl))
    (stops_here shown))
