use Rattle.std.proofs.Common.{◌≤◌, ◌-◌}
use Rattle.serving.specs.Machines.{Asks, IsServable}
use Rattle.serving.specs.Serving.{Serves, scene}
use Rattle.serving.proofs.rounds.serve_answers.Given as goal

abbrev pub invariant-loop-given : goal.invariant-loop-given
invariant-loop-given g l =
    let course = g.M.Machine.course in
    let told = g.L.Link.told in
    let times = g.C.Clock.told in
    let acts = g.R.Routines.told in
    let held = g.K.Sink.held in
    record {
      served : Serves l.given (scene (course l.fn.machine) (told l.fn.link) (times l.fn.clock) (acts l.fn.routines) (held l.fn.out))
          (scene (course l.machine) (told l.link) (times l.clock) (acts l.routines) (held l.out));
      asks : Asks (g.M.Machine.asked l.machine) (g.M.Machine.wanted l.machine) (course l.machine);
      servable : IsServable (course l.machine) (g.L.Link.is_open l.link);
      within : l.given ≤ l.answers;
      later : g.L.Link.faults l.fn.link ≤ g.L.Link.faults l.link;
      more : g.K.Sink.faults l.fn.out ≤ g.K.Sink.faults l.out;
    }

abbrev pub decreases-loop-given : goal.decreases-loop-given
decreases-loop-given g l = l.answers - l.given
