use Rattle.serving.specs.Stations.{ends}
use Rattle.serving.proofs.LinesLaws.{serves_all, stops_all}
use Rattle.serving.proofs.StationLaws.{begun_servable}
use Rattle.serving.proofs.lines.serve_begun.Goals as goal

pub serve-requires : goal.serve-requires
serve-requires g c = begun_servable (g.M.Machine.course c.args.machine) c.requires.begun (g.L.Link.is_open c.args.link.now)

pub returns-clause-serves : goal.returns-clause-serves
returns-clause-serves g c =
    let before = ends (g.L.Link.told c.args.link.now) (g.C.Clock.told c.args.clock.now) (g.R.Routines.told c.args.routines.now) (g.K.Sink.held c.args.out.now) in
    let after = ends (g.L.Link.told c.serve.new.link) (g.C.Clock.told c.serve.new.clock) (g.R.Routines.told c.serve.new.routines) (g.K.Sink.held c.serve.new.out) in
    serves_all c.serve.result c.args.path.now c.args.answers (g.M.Machine.course c.args.machine) (g.M.Machine.course c.serve.new.machine) before after c.requires.begun c.requires.few c.serve.ensures.served

pub returns-clause-stops : goal.returns-clause-stops
returns-clause-stops g c =
    let before = ends (g.L.Link.told c.args.link.now) (g.C.Clock.told c.args.clock.now) (g.R.Routines.told c.args.routines.now) (g.K.Sink.held c.args.out.now) in
    let after = ends (g.L.Link.told c.serve.new.link) (g.C.Clock.told c.serve.new.clock) (g.R.Routines.told c.serve.new.routines) (g.K.Sink.held c.serve.new.out) in
    stops_all c.serve.result c.args.path.now c.args.answers (g.M.Machine.course c.args.machine) (g.M.Machine.course c.serve.new.machine) before after c.requires.begun c.serve.ensures.stops

pub returns-clause-link_cause : goal.returns-clause-link_cause
returns-clause-link_cause g c = c.serve.ensures.link_cause

pub returns-clause-write_cause : goal.returns-clause-write_cause
returns-clause-write_cause g c = c.serve.ensures.write_cause
