use Rattle.serving.specs.Stations.{ends}
use Rattle.serving.proofs.LinesLaws.{no_service}
use Rattle.serving.proofs.StationLaws.{begun_station}
use Rattle.serving.proofs.lines.serve_lines.Goals as goal

pub serve_begun-requires-clause-begun : goal.serve_begun-requires-clause-begun
serve_begun-requires-clause-begun g c = begun_station c.in-Ok.station c.in-Ok.ensures

pub returns-in-Err-clause-stops : goal.returns-in-Err-clause-stops
returns-in-Err-clause-stops g c =
    no_service c.args.path.now c.args.answers
    (ends (g.L.Link.told c.args.link.now) (g.C.Clock.told c.args.clock.now) (g.R.Routines.told c.args.routines.now) (g.K.Sink.held c.args.out.now))
