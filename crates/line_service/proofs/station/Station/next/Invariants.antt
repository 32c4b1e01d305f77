use Rattle.std.specs.Prelude.{[]}
use Rattle.service_rules.specs.Stations.{Shows}
use Rattle.line_service.proofs.station.Station.next.Given as goal

abbrev pub invariant-steps : goal.invariant-steps
invariant-steps l = Shows [] l.initial.self l.self
