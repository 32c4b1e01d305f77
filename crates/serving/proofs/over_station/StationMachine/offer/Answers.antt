use Rattle.serving.proofs.StationLaws.{station_takes, station_took}
use Rattle.serving.proofs.over_station.StationMachine.offer.Goals as goal

pub returns-clause-takes : goal.returns-clause-takes
returns-clause-takes c = station_takes c.offer.result c.args.self.now c.offer.new.self c.args.input c.offer.ensures.ok

pub returns-clause-not_asked : goal.returns-clause-not_asked
returns-clause-not_asked c = c.offer.ensures.not_asked.0

pub returns-clause-taken : goal.returns-clause-taken
returns-clause-taken c = λ fd e. station_took c.args.self.now c.args.input fd ((c.offer.ensures.taken fd).0 e)

pub returns-clause-strays : goal.returns-clause-strays
returns-clause-strays c = c.offer.ensures.strays
