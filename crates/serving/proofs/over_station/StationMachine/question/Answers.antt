use Rattle.serving.proofs.StationLaws.{station_asks_outside}
use Rattle.serving.proofs.over_station.StationMachine.question.Goals as goal

pub returns-clause-outside : goal.returns-clause-outside
returns-clause-outside c = station_asks_outside c.args.self.now
