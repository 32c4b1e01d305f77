use Rattle.serving.proofs.StationLaws.{station_nexts}
use Rattle.serving.proofs.over_station.StationMachine.next.Goals as goal

pub returns : goal.returns
returns c = station_nexts c.next.result c.args.self.now c.next.new.self c.next.ensures
