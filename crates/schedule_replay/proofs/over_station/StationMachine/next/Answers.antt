use Rattle.schedule_replay.proofs.StationLaws.{station_next}
use Rattle.schedule_replay.proofs.over_station.StationMachine.next.Goals as goal

pub returns : goal.returns
returns c = station_next _ _ _ c.next.ensures
