use Rattle.schedule_replay.proofs.StationLaws.{station_waits}
use Rattle.schedule_replay.proofs.over_station.StationMachine.question.Goals as goal

pub returns-clause-waits : goal.returns-clause-waits
returns-clause-waits c = λ some. station_waits _ (c.question.ensures.asked some)
