use Rattle.schedule_replay.proofs.StationLaws.{station_takes, station_not_asked, station_taken}
use Rattle.schedule_replay.proofs.over_station.StationMachine.offer.Goals as goal

pub returns-clause-ok : goal.returns-clause-ok
returns-clause-ok c = station_takes c.offer.result c.args.self.now c.offer.new.self c.args.given c.requires.waits c.offer.ensures.ok

pub returns-clause-not_asked : goal.returns-clause-not_asked
returns-clause-not_asked c = λ e. station_not_asked c.args.self.now c.requires.waits c.args.given (c.offer.ensures.not_asked.0 e)

pub returns-clause-taken : goal.returns-clause-taken
returns-clause-taken c = λ fd e. station_taken c.args.self.now c.requires.waits c.args.given c.args.self.now.host.pool fd ((c.offer.ensures.taken fd).0 e) (c.offer.ensures.strays fd e)
