use Rattle.schedule_replay.proofs.StageLaws.{in-front}
use Rattle.schedule_replay.proofs.stage.StagePlayer.text.Goals as goal

pub returns-in-Header-clause-front : goal.returns-in-Header-clause-front
returns-in-Header-clause-front c = in-front c.args.self.now

pub returns-in-Pool-clause-front : goal.returns-in-Pool-clause-front
returns-in-Pool-clause-front c = in-front c.args.self.now

pub returns-in-Service-clause-front : goal.returns-in-Service-clause-front
returns-in-Service-clause-front c = in-front c.args.self.now
