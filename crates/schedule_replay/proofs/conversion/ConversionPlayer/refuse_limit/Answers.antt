use Rattle.schedule_replay.proofs.ConvertLaws.{limited}
use Rattle.schedule_replay.proofs.conversion.ConversionPlayer.refuse_limit.Goals as goal

pub returns : goal.returns
returns c = limited c.args.self.now c.args.number c.requires
