use Rattle.load_schedule.proofs.LoadLaws.{load-front}
use Rattle.load_schedule.proofs.loading.load.Goals as goal

pub returns-in_default-clause-lines : goal.returns-in_default-clause-lines
returns-in_default-clause-lines g c = load-front c.args.number c.args.count (g.K.Sink.held c.args.out.now)

pub returns-in-Err-clause-lines : goal.returns-in-Err-clause-lines
returns-in-Err-clause-lines g c = load-front c.args.number c.args.count (g.K.Sink.held c.args.out.now)
