use Rattle.schedule_replay.proofs.ConvertLaws.{ends-none, ends-cut, ends-whole}
use Rattle.schedule_replay.proofs.conversion.ConversionPlayer.finish.Goals as goal

pub returns-in-None : goal.returns-in-None
returns-in-None c = λ text short. rw c.no_line.ensures (ends-none c.args.self.now c.args.number c.args.cut c.requires.ready c.in-None.is text short)

pub returns-in-Some : goal.returns-in-Some
returns-in-Some c = λ text short.
    rw (c.no_line-in-Some.ensures, c.if-cut.true) (ends-cut c.args.self.now c.args.number c.in-Some._version c.in-Some.is (c.requires.within c.if-cut.true) text short)

pub returns-in-Some-2 : goal.returns-in-Some-2
returns-in-Some-2 c = λ text short. rw c.if-cut.false (ends-whole c.args.self.now c.args.number c.in-Some._version c.in-Some.is)
