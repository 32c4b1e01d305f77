use Rattle.service_desk.proofs.Hearing.{bytes-written}
use Rattle.service_desk.proofs.desk.Desk.hear_write.Goals as goal

pub returns-in-Number-clause-heard : goal.returns-in-Number-clause-heard
returns-in-Number-clause-heard c = bytes-written c.args.session c.in-Number.count c.args.reply.now c.args.self.now.knowledge c.send.new.self.knowledge c.after_writing.result c.in-Number.is c.send.ensures.knowledge c.after_writing.ensures
