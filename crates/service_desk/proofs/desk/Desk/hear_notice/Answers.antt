use Rattle.service_desk.proofs.Hearing.{notice-answered}
use Rattle.service_desk.proofs.desk.Desk.hear_notice.Goals as goal

pub returns-in_ok-answer-in-Free-clause-heard : goal.returns-in_ok-answer-in-Free-clause-heard
returns-in_ok-answer-in-Free-clause-heard c = notice-answered c.args.notice c.in-Free.answer c.args.at c.args.reply.now c.args.self.now.knowledge c.answer.new.self.knowledge c.after_notice.result c.in-Free.is c.in_ok-answer-in-Free.ensures.ok c.after_notice.ensures
