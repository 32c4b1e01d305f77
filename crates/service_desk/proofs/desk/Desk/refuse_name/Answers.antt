use Rattle.std.proofs.lemmas.Result.{on_ok_weaker}
use Rattle.service_desk.proofs.Fronting.{strange-served}
use Rattle.service_desk.proofs.desk.Desk.refuse_name.Goals as goal

pub returns-clause-same : goal.returns-clause-same
returns-clause-same c = on_ok_weaker c.answer_line.result (strange-served c.args.session c.args.length c.args.tag c.args.x c.args.self.now.knowledge c.answer_line.new.self.knowledge) c.answer_line.ensures.ok
