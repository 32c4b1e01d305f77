use Rattle.service_desk.proofs.Fronting.{formless-read, formless-done}
use Rattle.service_desk.proofs.desk.Desk.front_line.Goals as goal

pub returns-in_ok-refuse_form-in-Err-NoForm-clause-ok : goal.returns-in_ok-refuse_form-in-Err-NoForm-clause-ok
returns-in_ok-refuse_form-in-Err-NoForm-clause-ok c =
    formless-done c.args.session c.args.length c.args.self.now.knowledge c.refuse_form.new.self.knowledge
    (formless-read c.args.session c.args.length c.args.self.now.knowledge c.read.result c.in-Err-NoForm.field-0 c.in-Err-NoForm.is c.in-Err-NoForm.field-0-is c.read.ensures.reads)
    c.in_ok-refuse_form-in-Err-NoForm.ensures.ok
