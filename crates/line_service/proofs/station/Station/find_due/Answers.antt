use Rattle.std.proofs.Common.{Some, ap, sym, ◌∙◌}
use Rattle.tree_specs.specs.declared.question.Ask.{Ask}
use Rattle.line_service.proofs.Doing.{due-found}
use Rattle.line_service.proofs.station.Station.find_due.Goals as goal

pub returns-in-Some-Routine : goal.returns-in-Some-Routine
returns-in-Some-Routine c =
    let asked = rw c.in-Some-Routine.is at c.question.ensures.question in
    due-found c.args.self.now c.self.inside.desk.knowledge c.self.inside.host c.self.inside.desk.due c.self.inside.left c.self.view_is c.ask.new.self.knowledge c.ask.new.self.due c.in-Some-Routine.moment c.ask.result
    c.requires.own c.requires.waits c.requires.none (sym asked ∙ ap (λ (q : Ask). Some q) c.in-Some-Routine.field-0-is) c.ask.ensures.knowledge c.ask.ensures.due c.ask.ensures.same c.ask.ensures.same_due
