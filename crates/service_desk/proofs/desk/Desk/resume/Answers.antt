use Rattle.std.proofs.Common.{Some, sym, ap, ◌∙◌}
use Rattle.service_rules.specs.declared.task.Run.{Run}
use Rattle.service_desk.proofs.Hearing.{own-resumed}
use Rattle.service_desk.proofs.desk.Desk.resume.Goals as goal

pub returns-in_ok-next-in-Some-Own-clause-heard : goal.returns-in_ok-next-in-Some-Own-clause-heard
returns-in_ok-next-in-Some-Own-clause-heard c =
    own-resumed c.args.self.now.knowledge c.hear.new.self.knowledge c.close_run.new.self.knowledge c.in-Some-Own.task c.in_ok-next-in-Some-Own.next c.args.reply.now
    (sym c.innermost.ensures ∙ c.in-Some-Own.is ∙ ap (λ (r : Run). Some r) c.in-Some-Own.field-0-is) c.in_ok-next-in-Some-Own.ensures.heard c.close_run.ensures.knowledge
