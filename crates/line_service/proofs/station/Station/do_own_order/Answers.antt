use Rattle.std.proofs.Common.{ap, ◌∙◌}
use Rattle.service_rules.specs.declared.task.Run.TheVariants.{Own}
use Rattle.service_rules.specs.Knowledge.{Knowledge, with_run}
use Rattle.service_desk.specs.Fronts.{line_done, ordering}
use Rattle.line_service.proofs.Doing.{line-call-done}
use Rattle.line_service.proofs.station.Station.do_own_order.Goals as goal

pub returns : goal.returns
returns c =
    line-call-done c.args.self.now c.self.inside.desk.knowledge c.self.inside.host c.self.inside.desk.due c.self.inside.left c.self.view_is c.line_called.new.self.knowledge c.give.new.host c.line_called.new.self.due c.give.new.left
    c.args.session c.args.length c.args.tag c.args.order c.order_call-call.result.0 c.order_call-call.result.1 c.requires.own c.requires.due c.requires.asks c.requires.names c.order_call-call.ensures.does c.order_call-call.ensures.sound c.in_ok-give.ensures.ok
    (c.line_called.ensures.knowledge ∙ ap (λ (k : Knowledge). with_run (Own (ordering c.args.session c.args.tag c.order_call-call.result.1)) (line_done c.args.session c.args.length k)) c.reserve_run.ensures.knowledge) c.line_called.ensures.due
