use Rattle.std.proofs.Common.{ap, ◌∙◌}
use Rattle.service_rules.specs.declared.task.Run.TheVariants.{Own}
use Rattle.service_rules.specs.Knowledge.{with_run}
use Rattle.line_service.proofs.Doing.{call-done}
use Rattle.line_service.proofs.station.Station.do_call.Goals as goal

pub returns : goal.returns
returns c =
    call-done c.args.self.now c.self.inside.desk.knowledge c.self.inside.host c.self.inside.desk.due c.self.inside.left c.self.view_is c.called.new.self.knowledge c.give.new.host c.called.new.self.due c.give.new.left c.args.due c.args.call
    c.requires.own c.requires.due c.requires.calls c.requires.sound c.in_ok-give.ensures.ok (c.called.ensures.knowledge ∙ ap (with_run (Own c.args.due)) c.reserve_run.ensures.knowledge) c.called.ensures.due
