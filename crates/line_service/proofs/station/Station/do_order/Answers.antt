use Rattle.std.proofs.Common.{sym, ◌∙◌}
use Rattle.line_service.proofs.Served.{asks_served}
use Rattle.line_service.proofs.Doing.{strange-told}
use Rattle.line_service.proofs.station.Station.do_order.Goals as goal

pub strange_name-requires : goal.strange_name-requires
strange_name-requires c = asks_served c.args.session c.args.length c.args.tag c.args.order c.args.self.now.knows c.requires.asks

pub returns-in-Some : goal.returns-in-Some
returns-in-Some c =
    strange-told c.args.self.now c.self.inside.desk.knowledge c.self.inside.host c.self.inside.desk.due c.self.inside.left c.self.view_is c.refuse_name.new.self.knowledge c.refuse_name.new.self.due c.args.session c.args.length c.args.tag c.args.order c.in-Some.x c.refuse_name.result
    c.requires.due c.requires.asks (sym c.strange_name.ensures ∙ c.in-Some.is) c.refuse_name.ensures.same c.refuse_name.ensures.err c.refuse_name.ensures.due
