use Rattle.line_service.proofs.Doing.{return-done}
use Rattle.line_service.proofs.station.Station.do_return.Goals as goal

pub returns : goal.returns
returns c =
    return-done c.args.self.now c.self.inside.desk.knowledge c.self.inside.host c.self.inside.desk.due c.self.inside.left c.self.view_is c.returned.new.self.knowledge c.give.new.host c.returned.new.self.due c.give.new.left c.args.due
    c.requires.own c.requires.due c.requires.returns c.in_ok-give.ensures.ok c.returned.ensures.knowledge c.returned.ensures.due
