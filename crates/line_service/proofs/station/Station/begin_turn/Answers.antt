use Rattle.std.proofs.Common.{OnOk, subst}
use Rattle.tree_specs.specs.declared.call.Call.TheVariants as call
use Rattle.tree_specs.specs.declared.object.Obj.{Obj}
use Rattle.tree_specs.specs.declared.question.Input.TheVariants as input
use Rattle.line_service.specs.Steps.{Gives}
use Rattle.line_service.proofs.Doing.{turn-begun}
use Rattle.line_service.proofs.station.Station.begin_turn.Goals as goal

pub returns : goal.returns
returns c =
    turn-begun c.args.self.now c.self.inside.desk.knowledge c.self.inside.host c.self.inside.desk.due c.self.inside.left c.self.view_is c.give.new.host c.give.new.left c.give.result c.self.invariant c.requires.quiet c.requires.waits c.requires.complete
    (subst (λ (o : Obj). OnOk c.give.result (Gives c.self.inside.host c.self.inside.left (input.Call (call.Turn o)) c.give.new.host c.give.new.left)) c.first_context.ensures c.give.ensures.ok)
    c.give.ensures.host c.give.ensures.left
