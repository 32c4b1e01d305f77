use Rattle.std.proofs.Common.{◌≡◌, true, ap, subst, sym, ◌∙◌}
use Rattle.tree_specs.specs.Machine.View.{View, question_of}
use Rattle.host_core.specs.Promises.{Waits}
use Rattle.service_rules.specs.Stations.{StationView}
use Rattle.line_service.specs.Steps.{StepLaw, may_be_due}
use Rattle.line_service.proofs.Doing.{event-told, seen, told-may}
use Rattle.line_service.proofs.station.Station.step.Goals as goal

pub invariant_of-self : goal.invariant_of-self
invariant_of-self c = told-may c.self.inside.desk.due c.tell.new.desk.due c.self.inside.host c.next.new.self c.in-Some.event c.self.invariant c.in-Some.ensures c.tell.ensures.due

pub invariant_of-self-in-None : goal.invariant_of-self-in-None
invariant_of-self-in-None c = let n = c.in-None.ensures in subst (λ (v : View). may_be_due c.self.inside.desk.due (question_of v) ≡ true) (sym n.1) c.self.invariant

pub answer-requires : goal.answer-requires
answer-requires c = let n = c.in-None.ensures in subst Waits (sym n.1) n.0

pub returns-in-Some : goal.returns-in-Some
returns-in-Some c =
    event-told c.args.self.now c.self.inside.desk.knowledge c.self.inside.host c.self.inside.desk.due c.self.inside.left c.self.view_is c.tell.new.desk.knowledge c.next.new.self c.tell.new.desk.due c.in-Some.event c.tell.result
    c.self.invariant c.in-Some.ensures c.tell.ensures.shown c.tell.ensures.knowledge c.tell.ensures.due

pub returns-in-None : goal.returns-in-None
returns-in-None c =
    let n = c.in-None.ensures in
    subst (λ (z : StationView). StepLaw c.answer.result z c.answer.new.self) (ap (λ (v : View). seen c.self.inside.desk.knowledge v c.self.inside.desk.due c.self.inside.left) n.1 ∙ c.self.view_is) c.answer.ensures
