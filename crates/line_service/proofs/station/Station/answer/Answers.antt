use Rattle.std.proofs.Common.{[], ap, subst, sym, ◌∙◌}
use Rattle.tree_specs.specs.Machine.View.{question_of}
use Rattle.service_rules.specs.Stations.{IsAsked, Shows, StationView}
use Rattle.line_service.proofs.Stepping.{asked-own, asked-quiet}
use Rattle.line_service.proofs.Doing.{outside-asked}
use Rattle.line_service.proofs.station.Station.answer.Goals as goal

pub begin_turn-requires-clause-quiet : goal.begin_turn-requires-clause-quiet
begin_turn-requires-clause-quiet c = asked-quiet c.args.self.now.host c.requires (λ q e. sym c.in-Loop.is ∙ c.who_answers.ensures q (ap (λ (z : StationView). question_of z.host) c.self.view_is ∙ e))

pub go_on-requires-clause-own : goal.go_on-requires-clause-own
go_on-requires-clause-own c = asked-own c.args.self.now.host c.requires (λ q e. sym c.in-Own.is ∙ c.who_answers.ensures q (ap (λ (z : StationView). question_of z.host) c.self.view_is ∙ e))

pub returns-in-Outside : goal.returns-in-Outside
returns-in-Outside c =
    subst (λ (z : StationView). Shows [] c.args.self.now z × IsAsked z) c.self.view_is
    (outside-asked c.args.self.now c.self.inside.desk.knowledge c.self.inside.host c.self.inside.desk.due c.self.inside.left c.self.view_is c.self.invariant c.requires (λ q e. sym c.in-Outside.is ∙ c.who_answers.ensures q e))
