use Rattle.std.proofs.Common.{ap, ◌∙◌}
use Rattle.service_rules.specs.Stations.{StationView, asked_of}
use Rattle.line_service.proofs.Doing.{some-asked-now}
use Rattle.line_service.proofs.station.Station.question.Goals as goal

pub returns-clause-question : goal.returns-clause-question
returns-clause-question c = c.outside_question.ensures.question ∙ ap (λ (z : StationView). asked_of z) c.self.view_is

pub returns-clause-asked : goal.returns-clause-asked
returns-clause-asked c = λ some.
    some-asked-now c.args.self.now c.self.inside.desk.knowledge c.self.inside.host c.self.inside.desk.due c.self.inside.left c.self.view_is (λ b. b.now) c.outside_question.result c.self.invariant c.outside_question.ensures.question some (c.outside_question.ensures.waits some)
