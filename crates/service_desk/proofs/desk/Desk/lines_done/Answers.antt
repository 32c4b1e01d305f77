use Rattle.std.proofs.Common.{ap}
use Rattle.std.specs.FinMap.{entries}
use Rattle.service_desk.specs.Desks.{Desk}
use Rattle.service_desk.proofs.Fronting.{nothing-served}
use Rattle.service_desk.proofs.desk.Desk.lines_done.Goals as goal

pub returns-clause-due : goal.returns-clause-due
returns-clause-due c =
    nothing-served c.self.inside.connections.pairs (entries c.self.inside.kept.pairs) c.self.inside.runs.items c.args.session c.args.self.now.knowledge c.after_reading-due.result
    (ap (λ (d : Desk). d.knowledge) c.self.view_is) c.requires c.after_reading-due.ensures.known c.after_reading-due.ensures.unknown
