use Rattle.std.proofs.Common.{sym, ◌∙◌, subst}
use Rattle.host_core.specs.Promises.{Waits}
use Rattle.host_core.proofs.Offering.{question-view, waits-some}
use Rattle.host_core.proofs.host.Host.question.Goals as goal

pub returns-clause-question : goal.returns-clause-question
returns-clause-question c = c.question.ensures ∙ sym (question-view c.args.self.now c.self.inside.active c.self.inside.parts c.self.invariant.0 c.self.invariant.1 c.self.view_is)

pub returns-clause-waits : goal.returns-clause-waits
returns-clause-waits c = λ some. subst Waits c.self.view_is (waits-some (λ b. b.now) c.question.result c.self.inside.active c.self.inside.parts c.self.invariant.0 c.question.ensures some)
