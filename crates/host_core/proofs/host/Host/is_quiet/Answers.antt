use Rattle.std.proofs.Common.{sym, ◌∙◌}
use Rattle.host_core.proofs.Offering.{question-view}
use Rattle.host_core.proofs.host.Host.is_quiet.Goals as goal

pub returns : goal.returns
returns c =
    let same = question-view c.args.self.now c.self.inside.active c.self.inside.parts c.self.invariant.0 c.self.invariant.1 c.self.view_is in
    (λ t. same ∙ c.is_quiet.ensures.0 t, λ e. c.is_quiet.ensures.1 (sym same ∙ e))
