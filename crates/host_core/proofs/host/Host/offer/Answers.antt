use Rattle.std.proofs.Common.{Err, ◌≡◌, sym, ◌∙◌, ap}
use Rattle.std.proofs.lemmas.Result.{err_from_is_err_and}
use Rattle.host_core.proofs.host.Host.offer.Goals as goal

pub returns-in_err-check-clause-taken : goal.returns-in_err-check-clause-taken
returns-in_err-check-clause-taken c = λ fd.
    let why = err_from_is_err_and c.from_residual.result c.from_residual.ensures.1 in
    let same : c.from_residual.result ≡ Err c.in_err-check.field-0.0 = why.1 ∙ ap Err why.2 in
    let taken = c.check.ensures.taken fd in
    (λ e. taken.0 (c.in_err-check.was ∙ sym same ∙ e), λ e. same ∙ sym c.in_err-check.was ∙ taken.1 e)
