use Rattle.std.proofs.Common.{Err, refl, sym, ◌∙◌, ap}
use Rattle.std.proofs.lemmas.Result.{err_from_is_err_and}
use Rattle.host_core.specs.declared.fault.OfferFault.{OfferFault}
use Rattle.line_service.proofs.Offering.{fault-passed, fault-was, refused-taken}
use Rattle.line_service.proofs.runs.prepare.Goals as goal

pub returns-in_err-check-clause-taken : goal.returns-in_err-check-clause-taken
returns-in_err-check-clause-taken c = λ fd.
    let why = err_from_is_err_and c.from_residual-in_err-check.result c.from_residual-in_err-check.ensures.1 in
    let same = why.1 ∙ ap Err why.2 in
    let asked = rw c.in_ok-ask.ensures.ok_part at c.outside_question.ensures.question in
    let t = fault-passed c.in_err-check.field-0.0 (OfferFault.Taken fd) (refused-taken c.args.host.now c.args.input.now c.in_ok-ask.ask.now (sym asked) (Err c.in_err-check.field-0.0) fd (c.in_err-check.ensures.taken fd)) in
    (λ e. t.0 (sym same ∙ e), λ x. same ∙ t.1 x)

pub returns-in_err-check-clause-strays : goal.returns-in_err-check-clause-strays
returns-in_err-check-clause-strays c = λ fd e.
    let why = err_from_is_err_and c.from_residual-in_err-check.result c.from_residual-in_err-check.ensures.1 in
    let is = fault-was c.in_err-check.field-0.0 (OfferFault.Taken fd) (sym (why.1 ∙ ap Err why.2) ∙ e) in
    let asked = rw c.in_ok-ask.ensures.ok_part at c.outside_question.ensures.question in
    let waits = rw c.in_ok-ask.ensures.ok_part at c.outside_question.ensures.waits in
    record {
      question = c.in_ok-ask.ask.now;
      asked = sym asked;
      waits = waits refl;
      stray = c.in_err-check.ensures.strays fd is;
      ends = c.in_err-check.ensures.ends fd is;
    }
