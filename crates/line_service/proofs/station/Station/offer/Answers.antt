use Rattle.std.proofs.Common.{◌≡◌, Ok, Err, sym, ◌∙◌, ap}
use Rattle.std.proofs.lemmas.Result.{err_from_is_err_and}
use Rattle.host_core.specs.declared.fault.OfferFault.{OfferFault}
use Rattle.line_service.specs.Runs.{changed}
use Rattle.line_service.proofs.Offering.{fault-passed, fault-was, refused-not-asked, refused-taken, station-not-asked, station-strays, station-takes, station-taken}
use Rattle.line_service.proofs.station.Station.offer.Goals as goal

-- ---- the host found no memory, or refuses it

pub returns-in_err-offer-in-Ok-clause-taken : goal.returns-in_err-offer-in-Ok-clause-taken
returns-in_err-offer-in-Ok-clause-taken c = λ fd.
    let why = err_from_is_err_and c.from_residual.result c.from_residual.ensures.1 in
    let same : c.from_residual.result ≡ c.offer.result = why.1 ∙ ap Err why.2 ∙ sym c.in_err-offer-in-Ok.was in
    let p = c.in-Ok.ensures.ok in
    let t = refused-taken c.self.inside.host c.args.input p.question p.open_now c.offer.result fd (c.offer.ensures.taken fd) in
    station-taken c.args.self.now c.self.inside.desk.knowledge c.self.inside.host c.self.inside.desk.due c.self.inside.left c.self.view_is c.args.input c.from_residual.result fd (λ e. t.0 (sym same ∙ e), λ e. same ∙ t.1 e)

pub returns-in_err-offer-in-Ok-clause-strays : goal.returns-in_err-offer-in-Ok-clause-strays
returns-in_err-offer-in-Ok-clause-strays c = λ fd e.
    let why = err_from_is_err_and c.from_residual.result c.from_residual.ensures.1 in
    let is : c.offer.result ≡ Err (OfferFault.Taken fd) = c.in_err-offer-in-Ok.was ∙ sym (why.1 ∙ ap Err why.2) ∙ e in
    let p = c.in-Ok.ensures.ok in
    station-strays c.args.self.now c.self.inside.desk.knowledge c.self.inside.host c.self.inside.desk.due c.self.inside.left c.self.view_is c.args.input c.self.invariant
    (record { question = p.question; asked = p.open_now; waits = c.in-Ok.ensures.waits; stray = c.offer.ensures.strays fd is; ends = c.offer.ensures.ends fd is })

-- ---- it was passed on

pub returns-in_ok-offer-in-Ok-clause-ok : goal.returns-in_ok-offer-in-Ok-clause-ok
returns-in_ok-offer-in-Ok-clause-ok c =
    station-takes c.args.self.now c.self.inside.desk.knowledge c.self.inside.host c.self.inside.desk.due c.self.inside.left c.self.view_is c.args.input c.note.new.desk.knowledge c.offer.new.self c.note.new.desk.due c.in-Ok.left c.in-Ok.change
    c.in-Ok.ensures.ok c.self.invariant c.in-Ok.ensures.waits c.in_ok-offer-in-Ok.ensures.ok (c.note.ensures.knowledge ∙ ap (changed c.in-Ok.change) c.prepare.ensures.knowledge) (c.note.ensures.due ∙ c.prepare.ensures.due)

pub returns-in_ok-offer-in-Ok-clause-not_asked : goal.returns-in_ok-offer-in-Ok-clause-not_asked
returns-in_ok-offer-in-Ok-clause-not_asked c =
    let p = c.in-Ok.ensures.ok in
    station-not-asked c.args.self.now c.self.inside.desk.knowledge c.self.inside.host c.self.inside.desk.due c.self.inside.left c.self.view_is c.args.input (Ok tt)
    (refused-not-asked c.self.inside.host c.args.input p.question p.open_now (Ok tt) c.in_ok-offer-in-Ok.ensures.not_asked)

pub returns-in_ok-offer-in-Ok-clause-taken : goal.returns-in_ok-offer-in-Ok-clause-taken
returns-in_ok-offer-in-Ok-clause-taken c = λ fd.
    let p = c.in-Ok.ensures.ok in
    station-taken c.args.self.now c.self.inside.desk.knowledge c.self.inside.host c.self.inside.desk.due c.self.inside.left c.self.view_is c.args.input (Ok tt) fd
    (refused-taken c.self.inside.host c.args.input p.question p.open_now (Ok tt) fd (c.in_ok-offer-in-Ok.ensures.taken fd))

-- ---- it wasn't prepared

pub returns-in-Err-clause-not_asked : goal.returns-in-Err-clause-not_asked
returns-in-Err-clause-not_asked c =
    station-not-asked c.args.self.now c.self.inside.desk.knowledge c.self.inside.host c.self.inside.desk.due c.self.inside.left c.self.view_is c.args.input (Err c.in-Err.fault) (fault-passed c.in-Err.fault OfferFault.NotAsked c.in-Err.ensures.not_asked)

pub returns-in-Err-clause-taken : goal.returns-in-Err-clause-taken
returns-in-Err-clause-taken c = λ fd.
    station-taken c.args.self.now c.self.inside.desk.knowledge c.self.inside.host c.self.inside.desk.due c.self.inside.left c.self.view_is c.args.input (Err c.in-Err.fault) fd (fault-passed c.in-Err.fault (OfferFault.Taken fd) (c.in-Err.ensures.taken fd))

pub returns-in-Err-clause-strays : goal.returns-in-Err-clause-strays
returns-in-Err-clause-strays c = λ fd e.
    station-strays c.args.self.now c.self.inside.desk.knowledge c.self.inside.host c.self.inside.desk.due c.self.inside.left c.self.view_is c.args.input c.self.invariant (c.in-Err.ensures.strays fd (fault-was c.in-Err.fault (OfferFault.Taken fd) e))
