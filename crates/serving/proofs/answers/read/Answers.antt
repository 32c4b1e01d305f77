use Rattle.std.proofs.Common.{◌≡◌, take, length, arith}
use Rattle.std.proofs.lemmas.Result.{err_from_is_err_and}
use Rattle.tree_specs.specs.declared.question.Ask.TheVariants as ask
use Rattle.tree_specs.specs.declared.question.Input.TheVariants as inputs
use Rattle.serving.proofs.StoppingLaws.{forgets}
use Rattle.serving.proofs.answers.read.Goals as goal

pub returns-in_err-bytes-in-Got-clause-fails : goal.returns-in_err-bytes-in-Got-clause-fails
returns-in_err-bytes-in-Got-clause-fails g c = λ wanted.
    let told = g.L.Link.told in
    let p = err_from_is_err_and c.from_residual.result c.from_residual.ensures.1 in
    let e = c.in_err-bytes-in-Got.ensures in
    let same : length c.args.buf.now ≡ length c.read.new.buf = omega (arith, c.read.auto.buf) in
    rw (p.1, p.2) (forgets c.in_err-bytes-in-Got.field-0.0 (ask.Read c.args.fd (length c.args.buf.now)) wanted (inputs.Got (take c.in-Got.n c.read.new.buf)) (told c.args.link.now) (told c.read.new.self)
    e.err (rw same c.in-Got.ensures.told))
