use Rattle.std.proofs.Common.{[], arith, take}
use Rattle.std.proofs.lemmas.Result.{err_from_is_err_and}
use Rattle.std.proofs.lemmas.List.{length-take-le}
use Rattle.line_pieces.specs.States.{reading_of}
use Rattle.transcript_audit.proofs.Sessions.{so-far-none, so-far-more, so-far-error, so-far-end, no-answer, no-read, no-end}
use Rattle.transcript_audit.proofs.session.pass.Goals as goal

pub reads-init : goal.reads-init
reads-init g c = record {
  ready = c.requires.ready;
  so_far = so-far-none _ (reading_of c.args.reader.now) c.requires.fresh;
  reads = omega arith;
}

pub reads-smaller : goal.reads-smaller
reads-smaller g c =
    omega (arith, c.in_ok-feed-in-Some.ensures.progress, c.in-Some.ensures.bytes.0, length-take-le c.in-Some.n c.read.new.buf c.in-Some.ensures.bytes.1)

pub reads-preserved : goal.reads-preserved
reads-preserved g c = record {
  ready = c.in_ok-feed-in-Some.ensures.ready;
  so_far = so-far-more _ _ _ (reading_of c.reads.reader) _ (take c.in-Some.n c.read.new.buf) c.reads.invariant.so_far c.in-Some.ensures.bytes.2 c.in_ok-feed-in-Some.ensures.taken;
  reads = omega (arith, c.in-Some.ensures.cause.later, c.reads.invariant.reads);
}

pub returns-in_err-feed-in-Some-clause-found : goal.returns-in_err-feed-in-Some-clause-found
returns-in_err-feed-in-Some-clause-found g c =
    let p = err_from_is_err_and c.from_residual.result c.from_residual.ensures.1 in
    rw (p.1, p.2) (so-far-error _ _ _ (reading_of c.reads.reader) (reading_of c.reads.reader) (take c.in-Some.n c.read.new.buf) c.in_err-feed-in-Some.field-0.0 c.reads.invariant.so_far c.in-Some.ensures.bytes.2 c.in_err-feed-in-Some.ensures.taken)

pub returns-in_err-feed-in-Some-clause-reads : goal.returns-in_err-feed-in-Some-clause-reads
returns-in_err-feed-in-Some-clause-reads g c =
    let p = err_from_is_err_and c.from_residual.result c.from_residual.ensures.1 in
    rw (p.1, p.2) (record { later = omega (arith, c.in-Some.ensures.cause.later, c.reads.invariant.reads); counted = λ e. absurd (no-read c.in_err-feed-in-Some.field-0.0 _ (c.in_err-feed-in-Some.ensures.taken []) e) })

pub returns-in-End-clause-found : goal.returns-in-End-clause-found
returns-in-End-clause-found g c = so-far-end _ _ (reading_of c.reads.reader) c.take_end.result c.reads.invariant.so_far c.in-End.ensures.bytes.0 c.take_end.ensures.passed

pub returns-in-End-clause-reads : goal.returns-in-End-clause-reads
returns-in-End-clause-reads g c = record { later = omega (arith, c.in-End.ensures.cause.later, c.reads.invariant.reads); counted = λ e. absurd (no-end c.take_end.result (reading_of c.reads.reader) c.take_end.ensures.passed e) }

pub returns-in-Failed-clause-found : goal.returns-in-Failed-clause-found
returns-in-Failed-clause-found g c = no-answer _
