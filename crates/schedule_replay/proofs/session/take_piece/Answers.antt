use Rattle.std.proofs.Common.{arith}
use Rattle.std.proofs.lemmas.Result.{err_from_is_err_and}
use Rattle.line_pieces.specs.States.{reading_of}
use Rattle.schedule_replay.proofs.SessionLaws.{some-none, some-more, some-error}
use Rattle.schedule_replay.proofs.session.take_piece.Goals as goal

pub runs-init : goal.runs-init
runs-init g c = record {
  ready = c.requires.ready;
  empty = c.requires.empty;
  passed = some-none g.P.Player.plays (reading_of c.args.reader.now) c.args.piece.now (g.K.Sink.held c.args.out.now);
  progress = omega arith;
  writes = omega arith;
}

pub runs-preserved : goal.runs-preserved
runs-preserved g c = record {
  ready = c.in_ok-rest.ensures.ready;
  empty = c.in_ok-rest.ensures.empty;
  passed = some-more g.P.Player.plays (reading_of c.args.reader.now) (reading_of c.runs.reader) (reading_of c.take_run.new.reader) c.args.piece.now c.runs.rest.now c.in_ok-rest.rest.now _ _ _
      c.runs.invariant.passed c.in_ok-rest.ensures.passed;
  progress = omega (arith, c.in_ok-rest.ensures.progress, c.runs.invariant.progress);
  writes = omega (arith, c.in_ok-rest.ensures.cause.later, c.runs.invariant.writes);
}

pub returns-in_err-rest-clause-passed : goal.returns-in_err-rest-clause-passed
returns-in_err-rest-clause-passed g c =
    let p = err_from_is_err_and c.from_residual.result c.from_residual.ensures.1 in
    rw (p.1, p.2) (some-error g.P.Player.plays (reading_of c.args.reader.now) (reading_of c.runs.reader) (reading_of c.take_run.new.reader) c.args.piece.now c.runs.rest.now _ _ _ c.in_err-rest.field-0.0
    c.runs.invariant.passed c.in_err-rest.ensures.passed)
