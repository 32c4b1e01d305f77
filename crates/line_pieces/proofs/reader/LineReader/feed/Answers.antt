use Rattle.std.proofs.Common.{Err, arith}
use Rattle.std.proofs.lemmas.Result.{err_from_is_err_and}
use Rattle.line_pieces.specs.States.{reading_of}
use Rattle.line_pieces.proofs.Feeding.{fed-last, fed-more, fed-none}
use Rattle.line_pieces.proofs.reader.LineReader.feed.Goals as goal

pub runs-init : goal.runs-init
runs-init g c = record {
  ready = c.requires;
  fed = fed-none g.T.TakesLines.comes g.T.TakesLines.stops (reading_of c.args.self.now) c.args.piece.now;
  progress = omega arith;
}

pub runs-preserved : goal.runs-preserved
runs-preserved g c = record {
  ready = c.in_ok-rest.ensures.ready;
  fed = fed-more g.T.TakesLines.comes g.T.TakesLines.stops (reading_of c.args.self.now) c.args.piece.now (reading_of c.runs.self) c.runs.rest.now (reading_of c.feed_until_full.new.self) c.in_ok-rest.rest.now
      c.runs.invariant.fed c.in_ok-rest.ensures.taken;
  progress = omega (arith, c.in_ok-rest.ensures.progress, c.runs.invariant.progress);
}

pub returns-in_err-rest-clause-taken : goal.returns-in_err-rest-clause-taken
returns-in_err-rest-clause-taken g c =
    let p = err_from_is_err_and c.from_residual.result c.from_residual.ensures.1 in
    rw (p.1, p.2) (fed-last g.T.TakesLines.comes g.T.TakesLines.stops (reading_of c.args.self.now) c.args.piece.now (reading_of c.runs.self) c.runs.rest.now (reading_of c.feed_until_full.new.self) (Err c.in_err-rest.field-0.0)
    c.runs.invariant.fed c.in_err-rest.ensures.taken)
