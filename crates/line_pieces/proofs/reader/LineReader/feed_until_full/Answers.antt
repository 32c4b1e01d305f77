use Rattle.std.proofs.Common.{◌≤◌, ◌+◌, length, take, drop, Err, List, ℕ, arith, sym, subst}
use Rattle.std.proofs.lemmas.List.{take_rest, length-drop, length-take-le}
use Rattle.std.proofs.lemmas.Result.{err_from_is_err_and}
use Rattle.line_pieces.specs.Readings.{room_left}
use Rattle.line_pieces.specs.States.{reading_of}
use Rattle.line_pieces.proofs.Feeding.{fed-none, fed-line, fed-error, fed-last, fed-all}
use Rattle.line_pieces.proofs.reader.LineReader.feed_until_full.Goals as goal

pub lines-init : goal.lines-init
lines-init g c = record {
  ready = c.requires;
  fed = fed-none g.T.TakesLines.comes g.T.TakesLines.stops (reading_of c.args.self.now) c.args.piece.now;
  progress = omega arith;
  shorter = omega arith;
}

pub returns-in_err-take_rest-clause-taken : goal.returns-in_err-take_rest-clause-taken
returns-in_err-take_rest-clause-taken g c =
    let p = err_from_is_err_and c.from_residual.result c.from_residual.ensures.1 in
    rw (p.1, p.2) (fed-error g.T.TakesLines.comes g.T.TakesLines.stops (reading_of c.args.self.now) c.args.piece.now (reading_of c.lines.self) c.lines.rest.now (take c.in-Some.end c.lines.rest.now) (drop (c.in-Some.end + 1) c.lines.rest.now)
    (reading_of c.take_rest.new.self) c.in_err-take_rest.field-0.0 c.lines.invariant.fed c.in-Some.ensures.cut c.in_err-take_rest.ensures.taken)

pub lines-preserved : goal.lines-preserved
lines-preserved g c =
    let n = c.in-Some.end + 1 in
    let rest = c.lines.rest.now in
    let same = sym (take_rest rest n) in
    record {
      ready = c.in_ok-take_rest.ensures.ready;
      fed = fed-line g.T.TakesLines.comes g.T.TakesLines.stops (reading_of c.args.self.now) c.args.piece.now (reading_of c.lines.self) rest c.in-Some.end _ (reading_of c.take_rest.new.self)
          c.lines.invariant.fed c.in-Some.ensures.cut c.in_ok-take_rest.ensures.taken (take_rest rest n);
      progress = subst (λ (l : List ℕ). room_left (reading_of c.take_rest.new.self) + length c.args.piece.now ≤ room_left (reading_of c.args.self.now) + length l) same
          (omega (arith, length-drop n rest, length-take-le c.in-Some.end rest, c.in-Some.ensures.within, c.in_ok-take_rest.ensures.progress, c.lines.invariant.progress));
      shorter = omega (arith, length-drop n rest, c.in-Some.ensures.within, c.lines.invariant.shorter);
    }

pub returns-then-is_full-clause-taken : goal.returns-then-is_full-clause-taken
returns-then-is_full-clause-taken g c =
    fed-line g.T.TakesLines.comes g.T.TakesLines.stops (reading_of c.args.self.now) c.args.piece.now (reading_of c.lines.self) c.lines.rest.now c.in-Some.end _ (reading_of c.take_rest.new.self)
    c.lines.invariant.fed c.in-Some.ensures.cut c.in_ok-take_rest.ensures.taken (take_rest c.lines.rest.now (c.in-Some.end + 1))

pub returns-in_err-lengthen-clause-taken : goal.returns-in_err-lengthen-clause-taken
returns-in_err-lengthen-clause-taken g c =
    let p = err_from_is_err_and c.from_residual-in_err-lengthen.result c.from_residual-in_err-lengthen.ensures.1 in
    rw (p.1, p.2) (fed-last g.T.TakesLines.comes g.T.TakesLines.stops (reading_of c.args.self.now) c.args.piece.now (reading_of c.lines.self) c.lines.rest.now (reading_of c.lengthen.new.self) (Err c.in_err-lengthen.field-0.0) c.lines.invariant.fed c.in_err-lengthen.ensures.taken)

pub returns-clause-taken : goal.returns-clause-taken
returns-clause-taken g c =
    fed-all g.T.TakesLines.comes g.T.TakesLines.stops (reading_of c.args.self.now) c.args.piece.now (reading_of c.lines.self) c.lines.rest.now (reading_of c.lengthen.new.self) c.lines.invariant.fed c.in_ok-lengthen.ensures.taken
