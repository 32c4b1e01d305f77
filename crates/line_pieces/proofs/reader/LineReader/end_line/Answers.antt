use Rattle.std.proofs.Common.{refl, arith, [], ◌∷◌}
use Rattle.std.proofs.lemmas.Result.{err_from_is_err_and}
use Rattle.line_pieces.specs.States.{reading_of}
use Rattle.line_pieces.proofs.Feeding.{ends-line, breaks-line, late-run}
use Rattle.line_pieces.proofs.reader.LineReader.end_line.Goals as goal

pub returns-then-is_late-clause-taken : goal.returns-then-is_late-clause-taken
returns-then-is_late-clause-taken g c =
    late-run g.T.TakesLines.comes g.T.TakesLines.stops g.T.TakesLines.ready (reading_of c.args.self.now) c.requires _ _ c.refuse_limit.ensures (10 ∷ []) (omega arith) (c.is_late.ensures.0 c.if-is_late.true)

pub returns-in_err-take_line-clause-taken : goal.returns-in_err-take_line-clause-taken
returns-in_err-take_line-clause-taken g c =
    let p = err_from_is_err_and c.from_residual.result c.from_residual.ensures.1 in
    rw (p.1, p.2) (breaks-line g.T.TakesLines.comes g.T.TakesLines.stops g.T.TakesLines.ready (reading_of c.args.self.now) c.requires c.take_line.new.self _ (rw c.deref.ensures.value at c.in_err-take_line.ensures.taken))

pub returns-clause-taken : goal.returns-clause-taken
returns-clause-taken g c =
    ends-line g.T.TakesLines.comes g.T.TakesLines.stops g.T.TakesLines.ready (reading_of c.args.self.now) c.requires c.take_line.new.self _ (rw c.deref.ensures.value at c.in_ok-take_line.ensures.taken) refl refl c.clear.ensures.items
