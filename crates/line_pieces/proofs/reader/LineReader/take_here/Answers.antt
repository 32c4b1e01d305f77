use Rattle.std.proofs.Common.{[], ◌∷◌, ◌++◌, Ok, Err, List, ℕ, refl, sym, ap, arith, length-append}
use Rattle.std.proofs.lemmas.Result.{err_from_is_err_and}
use Rattle.line_pieces.specs.States.{reading_of}
use Rattle.line_pieces.proofs.Feeding.{at_line, ends-line, breaks-line, here-ready, onto, late-run, long-whole, in-time}
use Rattle.line_pieces.proofs.reader.LineReader.take_here.Goals as goal

pub returns-then-is_late-clause-taken : goal.returns-then-is_late-clause-taken
returns-then-is_late-clause-taken g c =
    late-run g.T.TakesLines.comes g.T.TakesLines.stops g.T.TakesLines.ready (reading_of c.args.self.now) c.requires.ready _ _ c.refuse_limit.ensures (c.args.line.now ++ 10 ∷ [])
    (omega (arith, length-append c.args.line.now (10 ∷ []))) (c.is_late.ensures.0 c.if-is_late.true)

pub returns-then-line-gt-LINE_LIMIT-clause-taken : goal.returns-then-line-gt-LINE_LIMIT-clause-taken
returns-then-line-gt-LINE_LIMIT-clause-taken g c =
    long-whole g.T.TakesLines.comes g.T.TakesLines.stops g.T.TakesLines.ready (reading_of c.args.self.now) c.requires.ready _ _ c.refuse_limit-then-line-gt-LINE_LIMIT.ensures c.args.line.now c.requires.plain c.if-line-gt-LINE_LIMIT.true

pub returns-in_err-take_line-clause-taken : goal.returns-in_err-take_line-clause-taken
returns-in_err-take_line-clause-taken g c =
    let p = err_from_is_err_and c.from_residual.result c.from_residual.ensures.1 in
    let between = here-ready g.T.TakesLines.ready (reading_of c.args.self.now) c.args.line.now c.requires.ready c.requires.plain (omega arith) (in-time c.args.self.now.number c.is_late.result c.is_late.ensures.1 c.if-is_late.false) in
    rw (p.1, p.2) (onto g.T.TakesLines.comes g.T.TakesLines.stops (reading_of c.args.self.now) c.args.line.now c.args.line.now (10 ∷ []) (reading_of (record c.args.self.now { taker = c.take_line.new.self })) (Err c.in_err-take_line.field-0.0)
    (ap (λ (l : List ℕ). l ++ c.args.line.now) (sym c.requires.none))
    (breaks-line g.T.TakesLines.comes g.T.TakesLines.stops g.T.TakesLines.ready (at_line (reading_of c.args.self.now) c.args.line.now) between c.take_line.new.self _ c.in_err-take_line.ensures.taken))

pub returns-clause-taken : goal.returns-clause-taken
returns-clause-taken g c =
    let between = here-ready g.T.TakesLines.ready (reading_of c.args.self.now) c.args.line.now c.requires.ready c.requires.plain (omega arith) (in-time c.args.self.now.number c.is_late.result c.is_late.ensures.1 c.if-is_late.false) in
    onto g.T.TakesLines.comes g.T.TakesLines.stops (reading_of c.args.self.now) c.args.line.now c.args.line.now (10 ∷ []) _ (Ok tt) (ap (λ (l : List ℕ). l ++ c.args.line.now) (sym c.requires.none))
    (ends-line g.T.TakesLines.comes g.T.TakesLines.stops g.T.TakesLines.ready (at_line (reading_of c.args.self.now) c.args.line.now) between c.take_line.new.self _ c.in_ok-take_line.ensures.taken refl refl c.requires.none)
