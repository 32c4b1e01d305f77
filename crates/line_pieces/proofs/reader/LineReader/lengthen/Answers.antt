use Rattle.std.proofs.Common.{◌<◌, ◌∙◌, length, sym, subst, arith, List, ℕ}
use Rattle.std.proofs.lemmas.Bool.{eqb-true}
use Rattle.std.proofs.lemmas.Bool.Decides.{nat_tests}
use Rattle.line_pieces.specs.Readings.{Advances}
use Rattle.line_pieces.specs.States.{reading_of}
use Rattle.line_pieces.proofs.Feeding.{is-empty, advances-none, late-run, long-run}
use Rattle.line_pieces.proofs.reader.LineReader.lengthen.Goals as goal

pub returns-then-is_empty-clause-taken : goal.returns-then-is_empty-clause-taken
returns-then-is_empty-clause-taken g c =
    let s = reading_of c.args.self.now in
    let none = is-empty c.args.run.now (eqb-true _ _ (sym c.is_empty.ensures ∙ c.if-is_empty.true)) in
    subst (λ (run : List ℕ). Advances g.T.TakesLines.comes s run s) (sym none) (advances-none g.T.TakesLines.comes g.T.TakesLines.stops s)

pub returns-then-is_late-clause-taken : goal.returns-then-is_late-clause-taken
returns-then-is_late-clause-taken g c =
    let some : 0 < length c.args.run.now = grind (arith, nat_tests) in
    late-run g.T.TakesLines.comes g.T.TakesLines.stops g.T.TakesLines.ready (reading_of c.args.self.now) c.requires.ready _ _ c.refuse_limit.ensures c.args.run.now some (c.is_late.ensures.0 c.if-is_late.true)

pub returns-then-run-len-clause-taken : goal.returns-then-run-len-clause-taken
returns-then-run-len-clause-taken g c =
    long-run g.T.TakesLines.comes g.T.TakesLines.stops g.T.TakesLines.ready (reading_of c.args.self.now) c.requires.ready _ _ c.refuse_limit-then-run-len.ensures c.args.run.now c.requires.plain (omega arith)
