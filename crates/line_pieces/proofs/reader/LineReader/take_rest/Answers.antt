use Rattle.std.proofs.Common.{[], ◌∷◌}
use Rattle.line_pieces.specs.States.{reading_of}
use Rattle.line_pieces.proofs.Feeding.{advances-then}
use Rattle.line_pieces.proofs.reader.LineReader.take_rest.Goals as goal

pub returns-clause-taken : goal.returns-clause-taken
returns-clause-taken g c =
    advances-then g.T.TakesLines.comes g.T.TakesLines.stops (reading_of c.args.self.now) c.args.run.now (reading_of c.lengthen.new.self) (10 ∷ []) (reading_of c.end_line.new.self) c.end_line.result
    c.in_ok-lengthen.ensures.taken c.end_line.ensures.taken
