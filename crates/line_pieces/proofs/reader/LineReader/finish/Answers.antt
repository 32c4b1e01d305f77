use Rattle.std.proofs.Common.{◌≡◌, ℕ, ap, eqb, not, length, vec_len, ◌∙◌, arith}
use Rattle.line_pieces.specs.States.{reading_of}
use Rattle.line_pieces.proofs.Feeding.{ends-text}
use Rattle.line_pieces.proofs.reader.LineReader.finish.Goals as goal

pub returns : goal.returns
returns g c =
    let same : vec_len c.args.self.now.line ≡ length c.args.self.now.line.items = omega arith in
    ends-text g.T.TakesLines.comes g.T.TakesLines.stops g.T.TakesLines.ends g.T.TakesLines.ready (reading_of c.args.self.now) _ _ _ c.requires (ap not (c.is_empty.ensures ∙ ap (λ (n : ℕ). eqb n 0) same)) c.finish.ensures
