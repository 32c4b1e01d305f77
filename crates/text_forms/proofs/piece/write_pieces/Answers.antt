use Rattle.std.proofs.Common.{◌∙◌}
use Rattle.text_forms.proofs.Pieces.{pieces_before}
use Rattle.text_forms.proofs.piece.write_pieces.Goals as goal

pub returns-in_err-extend_from_slice : goal.returns-in_err-extend_from_slice
returns-in_err-extend_from_slice c =
    pieces_before (λ p. p.now) c.args.pieces.now c.loop-piece.piece-index c.args.out.now.items c.extend_from_slice.new.self.items c.from_residual.result
    c.from_residual.ensures.0
    (c.in_err-extend_from_slice.ensures.items ∙ c.loop-piece.invariant)
