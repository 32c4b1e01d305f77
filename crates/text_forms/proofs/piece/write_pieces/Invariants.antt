use Rattle.std.proofs.Common.{flat_map, ◌≡◌, ◌++◌, take}
use Rattle.text_forms.proofs.piece.write_pieces.Given as goal

abbrev pub invariant-loop-piece : goal.invariant-loop-piece
invariant-loop-piece l = l.out.items ≡ l.fn.out.items ++ flat_map (λ p. p.now) (take l.piece-index l.pieces)
