use Rattle.line_pieces.proofs.LineLaws.{ends_first}
use Rattle.line_pieces.proofs.cutting.line_end.Goals as goal

pub returns : goal.returns
returns c = ends_first c.args.bytes.now c.memchr.result c.memchr.ensures
