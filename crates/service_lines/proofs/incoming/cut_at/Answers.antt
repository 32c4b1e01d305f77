use Rattle.service_lines.proofs.Cutting.{long_after}
use Rattle.service_lines.proofs.incoming.cut_at.Goals as goal

pub returns-else-end-le-LENGTH_LIMIT : goal.returns-else-end-le-LENGTH_LIMIT
returns-else-end-le-LENGTH_LIMIT c = long_after c.args.bytes.now c.in-Some.end (rw c.in-Some.is at c.requires) c.if-end-le-LENGTH_LIMIT.false
