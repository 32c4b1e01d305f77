use Rattle.std.proofs.Common.{sym, ◌∙◌}
use Rattle.pool_arena.proofs.Emptiness.{none-in}
use Rattle.pool_arena.proofs.Arena.get.Goals as goal

pub returns-then-len-eq0 : goal.returns-then-len-eq0
returns-then-len-eq0 g c = sym (none-in c.args.self.now.pairs c.args.key (sym c.len.ensures ∙ c.if-len-eq0.true))
