use Rattle.std.proofs.Common.{sym, ◌∙◌}
use Rattle.pool_arena.proofs.Emptiness.{none-in}
use Rattle.pool_arena.proofs.Keeps.{removed_none}
use Rattle.pool_arena.proofs.Arena.take.Goals as goal

pub returns-then-len-eq0-clause-value : goal.returns-then-len-eq0-clause-value
returns-then-len-eq0-clause-value g c = sym (none-in c.args.self.now.pairs c.args.key (sym c.len.ensures ∙ c.if-len-eq0.true))

pub returns-then-len-eq0-clause-pairs : goal.returns-then-len-eq0-clause-pairs
returns-then-len-eq0-clause-pairs g c = sym (removed_none c.args.self.now.pairs c.args.key (none-in c.args.self.now.pairs c.args.key (sym c.len.ensures ∙ c.if-len-eq0.true)))
