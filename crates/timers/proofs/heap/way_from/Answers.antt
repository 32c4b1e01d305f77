use Rattle.std.proofs.Common.{sym, ◌∙◌}
use Rattle.timers.proofs.Sifting.{settles, settles-not}
use Rattle.timers.proofs.heap.way_from.Goals as goal

pub returns-then-is_some : goal.returns-then-is_some
returns-then-is_some c = λ near. settles c.args.dues.now.items c.args.at c.args.due c.requires c.late_parent.result near c.late_parent.ensures (sym c.is_some.ensures ∙ c.if-is_some.true)

pub returns-else-is_some : goal.returns-else-is_some
returns-else-is_some c = λ near. settles-not c.args.dues.now.items c.args.at c.args.due c.requires c.late_parent.result near c.late_parent.ensures (sym c.is_some.ensures ∙ c.if-is_some.false)
