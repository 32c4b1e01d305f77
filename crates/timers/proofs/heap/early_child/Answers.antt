use Rattle.std.proofs.Common.{sym, ◌∙◌}
use Rattle.timers.proofs.Sifting.{none-early}
use Rattle.timers.proofs.heap.early_child.Goals as goal

pub returns-else-comes_before : goal.returns-else-comes_before
returns-else-comes_before c = none-early c.args.dues.now.items c.args.at c.first_of_two-child.result c.args.due c.index.result.now c.first_of_two-child.ensures c.index.ensures (sym c.comes_before.ensures ∙ c.if-comes_before.false)
