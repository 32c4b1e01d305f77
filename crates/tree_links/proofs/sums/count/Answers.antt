use Rattle.std.proofs.Common.{◌∙◌}
use Rattle.tree_links.proofs.Weighing.{count-weight}
use Rattle.tree_links.proofs.sums.count.Goals as goal

pub returns : goal.returns
returns c = c.sum_inside_of.ensures.sum ∙ count-weight c.args.tree.now.rows c.args.tree.now.next c.args.from c.sum_inside_of.ensures.sound
