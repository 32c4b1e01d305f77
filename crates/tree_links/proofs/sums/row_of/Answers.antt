use Rattle.tree_links.proofs.Weighing.{own-size}
use Rattle.tree_links.proofs.sums.row_of.Goals as goal

pub returns-in-Of-clause-small : goal.returns-in-Of-clause-small
returns-in-Of-clause-small c row is = own-size c.args.tree.now.rows c.args.tree.now.next c.args.owner row c.row.ensures.sound.fit is
