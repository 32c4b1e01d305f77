use Rattle.object_pool.proofs.Counted.{other-sums}
use Rattle.object_pool.proofs.Fields.{new-sums, new-limits}
use Rattle.object_pool.proofs.counting.count_added.Goals as goal

pub joined-requires : goal.joined-requires
joined-requires c = new-sums c.args.x c.args.sums.now.limited c.args.tree.now.rows c.len-rows.ensures.sound.forest.distinct c.requires

pub returns-clause-kept : goal.returns-clause-kept
returns-clause-kept c =
    other-sums c.args.sums.now.limited c.joined.new.self.limited c.requires.rows c.args.tree.now.rows c.requires.were c.joined.ensures.bounds
    (new-limits c.args.x c.args.sums.now.limited c.args.tree.now.rows c.len-rows.ensures.sound.forest.distinct c.requires) c.joined.ensures.sums
