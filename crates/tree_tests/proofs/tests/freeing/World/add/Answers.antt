use Rattle.std.proofs.Common.{rules, ◌≡◌, [], true}
use Rattle.tree_specs.specs.Tree.Pool.{is_owner}
use Rattle.tree_links.specs.Links.{pool_of}
use Rattle.references.proofs.Rows.{refs-added}
use Rattle.destructors.specs.Works.{AreAwaiting}
use Rattle.destructors.proofs.Resting.{added-rests}
use Rattle.tree_tests.proofs.tests.freeing.World.add.Goals as goal

pub returns : goal.returns
returns g c = record {
  alone = search rules;
  waiting =
      (let there : is_owner c.reserve.new.self.rows c.args.owner ≡ true = search rules in
      let w : AreAwaiting [] (pool_of c.reserve.new.self) = rw c.reserve.ensures.rows c.requires.waiting in
      rw c.add.ensures.rows (added-rests c.args.owner 0 _ (pool_of c.reserve.new.self) there w));
  refs = search (rules, refs-added);
}
