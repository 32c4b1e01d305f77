use Rattle.tree_links.proofs.Walking.{on-place, on-deep, up-place, up-deep}
use Rattle.tree_links.proofs.walk.place_after.Goals as goal

pub returns-in-Some-clause-left : goal.returns-in-Some-clause-left
returns-in-Some-clause-left c =
    on-place c.args.tree.now.rows c.args.tree.now.next c.loop-depth.depth c.loop-depth.owner c.in-Of.x c.in-Some.next _ c.requires.sound c.loop-depth-test.true c.in-Of.is c.in-Some.ensures c.loop-depth.invariant.left

pub returns-in-Some-clause-deep : goal.returns-in-Some-clause-deep
returns-in-Some-clause-deep c =
    on-deep c.args.tree.now.rows c.args.tree.now.next c.loop-depth.depth c.loop-depth.owner c.in-Of.x c.in-Some.next c.requires.sound c.loop-depth-test.true c.in-Of.is c.in-Some.ensures c.loop-depth.invariant.deep

pub loop-depth-preserved : goal.loop-depth-preserved
loop-depth-preserved c = record {
  left = up-place c.args.tree.now.rows c.loop-depth.depth c.loop-depth.owner c.in_ok-owner.owner c.in-Of.x _ c.loop-depth-test.true c.in-Of.is c.in_default-next_kid.ensures c.in_ok-owner.ensures.owner c.loop-depth.invariant.left;
  deep = up-deep c.args.tree.now.rows c.loop-depth.depth c.loop-depth.owner c.in_ok-owner.owner c.in-Of.x c.loop-depth-test.true c.in-Of.is c.in_ok-owner.ensures.owner c.loop-depth.invariant.deep;
}
