use Rattle.std.proofs.Common.{inl, inr}
use Rattle.memory_limits.proofs.Kept.{settles}
use Rattle.object_pool.proofs.Told.{has-left, has-none, still-apart, had-owner, no-more, refers-row, other-step}
use Rattle.object_pool.proofs.Counted.{same-kept, other-sums}
use Rattle.object_pool.proofs.counting.count_step.Goals as goal

pub left-requires-clause-is : goal.left-requires-clause-is
left-requires-clause-is c = let g = rw c.in-Left.is at c.requires.changed in (has-left c.requires.rows c.args.tree.now.rows c.in-Left.object c.in-Left.from g.0 g.1).there

pub left-requires-clause-apart : goal.left-requires-clause-apart
left-requires-clause-apart c =
    let g = rw c.in-Left.is at c.requires.changed in
    still-apart c.requires.rows c.args.tree.now.rows c.in-Left.object (has-left c.requires.rows c.args.tree.now.rows c.in-Left.object c.in-Left.from g.0 g.1) c.in-Left.from c.requires.forest.rooted g.0

pub left-requires-clause-sums : goal.left-requires-clause-sums
left-requires-clause-sums c =
    let g = rw c.in-Left.is at c.requires.changed in
    had-owner c.requires.rows c.args.tree.now.rows c.in-Left.object (has-left c.requires.rows c.args.tree.now.rows c.in-Left.object c.in-Left.from g.0 g.1) c.args.sums.now.limited c.in-Left.from g.0 c.requires.were.sums

pub returns-in-Left-clause-kept : goal.returns-in-Left-clause-kept
returns-in-Left-clause-kept c =
    let g = rw c.in-Left.is at c.requires.changed in
    other-sums c.args.sums.now.limited c.left.new.self.limited c.requires.rows c.args.tree.now.rows c.requires.were c.left.ensures.bounds (has-left c.requires.rows c.args.tree.now.rows c.in-Left.object c.in-Left.from g.0 g.1).limits
    (settles c.args.tree.now.rows c.in-Left.object c.left.new.self.limited (has-none c.requires.rows c.args.tree.now.rows c.in-Left.object g.1) c.left.ensures.left)

pub returns-in-Dropped-clause-kept : goal.returns-in-Dropped-clause-kept
returns-in-Dropped-clause-kept c =
    let g = rw c.in-Dropped.is at c.requires.changed in
    let is = refers-row c.requires.rows c.in-Dropped.reference c.in-Dropped.target g.0 in
    no-more c.args.sums.now.limited c.gone.new.self.limited c.requires.rows c.args.tree.now.rows c.in-Dropped.reference c.requires.forest.distinct c.gone.ensures.limits
    (c.gone.ensures.sums c.requires.rows c.requires.forest is (inr (c.in-Dropped.target, g.0)) c.requires.were.sums) g.1 c.requires.were

pub returns-in-Gone-clause-kept : goal.returns-in-Gone-clause-kept
returns-in-Gone-clause-kept c =
    let g = rw c.in-Gone.is at c.requires.changed in
    no-more c.args.sums.now.limited c.gone-in-Gone.new.self.limited c.requires.rows c.args.tree.now.rows c.in-Gone.object c.requires.forest.distinct c.gone-in-Gone.ensures.limits
    (c.gone-in-Gone.ensures.sums c.requires.rows c.requires.forest g.1 (inl g.0) c.requires.were.sums) g.2 c.requires.were

pub returns-in_default-clause-kept : goal.returns-in_default-clause-kept
returns-in_default-clause-kept c =
    same-kept c.args.sums.now.limited c.requires.rows c.args.tree.now.rows
    (other-step c.args.step.now c.requires.rows c.args.tree.now.rows c.in_default.not-Dropped c.in_default.not-Left c.in_default.not-Moved c.in_default.not-Gone c.requires.changed) c.requires.were
