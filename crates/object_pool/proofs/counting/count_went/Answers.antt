use Rattle.std.proofs.Common.{refl, sym, ◌∙◌, subst}
use Rattle.tree_specs.specs.Tree.Pool.{changed, left_row}
use Rattle.memory_limits.specs.Limits.{Limits, AllSums, SameBounds}
use Rattle.object_pool.proofs.Counted.{other-sums}
use Rattle.object_pool.proofs.Told.{went-elsewhere, still-apart, had-owner, had-none}
use Rattle.object_pool.proofs.counting.count_went.Goals as goal
use Rattle.object_pool.proofs.counting.count_went.Goals.{in-Some, in_default}

pub left-requires-clause-is : goal.left-requires-clause-is
left-requires-clause-is c = (went-elsewhere c.args.x c.args.from c.args.sums.now.limited c.args.tree.now.rows c.requires).there

pub left-requires-clause-apart : goal.left-requires-clause-apart
left-requires-clause-apart c =
    still-apart c.requires.rows c.args.tree.now.rows c.args.x (went-elsewhere c.args.x c.args.from c.args.sums.now.limited c.args.tree.now.rows c.requires) c.in-Some.from c.requires.forest.rooted (c.requires.was ∙ c.in-Some.is)

pub left-requires-clause-sums : goal.left-requires-clause-sums
left-requires-clause-sums c =
    had-owner c.requires.rows c.args.tree.now.rows c.args.x (went-elsewhere c.args.x c.args.from c.args.sums.now.limited c.args.tree.now.rows c.requires) c.args.sums.now.limited c.in-Some.from (c.requires.was ∙ c.in-Some.is) c.requires.were.sums

pub joined-requires : goal.joined-requires
joined-requires c = elim c.match-from.branch [
  | in-Some w ↦ subst (λ (s : Limits). AllSums s.limited (changed left_row c.args.tree.now.rows c.args.x)) (sym w.sums-is) w.left.ensures.left
  | in_default w ↦ subst (λ (s : Limits). AllSums s.limited (changed left_row c.args.tree.now.rows c.args.x)) (sym w.sums-is)
      (had-none c.requires.rows c.args.tree.now.rows c.args.x (went-elsewhere c.args.x c.args.from c.args.sums.now.limited c.args.tree.now.rows c.requires) c.args.sums.now.limited (c.requires.was ∙ w.in_default.is) c.requires.were.sums)
]

pub returns-clause-kept : goal.returns-clause-kept
returns-clause-kept c =
    other-sums c.args.sums.now.limited c.joined.new.self.limited c.requires.rows c.args.tree.now.rows c.requires.were (c.joined.ensures.bounds ∙ first)
    (went-elsewhere c.args.x c.args.from c.args.sums.now.limited c.args.tree.now.rows c.requires).limits c.joined.ensures.sums
  where
    first : SameBounds c.args.sums.now.limited c.match-from.sums.limited
    first = elim c.match-from.branch [
      | in-Some w ↦ subst (λ (s : Limits). SameBounds c.args.sums.now.limited s.limited) (sym w.sums-is) w.left.ensures.bounds
      | in_default w ↦ subst (λ (s : Limits). SameBounds c.args.sums.now.limited s.limited) (sym w.sums-is) refl
    ]
