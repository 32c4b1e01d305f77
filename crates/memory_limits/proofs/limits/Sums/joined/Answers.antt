use Rattle.std.proofs.Common.{◌≡◌, ℕ, List, map, sym, ◌∙◌, ap, subst}
use Rattle.tree_specs.specs.declared.object.Owner.TheVariants.{Of}
use Rattle.tree_specs.specs.Tree.Sums.{sum_inside}
use Rattle.memory_limits.specs.declared.limited.Limited.{Limited}
use Rattle.memory_limits.specs.Limits.{Limits, listed, AllSums, counts}
use Rattle.memory_limits.proofs.Kept.{come, joins, settles, bounds-counted, kept-left}
use Rattle.memory_limits.proofs.Climbing.{nearest-counts, none-counts}
use Rattle.memory_limits.proofs.limits.Sums.joined.Goals as goal

pub returns-then-is_empty-clause-sums : goal.returns-then-is_empty-clause-sums
returns-then-is_empty-clause-sums c = subst (λ (ls : List Limited). AllSums ls c.args.tree.now.rows) (sym (c.is_empty.ensures.0 c.if-is_empty.true)) tt

pub returns-in_default-clause-sums : goal.returns-in_default-clause-sums
returns-in_default-clause-sums c = settles c.args.tree.now.rows c.args.x c.args.self.now.limited (sym c.parent.ensures.owner ∙ c.in_default.is) c.requires

pub returns-clause-sums : goal.returns-clause-sums
returns-clause-sums c =
    let more = come (sum_inside c.args.tree.now.rows (Of c.args.x)) in
    let all : listed c.count_above.new.all.pairs ≡ map (counts more c.args.tree.now.rows c.in-Some.owner) c.args.self.now.limited =
    c.count_above.ensures.limited
    ∙ ap (λ (n : ℕ). map (counts (come n) c.args.tree.now.rows (Of c.in-Some-nearest.nearest)) (listed c.self.inside.limited.pairs)) c.sum_of-more.ensures
    ∙ ap (λ (v : Limits). map (counts more c.args.tree.now.rows (Of c.in-Some-nearest.nearest)) v.limited) c.self.view_is
    ∙ nearest-counts more c.args.tree.now.rows c.in-Some.owner c.in-Some-nearest.nearest c.args.self.now.limited c.parent.ensures.sound.forest.rooted (sym c.nearest.ensures.nearest ∙ c.in-Some-nearest.is) in
    subst (λ (ls : List Limited). AllSums ls c.args.tree.now.rows) (sym all)
    (joins c.args.tree.now.rows c.args.tree.now.next c.args.x c.in-Some.owner c.args.self.now.limited c.parent.ensures.sound (sym c.parent.ensures.owner ∙ c.in-Some.is) c.requires)

pub returns-clause-bounds : goal.returns-clause-bounds
returns-clause-bounds c =
    bounds-counted (come c.sum_of-more.result) c.args.tree.now.rows (Of c.in-Some-nearest.nearest) c.args.self.now.limited (listed c.count_above.new.all.pairs)
    (c.count_above.ensures.limited ∙ ap (λ (v : Limits). map (counts (come c.sum_of-more.result) c.args.tree.now.rows (Of c.in-Some-nearest.nearest)) v.limited) c.self.view_is)

-- nobody counts what came
pub returns-in_default-nearest-clause-sums : goal.returns-in_default-nearest-clause-sums
returns-in_default-nearest-clause-sums c =
    subst (λ (ls : List Limited). AllSums ls c.args.tree.now.rows)
    (none-counts (come (sum_inside c.args.tree.now.rows (Of c.args.x))) c.args.tree.now.rows c.in-Some.owner c.args.self.now.limited c.parent.ensures.sound.forest.rooted (sym c.nearest.ensures.nearest ∙ c.in_default-nearest.is))
    (joins c.args.tree.now.rows c.args.tree.now.next c.args.x c.in-Some.owner c.args.self.now.limited c.parent.ensures.sound (sym c.parent.ensures.owner ∙ c.in-Some.is) c.requires)

pub sum_of-more-requires : goal.sum_of-more-requires
sum_of-more-requires c = kept-left c.args.self.now.limited c.args.tree.now.rows c.args.tree.now.next c.args.x c.parent.ensures.sound c.requires
