use Rattle.std.proofs.Common.{◌≡◌, ℕ, List, map, sym, ◌∙◌, ap, subst}
use Rattle.tree_specs.specs.Tree.Pool.{changed, left_row}
use Rattle.tree_specs.specs.declared.object.Owner.TheVariants.{Of}
use Rattle.tree_specs.specs.Tree.Sums.{sum_inside}
use Rattle.memory_limits.specs.declared.limited.Limited.{Limited}
use Rattle.memory_limits.specs.Limits.{Limits, listed, AllSums, counts}
use Rattle.memory_limits.proofs.Kept.{go, leaves, bounds-counted, kept-before}
use Rattle.memory_limits.proofs.Climbing.{nearest-counts, none-counts}
use Rattle.memory_limits.proofs.limits.Sums.left.Goals as goal

pub returns-then-is_empty-clause-left : goal.returns-then-is_empty-clause-left
returns-then-is_empty-clause-left c = subst (λ (ls : List Limited). AllSums ls (changed left_row c.args.tree.now.rows c.args.x)) (sym (c.is_empty.ensures.0 c.if-is_empty.true)) tt

pub returns-clause-left : goal.returns-clause-left
returns-clause-left c =
    let gone = go (sum_inside c.args.tree.now.rows (Of c.args.x)) in
    let all : listed c.count_above.new.all.pairs ≡ map (counts gone c.args.tree.now.rows c.args.from) c.args.self.now.limited =
    c.count_above.ensures.limited
    ∙ ap (λ (n : ℕ). map (counts (go n) c.args.tree.now.rows (Of c.in-Some.nearest)) (listed c.self.inside.limited.pairs)) c.sum_of-less.ensures
    ∙ ap (λ (v : Limits). map (counts gone c.args.tree.now.rows (Of c.in-Some.nearest)) v.limited) c.self.view_is
    ∙ nearest-counts gone c.args.tree.now.rows c.args.from c.in-Some.nearest c.args.self.now.limited c.nearest.ensures.sound.forest.rooted (sym c.nearest.ensures.nearest ∙ c.in-Some.is) in
    subst (λ (ls : List Limited). AllSums ls (changed left_row c.args.tree.now.rows c.args.x)) (sym all)
    (leaves c.args.tree.now.rows c.args.tree.now.next c.args.x c.args.from c.args.self.now.limited c.nearest.ensures.sound c.requires.is c.requires.apart c.requires.sums)

pub returns-clause-bounds : goal.returns-clause-bounds
returns-clause-bounds c =
    bounds-counted (go c.sum_of-less.result) c.args.tree.now.rows (Of c.in-Some.nearest) c.args.self.now.limited (listed c.count_above.new.all.pairs)
    (c.count_above.ensures.limited ∙ ap (λ (v : Limits). map (counts (go c.sum_of-less.result) c.args.tree.now.rows (Of c.in-Some.nearest)) v.limited) c.self.view_is)

-- nobody counted what has left
pub returns-in_default-clause-left : goal.returns-in_default-clause-left
returns-in_default-clause-left c =
    subst (λ (ls : List Limited). AllSums ls (changed left_row c.args.tree.now.rows c.args.x))
    (none-counts (go (sum_inside c.args.tree.now.rows (Of c.args.x))) c.args.tree.now.rows c.args.from c.args.self.now.limited c.nearest.ensures.sound.forest.rooted (sym c.nearest.ensures.nearest ∙ c.in_default.is))
    (leaves c.args.tree.now.rows c.args.tree.now.next c.args.x c.args.from c.args.self.now.limited c.nearest.ensures.sound c.requires.is c.requires.apart c.requires.sums)

pub sum_of-less-requires : goal.sum_of-less-requires
sum_of-less-requires c = kept-before c.args.self.now.limited c.args.tree.now.rows c.args.tree.now.next c.args.x c.args.from c.nearest.ensures.sound c.requires.is c.requires.apart c.requires.sums
