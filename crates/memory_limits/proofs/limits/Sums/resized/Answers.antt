use Rattle.std.proofs.Common.{◌≡◌, ℕ, List, map, sym, ◌∙◌, ap, subst}
use Rattle.tree_specs.specs.declared.object.Owner.TheVariants.{Of}
use Rattle.tree_specs.specs.Tree.Sums.{size_at}
use Rattle.memory_limits.specs.declared.limited.Limited.{Limited}
use Rattle.memory_limits.specs.Limits.{Limits, listed, AllSums, counts}
use Rattle.memory_limits.proofs.Kept.{resizes, bounds-counted}
use Rattle.memory_limits.proofs.limits.Sums.resized.Goals as goal

pub returns-then-is_empty-clause-sums : goal.returns-then-is_empty-clause-sums
returns-then-is_empty-clause-sums c = subst (λ (ls : List Limited). AllSums ls c.args.tree.now.rows) (sym (c.is_empty.ensures.0 c.if-is_empty.true)) tt

pub returns-clause-sums : goal.returns-clause-sums
returns-clause-sums c =
    let all : listed c.count_above.new.all.pairs ≡ map (counts (record { less = c.args.before; more = size_at c.args.tree.now.rows c.args.x }) c.args.tree.now.rows (Of c.args.x)) c.args.self.now.limited =
    c.count_above.ensures.limited
    ∙ ap (λ (n : ℕ). map (counts (record { less = c.args.before; more = n }) c.args.tree.now.rows (Of c.args.x)) (listed c.self.inside.limited.pairs)) c.size-more.ensures.size
    ∙ ap (λ (v : Limits). map (counts (record { less = c.args.before; more = size_at c.args.tree.now.rows c.args.x }) c.args.tree.now.rows (Of c.args.x)) v.limited) c.self.view_is in
    subst (λ (ls : List Limited). AllSums ls c.args.tree.now.rows) (sym all)
    (resizes c.args.tree.now.rows c.args.tree.now.next c.args.x c.args.before c.args.self.now.limited c.size-more.ensures.sound c.requires.plain c.requires.sums)

pub returns-clause-bounds : goal.returns-clause-bounds
returns-clause-bounds c =
    bounds-counted (record { less = c.args.before; more = c.size-more.result }) c.args.tree.now.rows (Of c.args.x) c.args.self.now.limited (listed c.count_above.new.all.pairs)
    (c.count_above.ensures.limited ∙ ap (λ (v : Limits). map (counts (record { less = c.args.before; more = c.size-more.result }) c.args.tree.now.rows (Of c.args.x)) v.limited) c.self.view_is)
