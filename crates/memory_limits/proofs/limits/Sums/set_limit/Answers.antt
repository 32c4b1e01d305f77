use Rattle.std.proofs.Common.{rules, ◌<◌, List, sym, ◌∙◌, ap, subst}
use Rattle.std.specs.FinMap as map
use Rattle.std.specs.Ordering.{nat_cmp}
use Rattle.memory_limits.specs.declared.allowance.Allowance.{Allowance}
use Rattle.memory_limits.specs.declared.limited.Limited.{Limited}
use Rattle.memory_limits.specs.Limits.{Limits, listed, limit_of, AllSums, AllBound}
use Rattle.memory_limits.proofs.Kept.{bound-unlimited, all-unlimited, limit-unlimited, all-kept}
use Rattle.memory_limits.proofs.Listed.{all-inserted, vacant-listed, limit-replaced}
use Rattle.memory_limits.proofs.limits.Sums.set_limit.Goals as goal

pub returns-then-max-eq0-clause-limits : goal.returns-then-max-eq0-clause-limits
returns-then-max-eq0-clause-limits c = λ y. rw (c.gone.ensures.limits, c.if-max-eq0.true) (limit-unlimited c.args.self.now.limited c.args.x y)

pub returns-then-max-eq0-clause-sums : goal.returns-then-max-eq0-clause-sums
returns-then-max-eq0-clause-sums c = rw c.gone.ensures.limits (all-unlimited _ c.args.self.now.limited c.args.x c.requires.sums)

pub returns-then-max-eq0-clause-bound : goal.returns-then-max-eq0-clause-bound
returns-then-max-eq0-clause-bound c = λ b. rw c.gone.ensures.limits (bound-unlimited c.args.self.now.limited c.args.x b)

pub add-requires-clause-vacant : goal.add-requires-clause-vacant
add-requires-clause-vacant c = vacant-listed c.self.inside.limited.pairs c.args.x c.args.self.now.limited (ap (λ (v : Limits). v.limited) c.self.view_is ∙ c.gone-2.ensures.limits)

pub returns-clause-limits : goal.returns-clause-limits
returns-clause-limits c =
    let others = ap (λ (v : Limits). v.limited) c.self.view_is ∙ c.gone-2.ensures.limits in
    λ y. ap (λ (m : map.FinMap nat_cmp Allowance). limit_of (listed m) y) c.add.ensures.pairs ∙ limit-replaced c.self.inside.limited.pairs c.args.x (record { limit = c.args.max; sum = c.sum_of-sum.result }) c.args.self.now.limited others y

pub returns-clause-sums : goal.returns-clause-sums
returns-clause-sums c =
    let others = ap (λ (v : Limits). v.limited) c.self.view_is ∙ c.gone-2.ensures.limits in
    subst (λ (m : map.FinMap nat_cmp Allowance). AllSums (listed m) c.args.tree.now.rows) (sym c.add.ensures.pairs)
    (all-inserted _ c.self.inside.limited.pairs c.args.x (record { limit = c.args.max; sum = c.sum_of-sum.result }) c.sum_of-sum.ensures
    (subst (λ (ls : List Limited). AllSums ls c.args.tree.now.rows) (sym others) (all-unlimited _ c.args.self.now.limited c.args.x c.requires.sums)))

pub returns-clause-bound : goal.returns-clause-bound
returns-clause-bound c = λ b.
    let others = ap (λ (v : Limits). v.limited) c.self.view_is ∙ c.gone-2.ensures.limits in
    let above : 0 < c.args.max = search rules in
    subst (λ (m : map.FinMap nat_cmp Allowance). AllBound (listed m)) (sym c.add.ensures.pairs)
    (all-inserted _ c.self.inside.limited.pairs c.args.x (record { limit = c.args.max; sum = c.sum_of-sum.result }) above
    (subst AllBound (sym others) (bound-unlimited c.args.self.now.limited c.args.x b)))

pub sum_of-sum-requires : goal.sum_of-sum-requires
sum_of-sum-requires c = all-kept c.args.self.now.limited c.args.tree.now.rows c.args.x c.requires.sums
