use Rattle.std.proofs.Common.{List, sym, ◌∙◌, ap, subst}
use Rattle.tree_specs.specs.Tree.Pool.{without}
use Rattle.memory_limits.specs.declared.limited.Limited.{Limited}
use Rattle.memory_limits.specs.Limits.{Limits, listed, AllSums, unlimited}
use Rattle.memory_limits.proofs.Listed.{removed-listed}
use Rattle.memory_limits.proofs.Gone.{gone-sums}
use Rattle.memory_limits.proofs.limits.Sums.gone.Goals as goal

pub returns-clause-limits : goal.returns-clause-limits
returns-clause-limits c = ap listed c.take.ensures.pairs ∙ removed-listed c.self.inside.limited.pairs c.args.x ∙ ap (λ (v : Limits). unlimited v.limited c.args.x) c.self.view_is

pub returns-clause-sums : goal.returns-clause-sums
returns-clause-sums c = λ rows f is left s.
    subst (λ (ls : List Limited). AllSums ls (without rows c.args.x)) (sym (returns-clause-limits c)) (gone-sums c.args.self.now.limited rows c.args.x f is left s)
