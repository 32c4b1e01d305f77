use Rattle.std.proofs.Common.{refl, sym, ap, subst}
use Rattle.tree_specs.specs.Tree.Pool.{Pool}
use Rattle.references.specs.Rows.{SameRefs}
use Rattle.destructors.proofs.works.end_quietly.Goals as goal

pub returns-clause-same_refs : goal.returns-clause-same_refs
returns-clause-same_refs c = subst (SameRefs c.args.tree.now.rows) (sym (ap (λ (p : Pool). p.rows) c.pop_free.ensures.rows)) (λ r. refl)
