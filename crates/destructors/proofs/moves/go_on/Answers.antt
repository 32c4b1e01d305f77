use Rattle.std.proofs.Common.{refl, sym, ap, subst}
use Rattle.tree_specs.specs.Tree.Pool.{Pool, marked_row}
use Rattle.tree_specs.specs.declared.row.Mark.TheVariants.{Quiet}
use Rattle.references.specs.Rows.{SameRefs}
use Rattle.references.proofs.Rows.{same-changed}
use Rattle.destructors.proofs.moves.go_on.Goals as goal

pub returns-clause-same_refs : goal.returns-clause-same_refs
returns-clause-same_refs c =
    subst (SameRefs c.args.tree.now.rows) (sym (ap (λ (p : Pool). p.rows) c.set_mark.ensures.rows)) (same-changed (marked_row Quiet) c.args.tree.now.rows c.args.x (λ r. refl) (λ r. refl))
