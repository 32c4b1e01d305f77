use Rattle.std.proofs.Common.{refl, sym, ap, subst}
use Rattle.tree_specs.specs.Tree.Pool.{Pool, marked_row}
use Rattle.tree_specs.specs.declared.row.Mark.TheVariants.{Asked, Doomed}
use Rattle.references.specs.Rows.{SameRefs}
use Rattle.references.proofs.Rows.{same-changed}
use Rattle.destructors.proofs.moves.begin.Goals as goal

pub returns-in-Quiet-clause-same_refs : goal.returns-in-Quiet-clause-same_refs
returns-in-Quiet-clause-same_refs c =
    subst (SameRefs c.args.tree.now.rows) (sym (ap (λ (p : Pool). p.rows) c.set_mark.ensures.rows)) (same-changed (marked_row Asked) c.args.tree.now.rows c.args.x (λ r. refl) (λ r. refl))

pub returns-in-Quiet-2-clause-same_refs : goal.returns-in-Quiet-2-clause-same_refs
returns-in-Quiet-2-clause-same_refs c =
    subst (SameRefs c.args.tree.now.rows) (sym (ap (λ (p : Pool). p.rows) c.set_mark-in-Quiet-2.ensures.rows)) (same-changed (marked_row Asked) c.args.tree.now.rows c.args.x (λ r. refl) (λ r. refl))

pub returns-in-Quiet-4-clause-same_refs : goal.returns-in-Quiet-4-clause-same_refs
returns-in-Quiet-4-clause-same_refs c =
    subst (SameRefs c.args.tree.now.rows) (sym (ap (λ (p : Pool). p.rows) c.set_mark-in-Quiet-4.ensures.rows)) (same-changed (marked_row Asked) c.args.tree.now.rows c.args.x (λ r. refl) (λ r. refl))

pub returns-in-Busy-clause-same_refs : goal.returns-in-Busy-clause-same_refs
returns-in-Busy-clause-same_refs c =
    subst (SameRefs c.args.tree.now.rows) (sym (ap (λ (p : Pool). p.rows) c.set_mark-in-Busy.ensures.rows)) (same-changed (marked_row Doomed) c.args.tree.now.rows c.args.x (λ r. refl) (λ r. refl))
