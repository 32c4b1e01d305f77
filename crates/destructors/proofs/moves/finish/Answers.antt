use Rattle.std.proofs.Common.{◌≡◌, None, true, sym, ap, subst}
use Rattle.tree_specs.specs.Tree.Pool.{Pool, is_dying, target_at}
use Rattle.references.specs.Rows.{SameRefs}
use Rattle.references.proofs.Rows.{same-without}
use Rattle.destructors.proofs.moves.finish.Goals as goal

pub returns-in-Removal-clause-same_refs : goal.returns-in-Removal-clause-same_refs
returns-in-Removal-clause-same_refs c =
    let rests : (is_dying c.args.tree.now.rows c.args.x ≡ true) × (target_at c.args.tree.now.rows c.args.x ≡ None) = rw c.in-Removal.is at c.requires.rests in
    subst (SameRefs c.args.tree.now.rows) (sym (ap (λ (p : Pool). p.rows) c.remove.ensures.rows)) (same-without c.args.tree.now.rows c.args.x rests.1 c.len-rows.ensures.sound.forest.distinct)
