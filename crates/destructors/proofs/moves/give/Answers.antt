use Rattle.std.proofs.Common.{sym, ap, subst}
use Rattle.tree_specs.specs.Tree.Pool.{Pool}
use Rattle.tree_links.specs.Links.{pool_of}
use Rattle.references.specs.Rows.{SameRefs}
use Rattle.references.proofs.SameRefs.{put-elsewhere}
use Rattle.destructors.proofs.moves.give.Goals as goal

pub returns-clause-same_refs : goal.returns-clause-same_refs
returns-clause-same_refs c =
    subst (SameRefs c.args.tree.now.rows) (sym (ap (λ (p : Pool). p.rows) c.place.ensures.rows)) (put-elsewhere (pool_of c.args.tree.now) c.args.owner c.args.x c.requires.is)
