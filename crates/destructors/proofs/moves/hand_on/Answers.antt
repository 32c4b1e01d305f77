use Rattle.std.proofs.Common.{rules, ◌≡◌, true, sym, ap, subst}
use Rattle.tree_specs.specs.Tree.Pool.{Pool, is_below, owner_of}
use Rattle.tree_specs.specs.declared.object.Owner.TheVariants.{Of}
use Rattle.tree_links.specs.Links.{pool_of}
use Rattle.references.specs.Rows.{SameRefs}
use Rattle.references.proofs.SameRefs.{put-elsewhere}
use Rattle.destructors.proofs.moves.hand_on.Goals as goal

pub returns-clause-same_refs : goal.returns-clause-same_refs
returns-clause-same_refs c =
    let below : is_below (owner_of c.args.tree.now.rows c.args.child) (Of c.args.x) ≡ true = search rules in
    subst (SameRefs c.args.tree.now.rows) (sym (ap (λ (p : Pool). p.rows) c.place.ensures.rows)) (put-elsewhere (pool_of c.args.tree.now) c.heir-owner.result c.args.child (c.requires below).is)
