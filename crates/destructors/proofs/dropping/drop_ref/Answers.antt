use Rattle.std.proofs.Common.{List, sym, ap, subst}
use Rattle.tree_specs.specs.Tree.Pool.{Pool}
use Rattle.tree_specs.proofs.Tree.Referring.{reference-childless}
use Rattle.references.specs.declared.refs.Pair.{Pair}
use Rattle.references.specs.Pairs.{without}
use Rattle.references.specs.Rows.{AreRefsOf}
use Rattle.references.proofs.Rows.{refs-dropped}
use Rattle.destructors.proofs.dropping.drop_ref.Goals as goal

pub remove-requires-clause-alone : goal.remove-requires-clause-alone
remove-requires-clause-alone c = reference-childless c.args.tree.now.rows c.args.reference c.args.target c.len-rows.ensures.sound.forest c.requires.is

pub returns-clause-refs : goal.returns-clause-refs
returns-clause-refs c =
    let left = refs-dropped c.args.refs.now.pairs c.args.tree.now.rows c.args.reference c.len-rows.ensures.sound.forest.distinct c.requires.refs in
    subst (λ (ps : List Pair). AreRefsOf ps c.remove.new.self.rows) (sym c.drop_ref-target.ensures.pairs)
    (subst (AreRefsOf (without c.args.refs.now.pairs c.args.reference)) (sym (ap (λ (p : Pool). p.rows) c.remove.ensures.rows)) left)
