use Rattle.std.proofs.Common.{rules, ◌≡◌, true, refl, sym, ap, subst}
use Rattle.tree_specs.specs.Calls.Refusals.{is_plain_row}
use Rattle.tree_specs.specs.Tree.Pool.{Pool, row_of, hooked_row}
use Rattle.references.specs.Rows.{AreRefsOf}
use Rattle.references.proofs.Rows.{refs-same, same-changed}
use Rattle.tree_links.specs.Links.{pool_of}
use Rattle.destructors.proofs.Resting.{hooked-rests}
use Rattle.tree_tests.proofs.tests.freeing.World.hook.Goals as goal

pub returns : goal.returns
returns g c = record {
  alone = search rules;
  waiting =
      (let plain : is_plain_row (row_of c.args.self.now.tree.rows c.args.x) ≡ true = search rules in
      rw c.set_hook.ensures.rows (hooked-rests c.args.x (pool_of c.args.self.now.tree) plain c.requires.waiting));
  refs = subst (AreRefsOf c.args.self.now.refs.pairs) (sym (ap (λ (p : Pool). p.rows) c.set_hook.ensures.rows))
      (refs-same c.args.self.now.refs.pairs c.args.self.now.tree.rows _ (same-changed (hooked_row 16) c.args.self.now.tree.rows c.args.x (λ r. refl) (λ r. refl)) c.requires.refs);
}
