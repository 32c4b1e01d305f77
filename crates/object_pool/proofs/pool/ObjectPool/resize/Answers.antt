use Rattle.std.proofs.Common.{◌≡◌, ℕ, List, true, refl, sym, ◌∙◌, ap, subst, arith}
use Rattle.tree_specs.specs.declared.row.Row.{Row}
use Rattle.tree_specs.specs.Calls.Refusals.{is_plain_row}
use Rattle.tree_specs.specs.Tree.Pool.{Pool, row_of, changed, sized_row}
use Rattle.tree_specs.specs.Tree.Sums.{limit_at, size_at}
use Rattle.references.specs.Rows.{AreRefsOf}
use Rattle.references.proofs.Rows.{refs-same, same-changed}
use Rattle.memory_limits.specs.Limits.{AllSums}
use Rattle.object_pool.specs.Objects.{Objects}
use Rattle.object_pool.proofs.Counted.{other-sums}
use Rattle.object_pool.proofs.Fields.{sized-back, sized-plain, sized-limits}
use Rattle.object_pool.proofs.Keeping.{stays, changed-stays}
use Rattle.object_pool.proofs.pool.ObjectPool.resize.Goals as goal

pub resized-requires-clause-plain : goal.resized-requires-clause-plain
resized-requires-clause-plain c =
    subst (λ (rs : List Row). is_plain_row (row_of rs c.args.x) ≡ true) (sym (ap (λ (p : Pool). p.rows) c.set_size.ensures.rows))
    (sized-plain c.self.inside.tree.rows c.args.x c.args.size (subst (λ (o : Objects). is_plain_row (row_of o.pool.rows c.args.x) ≡ true) (sym c.self.view_is) c.requires.plain))

pub resized-requires-clause-sums : goal.resized-requires-clause-sums
resized-requires-clause-sums c =
    let size = ap (λ (n : ℕ). changed (sized_row n) c.set_size.new.self.rows c.args.x) c.size-before.ensures.size in
    let rows = ap (λ (p : Pool). changed (sized_row (size_at c.self.inside.tree.rows c.args.x)) p.rows c.args.x) c.set_size.ensures.rows in
    subst (AllSums c.self.inside.sums.limited) (sym (size ∙ rows ∙ sized-back c.self.inside.tree.rows c.args.x c.args.size)) c.self.invariant.limits.sums

pub invariant_of-self : goal.invariant_of-self
invariant_of-self c =
    let e = ap (λ (p : Pool). p.rows) c.set_size.ensures.rows in
    let n = ap (λ (p : Pool). p.next) c.set_size.ensures.rows in
    stays c.self.inside c.set_size.new.self c.resized.new.self
    (changed-stays (sized_row c.args.size) c.self.inside.engine c.self.inside.tree c.set_size.new.self c.args.x e c.set_size.ensures.works c.set_size.ensures.spare (omega (arith, n)) (λ r. refl) (λ r. refl) (λ r. refl))
    (subst (AreRefsOf c.self.inside.refs.pairs) (sym e)
    (refs-same c.self.inside.refs.pairs c.self.inside.tree.rows _ (same-changed (sized_row c.args.size) c.self.inside.tree.rows c.args.x (λ r. refl) (λ r. refl)) c.self.invariant.references))
    (other-sums c.self.inside.sums.limited c.resized.new.self.limited c.self.inside.tree.rows c.set_size.new.self.rows c.self.invariant.limits c.resized.ensures.bounds
    (λ y. ap (λ (p : Pool). limit_at p.rows y) c.set_size.ensures.rows ∙ sized-limits c.self.inside.tree.rows c.args.x c.args.size y) c.resized.ensures.sums)
    (let s = c.resized.ensures.spare in omega (arith, s)) c.self.invariant
