use Rattle.std.proofs.Common.{◌≡◌, true, false, length, refl, sym, ◌∙◌, ap, subst, arith}
use Rattle.tree_specs.specs.Tree.Pool.{Pool, is_row, limited_row}
use Rattle.tree_specs.proofs.Turns.Lowering.{length-changed}
use Rattle.references.specs.Rows.{AreRefsOf}
use Rattle.references.proofs.Rows.{refs-same, same-changed}
use Rattle.memory_limits.specs.Limits.{AllSums, AreLimitsOf}
use Rattle.object_pool.specs.Objects.{Objects}
use Rattle.object_pool.proofs.Fields.{limited-sums, limited-kept}
use Rattle.object_pool.proofs.Hosted.{NoMoreContexts, contexts-changed}
use Rattle.object_pool.proofs.Keeping.{spent, never}
use Rattle.object_pool.proofs.pool.ObjectPool.limit.Goals as goal

pub set_limit-requires-2-clause-sums : goal.set_limit-requires-2-clause-sums
set_limit-requires-2-clause-sums c =
    subst (AllSums c.self.inside.sums.limited) (sym (ap (λ (p : Pool). p.rows) c.set_limit.ensures.rows)) (limited-sums c.self.inside.sums.limited c.self.inside.tree.rows c.args.x c.args.max c.self.invariant.limits.sums)

pub invariant_of-self : goal.invariant_of-self
invariant_of-self c =
    let e = ap (λ (p : Pool). p.rows) c.set_limit.ensures.rows in
    let n = ap (λ (p : Pool). p.next) c.set_limit.ensures.rows in
    let as_many = ap length e ∙ length-changed (limited_row c.args.max) c.self.inside.tree.rows c.args.x in
    spent c.self.inside c.set_limit.new.self c.self.inside.refs c.set_limit-2.new.self c.self.inside.reference false c.self.inside.event c.self.invariant.reference never c.self.invariant.event
    (subst (λ (o : Objects). o.ready ≡ true) (sym c.self.view_is) c.requires.ready) (omega (arith, n)) (omega (arith, as_many)) c.set_limit.ensures.works
    (subst (AreRefsOf c.self.inside.refs.pairs) (sym e)
    (refs-same c.self.inside.refs.pairs c.self.inside.tree.rows _ (same-changed (limited_row c.args.max) c.self.inside.tree.rows c.args.x (λ r. refl) (λ r. refl)) c.self.invariant.references))
    (subst (AreLimitsOf c.set_limit-2.new.self.limited) (sym e)
    (limited-kept c.self.inside.sums.limited c.set_limit-2.new.self.limited c.self.inside.tree.rows c.args.x c.args.max (subst (λ (o : Objects). is_row o.pool.rows c.args.x ≡ true) (sym c.self.view_is) c.requires.is)
    c.set_limit-2.ensures.limits c.set_limit-2.ensures.bound (subst (AllSums c.set_limit-2.new.self.limited) e c.set_limit-2.ensures.sums) c.self.invariant.limits))
    (subst (NoMoreContexts c.self.inside.tree.rows) (sym e) (contexts-changed (limited_row c.args.max) c.self.inside.tree.rows c.args.x (λ r. refl) (λ r. refl))) c.self.invariant
