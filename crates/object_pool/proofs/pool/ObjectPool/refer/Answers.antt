use Rattle.std.proofs.Common.{false, codes, length, refl, ap, arith}
use Rattle.tree_specs.specs.declared.kind.Kind.TheVariants.{Reference}
use Rattle.tree_specs.specs.Tree.Pool.{Pool}
use Rattle.object_pool.proofs.Keeping.{spent, never}
use Rattle.object_pool.proofs.Requesting.{grows}
use Rattle.object_pool.proofs.pool.ObjectPool.refer.Goals as goal

pub invariant_of-self : goal.invariant_of-self
invariant_of-self c =
    let spare = c.count_added.ensures.spare in
    let n = ap (λ (p : Pool). p.next) c.refer-serial.ensures.rows in
    let more = ap (λ (p : Pool). length p.rows) c.refer-serial.ensures.rows in
    spent c.self.inside c.refer-serial.new.tree c.refer-serial.new.refs c.count_added.new.sums false c.self.inside.limit c.self.inside.event never (λ z. let l = c.self.invariant.limit z in omega (arith, l, spare)) c.self.invariant.event
    (rw (← c.self.view_is) at c.requires.ready) (omega (arith, n)) (omega (arith, more)) c.refer-serial.ensures.works c.refer-serial.ensures.refs c.count_added.ensures.kept
    (grows c.refer-serial.new.tree c.self.inside.tree (Reference c.args.target) c.args.owner 0 (codes "reference") refl c.refer-serial.ensures.rows) c.self.invariant
