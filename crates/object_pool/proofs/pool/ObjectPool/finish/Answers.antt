use Rattle.std.proofs.Common.{◌≡◌, true, false, subst, sym}
use Rattle.tree_specs.specs.declared.row.Mark.TheVariants.{Quiet}
use Rattle.tree_specs.specs.Promises.Grounded.{is_asked}
use Rattle.tree_specs.specs.Tree.Pool.{is_row, is_dying}
use Rattle.tree_links.specs.Links.{pool_of}
use Rattle.object_pool.specs.Objects.{Objects}
use Rattle.object_pool.proofs.Keeping.{marked-agree}
use Rattle.object_pool.proofs.Marks.{live-row}
use Rattle.object_pool.proofs.pool.ObjectPool.finish.Goals as goal

pub invariant_of-self : goal.invariant_of-self
invariant_of-self c =
    let b = c.self.inside in
    let r = live-row (pool_of b.tree) c.args.x
    (subst (λ (o : Objects). is_row o.pool.rows c.args.x ≡ true) (sym c.self.view_is) c.requires.is)
    (subst (λ (o : Objects). is_dying o.pool.rows c.args.x ≡ false) (sym c.self.view_is) c.requires.live)
    (subst (λ (o : Objects). is_asked o.pool c.args.x ≡ false) (sym c.self.view_is) c.requires.unasked) in
    marked-agree Quiet b c.set_mark.new.self c.args.x c.set_mark.ensures.rows c.set_mark.ensures.works c.set_mark.ensures.spare r.0 r.1 (sym r.2) c.self.invariant
