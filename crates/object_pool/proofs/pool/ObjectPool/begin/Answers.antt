use Rattle.std.proofs.Common.{◌≡◌, List, true, false, subst, sym, ap, ◌∙◌}
use Rattle.tree_specs.specs.declared.row.Row.{Row}
use Rattle.tree_specs.specs.declared.row.Mark.TheVariants.{Busy}
use Rattle.tree_specs.specs.Promises.Grounded.{is_asked}
use Rattle.tree_specs.specs.Tree.Pool.{of_rows, is_row, is_dying}
use Rattle.tree_links.specs.Links.{pool_of}
use Rattle.object_pool.specs.Objects.{Objects}
use Rattle.object_pool.proofs.Keeping.{marked-agree}
use Rattle.object_pool.proofs.Marks.{live-row, rotated-rows}
use Rattle.object_pool.proofs.pool.ObjectPool.begin.Goals as goal

pub invariant_of-self : goal.invariant_of-self
invariant_of-self c =
    let b = c.self.inside in
    let rows : b.tree.rows ≡ c.args.self.now.pool.rows = ap (λ (o : Objects). o.pool.rows) (c.self.view_is ∙ c.rotate.ensures) ∙ rotated-rows c.args.what c.args.x c.args.self.now.pool in
    let r = live-row (pool_of b.tree) c.args.x
    (subst (λ (rs : List Row). is_row rs c.args.x ≡ true) (sym rows) c.requires.is)
    (subst (λ (rs : List Row). is_dying rs c.args.x ≡ false) (sym rows) c.requires.live)
    (subst (λ (rs : List Row). is_asked (of_rows rs 0) c.args.x ≡ false) (sym rows) c.requires.unasked) in
    marked-agree Busy b c.set_mark.new.self c.args.x c.set_mark.ensures.rows c.set_mark.ensures.works c.set_mark.ensures.spare r.0 r.1 (sym r.2) c.self.invariant
