use Rattle.std.proofs.Common.{rules, ◌≡◌, true, false, Some, subst, sym}
use Rattle.tree_specs.specs.declared.row.Mark.TheVariants.{Busy}
use Rattle.tree_specs.specs.Tree.Pool.{is_usable}
use Rattle.tree_specs.specs.Words.Objects.{same, first_context}
use Rattle.object_pool.specs.Objects.{Objects}
use Rattle.object_pool.proofs.Keeping.{marked-agree, turn-agree}
use Rattle.object_pool.proofs.Marks.{usable-row}
use Rattle.object_pool.proofs.pool.ObjectPool.enter.Goals as goal

pub invariant_of-self : goal.invariant_of-self
invariant_of-self c =
    let b = c.self.inside in
    let other : same c.args.context first_context ≡ false = search rules in
    let usable = subst (λ (o : Objects). is_usable o.pool.rows c.args.context ≡ true) (sym c.self.view_is) c.requires in
    let r = usable-row b.tree.rows c.args.context other usable in
    let turned = turn-agree b c.turn_to.new.self (Some c.args.context) c.turn_to.ensures.upcoming c.turn_to.ensures.kept c.turn_to.ensures.contexts c.self.invariant in
    marked-agree Busy (record b { events = c.turn_to.new.self }) c.set_mark.new.self c.args.context c.set_mark.ensures.rows c.set_mark.ensures.works c.set_mark.ensures.spare r.0 r.1 (sym r.2) turned
