use Rattle.std.proofs.Common.{Option, None, subst, sym, ◌∙◌}
use Rattle.tree_specs.specs.declared.object.Obj.{Obj}
use Rattle.tree_specs.specs.declared.row.Mark.TheVariants.{Quiet}
use Rattle.tree_specs.specs.Invariants.Sound.{TurnedAt}
use Rattle.object_pool.specs.Objects.{Objects}
use Rattle.object_pool.proofs.Keeping.{marked-agree, turn-agree}
use Rattle.object_pool.proofs.Marks.{turning-row}
use Rattle.object_pool.proofs.pool.ObjectPool.exit.Goals as goal

pub invariant_of-self : goal.invariant_of-self
invariant_of-self c =
    let b = c.self.inside in
    let x = c.in_ok-context.context in
    let all = subst (λ (o : Objects). TurnedAt o.pool.turning o.pool.rows) (sym c.self.view_is) c.requires in
    let here = subst (λ (o : Option Obj). TurnedAt o b.tree.rows) (sym c.turning.ensures ∙ c.in_ok-context.was) all in
    let r = turning-row b.tree.rows x here in
    let turned = turn-agree b c.turn_to.new.self None c.turn_to.ensures.upcoming c.turn_to.ensures.kept c.turn_to.ensures.contexts c.self.invariant in
    marked-agree Quiet (record b { events = c.turn_to.new.self }) c.set_mark.new.self x c.set_mark.ensures.rows c.set_mark.ensures.works c.set_mark.ensures.spare r.0 r.1 (sym r.2) turned
