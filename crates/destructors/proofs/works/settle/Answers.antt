use Rattle.std.proofs.Common.{◌≡◌, length, Option, Some, None, true, refl, sym, ◌∙◌, ap, subst, arith}
use Rattle.std.specs.Option.{option_copied}
use Rattle.tree_specs.specs.declared.frame.FreeFrame.{FreeFrame}
use Rattle.destructors.specs.Frees.{frees_of, speaking, Still, On}
use Rattle.destructors.specs.Engine.{MayMove, HasRoom, MovesQuietly}
use Rattle.destructors.proofs.Settling.{onward, ready-rests}
use Rattle.destructors.proofs.works.settle.Goals as goal

pub loop-work-init : goal.loop-work-init
loop-work-init c = record { ready = c.requires.ready; moves_on = Still; at_work = λ w. w; rows = omega arith; spare = omega arith; refs = c.requires.refs }

pub returns-in_default-clause-settles : goal.returns-in_default-clause-settles
returns-in_default-clause-settles c =
    let is : c.loop-work.innermost ≡ None = sym c.as_ref.ensures.value ∙ ap option_copied c.in_default.is in
    let none : MayMove None c.loop-work.tree = rw is at c.loop-work.invariant.ready.moves in
    subst (λ (i : Option FreeFrame). speaking (frees_of i c.loop-work.tree) ≡ true) (sym is) (rw none refl)

pub move_quietly-requires-clause-room : goal.move_quietly-requires-clause-room
move_quietly-requires-clause-room c =
    let is : c.loop-work.innermost ≡ Some c.in-Some.work.now = sym c.as_ref.ensures.value ∙ ap option_copied c.in-Some.is in
    let had : HasRoom (Some c.in-Some.work.now) c.loop-work.tree = rw is at c.loop-work.invariant.ready.room in had

pub loop-work-smaller : goal.loop-work-smaller
loop-work-smaller c =
    let is : c.loop-work.innermost ≡ Some c.in-Some.work.now = sym c.as_ref.ensures.value ∙ ap option_copied c.in-Some.is in
    let m : MovesQuietly c.in-Some.work.now c.loop-work.tree (Some c.in-Some-move_quietly.next) c.move_quietly.new.tree = rw c.in-Some-move_quietly.is at c.move_quietly.ensures.moved in
    let o = onward c.in-Some.work.now c.loop-work.innermost c.loop-work.tree c.in-Some-move_quietly.next c.move_quietly.new.tree is c.loop-work.invariant.ready m c.move_quietly.ensures.room in
    rw is (o.falls (length c.args.tree.now.rows) c.loop-work.invariant.rows)

pub loop-work-preserved : goal.loop-work-preserved
loop-work-preserved c =
    let is : c.loop-work.innermost ≡ Some c.in-Some.work.now = sym c.as_ref.ensures.value ∙ ap option_copied c.in-Some.is in
    let m : MovesQuietly c.in-Some.work.now c.loop-work.tree (Some c.in-Some-move_quietly.next) c.move_quietly.new.tree = rw c.in-Some-move_quietly.is at c.move_quietly.ensures.moved in
    let o = onward c.in-Some.work.now c.loop-work.innermost c.loop-work.tree c.in-Some-move_quietly.next c.move_quietly.new.tree is c.loop-work.invariant.ready m c.move_quietly.ensures.room in
    record {
      ready = o.ready;
      moves_on = On (frees_of (Some c.in-Some.work.now) c.loop-work.tree) _ (rw is at c.loop-work.invariant.moves_on) o.silently;
      at_work = λ w. o.at_work;
      rows = o.rows (length c.args.tree.now.rows) c.loop-work.invariant.rows;
      spare = omega (arith, c.loop-work.invariant.spare, c.move_quietly.ensures.spare);
      refs = c.move_quietly.ensures.refs;
    }

pub move_quietly-requires-clause-rests : goal.move_quietly-requires-clause-rests
move_quietly-requires-clause-rests c =
    let is : c.loop-work.innermost ≡ Some c.in-Some.work.now = sym c.as_ref.ensures.value ∙ ap option_copied c.in-Some.is in
    ready-rests c.in-Some.work.now c.loop-work.innermost c.loop-work.tree is c.loop-work.invariant.ready
