use Rattle.std.proofs.Common.{◌≡◌, Option, Some, sym, ◌∙◌, ap, subst}
use Rattle.tree_specs.specs.declared.frame.FreeFrame.{FreeFrame}
use Rattle.tree_specs.specs.declared.frame.FreeFrame.TheVariants.{Ending}
use Rattle.tree_specs.specs.declared.free_step.FreeStep.{FreeStep}
use Rattle.tree_specs.specs.declared.free_step.FreeStep.TheVariants.{Done}
use Rattle.tree_links.specs.Links.{pool_of}
use Rattle.destructors.specs.Frees.{OpenFrees, frees_of, Silently, Still}
use Rattle.destructors.proofs.Settling.{Tells, tells, over-told, awaiting-speaks}
use Rattle.destructors.proofs.engine.FreeEngine.end_free.Goals as goal

is-ending : (c : goal.After-self-1) → c.args.self.now ≡ Some (Ending c.in-Some-Ending.answer)
is-ending c =
    let f : c.in-Some-Ending.field-0 ≡ Ending c.in-Some-Ending.answer = rw c.in-Some-Ending.is at c.in-Some-Ending.field-0-is in
    sym c.self.view_is ∙ c.in-Some-Ending.is ∙ ap (λ (z : FreeFrame). Some z) f

-- it tells that it is over
told : (c : goal.After-self-1) → c.end.result.told ≡ Some (Done c.in-Some-Ending.answer)
told c =
    sym (ap (λ (z : Option FreeStep × OpenFrees). z.0) c.end.ensures.moved)
    ∙ over-told c.in-Some-Ending.answer c.args.tree.now.frees (pool_of c.args.tree.now) (rw (is-ending c) at c.requires.settled)

after : (c : goal.After-self-1) → Tells (Done c.in-Some-Ending.answer) c.end.result.innermost c.end.new.tree
after c =
    let e = c.end.ensures in
    tells (Ending c.in-Some-Ending.answer) c.args.self.now c.args.tree.now c.end.result.told (Done c.in-Some-Ending.answer) c.end.result.innermost c.end.new.tree
    (is-ending c) c.requires.at_work c.requires.room (told c) e.moved e.kept e.room

pub returns-clause-steps : goal.returns-clause-steps
returns-clause-steps c =
    let m = c.end.ensures.moved in
    let new = frees_of c.end.result.innermost c.end.new.tree in
    rw (is-ending c) (record {
      tells = ap (λ (z : Option FreeStep × OpenFrees). z.0) m ∙ told c;
      moves_on = subst (λ (s : OpenFrees). Silently s new) (sym (ap (λ (z : Option FreeStep × OpenFrees). z.1) m)) Still;
      settles = awaiting-speaks new (after c).goes_on;
    })

pub returns-clause-goes_on : goal.returns-clause-goes_on
returns-clause-goes_on c = (after c).goes_on

pub returns-clause-room : goal.returns-clause-room
returns-clause-room c = (after c).ready.room
