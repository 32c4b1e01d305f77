-- What is done to the tree between a question of the engine and its answer.
use Rattle.std.proofs.Common.{◌≡◌, ◌+◌, ◌≤◌, List, Some, refl, arith}
use Rattle.tree_specs.specs.declared.object.Obj.{Obj}
use Rattle.tree_specs.specs.declared.row.Row.{Row}
use Rattle.tree_specs.specs.declared.frame.Frame.{Frame}
use Rattle.tree_specs.specs.declared.frame.Frame.TheVariants as frame
use Rattle.tree_specs.specs.declared.frame.FreeFrame.{FreeFrame}
use Rattle.tree_specs.specs.declared.frame.FreeFrame.TheVariants.{Ending}
use Rattle.tree_specs.specs.declared.free_step.FreeReply.TheVariants.{Ok}
use Rattle.tree_specs.specs.declared.test.Test.TheVariants.{IsObject}
use Rattle.tree_specs.specs.Calls.Passed.{Passed}
use Rattle.tree_specs.specs.Calls.Plans.{Change, changed_by}
use Rattle.tree_specs.specs.Calls.Plans.Change.{Edit}
use Rattle.tree_specs.specs.Tree.Pool.{Pool}
use Rattle.tree_specs.proofs.Calls.Changes.{MayDo, MayBeEdited, change-sound, follows}
use Rattle.tree_specs.proofs.Tree.Rooted.{KeepsPlace}
use Rattle.destructors.specs.Works.{AreAwaiting}

-- a change that a call makes leaves the open frees awaiting
pub awaits-change : (fs : List FreeFrame) (p : Pool) (c : Change) → AreAwaiting fs p → MayDo p c → AreAwaiting fs (changed_by c p)
awaits-change fs p c a may =
    let h = a.over in
    let f : Frame = frame.Free (Ending Ok) in
    let d = (follows p c may).deposit in
    let light = h.light in
    record {
      over = record {
        below = h.below;
        frees = h.frees;
        sound = change-sound f f h.below p c h.sound may (λ y. refl) (λ q. h.sound.rests) h.sound.rests;
        seated = h.seated;
        light = omega (arith, light, d);
        turns = h.turns;
      };
      on = a.on;
    }

-- so does an edit of an object that leaves its place and its mark
pub awaits-edit : (fs : List FreeFrame) (p : Pool) (x : Obj) (g : Row → Row) → AreAwaiting fs p → Passed p (IsObject x) → KeepsPlace g → ((r : Row) → (g r).mark ≡ r.mark) → AreAwaiting fs (changed_by (Edit x g) p)
awaits-edit fs p x g a is place mark = awaits-change fs p (Edit x g) a (record { row = is.0; is = is.1; object = is.2; place = place; mark = mark })
