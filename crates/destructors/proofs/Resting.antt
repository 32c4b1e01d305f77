-- Trees in which nothing is going on, and engines that ask: what the tests rest on.
use Rattle.std.proofs.Common.{◌≡◌, ℕ, ◌+◌, ◌≤◌, ◌<◌, List, [], ◌∷◌, length, Option, Some, None, true, false, refl, sym, ◌∙◌, ap, subst, arith}
use Rattle.tree_specs.specs.declared.frame.Frame.TheVariants as frame
use Rattle.tree_specs.specs.declared.frame.CallFrame.TheVariants.{Awaiting}
use Rattle.tree_specs.specs.declared.frame.FreeFrame.{FreeFrame}
use Rattle.tree_specs.specs.declared.frame.FreeFrame.TheVariants.{Hooked, Judged, Ending}
use Rattle.tree_specs.specs.declared.free_step.FreeReply.TheVariants.{Ok}
use Rattle.tree_specs.specs.declared.free_step.FreeStep.TheVariants.{Ask}
use Rattle.tree_specs.specs.declared.kind.Kind.{Kind}
use Rattle.tree_specs.specs.declared.kind.Kind.TheVariants.{Plain}
use Rattle.tree_specs.specs.declared.object.Obj.{Obj}
use Rattle.tree_specs.specs.declared.object.Owner.{Owner}
use Rattle.tree_specs.specs.declared.question.Ask.TheVariants.{Quiet}
use Rattle.tree_specs.specs.declared.row.Row.{Row}
use Rattle.tree_specs.specs.Tree.Pool.{Pool, empty, row_of, is_owner, add, set_hook, hooked_row}
use Rattle.tree_specs.specs.Tree.Targets.{target_of}
use Rattle.tree_specs.specs.Calls.Refusals.{is_plain, is_plain_row}
use Rattle.tree_specs.specs.Invariants.Consistent.{deposit}
use Rattle.tree_specs.proofs.Invariants.Changes.{hooks-place, new-sound, unmarked-sound}
use Rattle.tree_specs.proofs.Tree.Rooted.{forest-none}
use Rattle.tree_specs.proofs.Turns.Lowering.{total-kept}
use Rattle.tree_links.specs.Links.{Links, pool_of}
use Rattle.destructors.specs.Frees.{OpenFrees, before, frees_of, moves, next_of, returned, speaking, Steps}
use Rattle.destructors.specs.Works.{AtWork, IsAtWork, AreAwaiting}
use Rattle.destructors.specs.Engine.{IsAsked, AreKept, HasRoom}
use Rattle.destructors.specs.Room.{wanted}
use Rattle.destructors.specs.Runs.{AsksFor}
use Rattle.destructors.proofs.Settling.{run-speaks, asks-run, still, asks-waiting}

-- no objects
pub empty-rests : (first : ℕ) → 0 < first → AreAwaiting [] (empty first)
empty-rests first positive = record {
  over = record {
    below = frame.Call (Awaiting Quiet (record { 0 = 0 })) ∷ [];
    frees = refl;
    sound = record {
      started = positive;
      valid = λ x. tt;
      forest = forest-none;
      refers = record { target = λ r t e. cc; quiet = λ r t e. cc };
      open_frees = λ x. refl;
      waiting = (tt, tt);
      turned = tt;
      rests = (tt, tt);
    };
    seated = (tt, tt);
    light = omega arith;
    turns = tt;
  };
  on = refl;
}

-- a new object
pub added-rests : (o : Owner) (size : ℕ) (name : List ℕ) (p : Pool) → is_owner p.rows o ≡ true → AreAwaiting [] p → AreAwaiting [] (add p Plain o size name)
added-rests o size name p there a =
    let w = a.over in
    let l = w.light in
    record {
      over = record {
        below = w.below;
        frees = w.frees;
        sound = new-sound (frame.Free (Ending Ok)) (frame.Free (Ending Ok)) Plain o size name w.below p w.sound there (λ t e. cc) (λ x. refl) w.sound.rests;
        seated = w.seated;
        light = omega (arith, l);
        turns = w.turns;
      };
      on = a.on;
    }

-- a plain object is given the destructor 16
pub hooked-rests : (x : Obj) (p : Pool) → is_plain_row (row_of p.rows x) ≡ true → AreAwaiting [] p → AreAwaiting [] (set_hook p x 16)
hooked-rests x p plain a = each (row_of p.rows x) refl
  where
    kinds : (k : Kind) → is_plain k ≡ true → target_of k ≡ None
    kinds Plain e = refl
    kinds _ e = cc

    each : (o : Option Row) → row_of p.rows x ≡ o → AreAwaiting [] (set_hook p x 16)
    each None e = let bad : false ≡ true = rw e at plain in cc
    each (Some r) e =
        let w = a.over in
        let l = w.light in
        let d = total-kept deposit (hooked_row 16) p.rows x r e refl in
        let object : target_of r.kind ≡ None = kinds r.kind (rw e at plain) in
        record {
          over = record {
            below = w.below;
            frees = w.frees;
            sound = unmarked-sound (hooked_row 16) (frame.Free (Ending Ok)) (frame.Free (Ending Ok)) w.below p x r w.sound (hooks-place 16) (λ r. refl) e object (λ y. refl) w.sound.rests;
            seated = w.seated;
            light = omega (arith, l, d);
            turns = w.turns;
          };
          on = a.on;
        }

first-is : {A B : Type 0} (a : A × B) (u : A) → a.0 ≡ u → a ≡ (u, a.1)
first-is {A = A} {B = B} (v, b) u e = ap (λ (z : A). let y : A × B = (z, b) in y) e

-- an engine that has asked waits for a destructor
pub asked : (o : Option FreeFrame) (old : Links) (x : Obj) (n : Option FreeFrame) (new : Links) → IsAtWork (frees_of o old) → AreKept o old → Steps (frees_of o old) (Ask x) (frees_of n new) → AreKept n new → IsAsked n
asked None old x n new w k s m = let bad : AtWork [] (pool_of old) = rw k at w in absurd bad
asked (Some f) old x n new w k s m = each n m (ap (λ (z : OpenFrees). z.works) (sym (still t (frees_of n new) s.moves_on loud) ∙ is.1))
  where
    t : OpenFrees
    t = (next_of (frees_of (Some f) old)).1

    is : AsksFor (Ask x) f × (t ≡ record { works = f ∷ old.frees; pool = pool_of old })
    is = asks-waiting f old.frees (pool_of old) (Ask x) (Hooked x 0) t refl (first-is (moves (f ∷ old.frees) (pool_of old)) (Some (Ask x)) s.tells)

    loud : speaking t ≡ true
    loud = rw is.1 (run-speaks f old.frees (pool_of old) (asks-run (Ask x) f is.0))

    hooked : (g : FreeFrame) → AsksFor (Ask x) g → IsAsked (Some g)
    hooked (Hooked y h) a = tt
    hooked g a = absurd a

    each : (n : Option FreeFrame) → AreKept n new → before n new.frees ≡ f ∷ old.frees → IsAsked n
    each None m e = let bad : f ∷ old.frees ≡ [] = sym e ∙ m in cc
    each (Some g) m e = let same : f ≡ g = cc in subst (λ (z : FreeFrame). IsAsked (Some z)) same (hooked f is.0)

-- an answer wants no more room
pub answered-room : (o n : Option FreeFrame) (v : ℕ) (tree : Links) → IsAsked o → frees_of n tree ≡ record { works = returned v (frees_of o tree); pool = pool_of tree } → HasRoom o tree → HasRoom n tree
answered-room (Some (Hooked x h)) n v tree a e room =
    let w : before n tree.frees ≡ Judged x h v ∷ tree.frees = ap (λ (s : OpenFrees). s.works) e in
    subst (λ (z : List FreeFrame). wanted z tree.rows ≤ length tree.frees + tree.room) (sym w) (omega (arith, room))
answered-room _ n v tree a e room = absurd a
