-- The works of a host as those who call the engine show them to it: each queue stands as a request that is received.
use Rattle.std.proofs.Common.{◌≡◌, ℕ, List, [], ◌∷◌, ◌++◌, map, refl, sym, ◌∙◌, ap, subst, arith}
use Rattle.tree_specs.specs.declared.frame.Frame.{Frame}
use Rattle.tree_specs.specs.declared.frame.Frame.TheVariants as frame
use Rattle.tree_specs.specs.declared.frame.CallFrame.TheVariants.{Awaiting, Returning}
use Rattle.tree_specs.specs.declared.frame.TurnFrame.TheVariants.{Clearing}
use Rattle.tree_specs.specs.declared.frame.FreeFrame.{FreeFrame}
use Rattle.tree_specs.specs.declared.frame.FreeFrame.TheVariants.{Preparing, Draining, Ending}
use Rattle.tree_specs.specs.declared.frame.RequestFrame.TheVariants.{Releasing, Dropping, Over}
use Rattle.tree_specs.specs.declared.frame.Purpose.{Purpose}
use Rattle.tree_specs.specs.declared.frame.Purpose.TheVariants.{Removal, Emptying}
use Rattle.tree_specs.specs.declared.free_step.FreeReply.TheVariants.{Ok}
use Rattle.tree_specs.specs.declared.object.Obj.{Obj}
use Rattle.tree_specs.specs.declared.question.Ask.TheVariants.{Routine}
use Rattle.tree_specs.specs.declared.reply.Reply.{Reply}
use Rattle.tree_specs.specs.Rules.Answers.{hook_moment}
use Rattle.tree_specs.specs.Tree.Pool.{Pool}
use Rattle.tree_specs.specs.Machine.Profiles.{Phase, profile}
use Rattle.tree_specs.specs.Invariants.Sound.{Footing, Drains, IsCalled, IsTurned, IsRequested, IsPrepared, Stands, IsWaiting, AllWait, MayWait, Sound, footing, claim, claims}
use Rattle.tree_specs.specs.Invariants.Sound.Footing.{OnCall, OnFree, OnDropping, OnTurning, OnRequesting}
use Rattle.tree_specs.specs.Invariants.Consistent.{IsFree, IsStacked, IsPaidFor, Serves, size, sizes}
use Rattle.tree_specs.proofs.Invariants.Changes.{stands}
use Rattle.tree_specs.proofs.Invariants.Waiters.{Waiter, ForFree, ForRun, ForChild, ForTurn, ForHandler, ForClear, ForParting, ForRequest, ForServed, ForReceived, ForDrained, ForRoutine, ForRelease, ForEntry, waiter}
use Rattle.tree_specs.proofs.Turns.Seats.{reseat, reseat-free, reseat-work}
use Rattle.destructors.specs.Works.{frees_among, AreTurnsLast, as_received, AreAwaiting}

abbrev pub shown : Frame → Frame
shown (frame.Free f) = frame.Free (as_received f)
shown (frame.Request (Dropping q e)) = frame.Request (Releasing e)
shown f = f

abbrev pub all_shown : List Frame → List Frame
all_shown [] = []
all_shown (f ∷ fs) = shown f ∷ all_shown fs

-- ---- what they are

pub shown-frees : (gs : List Frame) → frees_among (all_shown gs) ≡ map as_received (frees_among gs)
shown-frees [] = refl
shown-frees (frame.Free f ∷ gs) = ap (λ (l : List FreeFrame). as_received f ∷ l) (shown-frees gs)
shown-frees (frame.Request (Dropping q e) ∷ gs) = shown-frees gs
shown-frees (frame.Request r ∷ gs) = shown-frees gs
shown-frees (_ ∷ gs) = shown-frees gs

pub shown-turns : (gs : List Frame) → AreTurnsLast gs → AreTurnsLast (all_shown gs)
shown-turns [] t = tt
shown-turns (frame.Turn h ∷ gs) t = (shown-frees gs ∙ ap (map as_received) t.0, shown-turns gs t.1)
shown-turns (frame.Request (Dropping q e) ∷ gs) t = shown-turns gs t
shown-turns (frame.Request r ∷ gs) t = shown-turns gs t
shown-turns (_ ∷ gs) t = shown-turns gs t

shown-claim : (x : Obj) (g : Frame) → claim x (shown g) ≡ claim x g
shown-claim x (frame.Free (Draining y)) = refl
shown-claim x (frame.Request (Dropping q e)) = refl
shown-claim x _ = refl

pub shown-claims : (x : Obj) (gs : List Frame) → claims x (all_shown gs) ≡ claims x gs
shown-claims x [] = refl
shown-claims x (g ∷ gs) = ap (λ (l : List Phase). l ++ claims x (all_shown gs)) (shown-claim x g) ∙ ap (λ (l : List Phase). claim x g ++ l) (shown-claims x gs)

shown-size : (g : Frame) → size (shown g) ≡ size g
shown-size (frame.Free (Draining y)) = refl
shown-size (frame.Request (Dropping q e)) = refl
shown-size _ = refl

pub shown-sizes : (gs : List Frame) → sizes (all_shown gs) ≡ sizes gs
shown-sizes [] = refl
shown-sizes (g ∷ gs) = let a = shown-size g in let b = shown-sizes gs in omega (arith, a, b)

-- ---- what they stand on

abbrev pub shown_footing : Footing → Footing
shown_footing (OnFree f) = OnFree (as_received f)
shown_footing OnDropping = OnCall
shown_footing on = on

pub shown-on : (gs : List Frame) → footing (all_shown gs) ≡ shown_footing (footing gs)
shown-on (frame.Call (Awaiting q x) ∷ gs) = refl
shown-on (frame.Turn (Clearing x) ∷ gs) = refl
shown-on (frame.Request (Dropping q e) ∷ gs) = refl
shown-on _ = refl

called : (on : Footing) → IsCalled on → IsCalled (shown_footing on)
called OnCall h = h
called _ h = absurd h

turned : (on : Footing) → IsTurned on → IsTurned (shown_footing on)
turned OnTurning h = h
turned _ h = absurd h

requested : (on : Footing) → IsRequested on → IsRequested (shown_footing on)
requested OnRequesting h = h
requested (OnFree (Preparing x)) h = h
requested _ h = absurd h

drained : (q : Obj) (on : Footing) → Drains q on → IsRequested (shown_footing on)
drained q (OnFree (Draining x)) h = tt
drained q _ h = absurd h

-- what comes before a free is over
pub prepared-on : (on : Footing) → IsPrepared on → IsRequested (shown_footing on)
prepared-on OnRequesting h = h
prepared-on (OnFree (Preparing x)) h = h
prepared-on (OnFree (Draining x)) h = tt
prepared-on _ h = absurd h

emptied : (purpose : Purpose) (on : Footing) → Stands purpose on → Stands purpose (shown_footing on)
emptied (Removal h) on s = tt
emptied Emptying on s = called on s

waits-shown : (g : Frame) (gs : List Frame) → IsWaiting g gs → MayWait (profile (shown g)).waits (shown_footing (footing gs))
waits-shown g gs w = each g (waiter g gs w) w
  where
    each : (g : Frame) → Waiter g → IsWaiting g gs → MayWait (profile (shown g)).waits (shown_footing (footing gs))
    each _ (ForFree q x) w = tt
    each _ (ForRun x h) w = w
    each _ (ForChild x c noted purpose) w = emptied purpose (footing gs) w
    each _ (ForTurn q) w = tt
    each _ (ForHandler what x handler occasion) w = turned (footing gs) w
    each _ (ForClear x) w = turned (footing gs) w
    each _ (ForParting c v) w = turned (footing gs) w
    each _ (ForRequest q) w = tt
    each _ (ForServed x) w = turned (footing gs) w
    each _ (ForReceived x) w = tt
    each _ (ForDrained x) w = tt
    each _ (ForRoutine what x handler errand) w = requested (footing gs) w
    each _ (ForRelease c) w = requested (footing gs) w
    each _ (ForEntry q e) w = drained q (footing gs) w

pub shown-wait : (gs : List Frame) → AllWait gs → AllWait (all_shown gs)
shown-wait [] w = tt
shown-wait (g ∷ gs) w = (subst (MayWait (profile (shown g)).waits) (sym (shown-on gs)) (waits-shown g gs w.0), shown-wait gs w.1)

-- ---- where they stand

shown-serves : (f g : Frame) → Serves (profile g).waits f → Serves (profile (shown g)).waits f
shown-serves f (frame.Free (Draining x)) s = s
shown-serves f (frame.Request (Dropping q e)) s = s
shown-serves f _ s = s

shown-seat : (g : Frame) (gs : List Frame) → IsStacked g gs → IsStacked (shown g) gs
shown-seat (frame.Free (Draining x)) gs s = reseat-free (Draining x) (Preparing x) gs s
shown-seat (frame.Request (Dropping q e)) gs s = reseat-work (Dropping q e) (Releasing e) gs s
shown-seat _ gs s = s

pub shown-stacked : (f : Frame) (gs : List Frame) → IsStacked f gs → IsStacked f (all_shown gs)
shown-stacked f [] s = s
shown-stacked f (g ∷ gs) s = (shown-serves f g s.0, shown-stacked (shown g) gs (shown-seat g gs s.1))

-- ---- what the engine has to know

-- a free that begins, and claims nothing, is awaited by whatever it stands on that is no free
pub begun-awaits : (f : FreeFrame) (g : Frame) (gs : List Frame) (fs : List FreeFrame) (p : Pool) → (IsFree g → ⊥) → ((x : Obj) → claim x (frame.Free f) ≡ []) → Sound (frame.Free f) (g ∷ gs) p → IsStacked (frame.Free f) (g ∷ gs)
    → IsPaidFor (frame.Free f) (g ∷ gs) p → AreTurnsLast (g ∷ gs) → frees_among (g ∷ gs) ≡ fs → AreAwaiting fs p
begun-awaits f g gs fs p n none s seated light turns e =
    let works = g ∷ gs in
    let weight = shown-sizes works in
    record {
      over = record {
        below = all_shown works;
        frees = shown-frees works ∙ ap (map as_received) e;
        sound = stands (frame.Free f) (frame.Free (Ending Ok)) works (all_shown works) p (λ x. rw (none x) (shown-claims x works)) (shown-wait works s.waiting) (tt, tt) s;
        seated = shown-stacked (frame.Free (Ending Ok)) works (reseat-free f (Ending Ok) works seated);
        light = omega (arith, light, weight);
        turns = shown-turns works turns;
      };
      on = shown-on works ∙ each g (waiter g gs s.waiting.0) n seated;
    }
  where
    each : (g : Frame) → Waiter g → (IsFree g → ⊥) → IsStacked (frame.Free f) (g ∷ gs) → shown_footing (footing (g ∷ gs)) ≡ OnCall
    each _ (ForFree q x) n s = refl
    each _ (ForClear x) n s = refl
    each _ (ForParting c v) n s = refl
    each _ (ForRelease c) n s = refl
    each _ (ForEntry q y) n s = refl
    each _ (ForRun x h) n s = absurd (n tt)
    each _ (ForReceived x) n s = absurd (n tt)
    each _ (ForDrained x) n s = absurd (n tt)
    each _ (ForChild x c noted purpose) n s = absurd (n tt)
    each _ _ n s = absurd s.0

-- so it is after a routine that has returned
pub returned-awaits : (v : ℕ) (gs : List Frame) (fs : List FreeFrame) (p : Pool) → Sound (frame.Call (Returning v)) gs p → IsStacked (frame.Call (Returning v)) gs → IsPaidFor (frame.Call (Returning v)) gs p → AreTurnsLast gs
    → frees_among gs ≡ fs → AreAwaiting fs p
returned-awaits v gs fs p s seated light turns e =
    let weight = shown-sizes gs in
    let x : Obj = record { 0 = 0 } in
    let waits = frame.Call (Awaiting (Routine (hook_moment x 0)) x) in
    record {
      over = record {
        below = waits ∷ all_shown gs;
        frees = shown-frees gs ∙ ap (map as_received) e;
        sound = stands (frame.Call (Returning v)) (frame.Free (Ending Ok)) gs (waits ∷ all_shown gs) p (λ y. shown-claims y gs) (tt, shown-wait gs s.waiting) (tt, tt) s;
        seated = (tt, shown-stacked waits gs (reseat (frame.Call (Returning v)) waits gs (λ c. absurd c) (λ r. tt) (λ k. k) (λ t. t) (λ w. w) seated));
        light = omega (arith, light, weight);
        turns = shown-turns gs turns;
      };
      on = refl;
    }

-- and after the work of a request, or of a queue, that is over
pub worked-awaits : (r : Reply) (gs : List Frame) (fs : List FreeFrame) (p : Pool) → Sound (frame.Request (Over r)) gs p → IsStacked (frame.Request (Over r)) gs → IsPaidFor (frame.Request (Over r)) gs p → AreTurnsLast gs
    → frees_among gs ≡ fs → AreAwaiting fs p
worked-awaits r gs fs p s seated light turns e =
    let weight = shown-sizes gs in
    let x : Obj = record { 0 = 0 } in
    let waits = frame.Request (Releasing x) in
    let on : IsRequested (footing (all_shown gs)) = subst IsRequested (sym (shown-on gs)) (prepared-on (footing gs) s.rests) in
    record {
      over = record {
        below = waits ∷ all_shown gs;
        frees = shown-frees gs ∙ ap (map as_received) e;
        sound = stands (frame.Request (Over r)) (frame.Free (Ending Ok)) gs (waits ∷ all_shown gs) p (λ y. shown-claims y gs) (on, shown-wait gs s.waiting) (tt, tt) s;
        seated = (tt, shown-stacked waits gs (reseat-work (Over r) (Releasing x) gs seated));
        light = omega (arith, light, weight);
        turns = shown-turns gs turns;
      };
      on = refl;
    }
