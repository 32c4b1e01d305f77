-- The open frees among the works of a host: what a step of the host leads to, and which works may take the place of others.
use Rattle.std.proofs.Common.{◌≡◌, ℕ, ◌+◌, ◌≤◌, List, [], ◌∷◌, ◌++◌, map, Option, Some, None, true, false, refl, sym, ◌∙◌, ap, subst, arith}
use Rattle.step_machine.specs.Machine.{Move as Do}
use Rattle.step_machine.proofs.Ends.{Leads}
use Rattle.tree_specs.specs.declared.event.Event.{Event}
use Rattle.tree_specs.specs.declared.frame.Answer.TheVariants.{Freed}
use Rattle.tree_specs.specs.declared.frame.Frame.{Frame}
use Rattle.tree_specs.specs.declared.frame.Frame.TheVariants as frame
use Rattle.tree_specs.specs.declared.frame.CallFrame.TheVariants.{Awaiting}
use Rattle.tree_specs.specs.declared.frame.FreeFrame.{FreeFrame}
use Rattle.tree_specs.specs.declared.frame.FreeFrame.TheVariants.{Hooked, Judged, Preparing, Draining, Prepared, Ending}
use Rattle.tree_specs.specs.declared.frame.RequestFrame.TheVariants.{Releasing}
use Rattle.tree_specs.specs.declared.free_step.FreeReply.{FreeReply}
use Rattle.tree_specs.specs.declared.free_step.FreeReply.TheVariants.{Ok}
use Rattle.tree_specs.specs.declared.free_step.FreeStep.{FreeStep}
use Rattle.tree_specs.specs.declared.free_step.FreeStep.TheVariants.{Ask, Prepare, Drain, Done}
use Rattle.tree_specs.specs.declared.object.Obj.{Obj}
use Rattle.tree_specs.specs.declared.question.Ask.TheVariants.{Routine}
use Rattle.tree_specs.specs.Rules.Answers.{hook_moment}
use Rattle.tree_specs.specs.Tree.Pool.{Pool}
use Rattle.tree_specs.specs.Machine.FreeTable.{FreeMove, free_step, free_resume}
use Rattle.tree_specs.specs.Machine.Table.{table, announced, event_of, lifted, freeing_resume}
use Rattle.tree_specs.specs.Machine.Profiles.{Phase, caller_size}
use Rattle.tree_specs.specs.Invariants.Sound.{Sound, Footing, Rests, AllWait, FreeRests, footing, claim, claims}
use Rattle.tree_specs.specs.Invariants.Sound.Footing.{OnCall, OnDropping}
use Rattle.tree_specs.specs.Invariants.Measure.{waiting_cost}
use Rattle.tree_specs.specs.Invariants.Consistent.{IsFree, IsStacked, IsPaidFor, size, innermost_size, sizes}
use Rattle.tree_specs.proofs.Invariants.Changes.{goes_on, stands}
use Rattle.tree_specs.proofs.Invariants.Waiters.{Waiter, ForFree, ForRun, ForChild, ForClear, ForParting, ForReceived, ForDrained, ForRelease, ForEntry, waiter}
use Rattle.tree_specs.proofs.Turns.Seats.{reseat-free}
use Rattle.destructors.specs.Frees.{OpenFrees, awaits_run, answered, was_prepared, moved, moves}
use Rattle.destructors.specs.Engine.{IsPreparing}
use Rattle.destructors.specs.Works.{frees_among, AreTurnsLast, as_received, IsHosted, AreAwaiting, IsAwaiting, MayBegin}
use Rattle.destructors.specs.Runs.{IsNews, AsksFor}
use Rattle.destructors.proofs.FreeMoves.{IsMoveOf, is_move}
use Rattle.destructors.proofs.Grounds.{rests, claimless}
use Rattle.destructors.proofs.Received.{received-waits, unreceived, undropped}
use Rattle.destructors.proofs.Quiet.{EndsOver, ends-over}

-- what the works between the frees still cost
abbrev pub other_cost : List Frame → ℕ
other_cost [] = 0
other_cost (frame.Free f ∷ fs) = other_cost fs
other_cost (f ∷ fs) = waiting_cost f + other_cost fs

-- ---- on what a work stands that is no free

-- the first of these frees, if there is one, waits for no free
abbrev pub AwaitsRun : List FreeFrame → Type 0
AwaitsRun [] = Unit {0}
AwaitsRun (f ∷ fs) = awaits_run f ≡ true

runs-on : (f : Frame) (g : FreeFrame) (gs : List Frame) → (IsFree f → ⊥) → IsStacked f (frame.Free g ∷ gs) → awaits_run g ≡ true
runs-on f (Hooked x h) gs n s = refl
runs-on f (Preparing x) gs n s = refl
runs-on f (Draining x) gs n s = refl
runs-on f _ gs n s = absurd (n s.0)

pub awaits-run : (f : Frame) (fs : List Frame) → (IsFree f → ⊥) → IsStacked f fs → AwaitsRun (frees_among fs)
awaits-run f [] n s = tt
awaits-run f (frame.Free g ∷ gs) n s = runs-on f g gs n s
awaits-run f (frame.Call c ∷ gs) n s = awaits-run (frame.Call c) gs (λ z. z) s.1
awaits-run f (frame.Turn t ∷ gs) n s = awaits-run (frame.Turn t) gs (λ z. z) s.1
awaits-run f (frame.Outside o ∷ gs) n s = awaits-run (frame.Outside o) gs (λ z. z) s.1
awaits-run f (frame.Request r ∷ gs) n s = awaits-run (frame.Request r) gs (λ z. z) s.1

-- a free stands on no free but one that waits for it
waits-free : (f g : FreeFrame) (gs : List Frame) → IsStacked (frame.Free f) (frame.Free g ∷ gs) → awaits_run g ≡ false
waits-free f (Hooked x h) gs s = absurd s.0
waits-free f (Preparing x) gs s = absurd s.0
waits-free f (Draining x) gs s = absurd s.0
waits-free f _ gs s = refl

pub resumed-free : (g : FreeFrame) (a : FreeReply) → awaits_run g ≡ false → freeing_resume g (Freed a) ≡ free_resume g a
resumed-free (Hooked x h) a n = cc
resumed-free (Preparing x) a n = cc
resumed-free (Draining x) a n = cc
resumed-free _ a n = refl

pub runs-received : (fs : List FreeFrame) → AwaitsRun (map as_received fs) → AwaitsRun fs
runs-received [] w = tt
runs-received (f ∷ fs) w = sym (received-waits f) ∙ w

-- the open frees that are awaited wait for no free
pub awaiting-runs : (fs : List FreeFrame) (p : Pool) → AreAwaiting fs p → AwaitsRun fs
awaiting-runs fs p a = runs-received fs (subst AwaitsRun a.over.frees (each a.over.below a.on a.over.seated))
  where
    each : (gs : List Frame) → footing gs ≡ OnCall → IsStacked (frame.Free (Ending Ok)) gs → AwaitsRun (frees_among gs)
    each [] on s = tt
    each (frame.Free g ∷ gs) on s = cc
    each (frame.Call c ∷ gs) on s = awaits-run (frame.Call c) gs (λ z. z) s.1
    each (frame.Turn t ∷ gs) on s = awaits-run (frame.Turn t) gs (λ z. z) s.1
    each (frame.Outside o ∷ gs) on s = awaits-run (frame.Outside o) gs (λ z. z) s.1
    each (frame.Request r ∷ gs) on s = awaits-run (frame.Request r) gs (λ z. z) s.1

-- where nobody waits for a free the answer is told
pub told-answer : (a : FreeReply) (fs : List FreeFrame) (p : Pool) → AwaitsRun fs → answered a p fs ≡ (Some (Done a), record { works = fs; pool = p })
told-answer a [] p w = refl
told-answer a (f ∷ fs) p w = rw w refl

-- ---- a free that is over

-- a free that claims nothing may be over instead
pub over-awaits : (f : FreeFrame) (fs : List FreeFrame) (p : Pool) → (w : IsHosted f fs p) → ((x : Obj) → claim x (frame.Free f) ≡ []) → footing w.below ≡ OnCall → AreAwaiting fs p
over-awaits f fs p w none on =
    let l = w.light in
    record {
      over = record {
        below = w.below;
        frees = w.frees;
        sound = goes_on (frame.Free f) (frame.Free (Ending Ok)) w.below p (λ x. sym (none x)) (tt, tt) w.sound;
        seated = reseat-free f (Ending Ok) w.below w.seated;
        light = omega (arith, l);
        turns = w.turns;
      };
      on = on;
    }

-- whatever a free stands on that is no free, and frees no entries, it waits for it
pub begun-on : (f : FreeFrame) (g : Frame) (gs : List Frame) → Waiter g → (IsFree g → ⊥) → IsStacked (frame.Free f) (g ∷ gs) → (footing (g ∷ gs) ≡ OnDropping → ⊥) → footing (g ∷ gs) ≡ OnCall
begun-on f _ gs (ForFree q x) n s apart = refl
begun-on f _ gs (ForClear x) n s apart = refl
begun-on f _ gs (ForParting c v) n s apart = refl
begun-on f _ gs (ForRelease c) n s apart = refl
begun-on f _ gs (ForEntry q e) n s apart = absurd (apart refl)
begun-on f _ gs (ForRun x h) n s apart = absurd (n tt)
begun-on f _ gs (ForReceived x) n s apart = absurd (n tt)
begun-on f _ gs (ForDrained x) n s apart = absurd (n tt)
begun-on f _ gs (ForChild x c noted purpose) n s apart = absurd (n tt)
begun-on f _ gs _ n s apart = absurd s.0

-- a free that waits for its destructor: somebody waits for a free in the run
pub asked-awaits : (x : Obj) (h : ℕ) (fs : List FreeFrame) (p : Pool) → IsHosted (Hooked x h) fs p → AreAwaiting (Hooked x h ∷ fs) p
asked-awaits x h fs p w =
    let l = w.light in
    let caller = frame.Call (Awaiting (Routine (hook_moment x h)) x) in
    record {
      over = record {
        below = caller ∷ frame.Free (Hooked x h) ∷ w.below;
        frees = ap (λ (z : List FreeFrame). Hooked x h ∷ z) w.frees;
        sound = stands (frame.Free (Hooked x h)) (frame.Free (Ending Ok)) w.below (caller ∷ frame.Free (Hooked x h) ∷ w.below) p (λ y. refl) (tt, (w.sound.rests.0, w.sound.waiting)) (tt, tt) w.sound;
        seated = (tt, (tt, w.seated));
        light = omega (arith, l);
        turns = w.turns;
      };
      on = refl;
    }

-- and one whose request is received, or whose queue's entries are freed: it may wait for the freeing of what a request was made with
releasing-awaits : (f : FreeFrame) (x : Obj) (fs : List FreeFrame) (p : Pool) → as_received f ≡ Preparing x → ((y : Obj) → claim y (frame.Free (Preparing x)) ≡ claim y (frame.Free f)) → (w : IsHosted f fs p)
    → IsPaidFor (frame.Free (Ending Ok)) (frame.Request (Releasing x) ∷ frame.Free (Preparing x) ∷ w.below) p → AreAwaiting (f ∷ fs) p
releasing-awaits f x fs p received claims-alike w light =
    let releasing = frame.Request (Releasing x) in
    record {
      over = record {
        below = releasing ∷ frame.Free (Preparing x) ∷ w.below;
        frees = ap (λ (z : List FreeFrame). Preparing x ∷ z) w.frees ∙ ap (λ (g : FreeFrame). g ∷ map as_received fs) (sym received);
        sound = stands (frame.Free f) (frame.Free (Ending Ok)) w.below (releasing ∷ frame.Free (Preparing x) ∷ w.below) p (λ y. ap (λ (l : List Phase). l ++ claims y w.below) (claims-alike y)) (tt, (tt, w.sound.waiting)) (tt, tt) w.sound;
        seated = (tt, (tt, reseat-free f (Preparing x) w.below w.seated));
        light = light;
        turns = w.turns;
      };
      on = refl;
    }

pub prepared-awaits : (x : Obj) (fs : List FreeFrame) (p : Pool) → IsHosted (Preparing x) fs p → AreAwaiting (Preparing x ∷ fs) p
prepared-awaits x fs p w = let l = w.light in releasing-awaits (Preparing x) x fs p refl (λ y. refl) w (omega (arith, l))

pub drained-awaits : (x : Obj) (fs : List FreeFrame) (p : Pool) → IsHosted (Draining x) fs p → AreAwaiting (Draining x ∷ fs) p
drained-awaits x fs p w = let l = w.light in releasing-awaits (Draining x) x fs p refl (λ y. refl) w (omega (arith, l))

-- ---- what a step of the innermost free leads to

-- these open frees are those of works of which this holds; between them stand works that cost as much as these
pub record LiftedTo (Q : Frame → List Frame → Pool → ℕ → Type 0) (former : List Frame) (s : OpenFrees) : Type 0 where
  pub first : FreeFrame
  pub later : List FreeFrame
  pub works : s.works ≡ first ∷ later
  pub below : List Frame
  pub frees : frees_among below ≡ map as_received later
  pub holds : Q (frame.Free first) below s.pool 0
  pub turns : AreTurnsLast below
  pub cost : other_cost below ≡ other_cost former

-- a free that waits asks for what it waits for
awaiting : (t : FreeStep) (f : FreeFrame) (fs : List FreeFrame) (p : Pool) → AsksFor t f → IsHosted f fs p → IsAwaiting (record { works = f ∷ fs; pool = p })
awaiting (Ask x) (Hooked y h) fs p a w = asked-awaits y h fs p w
awaiting (Prepare x) (Preparing y) fs p a w = prepared-awaits y fs p w
awaiting (Drain x) (Draining y) fs p a w = drained-awaits y fs p w
awaiting t f fs p a w = absurd a

-- a work that is no free counts for nothing among the frees
skipped : (g : Frame) (gs : List Frame) → (IsFree g → ⊥) → frees_among (g ∷ gs) ≡ frees_among gs
skipped (frame.Free f) gs n = absurd (n tt)
skipped (frame.Call c) gs n = refl
skipped (frame.Turn t) gs n = refl
skipped (frame.Outside o) gs n = refl
skipped (frame.Request r) gs n = refl

module _ (Q : Frame → List Frame → Pool → ℕ → Type 0) (former : List Frame) where
  abbrev pub OnTold : FreeStep → OpenFrees → Type 0
  OnTold (Ask x) s = IsAwaiting s
  OnTold (Prepare x) s = IsAwaiting s
  OnTold (Drain x) s = IsAwaiting s
  OnTold (Done a) s = IsAwaiting s
  OnTold t s = LiftedTo Q former s

  -- what a move leads to
  abbrev pub OnMove : Option FreeStep × OpenFrees → Type 0
  OnMove (None, s) = LiftedTo Q former s
  OnMove (Some t, s) = OnTold t s

  news : (t : FreeStep) (s : OpenFrees) → IsNews t → LiftedTo Q former s → OnTold t s
  news (Ask x) s n w = absurd n
  news (Prepare x) s n w = absurd n
  news (Drain x) s n w = absurd n
  news (Done a) s n w = absurd n
  news _ s n w = w

  asking : (t : FreeStep) (f : FreeFrame) (s : OpenFrees) → AsksFor t f → IsAwaiting s → OnTold t s
  asking (Ask x) f s a w = w
  asking (Prepare x) f s a w = w
  asking (Drain x) f s a w = w
  asking (Done x) f s a w = absurd a
  asking _ f s a w = absurd a

  -- whether an event is told or not
  through : (o : Option Event) (g : FreeFrame) (fs : List Frame) (p : Pool) → Leads table Q (announced o g p) fs 0 → Q (frame.Free g) fs p 0
  through None g fs p l = l
  through (Some e) g fs p l = l

  -- the answer of a free that is over, by what it stands on
  answering : (f : FreeFrame) (fs : List FreeFrame) (p : Pool) (a : FreeReply) → free_step f p ≡ Do.Done a p → (w : IsHosted f fs p) → w.below ≡ former → Leads table Q (Do.Done (Freed a) p) w.below 0 → OnMove (answered a p fs)
  answering f fs p a e w same l = each w.below w.frees w.sound w.seated w.light w.turns same l
    where
      other : (g : Frame) (gs : List Frame) → (IsFree g → ⊥) → frees_among (g ∷ gs) ≡ map as_received fs → Sound (frame.Free f) (g ∷ gs) p → IsStacked (frame.Free f) (g ∷ gs) → IsPaidFor (frame.Free f) (g ∷ gs) p → AreTurnsLast (g ∷ gs) → OnMove (answered a p fs)
      other g gs n frees sound seated light turns =
          let aw : AwaitsRun fs = runs-received fs (subst AwaitsRun (sym (skipped g gs n) ∙ frees) (awaits-run g gs n seated.1)) in
          let w : IsHosted f fs p = record { below = g ∷ gs; frees = frees; sound = sound; seated = seated; light = light; turns = turns } in
          subst OnMove (sym (told-answer a fs p aw)) (over-awaits f fs p w (claimless f (g ∷ gs) p a sound e) (begun-on f g gs (waiter g gs sound.waiting.0) n seated (undropped (g ∷ gs) fs frees sound.waiting)))

      -- the answer goes to the work below
      resumed : (g : FreeFrame) (gs : List Frame) → awaits_run g ≡ false → Q (frame.Free (free_resume g a)) gs p 0 → AreTurnsLast gs → other_cost gs ≡ other_cost former
          → (hs : List FreeFrame) → g ∷ frees_among gs ≡ map as_received hs → OnMove (answered a p hs)
      resumed g gs n l turns cost [] e = cc
      resumed g gs n l turns cost (h ∷ hs) e =
          let is : g ≡ as_received h = cc in
          let rest : frees_among gs ≡ map as_received hs = cc in
          let waits : awaits_run h ≡ false = sym (received-waits h) ∙ ap awaits_run (sym is) ∙ n in
          let same : g ≡ h = is ∙ unreceived h waits in
          let l' : Q (frame.Free (free_resume h a)) gs p 0 = subst (λ (z : FreeFrame). Q (frame.Free (free_resume z a)) gs p 0) same l in
          rw waits (record { first = free_resume h a; later = hs; works = refl; below = gs; frees = rest; holds = l'; turns = turns; cost = cost })

      each : (L : List Frame) → frees_among L ≡ map as_received fs → Sound (frame.Free f) L p → IsStacked (frame.Free f) L → IsPaidFor (frame.Free f) L p → AreTurnsLast L → L ≡ former → Leads table Q (Do.Done (Freed a) p) L 0 → OnMove (answered a p fs)
      each [] frees sound seated light turns same l = absurd seated
      each (frame.Free g ∷ gs) frees sound seated light turns same l =
          let n = waits-free f g gs seated in
          let l' : Q (frame.Free (free_resume g a)) gs p 0 = subst (λ (z : FreeFrame). Q (frame.Free z) gs p 0) (resumed-free g a n) l in
          resumed g gs n l' turns (ap other_cost same) fs frees
      each (frame.Call c ∷ gs) frees sound seated light turns same l = other (frame.Call c) gs (λ z. z) frees sound seated light turns
      each (frame.Turn t ∷ gs) frees sound seated light turns same l = other (frame.Turn t) gs (λ z. z) frees sound seated light turns
      each (frame.Outside o ∷ gs) frees sound seated light turns same l = other (frame.Outside o) gs (λ z. z) frees sound seated light turns
      each (frame.Request r ∷ gs) frees sound seated light turns same l = other (frame.Request r) gs (λ z. z) frees sound seated light turns

  -- a move of the open frees is a step of the host's works
  pub moves-on : (f : FreeFrame) (fs : List FreeFrame) (p : Pool) → (w : IsHosted f fs p) → w.below ≡ former → Leads table Q (lifted p.ring (free_step f p)) w.below 0 → OnMove (moves (f ∷ fs) p)
  moves-on f fs p w same l = each (free_step f p) refl (is_move f p) (ends-over f p (rests f w.below p w.sound)) l
    where
      goes : (g : FreeFrame) (q : Pool) → Q (frame.Free g) w.below q 0 → LiftedTo Q former (record { works = g ∷ fs; pool = q })
      goes g q k = record { first = g; later = fs; works = refl; below = w.below; frees = w.frees; holds = k; turns = w.turns; cost = ap other_cost same }

      each : (m : FreeMove) → free_step f p ≡ m → IsMoveOf f p m → EndsOver p m → Leads table Q (lifted p.ring m) w.below 0 → OnMove (moved m fs)
      each (Do.Done a q) e of over k =
          let e' : free_step f p ≡ Do.Done a p = e ∙ ap (λ (z : Pool). let m : FreeMove = Do.Done a z in m) over in
          let k' : Leads table Q (Do.Done (Freed a) p) w.below 0 = subst (λ (z : Pool). Leads table Q (Do.Done (Freed a) z) w.below 0) over k in
          subst (λ (z : Pool). OnMove (answered a z fs)) (sym over) (answering f fs p a e' w same k')
      each (Do.Go g q) e of over k = goes g q k
      each (Do.Emit t g q) e of over k = news t (record { works = g ∷ fs; pool = q }) of (goes g q (through (event_of p.ring t) g w.below q k))
      each (Do.Wait t g q) e of over k =
          let s : OpenFrees = record { works = f ∷ fs; pool = p } in
          let is : s ≡ record { works = g ∷ fs; pool = q } =
          ap (λ (z : FreeFrame). let o : OpenFrees = record { works = z ∷ fs; pool = p } in o) (sym of.0) ∙ ap (λ (z : Pool). let o : OpenFrees = record { works = g ∷ fs; pool = z } in o) (sym of.1) in
          subst (OnTold t) is (asking t f s of.2 (awaiting t f fs p of.2 w))
      each (Do.Call g h q) e of over k = record {
        first = g;
        later = h ∷ fs;
        works = refl;
        below = frame.Free h ∷ w.below;
        frees = ap (λ (z : List FreeFrame). h ∷ z) w.frees ∙ ap (λ (z : FreeFrame). z ∷ map as_received fs) (sym (unreceived h of.1));
        holds = k;
        turns = w.turns;
        cost = ap other_cost same;
      }

-- ---- a free begins, and goes on

-- what may begin is at work where the open frees await it
pub begins : (f : FreeFrame) (fs : List FreeFrame) (p : Pool) → MayBegin f p → AreAwaiting fs p → IsHosted f fs p
begins f fs p may a =
    let w = a.over in
    let l = w.light in
    let n = may.small in
    record {
      below = w.below;
      frees = w.frees;
      sound = goes_on (frame.Free (Ending Ok)) (frame.Free f) w.below p may.claims_nothing (subst (λ (on : Footing). FreeRests f on (λ x. claims x w.below) p) (sym a.on) (may.rests (λ x. claims x w.below))) w.sound;
      seated = reseat-free (Ending Ok) f w.below w.seated;
      light = omega (arith, l, n);
      turns = w.turns;
    }

-- a free that waits, among works that weigh so much more than it and those below it
record Under (g : FreeFrame) (fs : List FreeFrame) (more : ℕ) (works : List Frame) : Type 0 where
  pub below : List Frame
  pub frees : frees_among below ≡ fs
  pub waits : AllWait (frame.Free g ∷ below)
  pub seated : IsStacked (frame.Free g) below
  pub turns : AreTurnsLast below
  pub claimed : (x : Obj) → claims x works ≡ claims x (frame.Free g ∷ below)
  pub heavier : sizes (frame.Free g ∷ below) + more ≤ sizes works

deeper : (h : Frame) (g : FreeFrame) (fs : List FreeFrame) (gs : List Frame) → ((x : Obj) → claim x h ≡ []) → Under g fs 0 gs → Under g fs (size h) (h ∷ gs)
deeper h g fs gs none u =
    let n = u.heavier in
    record { below = u.below; frees = u.frees; waits = u.waits; seated = u.seated; turns = u.turns; claimed = λ x. rw (none x) (u.claimed x); heavier = omega (arith, n) }

lighter : (m : ℕ) (g : FreeFrame) (fs : List FreeFrame) (gs : List Frame) → Under g fs m gs → Under g fs 0 gs
lighter m g fs gs u = let n = u.heavier in record { below = u.below; frees = u.frees; waits = u.waits; seated = u.seated; turns = u.turns; claimed = u.claimed; heavier = omega (arith, n) }

under : (f : Frame) (gs : List Frame) (g : FreeFrame) (fs : List FreeFrame) → frees_among gs ≡ g ∷ fs → AreTurnsLast gs → AllWait gs → IsStacked f gs → Under g fs 0 gs
under f [] g fs e t w s = cc
under f (frame.Free h ∷ gs) g fs e t w s =
    let is : h ≡ g = cc in
    let rest : frees_among gs ≡ fs = cc in
    subst (λ (z : FreeFrame). Under z fs 0 (frame.Free h ∷ gs)) is (record { below = gs; frees = rest; waits = w; seated = s.1; turns = t; claimed = λ x. refl; heavier = omega arith })
under f (frame.Turn h ∷ gs) g fs e t w s = let bad : [] ≡ g ∷ fs = sym t.0 ∙ e in cc
under f (frame.Call c ∷ gs) g fs e t w s = lighter _ g fs _ (deeper (frame.Call c) g fs gs (λ x. refl) (under (frame.Call c) gs g fs e t w.1 s.1))
under f (frame.Outside o ∷ gs) g fs e t w s = lighter _ g fs _ (deeper (frame.Outside o) g fs gs (λ x. refl) (under (frame.Outside o) gs g fs e t w.1 s.1))
under f (frame.Request r ∷ gs) g fs e t w s = lighter _ g fs _ (deeper (frame.Request r) g fs gs (λ x. refl) (under (frame.Request r) gs g fs e t w.1 s.1))

-- what waits for a free weighs something, besides the free that waits below it
below-call : (gs : List Frame) (g : FreeFrame) (fs : List FreeFrame) → footing gs ≡ OnCall → frees_among gs ≡ g ∷ fs → AreTurnsLast gs → AllWait gs → IsStacked (frame.Free (Ending Ok)) gs → Under g fs caller_size gs
below-call [] g fs on e t w s = cc
below-call (frame.Call (Awaiting q x) ∷ gs) g fs on e t w s = deeper (frame.Call (Awaiting q x)) g fs gs (λ y. refl) (under (frame.Call (Awaiting q x)) gs g fs e t w.1 s.1)
below-call (frame.Request (Releasing c) ∷ gs) g fs on e t w s = deeper (frame.Request (Releasing c)) g fs gs (λ y. refl) (under (frame.Request (Releasing c)) gs g fs e t w.1 s.1)
below-call (frame.Turn h ∷ gs) g fs on e t w s = let bad : [] ≡ g ∷ fs = sym t.0 ∙ e in cc
below-call (h ∷ gs) g fs on e t w s = cc

-- the work that a free goes on with takes the place of the one that has waited
resumes : (g f : FreeFrame) (fs : List FreeFrame) (p : Pool) → ((x : Obj) → claim x (frame.Free f) ≡ claim x (frame.Free (as_received g)))
    → innermost_size (frame.Free f) ≤ size (frame.Free (as_received g)) + caller_size → ((below : List Frame) → AllWait (frame.Free (as_received g) ∷ below) → Rests (frame.Free f) below p)
    → AreAwaiting (g ∷ fs) p → IsHosted f fs p
resumes g f fs p same small rests a =
    let w = a.over in
    let u = below-call w.below (as_received g) (map as_received fs) a.on w.frees w.turns w.sound.waiting w.seated in
    let n = u.heavier in
    let l = w.light in
    record {
      below = u.below;
      frees = u.frees;
      sound = stands (frame.Free (Ending Ok)) (frame.Free f) w.below u.below p (λ x. ap (λ (z : List Phase). z ++ claims x u.below) (same x) ∙ sym (u.claimed x)) u.waits.1 (rests u.below u.waits) w.sound;
      seated = reseat-free (as_received g) f u.below u.seated;
      light = omega (arith, l, n, small);
      turns = u.turns;
    }

-- the destructor has returned
pub judges : (x : Obj) (h v : ℕ) (fs : List FreeFrame) (p : Pool) → AreAwaiting (Hooked x h ∷ fs) p → IsHosted (Judged x h v) fs p
judges x h v fs p a = resumes (Hooked x h) (Judged x h v) fs p (λ y. refl) (omega arith) (λ below w. w.0) a

-- the request was received, or the queue has no entries
pub was-prepared : (f : FreeFrame) (fs : List FreeFrame) (p : Pool) → IsPreparing (Some f) → AreAwaiting (f ∷ fs) p → IsHosted (was_prepared f) fs p
was-prepared (Preparing x) fs p is a = resumes (Preparing x) (Prepared x) fs p (λ y. refl) (omega arith) (λ below w. tt) a
was-prepared (Draining x) fs p is a = resumes (Draining x) (Prepared x) fs p (λ y. refl) (omega arith) (λ below w. tt) a
was-prepared _ fs p is a = absurd is
