-- The open frees of a host, as whoever calls the engine has to know them.
use Rattle.std.proofs.Common.{◌≡◌, ℕ, List, [], ◌∷◌, ◌++◌, true, refl, sym, ◌∙◌, ap}
use Rattle.tree_specs.specs.declared.frame.CallFrame.TheVariants.{Returning}
use Rattle.tree_specs.specs.declared.frame.Frame.{Frame}
use Rattle.tree_specs.specs.declared.frame.Frame.TheVariants as frame
use Rattle.tree_specs.specs.declared.frame.FreeFrame.{FreeFrame}
use Rattle.tree_specs.specs.declared.frame.FreeFrame.TheVariants.{Hooked, Preparing, Draining}
use Rattle.tree_specs.specs.declared.frame.RequestFrame.TheVariants.{Over}
use Rattle.tree_specs.specs.declared.object.Obj.{Obj}
use Rattle.tree_specs.specs.declared.reply.Reply.{Reply}
use Rattle.tree_specs.specs.Tree.Pool.{Pool}
use Rattle.tree_specs.specs.Words.Objects.{same}
use Rattle.tree_specs.specs.Machine.Profiles.{Phase, InRun}
use Rattle.tree_specs.specs.Invariants.Sound.{claim, claims, claim_if}
use Rattle.tree_specs.specs.Invariants.Noted.{AllCalm, ClaimNothing}
use Rattle.tree_specs.specs.Invariants.Consistent.{IsFree, IsStacked, IsConsistent}
use Rattle.tree_specs.proofs.Tree.Numbered.{same-equal}
use Rattle.tree_specs.proofs.Tree.Numbered.{by_test}
use Rattle.destructors.specs.Frees.{awaits_run}
use Rattle.destructors.specs.Works.{frees_among, AreTurnsLast, AreAwaiting}
use Rattle.destructors.proofs.Standing.{begun-awaits as awaited-begun, returned-awaits as awaited-returned, worked-awaits as awaited-worked}
use Rattle.host_core.specs.declared.waiting.Waiting.{Waiting}
use Rattle.host_core.specs.declared.waiting.Waiting.TheVariants.{Freeing, Awaiting, Turning, Requesting, Turn, Work}
use Rattle.host_core.specs.Stacks.{waiting_frame, free_frames, ahead, behind, standing, Fits}
use Rattle.host_core.specs.Steps.{IsWaiter}

-- ---- the frees among the works

frees-front : (fs : List FreeFrame) (gs : List Frame) → frees_among (free_frames fs ++ gs) ≡ fs ++ frees_among gs
frees-front [] gs = refl
frees-front (f ∷ fs) gs = ap (λ (z : List FreeFrame). f ∷ z) (frees-front fs gs)

both-parts : (fs : List FreeFrame) → ahead fs ++ behind fs ≡ fs
both-parts [] = refl
both-parts (f ∷ fs) = let ih = both-parts fs in by_test (awaits_run f) (λ t. rw t refl) (λ t. rw t (ap (λ (z : List FreeFrame). f ∷ z) ih))

pub frees-standing : (fs : List FreeFrame) (ws : List Waiting) → Fits fs ws → frees_among (standing fs ws) ≡ fs
frees-standing fs [] e = sym e
frees-standing [] (Freeing ∷ ws) e = absurd e.0
frees-standing (f ∷ fs) (Freeing ∷ ws) e =
    ap (λ (z : List FreeFrame). f ∷ z) (frees-front (ahead fs) (standing (behind fs) ws) ∙ ap (λ (z : List FreeFrame). ahead fs ++ z) (frees-standing (behind fs) ws e.1) ∙ both-parts fs)
frees-standing fs (Awaiting q x ∷ ws) e = frees-standing fs ws e
frees-standing fs (Turning q ∷ ws) e = frees-standing fs ws e
frees-standing fs (Requesting q ∷ ws) e = frees-standing fs ws e
frees-standing fs (Turn f ∷ ws) e = frees-standing fs ws e
frees-standing fs (Work w ∷ ws) e = frees-standing fs ws e

pub skip-waiter : (w : Waiting) (gs : List Frame) → IsWaiter w → frees_among (waiting_frame w ∷ gs) ≡ frees_among gs
skip-waiter Freeing gs n = absurd n
skip-waiter (Awaiting q x) gs n = refl
skip-waiter (Turning q) gs n = refl
skip-waiter (Requesting q) gs n = refl
skip-waiter (Turn f) gs n = refl
skip-waiter (Work w) gs n = refl

pub no-free : (w : Waiting) → IsWaiter w → IsFree (waiting_frame w) → ⊥
no-free Freeing n k = n
no-free (Awaiting q x) n k = k
no-free (Turning q) n k = k
no-free (Requesting q) n k = k
no-free (Turn f) n k = k
no-free (Work w) n k = k

-- ---- turns stand below all frees

nothing-below : (a b : List Phase) → a ++ b ≡ [] → b ≡ []
nothing-below [] b e = e
nothing-below (p ∷ a) b e = cc

-- where nothing is claimed there is no free below a work that is none
none-open : (f : Frame) (gs : List Frame) → (IsFree f → ⊥) → IsStacked f gs → ClaimNothing gs → frees_among gs ≡ []
none-open f [] n s c = refl
none-open f (frame.Free g ∷ gs) n s c = absurd (each g s c)
  where
    run : (x : Obj) (l : List Phase) → claim_if (same x x) InRun ++ l ≡ [] → ⊥
    run x l e = let self : same x x ≡ true = same-equal x x refl in let e' : InRun ∷ l ≡ [] = rw self at e in cc

    each : (g : FreeFrame) → IsStacked f (frame.Free g ∷ gs) → ClaimNothing (frame.Free g ∷ gs) → ⊥
    each (Hooked x h) s c = run x (claims x gs) (c x)
    each (Preparing x) s c = run x (claims x gs) (c x)
    each (Draining x) s c = run x (claims x gs) (c x)
    each _ s c = n s.0
none-open f (frame.Call c ∷ gs) n s k = none-open (frame.Call c) gs (λ z. z) s.1 k
none-open f (frame.Turn t ∷ gs) n s k = none-open (frame.Turn t) gs (λ z. z) s.1 (λ x. nothing-below (claim x (frame.Turn t)) (claims x gs) (k x))
none-open f (frame.Outside o ∷ gs) n s k = none-open (frame.Outside o) gs (λ z. z) s.1 k
none-open f (frame.Request r ∷ gs) n s k = none-open (frame.Request r) gs (λ z. z) s.1 k

pub turns-last : (f : Frame) (gs : List Frame) → IsStacked f gs → AllCalm gs → AreTurnsLast gs
turns-last f [] s c = tt
turns-last f (frame.Turn t ∷ gs) s c = (none-open (frame.Turn t) gs (λ z. z) s.1 c.0, turns-last (frame.Turn t) gs s.1 c.1)
turns-last f (frame.Free g ∷ gs) s c = turns-last (frame.Free g) gs s.1 c.1
turns-last f (frame.Call k ∷ gs) s c = turns-last (frame.Call k) gs s.1 c.1
turns-last f (frame.Outside o ∷ gs) s c = turns-last (frame.Outside o) gs s.1 c.1
turns-last f (frame.Request r ∷ gs) s c = turns-last (frame.Request r) gs s.1 c.1

-- ---- what the engine has to know

-- a free that begins, and claims nothing, is awaited
pub begun-awaits : (f : FreeFrame) (w : Waiting) (fs : List FreeFrame) (ws : List Waiting) (p : Pool) → IsWaiter w → Fits fs ws → ((x : Obj) → claim x (frame.Free f) ≡ [])
    → IsConsistent (record { innermost = frame.Free f; below = waiting_frame w ∷ standing fs ws; pool = p }) → AreAwaiting fs p
begun-awaits f w fs ws p n e none h =
    let works = waiting_frame w ∷ standing fs ws in
    awaited-begun f (waiting_frame w) (standing fs ws) fs p (no-free w n) none h.sound h.seated h.light (turns-last (frame.Free f) works h.seated h.calm.1) (skip-waiter w (standing fs ws) n ∙ frees-standing fs ws e)

-- and so it is after a routine that has returned
pub returned-awaits : (v : ℕ) (fs : List FreeFrame) (below : List Frame) (p : Pool) → IsConsistent (record { innermost = frame.Call (Returning v); below = below; pool = p }) → frees_among below ≡ fs → AreAwaiting fs p
returned-awaits v fs below p h e = awaited-returned v below fs p h.sound h.seated h.light (turns-last (frame.Call (Returning v)) below h.seated h.calm.1) e

-- and after the work of a request, or of a queue, that is over
pub worked-awaits : (r : Reply) (fs : List FreeFrame) (below : List Frame) (p : Pool) → IsConsistent (record { innermost = frame.Request (Over r); below = below; pool = p }) → frees_among below ≡ fs → AreAwaiting fs p
worked-awaits r fs below p h e = awaited-worked r below fs p h.sound h.seated h.light (turns-last (frame.Request (Over r)) below h.seated h.calm.1) e
