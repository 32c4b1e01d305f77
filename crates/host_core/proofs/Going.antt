-- What a step leads to, by the parts of a host.
use Rattle.std.proofs.Common.{◌≡◌, ℕ, ◌+◌, ◌*◌, ◌≤◌, List, [], ◌∷◌, ◌++◌, reverse, Option, Some, None, refl, ◌∙◌, ap, subst, arith}
use Rattle.std.proofs.lemmas.List.{reverse-append}
use Rattle.step_machine.specs.Machine.{Move as Do}
use Rattle.tree_specs.specs.declared.frame.FreeFrame.{FreeFrame}
use Rattle.tree_specs.specs.declared.free_step.FreeReply.{FreeReply}
use Rattle.tree_specs.specs.declared.free_step.FreeStep.{FreeStep}
use Rattle.tree_specs.specs.declared.free_step.FreeStep.TheVariants.{Ask as AskOf, Prepare, Drain, Done}
use Rattle.tree_specs.specs.Tree.Pool.{Pool}
use Rattle.tree_specs.specs.Machine.FreeTable.{FreeMove, free_step}
use Rattle.tree_specs.proofs.Tree.Numbered.{by_test}
use Rattle.destructors.specs.Frees.{OpenFrees, awaits_run, answered, moves, Silently, Still, On}
use Rattle.destructors.specs.Frees.{moved as free_moved}
use Rattle.destructors.specs.Runs.{IsNews, AsksFor}
use Rattle.destructors.proofs.FreeMoves.{IsMoveOf, is_move}
use Rattle.destructors.proofs.Hosting.{AwaitsRun}
use Rattle.host_core.specs.declared.active.Active.{Active}
use Rattle.host_core.specs.declared.active.Active.TheVariants as active
use Rattle.host_core.specs.declared.waiting.Waiting.{Waiting}
use Rattle.host_core.specs.declared.waiting.Waiting.TheVariants.{Freeing, Awaiting, Turning, Requesting, Turn, Work}
use Rattle.host_core.specs.Stacks.{waiting_frame, active_frame, ahead, behind, standing, below_free, Fits, FreesFit, AllFit, other_view, seen}
use Rattle.host_core.specs.Steps.{IsOther, IsWaiter}
use Rattle.host_core.specs.declared.step.Step.{Step}
use Rattle.tree_specs.specs.declared.frame.Errand.{Errand}
use Rattle.tree_specs.specs.declared.frame.Errand.TheVariants.{Receive}
use Rattle.destructors.specs.Engine.{IsPreparing}
use Rattle.object_pool.specs.Objects.{Objects, MayFreeOn}
use Rattle.host_core.specs.Going.{GoesWell}
use Rattle.host_core.specs.Places.{owed, places, errand_places, HasPlaces}

-- ---- what isn't the open frees

pub other-seen : (now : Active) (fs : List FreeFrame) (ws : List Waiting) (p : Pool) → IsOther now → seen now fs ws p ≡ other_view (active_frame now) fs ws p
other-seen active.Freeing fs ws p n = absurd n
other-seen (active.Caller c) fs ws p n = refl
other-seen (active.Turning t) fs ws p n = refl
other-seen (active.Reaching q) fs ws p n = refl
other-seen (active.Requesting w) fs ws p n = refl

pub other-fit : (now : Active) (fs : List FreeFrame) (ws : List Waiting) → IsOther now → Fits fs ws → AllFit now fs ws
other-fit active.Freeing fs ws n e = absurd n
other-fit (active.Caller c) fs ws n e = e
other-fit (active.Turning t) fs ws n e = e
other-fit (active.Reaching q) fs ws n e = e
other-fit (active.Requesting w) fs ws n e = e

pub has-places : (now : Active) (waiting : ℕ) (o : Objects) (most : ℕ) → IsOther now → waiting + places now + 2 * owed o.pool ≤ most → HasPlaces now waiting o most
has-places (active.Caller c) waiting o most n l = tt
has-places (active.Reaching q) waiting o most n l = tt
has-places active.Freeing waiting o most n l = absurd n
has-places (active.Turning t) waiting o most n l = l
has-places (active.Requesting w) waiting o most n l = l

-- ---- one more that waits

pub pushed : (old new : List Waiting) (w : Waiting) → new ≡ old ++ w ∷ [] → reverse new ≡ w ∷ reverse old
pushed old new w e = ap reverse e ∙ reverse-append old (w ∷ [])

-- one that is not the open frees stands on the others, which are marked as they were
pub below-waiter : (fs : List FreeFrame) (w : Waiting) (ws : List Waiting) → IsWaiter w
    → (standing fs (w ∷ ws) ≡ waiting_frame w ∷ standing fs ws) × (Fits fs ws → Fits fs (w ∷ ws)) × (Fits fs (w ∷ ws) → Fits fs ws)
below-waiter fs Freeing ws n = absurd n
below-waiter fs (Awaiting q x) ws n = (refl, λ e. e, λ e. e)
below-waiter fs (Turning q) ws n = (refl, λ e. e, λ e. e)
below-waiter fs (Requesting q) ws n = (refl, λ e. e, λ e. e)
below-waiter fs (Turn t) ws n = (refl, λ e. e, λ e. e)
below-waiter fs (Work k) ws n = (refl, λ e. e, λ e. e)

-- ---- the open frees stay marked where they wait

-- where the first of them waits for no free, none of them is ahead
pub none-ahead : (fs : List FreeFrame) → AwaitsRun fs → (ahead fs ≡ []) × (behind fs ≡ fs)
none-ahead [] w = (refl, refl)
none-ahead (f ∷ fs) w = (rw w refl, rw w refl)

pub below-begun : (fs : List FreeFrame) (ws : List Waiting) → AwaitsRun fs → below_free fs ws ≡ standing fs ws
below-begun fs ws w = let n = none-ahead fs w in rw (n.0, n.1) refl

-- after a move the innermost free goes on, or it is over and those below it are marked
abbrev pub FitAfter : Option FreeStep × OpenFrees → List Waiting → Type 0
FitAfter (Some (Done a), s) ws = Fits s.works ws
FitAfter (told, s) ws = FreesFit s.works ws

fit-answered : (a : FreeReply) (q : Pool) (fs : List FreeFrame) (ws : List Waiting) → Fits (behind fs) ws → FitAfter (answered a q fs) ws
fit-answered a q [] ws e = e
fit-answered a q (g ∷ fs) ws e = by_test (awaits_run g)
    (λ t. let e' : Fits (g ∷ fs) ws = rw t at e in rw t e')
    (λ t. let e' : Fits (behind fs) ws = rw t at e in rw t (tt, e'))

fit-news : (t : FreeStep) (s : OpenFrees) (ws : List Waiting) → IsNews t → FreesFit s.works ws → FitAfter (Some t, s) ws
fit-news (AskOf x) s ws n e = absurd n
fit-news (Prepare x) s ws n e = absurd n
fit-news (Drain x) s ws n e = absurd n
fit-news (Done a) s ws n e = absurd n
fit-news _ s ws n e = e

fit-asked : (t : FreeStep) (f : FreeFrame) (s : OpenFrees) (ws : List Waiting) → AsksFor t f → FreesFit s.works ws → FitAfter (Some t, s) ws
fit-asked (AskOf x) f s ws a e = e
fit-asked (Prepare x) f s ws a e = e
fit-asked (Drain x) f s ws a e = e
fit-asked t f s ws a e = absurd a

fit-moved : (f : FreeFrame) (p : Pool) (m : FreeMove) (fs : List FreeFrame) (ws : List Waiting) → IsMoveOf f p m → Fits (behind fs) ws → FitAfter (free_moved m fs) ws
fit-moved f p (Do.Done a q) fs ws of e = fit-answered a q fs ws e
fit-moved f p (Do.Go g q) fs ws of e = (tt, e)
fit-moved f p (Do.Emit t g q) fs ws of e = fit-news t (record { works = g ∷ fs; pool = q }) ws of (tt, e)
fit-moved f p (Do.Wait t g q) fs ws of e = fit-asked t f (record { works = g ∷ fs; pool = q }) ws of.2 (tt, e)
fit-moved f p (Do.Call g h q) fs ws of e = rw of.1 (tt, e)

pub fit-next : (f : FreeFrame) (fs : List FreeFrame) (p : Pool) (ws : List Waiting) → FreesFit (f ∷ fs) ws → FitAfter (moves (f ∷ fs) p) ws
fit-next f fs p ws e = fit-moved f p (free_step f p) fs ws (is_move f p) e.1

pub fits-silently : (s t : OpenFrees) (ws : List Waiting) → Silently s t → FreesFit s.works ws → FreesFit t.works ws
fits-silently s _ ws Still e = e
fits-silently s t ws (On u _ earlier last) e = each u.works (fits-silently s u ws earlier e) last
  where
    each : (works : List FreeFrame) → FreesFit works ws → moves works u.pool ≡ (None, t) → FreesFit t.works ws
    each [] k m = absurd k.0
    each (f ∷ fs) k m = subst (λ (z : Option FreeStep × OpenFrees). FitAfter z ws) m (fit-next f fs u.pool ws k)

-- ---- a free that waits lets another one begin

pub may_free_on : (innermost : Option FreeFrame) → IsPreparing innermost → MayFreeOn innermost
may_free_on None e = absurd e
may_free_on (Some f) e = e

-- ---- more places than a step takes

pub more-places : (a b : ℕ) (step : Step) (o : Objects) → a ≤ b → GoesWell a step o → GoesWell b step o
more-places a b step o l g = let most = g.places in record { busy = g.busy; ready = g.ready; places = omega (arith, l, most) }

pub errand-takes : (errand : Errand) → 1 ≤ errand_places errand
errand-takes Receive = omega arith
errand-takes _ = omega arith
