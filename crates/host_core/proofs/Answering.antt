-- Who is given which answer, and what it leads to.
use Rattle.std.proofs.Common.{◌≡◌, true, false, List, [], ◌∷◌, Some, refl}
use Rattle.std.specs.Prelude.{is_none}
use Rattle.tree_specs.specs.declared.question.Ask.{Ask}
use Rattle.tree_specs.specs.declared.question.Ask.TheVariants as ask
use Rattle.tree_specs.specs.declared.question.Input.{Input}
use Rattle.tree_specs.specs.declared.question.Input.TheVariants as input
use Rattle.tree_specs.specs.declared.frame.Frame.{Frame}
use Rattle.tree_specs.specs.declared.frame.Frame.TheVariants as frame
use Rattle.tree_specs.specs.declared.frame.TurnFrame.{TurnFrame}
use Rattle.tree_specs.specs.declared.frame.TurnFrame.TheVariants.{Timing, Polling}
use Rattle.tree_specs.specs.declared.frame.CallFrame.TheVariants.{Asking}
use Rattle.tree_specs.specs.Machine.Profiles.{Calls, Waits as WaitsFor, ARun, AHandler, ARoutine, profile}
use Rattle.tree_specs.specs.Texts.Schedule.{misfit}
use Rattle.tree_specs.specs.Invariants.Consistent.{IsStacked, IsQuiet, IsOfRoutine, Serves}
use Rattle.host_core.specs.declared.caller.Stage.{Stage}
use Rattle.host_core.specs.declared.caller.Stage.TheVariants as stage
use Rattle.host_core.specs.Callers.{open_at}
use Rattle.host_core.specs.Reaches.{IsOutside, is_bytes, IsShortAnswer}
use Rattle.host_core.specs.Turns.{turn_asks}
use Rattle.host_core.specs.Hosts.{begins_with, IsActing}

-- ---- who asks

abbrev pub IsForCaller : Ask → Type 0
IsForCaller ask.Quiet = Unit {0}
IsForCaller (ask.Routine m) = Unit {0}
IsForCaller _ = ⊥

-- who is asked for a call, or for what a routine does next
pub caller-kind : (f : Frame) (q : Ask) (fs : List Frame) → (profile f).role ≡ Calls (Some q) → IsStacked f fs → IsForCaller q
caller-kind f q fs e s = each fs s
  where
    quiet : (q : Ask) → IsQuiet q → IsForCaller q
    quiet ask.Quiet k = tt
    quiet _ k = absurd k

    routine : (q : Ask) → IsOfRoutine q → IsForCaller q
    routine (ask.Routine m) k = tt
    routine _ k = absurd k

    on : (w : WaitsFor) → Serves w f → IsForCaller q
    on (ARun x h) k = routine q (rw e at k)
    on (AHandler x) k = routine q (rw e at k)
    on (ARoutine x) k = routine q (rw e at k)
    on _ k = absurd (rw e at k)

    each : (fs : List Frame) → IsStacked f fs → IsForCaller q
    each [] k = quiet q (rw e at k)
    each (g ∷ gs) k = on (profile g).waits k.0

-- ---- what was answered

-- the time, or what is ready
abbrev pub IsLook : Input → Type 0
IsLook (input.Clock now) = Unit {0}
IsLook (input.Ready wants) = Unit {0}
IsLook _ = ⊥

-- no answer is both
not-both : (i : Input) → IsActing i → IsLook i → ⊥
not-both (input.Call c) a l = l
not-both (input.Act b) a l = l
not-both _ a l = a

pub caller-acts : (s : Stage) (q : Ask) (i : Input) (fs : List Frame) → is_none (misfit (open_at s q) i) ≡ true → IsStacked (frame.Call (begins_with q i)) fs → IsActing i
caller-acts stage.Asking q i fs e k = each i e k
  where
    no : (q : Ask) (i : Input) → is_none (misfit (Some q) i) ≡ true → IsForCaller q → (IsActing i → ⊥) → ⊥
    no ask.Quiet (input.Call c) e k n = n tt
    no (ask.Routine m) (input.Act a) e k n = n tt
    no ask.Quiet _ e k n = cc
    no (ask.Routine m) _ e k n = cc
    no _ i e k n = k

    each : (i : Input) → is_none (misfit (Some q) i) ≡ true → IsStacked (frame.Call (begins_with q i)) fs → IsActing i
    each (input.Call c) e k = tt
    each (input.Act a) e k = tt
    each i e k = absurd (no q i e (caller-kind (frame.Call (Asking q)) q fs refl k) (λ a. a))
caller-acts _ q i fs e k = cc

turn-looks : (f : TurnFrame) (i : Input) → is_none (misfit (turn_asks f) i) ≡ true → IsLook i
turn-looks (Timing again) (input.Clock now) e = tt
turn-looks (Polling limit) (input.Ready wants) e = tt
turn-looks _ _ e = cc

pub turn-acts-not : (f : TurnFrame) (i : Input) → is_none (misfit (turn_asks f) i) ≡ true → IsActing i → ⊥
turn-acts-not f i e k = not-both i k (turn-looks f i e)

pub outside-acts-not : (q : Ask) (i : Input) → IsOutside q → is_none (misfit (Some q) i) ≡ true → IsActing i → ⊥
outside-acts-not ask.Quiet (input.Call c) o e k = o
outside-acts-not (ask.Routine m) (input.Act a) o e k = o
outside-acts-not _ (input.Call c) o e k = cc
outside-acts-not _ (input.Act a) o e k = cc
outside-acts-not _ _ o e k = k

-- the outside answers with bytes, or with what takes no memory
pub short-answer : (q : Ask) (i : Input) → IsOutside q → is_none (misfit (Some q) i) ≡ true → is_bytes i ≡ false → IsShortAnswer i
short-answer ask.Quiet (input.Call c) o m n = o
short-answer (ask.Routine moment) (input.Act a) o m n = o
short-answer (ask.Wait limit) (input.Ready wants) o m n = o
short-answer q (input.Got bytes) o m n = cc
short-answer _ (input.Call c) o m n = cc
short-answer _ (input.Act a) o m n = cc
short-answer _ (input.Ready wants) o m n = cc
short-answer _ _ o m n = tt
