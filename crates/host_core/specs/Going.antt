-- What a step leads to in a host, and what it may want.
use Rattle.std.specs.Prelude.{◌≡◌, ℕ, ◌+◌, ◌≤◌, Bool, true, false, List, [], ◌∷◌, ◌++◌, reverse, slice_get}
use Rattle.step_machine.specs.Machine.{Move as Do}
use Rattle.tree_specs.specs.declared.frame.TurnFrame.TheVariants.{Handling, Clearing, Serving, Parting}
use Rattle.tree_specs.specs.declared.frame.CallFrame.TheVariants.{Telling}
use Rattle.tree_specs.specs.declared.frame.Frame.TheVariants as frame
use Rattle.tree_specs.specs.declared.frame.FreeFrame.{FreeFrame}
use Rattle.tree_specs.specs.declared.free_step.FreeStep.{FreeStep}
use Rattle.tree_specs.specs.declared.free_step.FreeStep.TheVariants.{Ask, Prepare, Drain, Done}
use Rattle.tree_specs.specs.Calls.Refusals.{refusals_at}
use Rattle.tree_specs.specs.Invariants.Consistent.{IsConsistent}
use Rattle.tree_specs.specs.Machine.Table.{freeing_resume, call_step}
use Rattle.tree_specs.specs.declared.question.Ask.{Ask as Question}
use Rattle.tree_specs.specs.declared.call.Call.{Call}
use Rattle.tree_specs.specs.declared.question.Input.{Input}
use Rattle.tree_specs.specs.declared.question.Input.TheVariants.{Got}
use Rattle.tree_specs.specs.declared.question.Input.TheVariants as input
use Rattle.tree_specs.specs.declared.reply.Reply.TheVariants as reply
use Rattle.tree_specs.specs.Machine.View.{View}
use Rattle.destructors.specs.Engine.{IsAsked, IsPreparing}
use Rattle.destructors.specs.Frees.{Steps}
use Rattle.destructors.specs.Works.{IsAwaiting, GoesOn}
use Rattle.object_pool.specs.Objects.{Objects, frees_in, MayBeginFree}
use Rattle.object_pool.specs.Requests.{count_unreceived}
use Rattle.host_core.specs.declared.active.Active.{Active}
use Rattle.host_core.specs.declared.answer.Answer.{Answer}
use Rattle.host_core.specs.declared.answer.Answer.TheVariants.{Freed, Returned, Turned, Heard}
use Rattle.host_core.specs.declared.parts.Parts.{Parts}
use Rattle.host_core.specs.declared.step.Step.{Step}
use Rattle.host_core.specs.declared.step.Step.TheVariants.{Goes, Calls, Frees, Unlinks, Empties, Ends}
use Rattle.host_core.specs.declared.waiting.Waiting.{Waiting}
use Rattle.host_core.specs.declared.waiting.Waiting.TheVariants.{Freeing, Awaiting, Turning, Requesting, Turn, Work as WorkOf}
use Rattle.host_core.specs.declared.work.Work.{Work}
use Rattle.host_core.specs.declared.work.Work.TheVariants.{Called, Releasing, Dropping, Over}
use Rattle.host_core.specs.declared.motion.Motion.{Motion}
use Rattle.host_core.specs.Callers.{remembers}
use Rattle.host_core.specs.Moves.{move_of, ReadyFor}
use Rattle.host_core.specs.Reaches.{remembered}
use Rattle.host_core.specs.Hosts.{host_view, called_view, below_in, moved, speaking_view, PartsReady, HasRoom, IsBetweenSteps, StepsSilently}
use Rattle.host_core.specs.Places.{places, own_place, HasPlacesFor}
use Rattle.host_core.specs.Stacks.{active_frame, answer_of, Fits}
use Rattle.host_core.specs.Steps.{step_of, IsBusy}
use Rattle.host_core.specs.Turns.{turn_asks}
use Rattle.host_core.specs.declared.active.Active.TheVariants as active
use Rattle.tree_specs.specs.declared.frame.Errand.{Errand}
use Rattle.tree_specs.specs.declared.frame.Errand.TheVariants.{Receive}
use Rattle.tree_specs.specs.declared.frame.TurnFrame.{TurnFrame}

-- the works after a step
abbrev pub stepped_view : Step → Parts → View
stepped_view step parts = (moved (step_of step parts.objects.pool) (below_in parts)).1

-- ---- what is over

-- what is over answers to what waits for it
abbrev pub AnswersTo : Answer → Waiting → Objects → Type 0
AnswersTo (Freed a) (Awaiting q x) o = Unit {0}
AnswersTo (Freed a) (Turn (Clearing x)) o = MayBeginFree o
AnswersTo (Freed a) (Turn (Parting c v)) o = MayBeginFree o
AnswersTo (Freed a) (WorkOf (Releasing child)) o = Unit {0}
AnswersTo (Freed a) (WorkOf (Dropping queue entry)) o = IsPreparing (slice_get o.works 0)
AnswersTo (Returned v) Freeing o = IsAsked (slice_get o.works 0) × IsAwaiting (frees_in o)
AnswersTo (Returned v) (Turn (Handling what x handler occasion)) o = o.ready ≡ true
AnswersTo (Returned v) (WorkOf (Called what x handler errand)) o = o.ready ≡ true
AnswersTo (Turned v) (Turning q) o = Unit {0}
AnswersTo (Heard r) (Turning q) o = Unit {0}
AnswersTo (Heard r) (Requesting q) o = Unit {0}
AnswersTo (Heard r) (Turn (Serving x)) o = MayBeginFree o
AnswersTo (Heard r) Freeing o = IsPreparing (slice_get o.works 0) × IsAwaiting (frees_in o)
AnswersTo a w o = ⊥

-- the open frees go on with what the innermost of them has waited for
abbrev pub resumed_works : Answer → List FreeFrame → List FreeFrame
resumed_works a [] = []
resumed_works a (f ∷ fs) = freeing_resume f (answer_of a) ∷ fs

-- the places that what waits for it may take; an object whose destructor or handler has returned may be quiet again
abbrev pub answer_places : Answer → ℕ
answer_places (Freed a) = 2
answer_places (Returned v) = 4
answer_places (Turned v) = 0
answer_places (Heard r) = 1

-- the innermost of the works that wait
pub record Answers (a : Answer) (ws : List Waiting) (o : Objects) : Type 0 where
  pub first : Waiting
  pub others : List Waiting
  pub are : ws ≡ first ∷ others
  pub answers : AnswersTo a first o

abbrev pub ended_view : Answer → Parts → View
ended_view a parts = (moved (Do.Done (answer_of a) parts.objects.pool) (below_in parts)).1

-- what is over may lead on: what waits for it can be given this answer
pub record MayEnd (a : Answer) (parts : Parts) : Type 0 where
  pub answers : Answers a (reverse parts.waiting.items) parts.objects
  pub whole : IsConsistent (ended_view a parts)
  pub fit : Fits parts.objects.works (reverse parts.waiting.items)
  pub places : HasPlacesFor (answer_places a) parts

-- from this view, telling nothing, a work came to its end, and may end
pub record LeadsToEnd (from : View) (a : Answer) (parts : Parts) : Type 0 where
  pub onward : StepsSilently from (ended_view a parts)
  pub may : MayEnd a parts

-- ---- what a step may want

abbrev pub StepReady : Step → Objects → Type 0
StepReady (Goes next) o = PartsReady next o
StepReady (Calls first second) o = PartsReady first o
StepReady (Frees x second) o = MayBeginFree o
StepReady (Unlinks owner x second) o = MayBeginFree o
StepReady (Empties x second) o = o.ready ≡ true
StepReady (Ends a) o = Unit {0}

abbrev pub step_places : Step → ℕ
step_places (Goes next) = places next
step_places (Calls first second) = 1 + places first
step_places (Frees x second) = own_place second + 2
step_places (Unlinks owner x second) = own_place second + 2
step_places (Empties x second) = own_place second + 2
step_places (Ends a) = answer_places a

-- whoever waits for a work that is over
abbrev pub StepAnswers : Step → List Waiting → Objects → Type 0
StepAnswers (Ends a) ws o = Answers a ws o
StepAnswers step ws o = Unit {0}

-- a step may be gone on with: what it leads to has all that it may want
pub record MayGoOn (step : Step) (parts : Parts) : Type 0 where
  pub busy : IsBusy step
  pub whole : IsConsistent (stepped_view step parts)
  pub fit : Fits parts.objects.works (reverse parts.waiting.items)
  pub ready : StepReady step parts.objects
  pub answers : StepAnswers step (reverse parts.waiting.items) parts.objects
  pub places : HasPlacesFor (step_places step) parts

-- from this view, telling nothing, a step was made, and may be gone on with
pub record LeadsOn (from : View) (step : Step) (parts : Parts) : Type 0 where
  pub onward : StepsSilently from (stepped_view step parts)
  pub may : MayGoOn step parts

-- a turn ends with its reply alone, and the work of a request once it is over
abbrev pub IsTurnStep : Step → Type 0
IsTurnStep (Ends (Turned v)) = Unit {0}
IsTurnStep (Ends a) = ⊥
IsTurnStep step = Unit {0}

-- something is still to do
abbrev pub IsOngoing : Step → Type 0
IsOngoing (Ends a) = ⊥
IsOngoing step = Unit {0}

abbrev pub IsOver : Work → Type 0
IsOver (Over reply) = Unit {0}
IsOver w = ⊥

abbrev pub IsWorkStep : Work → Step → Type 0
IsWorkStep w (Ends (Heard r)) = IsOver w
IsWorkStep w step = IsOngoing step

-- a turn at work of which this is still to do
abbrev pub turning : TurnFrame → Active
turning frame = active.Turning (record { frame = frame; question = turn_asks frame })

-- a turn goes on with this
abbrev pub goes_as : TurnFrame → Step
goes_as frame = Goes (turning frame)

-- the work of a request goes on with this
abbrev pub works_as : Work → Step
works_as w = Goes (active.Requesting w)

-- what a step leads to has what it may want, and takes so many places at most
pub record GoesWell (most : ℕ) (step : Step) (o : Objects) : Type 0 where
  pub busy : IsBusy step
  pub ready : StepReady step o
  pub places : step_places step ≤ most

-- an errand in which nothing is received
abbrev pub IsPlainErrand : Errand → Type 0
IsPlainErrand Receive = ⊥
IsPlainErrand errand = Unit {0}

-- ---- what has led to these parts

-- the parts with these objects in place of their own
abbrev pub with_objects : Objects → Parts → Parts
with_objects o parts = record { waiting = parts.waiting; objects = o }

-- the innermost free stays at work after a step
abbrev pub is_news : FreeStep → Bool
is_news (Ask x) = false
is_news (Prepare x) = false
is_news (Drain x) = false
is_news (Done a) = false
is_news _ = true

-- from these objects the innermost free made a step that told no event
pub record CameFrom (o : Objects) (step : FreeStep) (parts : Parts) : Type 0 where
  pub ready : IsBetweenSteps active.Freeing (with_objects o parts)
  pub quiet : speaking_view (host_view active.Freeing (with_objects o parts)) ≡ false
  pub steps : Steps (frees_in o) step (frees_in parts.objects)
  pub goes_on : GoesOn step (frees_in parts.objects)
  pub requests : count_unreceived parts.objects.pool.requests ≤ count_unreceived o.pool.requests

-- with these objects a caller that was asked this did a call, and this is what it does first
pub record BeginsWith (q : Question) (c : Call) (o : Objects) (motion : Motion) (parts : Parts) : Type 0 where
  pub whole : IsConsistent (called_view q (input.Call c) (with_objects o parts))
  pub room : HasRoom (with_objects o parts)
  pub fit : Fits o.works (reverse parts.waiting.items)
  pub moved : move_of q motion parts.objects.pool ≡ call_step (refusals_at q o.pool c) q c o.pool
  pub works : parts.objects.works ≡ o.works
  pub goes : ReadyFor motion parts.objects.ready

-- ---- what the outside has answered

-- the innermost of the works that wait is a call that asks the outside
pub record CallsOutside (waiting : List Waiting) : Type 0 where
  pub question : Question
  pub others : List Waiting
  pub are : waiting ≡ others ++ Turning question ∷ []

-- its caller, which was asked this, is told the bytes that were read, and a routine remembers them
pub record Reads (q : Question) (i : Input) (now : Active) (old new : Parts) : Type 0 where
  pub bytes : List ℕ
  pub were : i ≡ Got bytes
  pub tells : active_frame now ≡ frame.Call (Telling (remembers q (remembered q (reply.Bytes bytes))) (reply.Bytes bytes))
  pub waited : old.waiting.items ≡ new.waiting.items ++ Turning q ∷ []
  pub same : new.objects ≡ old.objects
