-- A host by its parts, and what they keep.
use Rattle.std.specs.Prelude.{◌≡◌, ℕ, ◌+◌, ◌≤◌, ◌<◌, Bool, true, false, List, [], ◌∷◌, length, reverse, vec_capacity, is_none, Option, Some, None}
use Rattle.step_machine.specs.Machine.{Move}
use Rattle.step_machine.specs.Machine.{Move as Do}
use Rattle.tree_specs.specs.declared.event.Event.{Event}
use Rattle.tree_specs.specs.declared.frame.Frame.{Frame}
use Rattle.tree_specs.specs.declared.frame.Frame.TheVariants as frame
use Rattle.tree_specs.specs.declared.frame.CallFrame.{CallFrame}
use Rattle.tree_specs.specs.declared.frame.CallFrame.TheVariants.{Asking, Doing, Returning}
use Rattle.tree_specs.specs.declared.frame.FreeFrame.TheVariants.{Ending}
use Rattle.tree_specs.specs.declared.frame.TurnFrame.{TurnFrame}
use Rattle.tree_specs.specs.declared.frame.TurnFrame.TheVariants.{Taking, Timed, Starting, Handled, Clearing, Serving, Parting, Closing}
use Rattle.tree_specs.specs.declared.frame.Answer.{Answer}
use Rattle.tree_specs.specs.declared.free_step.FreeReply.TheVariants.{Ok}
use Rattle.tree_specs.specs.declared.question.Act.TheVariants as act
use Rattle.tree_specs.specs.declared.question.Ask.{Ask}
use Rattle.tree_specs.specs.declared.question.Input.{Input}
use Rattle.tree_specs.specs.declared.question.Input.TheVariants as input
use Rattle.tree_specs.specs.declared.call.Call.TheVariants as call
use Rattle.tree_specs.specs.declared.object.Owner.{Owner}
use Rattle.tree_specs.specs.declared.reply.Reply.{Reply}
use Rattle.tree_specs.specs.Calls.Refusals.{refusals}
use Rattle.tree_specs.specs.Tree.Pool.{Pool}
use Rattle.tree_specs.specs.Rules.Items.{Item}
use Rattle.tree_specs.specs.Rules.Items.Item.{Told, Asked}
use Rattle.tree_specs.specs.Invariants.Measure.{pending, cost}
use Rattle.tree_specs.specs.Invariants.Consistent.{IsConsistent}
use Rattle.tree_specs.specs.Machine.Table.{step, resume, event_of, call_step, replied}
use Rattle.tree_specs.specs.Machine.View.{View, rest_of, strays_of}
use Rattle.tree_specs.specs.declared.free_step.FreeStep.{FreeStep}
use Rattle.destructors.specs.Frees.{speaking, Steps}
use Rattle.destructors.specs.Frees.{next_of as moves_next}
use Rattle.object_pool.specs.Upcoming.{MayForget, upcoming_in}
use Rattle.destructors.specs.Works.{IsAtWork, GoesOn}
use Rattle.object_pool.specs.Objects.{Objects, frees_in, LeavesRest, MayBeginFree}
use Rattle.object_pool.specs.Requests.{count_unreceived}
use Rattle.requests.specs.Register.{AreInOrder}
use Rattle.host_core.specs.declared.parts.Parts.{Parts}
use Rattle.host_core.specs.declared.active.Active.{Active}
use Rattle.host_core.specs.declared.active.Active.TheVariants as active
use Rattle.host_core.specs.declared.owned_reply.OwnedReply.{OwnedReply}
use Rattle.host_core.specs.declared.turn.Turn.{Turn}
use Rattle.host_core.specs.declared.waiting.Waiting.{Waiting}
use Rattle.host_core.specs.Callers.{frame_of, told_by, after_telling, open_at}
use Rattle.tree_specs.specs.Texts.Schedule.{misfit}
use Rattle.tree_stories.specs.Sights.{sights_of}
use Rattle.host_core.specs.Moves.{call_of, reported}
use Rattle.host_core.specs.Reaches.{IsOutside, is_bytes, outside_given}
use Rattle.host_core.specs.Places.{taken_places, HasPlaces, HasPlacesFor}
use Rattle.host_core.specs.Requests.{work_tells, work_told, pool_told, WorkReady}
use Rattle.host_core.specs.Stacks.{standing, active_frame, other_view, seen, Fits, AllFit}
use Rattle.host_core.specs.Turns.{turn_asks, turn_given, turn_tells, frame_fired}

abbrev pub view_of : Active → List Waiting → Objects → View
view_of now waiting objects = seen now objects.works (reverse waiting) objects.pool

abbrev pub host_view : Active → Parts → View
host_view now parts = view_of now parts.waiting.items parts.objects

-- the works below what is no free
abbrev pub below_in : Parts → List Frame
below_in parts = standing parts.objects.works (reverse parts.waiting.items)

-- ---- what the parts keep besides what holds of a host at every moment

-- the innermost free is at work, and tells something with its next step
pub record FreeReady (objects : Objects) : Type 0 where
  pub at_work : IsAtWork (frees_in objects)
  pub settled : speaking (frees_in objects) ≡ true
  -- what is no more with that step is no queue with entries, and no context in which something comes
  pub forgettable : MayForget (moves_next (frees_in objects)).0 (upcoming_in objects.pool)

-- a turn has its question at hand, and the memory for what follows, until it waits or is over
abbrev pub FrameReady : TurnFrame → Objects → Type 0
FrameReady Taking o = o.ready ≡ true
FrameReady (Timed again now) o = o.ready ≡ true
FrameReady (Starting what x occasion) o = o.ready ≡ true
FrameReady (Handled what x) o = o.ready ≡ true
FrameReady (Closing v) o = MayBeginFree o
FrameReady (Clearing x) o = ⊥
FrameReady (Serving x) o = ⊥
FrameReady (Parting c v) o = ⊥
FrameReady f o = Unit {0}

pub record TurnReady (t : Turn) (objects : Objects) : Type 0 where
  pub question : t.question ≡ turn_asks t.frame
  pub frame : FrameReady t.frame objects

abbrev pub PartsReady : Active → Objects → Type 0
PartsReady (active.Caller c) objects = Unit {0}
PartsReady active.Freeing objects = FreeReady objects
PartsReady (active.Turning t) objects = TurnReady t objects
PartsReady (active.Reaching q) objects = IsOutside q
PartsReady (active.Requesting w) objects = WorkReady w objects

pub record IsBetweenSteps (now : Active) (parts : Parts) : Type 0 where
  pub whole : IsConsistent (host_view now parts)
  pub fit : AllFit now parts.objects.works (reverse parts.waiting.items)
  pub ready : PartsReady now parts.objects
  pub places : HasPlaces now (taken_places parts.waiting.items) parts.objects (vec_capacity parts.waiting)

-- ---- a step

-- an event or a question comes with the next step
abbrev pub speaks : Move Frame Answer Pool Item → Bool
speaks (Do.Emit e f p) = true
speaks (Do.Wait q f p) = true
speaks _ = false

abbrev pub event_in : Item → Option Event
event_in (Told e) = Some e
event_in (Asked q) = None

-- what a move tells, and where it leads, with these works below
abbrev pub moved : Move Frame Answer Pool Item → List Frame → Option Event × View
moved (Do.Done a p) [] = (None, record { innermost = frame.Free (Ending Ok); below = []; pool = p })
moved (Do.Done a p) (g ∷ gs) = (None, record { innermost = resume g a; below = gs; pool = p })
moved (Do.Go g p) fs = (None, record { innermost = g; below = fs; pool = p })
moved (Do.Emit e g p) fs = (event_in e, record { innermost = g; below = fs; pool = p })
moved (Do.Wait q g p) fs = (None, record { innermost = g; below = fs; pool = p })
moved (Do.Call g h p) fs = (None, record { innermost = g; below = h ∷ fs; pool = p })

abbrev pub next_of : View → Option Event × View
next_of v = moved (step v.innermost v.pool) v.below

abbrev pub speaking_view : View → Bool
speaking_view v = speaks (step v.innermost v.pool)

-- From one moment of a host to a later one nothing was told or asked, and the same answers fit.
pub record TellsSameStory (v w : View) : Type 0 where
  pub whole : IsConsistent w
  pub rows : (R : ℕ) → length v.pool.rows + pending v.innermost ≤ R → length w.pool.rows + pending w.innermost ≤ R
  pub no_dearer : (R : ℕ) → length v.pool.rows + pending v.innermost ≤ R → cost R w.innermost w.below w.pool 0 ≤ cost R v.innermost v.below v.pool 0
  pub same : (is : List Input) → rest_of v is ≡ rest_of w is
  pub seen : (is : List Input) → sights_of v is ≡ sights_of w is
  pub strays : (is : List Input) → strays_of v is ≡ strays_of w is

-- The same, by at least one step.
pub record StepsSilently (v w : View) : Type 0 where
  pub along : TellsSameStory v w
  pub cheaper : (R : ℕ) → length v.pool.rows + pending v.innermost ≤ R → cost R w.innermost w.below w.pool 0 < cost R v.innermost v.below v.pool 0

-- From this moment what is at work has come to these parts, which tell or ask something next. Nothing was told or asked before.
pub record ComesTo (v : View) (now : Active) (parts : Parts) : Type 0 where
  pub along : TellsSameStory v (host_view now parts)
  pub ready : IsBetweenSteps now parts
  pub speaks : speaking_view (host_view now parts) ≡ true

-- the innermost free is at hand, where one is at work
abbrev pub IsSettled : Active → Objects → Type 0
IsSettled active.Freeing objects = FreeReady objects
IsSettled now objects = Unit {0}

-- ---- an answer to the open question

-- the question that a caller is asked
abbrev pub caller_asked : Active → Option Ask
caller_asked (active.Caller c) = open_at c.stage c.ask
caller_asked _ = None

-- the question that is open
abbrev pub asked_now : Active → Option Ask
asked_now (active.Caller c) = open_at c.stage c.ask
asked_now active.Freeing = None
asked_now (active.Turning t) = t.question
asked_now (active.Reaching q) = Some q
asked_now (active.Requesting w) = None

-- what a caller begins with that was asked
abbrev pub begins_with : Ask → Input → CallFrame
begins_with q (input.Call c) = Doing q c
begins_with q (input.Act (act.Do c)) = Doing q c
begins_with q (input.Act (act.Ret v)) = Returning v
begins_with q i = Asking q

-- a call, or what a routine does
abbrev pub IsActing : Input → Type 0
IsActing (input.Call c) = Unit {0}
IsActing (input.Act a) = Unit {0}
IsActing i = ⊥

-- the works once a caller that was asked has answered
abbrev pub called_view : Ask → Input → Parts → View
called_view q i parts = other_view (frame.Call (begins_with q i)) parts.objects.works (reverse parts.waiting.items) parts.objects.pool

-- the works once a routine has returned a number
abbrev pub returning_view : ℕ → Parts → View
returning_view v parts = other_view (frame.Call (Returning v)) parts.objects.works (reverse parts.waiting.items) parts.objects.pool

-- what is at work once the answer was given
abbrev pub given_frame : Active → Input → Pool → Frame
given_frame (active.Caller c) i p = frame.Call (begins_with c.ask i)
given_frame (active.Turning t) i p = frame.Turn (turn_given t.frame i p)
given_frame (active.Reaching q) i p = frame.Outside (outside_given q i)
given_frame now i p = active_frame now

abbrev pub given_view : Active → Input → Parts → View
given_view now i parts = other_view (given_frame now i parts.objects.pool) parts.objects.works (reverse parts.waiting.items) parts.objects.pool

-- the memory is taken that may be wanted up to the next question
pub record HasRoom (parts : Parts) : Type 0 where
  pub ready : parts.objects.ready ≡ true
  pub order : AreInOrder parts.objects.pool.requests
  pub places : HasPlacesFor 4 parts

-- this is an answer to what is asked, and takes no memory of its own
pub record MayTake (now : Active) (i : Input) (parts : Parts) : Type 0 where
  pub fits : is_none (misfit (asked_now now) i) ≡ true
  pub no_bytes : is_bytes i ≡ false
  pub no_report : reported (call_of i) ≡ None
  pub ready : PartsReady now parts.objects
  pub fit : Fits parts.objects.works (reverse parts.waiting.items)
  pub whole : IsConsistent (given_view now i parts)
  pub room : HasRoom parts

-- the reply that a report of this owner has, whoever asks for it
abbrev pub IsReplyOf : Owner → Reply → Pool → Type 0
IsReplyOf o r p = (q : Ask) → call_step (refusals p (call.Report o)) q (call.Report o) p ≡ replied q r p

-- a routine remembers the reply, and nobody else does
abbrev pub IsCopy : Input → Option Reply → Owner → Pool → Type 0
IsCopy (input.Act a) None o p = ⊥
IsCopy (input.Act a) (Some r) o p = IsReplyOf o r p
IsCopy i copy o p = copy ≡ None

-- the report that an input wants, which is about this owner
pub record IsReport (i : Input) (r : OwnedReply) (o : Owner) (p : Pool) : Type 0 where
  pub reply : IsReplyOf o r.reply p
  pub copy : IsCopy i r.copy o p

-- the innermost free has made a step, of which this is told
pub record FreeTells (told : Option Event) (o : Objects) (now : Active) (o' : Objects) : Type 0 where
  pub step : FreeStep
  pub still : now ≡ active.Freeing
  pub steps : Steps (frees_in o) step (frees_in o')
  pub goes_on : GoesOn step (frees_in o')
  pub event : told ≡ event_of o.pool.ring step
  pub rest : LeavesRest o o'
  pub requests : count_unreceived o'.pool.requests ≤ count_unreceived o.pool.requests

-- what is at work has told this with the next step of the host, and goes on after it
abbrev pub Tells : Option Event → Active → Objects → Active → Objects → Type 0
Tells told (active.Caller c) o now o' = (told ≡ told_by (frame_of c)) × (active_frame now ≡ frame.Call (after_telling (frame_of c))) × (o' ≡ o)
Tells told active.Freeing o now o' = FreeTells told o now o'
Tells told (active.Turning t) o now o' = (told ≡ turn_tells t.frame) × (now ≡ active.Turning (record t { frame = frame_fired t.frame })) × (o' ≡ o)
Tells told (active.Reaching q) o now o' = (told ≡ None) × (now ≡ active.Reaching q) × (o' ≡ o)
Tells told (active.Requesting w) o now o' = (told ≡ work_tells w o.pool) × (now ≡ active.Requesting (work_told w o.pool)) × (o' ≡ record o { pool = pool_told w o.pool }) × AreInOrder o.pool.requests
