-- The same rules as tables of single steps, one row for each kind of open work.
use Rattle.std.specs.Prelude.{ℕ, ◌-◌, Bool, true, false, nat_eq, nat_le, List, Option, Some, None, if◌then◌else◌}
use Rattle.step_machine.specs.Machine.{Move, Table, Move as Do}
use Rattle.step_machine.specs.Noted.{Notes}
use Rattle.tree_specs.specs.declared.object.Obj.{Obj}
use Rattle.tree_specs.specs.declared.row.Mark.TheVariants as mark
use Rattle.tree_specs.specs.declared.call.Call.{Call}
use Rattle.tree_specs.specs.declared.call.Call.TheVariants as call
use Rattle.tree_specs.specs.declared.request.Note.{Note}
use Rattle.tree_specs.specs.declared.request.State.TheVariants.{TimedOut, Received}
use Rattle.tree_specs.specs.declared.reply.Reply.{Reply}
use Rattle.tree_specs.specs.declared.reply.Reply.TheVariants as reply
use Rattle.tree_specs.specs.declared.reply.Refusal.TheVariants as refusal
use Rattle.tree_specs.specs.declared.notice.Notice.{Notice}
use Rattle.tree_specs.specs.declared.occasion.Occasion.{Occasion}
use Rattle.tree_specs.specs.declared.due.Due.{Due}
use Rattle.tree_specs.specs.declared.handler.Handler.{Handler}
use Rattle.tree_specs.specs.declared.wants.Want.{Want}
use Rattle.tree_specs.specs.declared.watch.Watch.{Watch}
use Rattle.tree_specs.specs.declared.moment.What.{What}
use Rattle.tree_specs.specs.declared.moment.What.TheVariants.{Immediate as ForImmediate, Timer as ForTimer, Descriptor as ForDescriptor, Callback as ForCallback, Cleanup as ForCleanup, Cancel as ForCancel, Trigger as ForTrigger}
use Rattle.tree_specs.specs.declared.event.Event.{Event}
use Rattle.tree_specs.specs.declared.event.Event.TheVariants as event
use Rattle.tree_specs.specs.declared.question.Ask.{Ask}
use Rattle.tree_specs.specs.declared.question.Ask.TheVariants.{Quiet, Routine, Clock, Wait}
use Rattle.tree_specs.specs.declared.question.Input.{Input}
use Rattle.tree_specs.specs.declared.frame.Frame.{Frame}
use Rattle.tree_specs.specs.declared.frame.Frame.TheVariants as frame
use Rattle.tree_specs.specs.declared.frame.CallFrame.{CallFrame}
use Rattle.tree_specs.specs.declared.frame.CallFrame.TheVariants.{Asking, Doing, Awaiting, Turning, Requesting, Announcing, Telling, Returning}
use Rattle.tree_specs.specs.declared.frame.FreeFrame.{FreeFrame}
use Rattle.tree_specs.specs.declared.frame.FreeFrame.TheVariants.{Unlinking, Beginning, Hooked, Judged, Preparing, Prepared, Looping, Draining}
use Rattle.tree_specs.specs.declared.frame.TurnFrame.{TurnFrame}
use Rattle.tree_specs.specs.declared.frame.TurnFrame.TheVariants.{Taking, Timing, Timed, Polling, Starting, Firing, Handling, Handled, Clearing, Serving, Parting, Closing}
use Rattle.tree_specs.specs.declared.frame.OutsideFrame.{OutsideFrame}
use Rattle.tree_specs.specs.declared.frame.OutsideFrame.TheVariants.{Reaching, Opening, Hearing}
use Rattle.tree_specs.specs.declared.frame.RequestFrame.{RequestFrame}
use Rattle.tree_specs.specs.declared.frame.RequestFrame.TheVariants as request
use Rattle.tree_specs.specs.declared.frame.Errand.{Errand}
use Rattle.tree_specs.specs.declared.frame.Errand.TheVariants.{Finish, Notify, Receive, Cancel}
use Rattle.tree_specs.specs.declared.frame.Purpose.TheVariants.{Emptying}
use Rattle.tree_specs.specs.declared.frame.Answer.{Answer}
use Rattle.tree_specs.specs.declared.frame.Answer.TheVariants.{Freed, Returned, Turned, Heard}
use Rattle.tree_specs.specs.declared.free_step.FreeReply.{FreeReply}
use Rattle.tree_specs.specs.declared.free_step.FreeReply.TheVariants.{Ok}
use Rattle.tree_specs.specs.declared.free_step.FreeStep.{FreeStep}
use Rattle.tree_specs.specs.declared.free_step.FreeStep.TheVariants.{Ask as AskOf, Prepare, Dropped, Refused, Accepted, Doom, Left, Moved, Gone, Done as Over, Drain}
use Rattle.tree_specs.specs.declared.coming.Coming.{Coming}
use Rattle.tree_specs.specs.Tree.Pool.{Pool, set_mark, soon_here, times_here, ring_here, enter, exit, unschedule, disarm, open_descriptor, renote, schedule_deferred, finish, receive, run_queue, trigger}
use Rattle.tree_specs.specs.Events.Pending.{first}
use Rattle.tree_specs.specs.Events.Queues.{Head, has_queue, head_of, next_of}
use Rattle.tree_specs.specs.Events.Requests.{state_number, note_of, is_noted, is_unreceived, cleanup_in, cancel_in, cleaned}
use Rattle.tree_specs.specs.Rules.Errands.{reply_to, cancelled_reply, is_receive, after_routine}
use Rattle.tree_specs.specs.Events.Rotation.{Ready, closes_with, first_ready}
use Rattle.tree_specs.specs.Events.Coming.{wait_limit, handler_for, handler_moment, at_time, with_flags, plainly, begun, goes_after, looks_again}
use Rattle.tree_specs.specs.Rules.Items.{Item}
use Rattle.tree_specs.specs.Rules.Items.Item.{Told, Asked}
use Rattle.tree_specs.specs.Calls.Refusals.{Check, refusals_at, is_doomed}
use Rattle.tree_specs.specs.Calls.Plans.{Plan, plan, planned, unless_refused, changed_by}
use Rattle.tree_specs.specs.Calls.Plans.Plan.{Does, Frees, Unlinks, Empties, Asks, Turns, Works}
use Rattle.tree_specs.specs.Rules.Sequence.{CallStart}
use Rattle.tree_specs.specs.Rules.Answers.{freed_reply, hook_moment, later, heard, clocked, polled, reached}
use Rattle.tree_specs.specs.Rules.Pieces.{notice_event}
use Rattle.tree_specs.specs.Machine.FreeTable.{FreeMove, free_step, free_resume}

-- ---- the host

abbrev pub Step : Type 0
Step = Move Frame Answer Pool Item

-- a descriptor is closed
abbrev pub closed_event : Option ℕ → Option Event
closed_event None = None
closed_event (Some fd) = Some (event.Closed fd)

-- what the host tells of a step of a free, by what was watched before it; an object that is let go of may close a descriptor
abbrev pub event_of : List Watch → FreeStep → Option Event
event_of ring (AskOf x) = None
event_of ring (Prepare x) = None
event_of ring (Drain x) = None
event_of ring (Dropped r target) = Some (event.Unreferenced r target)
event_of ring (Refused x v) = Some (event.Refused x v)
event_of ring (Accepted x) = Some (event.Accepted x)
event_of ring (Doom x) = closed_event (closes_with ring x)
event_of ring (Left x from) = closed_event (closes_with ring x)
event_of ring (Moved x from owner) = Some (event.Moved x owner)
event_of ring (Gone x h) = Some (event.Freed x h)
event_of ring (Over answer) = None

abbrev pub announced : Option Event → FreeFrame → Pool → Step
announced None f p = Do.Go (frame.Free f) p
announced (Some e) f p = Do.Emit (Told e) (frame.Free f) p

-- what a free waits for: the run of a destructor, that a request is received, or that the entries of a queue are freed
abbrev pub run_for : FreeFrame → Frame
run_for (Hooked x h) = frame.Call (Asking (Routine (hook_moment x h)))
run_for (Preparing x) = frame.Request (request.Receiving x)
run_for (Draining x) = frame.Request (request.Vacating x)
run_for f = frame.Free f

-- a step of a free, among the host's works, with what was watched before it
abbrev pub lifted : List Watch → FreeMove → Step
lifted ring (Do.Done a p) = Do.Done (Freed a) p
lifted ring (Do.Go f p) = Do.Go (frame.Free f) p
lifted ring (Do.Emit e f p) = announced (event_of ring e) f p
lifted ring (Do.Wait q f p) = Do.Call (run_for f) (frame.Free f) p
lifted ring (Do.Call g f p) = Do.Call (frame.Free g) (frame.Free f) p

-- the reply is told next, and then the caller is asked again
abbrev pub replied : Ask → Reply → Pool → Step
replied q r p = Do.Go (frame.Call (Telling (later q r) r)) p

-- a notice is told before the reply
abbrev pub notice_step : Option Notice → Ask → Reply → Pool → Step
notice_step None q r p = replied q r p
notice_step (Some notice) q r p = Do.Go (frame.Call (Announcing (later q r) notice r)) p

-- a turn is for the host's own caller alone
abbrev pub turning_step : Ask → Obj → Pool → Step
turning_step Quiet c p = Do.Call (frame.Turn Taking) (frame.Call (Turning Quiet)) (enter p c)
turning_step q c p = replied q (reply.No refusal.Nested) p

-- an errand of a request, as a work
abbrev pub work_of : Errand → Obj → Frame
work_of (Finish s) x = frame.Request (request.Finishing x s)
work_of Notify x = frame.Request (request.Notifying x Notify)
work_of Receive x = frame.Request (request.Receiving x)
work_of Cancel x = frame.Request (request.Cancelling x)

-- the first step of a plan
abbrev pub plan_step : Ask → Plan → Pool → Step
plan_step q (Does c notice r) p = notice_step notice q r (changed_by c p)
plan_step q (Frees x) p = Do.Call (frame.Free (Beginning x)) (frame.Call (Awaiting q x)) p
plan_step q (Unlinks o x) p = Do.Call (frame.Free (Unlinking o x)) (frame.Call (Awaiting q x)) p
plan_step q (Empties x) p = Do.Call (frame.Free (Looping x Emptying)) (frame.Call (Awaiting q x)) p
plan_step q (Asks outside) p = Do.Call (frame.Outside (Reaching outside)) (frame.Call (Turning q)) p
plan_step q (Turns c) p = turning_step q c p
plan_step q (Works c errand x) p = Do.Call (work_of errand x) (frame.Call (Requesting q)) (changed_by c p)

-- the first refusal that applies, otherwise the plan
abbrev pub call_step : Check → Ask → Call → Pool → Step
call_step check q c p = plan_step q (unless_refused check (plan p c)) p

abbrev pub caller_step : CallFrame → Pool → Step
caller_step (Asking q) p = Do.Wait (Asked q) (frame.Call (Asking q)) p
caller_step (Doing q c) p = call_step (refusals_at q p c) q c p
-- it waits for the work above it
caller_step (Awaiting q x) p = Do.Done (Freed Ok) p
caller_step (Turning q) p = Do.Done (Freed Ok) p
caller_step (Requesting q) p = Do.Done (Freed Ok) p
caller_step (Announcing q notice r) p = Do.Emit (Told (notice_event notice)) (frame.Call (Telling q r)) p
caller_step (Telling q r) p = Do.Emit (Told (event.Replied r)) (frame.Call (Asking q)) p
caller_step (Returning v) p = Do.Done (Returned v) p

-- ---- the turn

-- what has come is a request, whose errand is done, or it is an event, which starts
abbrev pub come_step : Bool → Errand → What → Obj → Occasion → Pool → Step
come_step true errand what x occasion p = Do.Call (work_of errand x) (frame.Turn (Serving x)) p
come_step false errand what x occasion p = Do.Go (frame.Turn (Starting what x occasion)) p

-- a time has come: a request times out
abbrev pub due_now : Obj → ℕ → Pool → Step
due_now x now p = come_step (is_noted p.requests x) (Finish TimedOut) ForTimer x (at_time now) (disarm p x)

-- the first time, where it is 0, has come; for any other the clock is asked
abbrev pub due_step : Option Due → Pool → Step
due_step None p = Do.Go (frame.Turn (Polling wait_limit)) p
due_step (Some d) p = if nat_eq d.time 0 then due_now d.object 0 p else Do.Go (frame.Turn (Timing false)) p

-- what has come is a queue, whose first entry is triggered, or it is an event, which starts
abbrev pub queue_step : Bool → Obj → Pool → Step
queue_step true x p = Do.Call (frame.Request (request.Triggering x)) (frame.Turn (Serving x)) p
queue_step false x p = Do.Go (frame.Turn (Starting ForImmediate x plainly)) p

-- or it is a request, which is notified
abbrev pub soon_step : Bool → Obj → Pool → Step
soon_step true x p = Do.Call (work_of Notify x) (frame.Turn (Serving x)) p
soon_step false x p = queue_step (has_queue p.queues x) x p

-- those that come soon are first
abbrev pub taking_step : Option Coming → Pool → Step
taking_step None p = due_step (first (times_here p)) p
taking_step (Some y) p = soon_step (is_noted p.requests y.object) y.object (unschedule p y.object)

-- where the first time hasn't come it is asked once what is ready, until then at the longest
abbrev pub early_step : Bool → Due → ℕ → Pool → Step
early_step true d now p = Do.Go (frame.Turn (Closing 0)) p
early_step false d now p = Do.Go (frame.Turn (Polling (d.time - now))) p

abbrev pub timed_step : Bool → ℕ → Option Due → Pool → Step
timed_step again now None p = Do.Go (frame.Turn (Closing 0)) p
timed_step again now (Some d) p = if nat_le d.time now then due_now d.object now p else early_step again d now p

-- an event that has no handler does nothing
abbrev pub starting_step : What → Obj → Occasion → Option Handler → Pool → Step
starting_step what x occasion None p = Do.Go (frame.Turn (Closing 1)) p
starting_step what x occasion (Some handler) p = Do.Go (frame.Turn (Firing what x handler occasion)) (begun what x p)

-- after its handler has run an event is quiet again, or is freed
abbrev pub handled_step : Obj → Bool → Pool → Step
handled_step x true p = Do.Call (frame.Free (Beginning x)) (frame.Turn (Clearing x)) (set_mark p x mark.Quiet)
handled_step x false p = Do.Go (frame.Turn (Closing 1)) (set_mark p x mark.Quiet)

-- after the turn a context is quiet again, or is freed
abbrev pub parting_step : Obj → ℕ → Bool → Pool → Step
parting_step c v true p = Do.Call (frame.Free (Beginning c)) (frame.Turn (Parting c v)) (exit p c)
parting_step c v false p = Do.Done (Turned v) (exit p c)

abbrev pub closing_step : ℕ → Option Obj → Pool → Step
closing_step v None p = Do.Done (Turned v) p
closing_step v (Some c) p = parting_step c v (is_doomed p c) p

abbrev pub turn_step : TurnFrame → Pool → Step
turn_step Taking p = taking_step (first (soon_here p)) p
turn_step (Timing again) p = Do.Wait (Asked Clock) (frame.Turn (Timing again)) p
turn_step (Timed again now) p = timed_step again now (first (times_here p)) p
turn_step (Polling limit) p = Do.Wait (Asked (Wait limit)) (frame.Turn (Polling limit)) p
turn_step (Starting what x occasion) p = starting_step what x occasion (handler_for p what x) p
turn_step (Firing what x handler occasion) p = Do.Emit (Told (event.Fired what x handler.routine)) (frame.Turn (Handling what x handler occasion)) p
turn_step (Handling what x handler occasion) p = Do.Call (frame.Call (Asking (Routine (handler_moment what x handler occasion)))) (frame.Turn (Handling what x handler occasion)) p
turn_step (Handled what x) p = handled_step x (goes_after p what x) p
-- it waits for the work above it
turn_step (Clearing x) p = Do.Done (Freed Ok) p
turn_step (Serving x) p = Do.Done (Freed Ok) p
turn_step (Parting c v) p = Do.Done (Freed Ok) p
turn_step (Closing v) p = closing_step v p.turning p

-- ---- a question to the outside

abbrev pub outside_step : OutsideFrame → Pool → Step
outside_step (Reaching q) p = Do.Wait (Asked q) (frame.Outside (Reaching q)) p
outside_step (Opening fd) p = Do.Done (Heard (reply.Number fd)) (open_descriptor p fd)
outside_step (Hearing r) p = Do.Done (Heard r) p

-- ---- requests

abbrev pub over_step : Errand → Pool → Step
over_step errand p = Do.Go (frame.Request (request.Over (reply_to errand))) p

abbrev pub calling_one : What → Obj → Handler → Errand → Frame
calling_one what x handler errand = frame.Request (request.Calling what x handler errand)

abbrev pub cancelling_step : Obj → Option Handler → Pool → Step
cancelling_step x None p = Do.Go (frame.Request (request.Over (cancelled_reply 0))) p
cancelling_step x (Some handler) p = Do.Go (calling_one ForCancel x handler Cancel) p

-- a cleanup runs once for each state
abbrev pub cleaning_step : Obj → Errand → Option Handler → Pool → Step
cleaning_step x errand None p = Do.Go (frame.Request (request.Cleaned x errand)) p
cleaning_step x errand (Some handler) p = Do.Go (calling_one ForCleanup x handler errand) (renote p x cleaned)

-- an object is freed as a call frees it, and what comes of this isn't told
abbrev pub release_object : Plan → Errand → Pool → Step
release_object (Frees c) errand p = Do.Call (frame.Free (Beginning c)) (frame.Request (request.Releasing c)) p
release_object (Unlinks o c) errand p = Do.Call (frame.Free (Unlinking o c)) (frame.Request (request.Releasing c)) p
release_object plan errand p = over_step errand p

-- after its cleanup nothing more is done for a request that is no more
abbrev pub cleaned_step : Obj → Errand → Option Note → Pool → Step
cleaned_step x errand None p = over_step errand p
cleaned_step x errand (Some n) p =
    if is_receive errand then release_object (planned p (call.Free n.child)) errand p
    else Do.Go (frame.Request (request.Notifying x errand)) p

-- a request that has a callback is called back
abbrev pub callback_step : Obj → Errand → Option Handler → Pool → Step
callback_step x errand None p = over_step errand p
callback_step x errand (Some handler) p = Do.Go (calling_one ForCallback x handler errand) p

-- a request whose callback is deferred comes soon
abbrev pub deferred_step : Obj → Errand → Option Obj → Option Handler → Pool → Step
deferred_step x errand (Some c) callback p = over_step errand (schedule_deferred p x c)
deferred_step x errand None callback p = callback_step x errand callback p

abbrev pub notifying_step : Obj → Errand → Option Note → Pool → Step
notifying_step x errand None p = over_step errand p
notifying_step x errand (Some n) p = deferred_step x errand n.deferred n.callback p

-- a request is received once
abbrev pub receiving_step : Obj → Bool → Pool → Step
receiving_step x true p = Do.Emit (Told (event.State x (state_number Received))) (frame.Request (request.Cleaning x Receive)) (receive p x)
receiving_step x false p = over_step Receive p

-- the first entry of a queue is freed; it doesn't run meanwhile
abbrev pub vacating_step : Obj → Option Head → Pool → Step
vacating_step q None p = Do.Go (frame.Request (request.Over reply.Ok)) p
vacating_step q (Some h) p = Do.Call (frame.Free (Beginning h.object)) (frame.Request (request.Dropping q h.object)) p

-- the trigger of an entry runs for its request
abbrev pub triggering_step : Option Head → Pool → Step
triggering_step None p = Do.Go (frame.Request (request.Over reply.Ok)) p
triggering_step (Some h) p = Do.Emit (Told (event.Fired ForTrigger h.entry.request h.entry.trigger.routine)) (frame.Request (request.Called ForTrigger h.entry.request h.entry.trigger Notify)) (trigger p h)

abbrev pub request_step : RequestFrame → Pool → Step
request_step (request.Finishing x state) p = Do.Emit (Told (event.State x (state_number state))) (frame.Request (request.Cleaning x (Finish state))) (finish p x state)
request_step (request.Receiving x) p = receiving_step x (is_unreceived (note_of p.requests x)) p
request_step (request.Cancelling x) p = cancelling_step x (cancel_in (note_of p.requests x)) p
request_step (request.Cleaning x errand) p = cleaning_step x errand (cleanup_in (note_of p.requests x)) p
request_step (request.Cleaned x errand) p = cleaned_step x errand (note_of p.requests x) p
request_step (request.Notifying x errand) p = notifying_step x errand (note_of p.requests x) p
request_step (request.Calling what x handler errand) p = Do.Emit (Told (event.Fired what x handler.routine)) (frame.Request (request.Called what x handler errand)) p
request_step (request.Called what x handler errand) p = Do.Call (frame.Call (Asking (Routine (handler_moment what x handler plainly)))) (frame.Request (request.Called what x handler errand)) p
-- it waits for the work above it
request_step (request.Releasing c) p = Do.Done (Freed Ok) p
request_step (request.Vacating q) p = vacating_step q (head_of p.queues q) (run_queue p q false)
request_step (request.Dropping q e) p = Do.Done (Freed Ok) p
request_step (request.Triggering q) p = triggering_step (next_of p.queues q) p
request_step (request.Over r) p = Do.Done (Heard r) p

-- ---- all works

abbrev pub step : Frame → Pool → Step
step (frame.Call f) p = caller_step f p
step (frame.Free f) p = lifted p.ring (free_step f p)
step (frame.Turn f) p = turn_step f p
step (frame.Outside f) p = outside_step f p
step (frame.Request f) p = request_step f p

-- what a work answers, where a free is waited for
abbrev pub reply_in : Answer → FreeReply
reply_in (Freed a) = a
reply_in answer = Ok

-- what a work answers, where a routine is waited for
abbrev pub value_in : Answer → ℕ
value_in (Returned v) = v
value_in answer = 0

-- the reply to a call that waits for a turn, for the outside or for a request
abbrev pub heard_in : Answer → Reply
heard_in (Turned v) = reply.Number v
heard_in (Heard r) = r
heard_in answer = reply.Number 0

abbrev pub caller_resume : CallFrame → Answer → CallFrame
caller_resume (Awaiting q x) a = Telling (later q (freed_reply x (reply_in a))) (freed_reply x (reply_in a))
caller_resume (Turning q) a = Telling (later q (heard_in a)) (heard_in a)
caller_resume (Requesting q) a = Telling (later q (heard_in a)) (heard_in a)
caller_resume f a = f

-- a free that has waited goes on with what it waited for
abbrev pub freeing_resume : FreeFrame → Answer → FreeFrame
freeing_resume (Hooked x h) a = Judged x h (value_in a)
freeing_resume (Preparing x) a = Prepared x
freeing_resume (Draining x) a = Prepared x
freeing_resume f a = free_resume f (reply_in a)

abbrev pub turn_resume : TurnFrame → TurnFrame
turn_resume (Handling what x handler occasion) = Handled what x
turn_resume (Clearing x) = Closing 1
turn_resume (Serving x) = Closing 1
turn_resume (Parting c v) = Closing v
turn_resume f = f

abbrev pub request_resume : RequestFrame → Answer → RequestFrame
request_resume (request.Called what x handler errand) a =
    after_routine what (request.Cleaned x errand) (request.Over (cancelled_reply (value_in a))) (request.Over (reply_to errand))
request_resume (request.Releasing c) a = request.Over (reply_to Receive)
request_resume (request.Dropping q e) a = request.Vacating q
request_resume f a = f

abbrev pub resume : Frame → Answer → Frame
resume (frame.Call f) a = frame.Call (caller_resume f a)
resume (frame.Free f) a = frame.Free (freeing_resume f a)
resume (frame.Turn f) a = frame.Turn (turn_resume f)
resume (frame.Outside f) a = frame.Outside f
resume (frame.Request f) a = frame.Request (request_resume f a)

abbrev pub doing : Ask → Call → Frame
doing q c = frame.Call (Doing q c)

abbrev pub returning : ℕ → Frame
returning v = frame.Call (Returning v)

abbrev pub caller_taken : CallFrame → Input → Option Frame
caller_taken (Asking q) i = heard q (doing q) returning i
caller_taken f i = None

abbrev pub timed_turn : Bool → ℕ → Frame
timed_turn again now = frame.Turn (Timed again now)

abbrev pub closed_turn : ℕ → Frame
closed_turn v = frame.Turn (Closing v)

-- the first event comes that waits for what its descriptor is ready for
abbrev pub ready_turn : Option Ready → Frame
ready_turn None = closed_turn 0
ready_turn (Some r) = frame.Turn (Starting ForDescriptor r.object (with_flags r.flags))

-- after a wait in which nothing was ready the clock is asked again, where an event has a time
abbrev pub looked_turn : Pool → List Want → Frame
looked_turn p wants = if looks_again p wants then frame.Turn (Timing true) else ready_turn (first_ready (ring_here p) wants)

abbrev pub turn_taken : TurnFrame → Pool → Input → Option Frame
turn_taken (Timing again) p i = clocked (timed_turn again) i
turn_taken (Polling limit) p i = polled limit (looked_turn p) i
turn_taken f p i = None

abbrev pub opening_one : ℕ → Frame
opening_one fd = frame.Outside (Opening fd)

abbrev pub hearing_one : Reply → Frame
hearing_one r = frame.Outside (Hearing r)

-- the pool is what tells open descriptors from others
abbrev pub outside_taken : OutsideFrame → Pool → Input → Option Frame
outside_taken (Reaching q) p i = reached p q opening_one hearing_one i
outside_taken f p i = None

abbrev pub taken : Frame → Pool → Input → Option Frame
taken (frame.Call f) p i = caller_taken f i
taken (frame.Turn f) p i = turn_taken f p i
taken (frame.Outside f) p i = outside_taken f p i
taken _ p i = None

abbrev pub table : Table Frame Answer Pool Input Item
table = record { step = step; resume = resume; taken = taken }

-- ---- what a reply is about: the call, and the pool at its start

abbrev pub note_after : Frame → Pool → Option CallStart → Option CallStart
note_after (frame.Call (Doing q c)) p b = Some (record { call = c; start = p })
note_after (frame.Call (Asking q)) p b = b
note_after (frame.Call (Awaiting q x)) p b = b
note_after (frame.Call (Turning q)) p b = b
note_after (frame.Call (Requesting q)) p b = b
note_after (frame.Call (Announcing q notice r)) p b = b
note_after f p b = None

abbrev pub about : Frame → Option CallStart → Option CallStart
about (frame.Call (Telling q r)) b = b
about f b = None

abbrev pub notes : Notes Frame Pool CallStart
notes = record { after = note_after; about = about }
