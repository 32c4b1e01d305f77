-- A routine that runs for an event on a descriptor stands on the turn that handles it.
use Rattle.std.proofs.Common.{◌≡◌, ◌≢◌, Bool, true, false, List, [], ◌∷◌, Option, Some, None, sym, subst}
use Rattle.step_machine.specs.Machine.{Move as Do}
use Rattle.tree_specs.specs.declared.object.Obj.{Obj}
use Rattle.tree_specs.specs.declared.call.Call.TheVariants as call
use Rattle.tree_specs.specs.declared.handler.Handler.{Handler}
use Rattle.tree_specs.specs.declared.request.Note.{Note}
use Rattle.tree_specs.specs.declared.reply.Reply.{Reply}
use Rattle.tree_specs.specs.declared.moment.What.{What}
use Rattle.tree_specs.specs.declared.moment.What.TheVariants as what
use Rattle.tree_specs.specs.declared.event.Event.{Event}
use Rattle.tree_specs.specs.declared.watch.Watch.{Watch}
use Rattle.tree_specs.specs.declared.question.Ask.{Ask}
use Rattle.tree_specs.specs.declared.question.Ask.TheVariants as ask
use Rattle.tree_specs.specs.declared.question.Input.{Input}
use Rattle.tree_specs.specs.declared.frame.Frame.{Frame}
use Rattle.tree_specs.specs.declared.frame.Frame.TheVariants as frame
use Rattle.tree_specs.specs.declared.frame.CallFrame.{CallFrame}
use Rattle.tree_specs.specs.declared.frame.CallFrame.TheVariants.{Asking, Doing, Awaiting, Turning, Requesting, Announcing, Telling, Returning}
use Rattle.tree_specs.specs.declared.frame.FreeFrame.{FreeFrame}
use Rattle.tree_specs.specs.declared.frame.FreeFrame.TheVariants.{Hooked, Preparing, Draining}
use Rattle.tree_specs.specs.declared.frame.TurnFrame.{TurnFrame}
use Rattle.tree_specs.specs.declared.frame.TurnFrame.TheVariants.{Taking, Timing, Timed, Polling, Starting, Firing, Handling, Handled, Clearing, Serving, Parting, Closing}
use Rattle.tree_specs.specs.declared.frame.OutsideFrame.TheVariants.{Reaching, Opening, Hearing}
use Rattle.tree_specs.specs.declared.frame.RequestFrame.{RequestFrame}
use Rattle.tree_specs.specs.declared.frame.RequestFrame.TheVariants as request
use Rattle.tree_specs.specs.declared.frame.Errand.{Errand}
use Rattle.tree_specs.specs.declared.frame.Errand.TheVariants.{Finish, Notify, Receive, Cancel}
use Rattle.tree_specs.specs.declared.frame.Answer.{Answer}
use Rattle.tree_specs.specs.Rules.Answers.{later, freed_reply}
use Rattle.tree_specs.specs.Rules.Errands.{reply_to, cancelled_reply, after_routine}
use Rattle.tree_specs.specs.Tree.Pool.{Pool, open_descriptor, run_queue, exit}
use Rattle.tree_specs.specs.Calls.Refusals.{is_doomed}
use Rattle.tree_specs.specs.Calls.Plans.{Plan, planned, planned_at}
use Rattle.tree_specs.specs.Calls.Plans.Plan.{Does, Frees, Unlinks, Empties, Asks, Turns, Works}
use Rattle.tree_specs.specs.Events.Coming.{handler_for, goes_after}
use Rattle.tree_specs.specs.Events.Queues.{Head, head_of, next_of}
use Rattle.tree_specs.specs.Events.Requests.{note_of, is_unreceived, cleanup_in, cancel_in}
use Rattle.tree_specs.specs.Machine.FreeTable.{FreeMove, free_step}
use Rattle.tree_specs.specs.Machine.Table.{Step, step, taken, resume, run_for, announced, event_of, lifted, work_of, plan_step, heard_in, reply_in, value_in, starting_step, handled_step, turn_step, cancelling_step, cleaning_step, release_object, cleaned_step, callback_step, notifying_step, receiving_step, vacating_step, triggering_step, deferred_step, parting_step, closing_step, request_step}
use Rattle.tree_specs.proofs.Calls.Checks.{Heard, heard-leads, Reached, reached-leads}
use Rattle.tree_specs.proofs.Calls.Checks.Heard.{HeardCall, HeardReturn}
use Rattle.tree_specs.proofs.Calls.Checks.Reached.{ReachedOpening, ReachedHearing}
use Rattle.tree_specs.proofs.Invariants.Turning.{Passes, Pass, Serve, Trigger, look-passes, taken-plain}

abbrev pub ask_of : CallFrame → Option Ask
ask_of (Asking q) = Some q
ask_of (Doing q c) = Some q
ask_of (Awaiting q x) = Some q
ask_of (Turning q) = Some q
ask_of (Requesting q) = Some q
ask_of (Announcing q notice r) = Some q
ask_of (Telling q r) = Some q
ask_of (Returning v) = None

abbrev pub Handles : List Frame → Type 0
Handles (frame.Turn (Handling what.Descriptor x h o) ∷ fs) = Unit {0}
Handles fs = ⊥

abbrev pub SeatBy : Option Ask → List Frame → Type 0
SeatBy (Some (ask.Routine m)) fs = m.what ≡ what.Descriptor → Handles fs
SeatBy q fs = Unit {0}

-- the routines of a request run for none
abbrev pub SeatRequest : RequestFrame → Type 0
SeatRequest (request.Calling w x handler errand) = w ≢ what.Descriptor
SeatRequest (request.Called w x handler errand) = w ≢ what.Descriptor
SeatRequest f = Unit {0}

abbrev pub Seat : Frame → List Frame → Type 0
Seat (frame.Call f) fs = SeatBy (ask_of f) fs
Seat (frame.Request f) fs = SeatRequest f
Seat f fs = Unit {0}

abbrev pub Seats : List Frame → Type 0
Seats [] = Unit {0}
Seats (f ∷ fs) = Seat f fs × Seats fs

abbrev pub LeadsSeats : Step → List Frame → Type 0
LeadsSeats (Do.Done a q) [] = Unit {0}
LeadsSeats (Do.Done a q) (g ∷ gs) = Seats (resume g a ∷ gs)
LeadsSeats (Do.Go g q) fs = Seats (g ∷ fs)
LeadsSeats (Do.Emit i g q) fs = Seats (g ∷ fs)
LeadsSeats (Do.Wait i g r) fs = (j : Input) (h : Frame) → taken g r j ≡ Some h → Seats (h ∷ fs)
LeadsSeats (Do.Call h g q) fs = Seats (h ∷ g ∷ fs)

-- ---- what waits goes on

later-seat : (q : Ask) (r : Reply) (fs : List Frame) → SeatBy (Some q) fs → SeatBy (Some (later q r)) fs
later-seat (ask.Routine m) r fs s = s
later-seat ask.Quiet r fs s = tt
later-seat ask.Clock r fs s = tt
later-seat (ask.Wait n) r fs s = tt
later-seat (ask.Accept n) r fs s = tt
later-seat (ask.Read n m) r fs s = tt
later-seat (ask.Write n bytes) r fs s = tt

caller-on : (f : CallFrame) (fs : List Frame) (a : Answer) → Seat (frame.Call f) fs → Seat (resume (frame.Call f) a) fs
caller-on (Awaiting q x) fs a s = later-seat q (freed_reply x (reply_in a)) fs s
caller-on (Turning q) fs a s = later-seat q (heard_in a) fs s
caller-on (Requesting q) fs a s = later-seat q (heard_in a) fs s
caller-on (Asking q) fs a s = s
caller-on (Doing q c) fs a s = s
caller-on (Announcing q notice r) fs a s = s
caller-on (Telling q r) fs a s = s
caller-on (Returning v) fs a s = s

request-on : (f : RequestFrame) (fs : List Frame) (a : Answer) → SeatRequest f → Seat (resume (frame.Request f) a) fs
request-on (request.Called w x handler errand) fs a s = each w
  where
    each : (w : What) → SeatRequest (after_routine w (request.Cleaned x errand) (request.Over (cancelled_reply (value_in a))) (request.Over (reply_to errand)))
    each what.Cleanup = tt
    each what.Cancel = tt
    each _ = tt
request-on (request.Calling w x handler errand) fs a s = s
request-on (request.Releasing c) fs a s = tt
request-on (request.Dropping q x) fs a s = tt
request-on _ fs a s = tt

done-seats : (a : Answer) (q : Pool) (fs : List Frame) → Seats fs → LeadsSeats (Do.Done a q) fs
done-seats a q [] s = tt
done-seats a q (frame.Call f ∷ gs) s = (caller-on f gs a s.0, s.1)
done-seats a q (frame.Request f ∷ gs) s = (request-on f gs a s.0, s.1)
done-seats a q (frame.Free f ∷ gs) s = (tt, s.1)
done-seats a q (frame.Turn f ∷ gs) s = (tt, s.1)
done-seats a q (frame.Outside f ∷ gs) s = (tt, s.1)

module _ (fs : List Frame) (p : Pool) (s : Seats fs) where
  -- ---- frees and turns

  run-seat : (f : FreeFrame) → Seat (run_for f) (frame.Free f ∷ fs)
  run-seat (Hooked x h) = λ e. cc
  run-seat (Preparing x) = tt
  run-seat (Draining x) = tt
  run-seat _ = tt

  free-seats : (ring : List Watch) (m : FreeMove) → LeadsSeats (lifted ring m) fs
  free-seats ring (Do.Done a q) = done-seats _ q fs s
  free-seats ring (Do.Go f q) = (tt, s)
  free-seats ring (Do.Emit e f q) = told (event_of ring e)
    where
      told : (o : Option Event) → LeadsSeats (announced o f q) fs
      told None = (tt, s)
      told (Some e) = (tt, s)
  free-seats ring (Do.Wait e f q) = (run-seat f, (tt, s))
  free-seats ring (Do.Call g f q) = (tt, (tt, s))

  errand-seat : (errand : Errand) (x : Obj) (gs : List Frame) → Seat (work_of errand x) gs
  errand-seat (Finish n) x gs = tt
  errand-seat Notify x gs = tt
  errand-seat Receive x gs = tt
  errand-seat Cancel x gs = tt

  passes-seats : (m : Step) → Passes p m → LeadsSeats m fs
  passes-seats _ (Pass t r rows next notes queues turning times plain) = (tt, s)
  passes-seats _ (Trigger x r rows next notes queues turning times queue) = (tt, (tt, s))
  passes-seats _ (Serve errand x r rows next notes queues turning times served noted) = (errand-seat errand x _, (tt, s))

  turn-seats : (f : TurnFrame) → LeadsSeats (turn_step f p) fs
  turn-seats Taking = passes-seats (turn_step Taking p) (look-passes Taking p tt)
  turn-seats (Timing again) = λ i g h. let t = taken-plain (Timing again) p i g h in subst (λ (z : Frame). Seats (z ∷ fs)) (sym t.1) (tt, s)
  turn-seats (Timed again now) = passes-seats (turn_step (Timed again now) p) (look-passes (Timed again now) p tt)
  turn-seats (Polling limit) = λ i g h. let t = taken-plain (Polling limit) p i g h in subst (λ (z : Frame). Seats (z ∷ fs)) (sym t.1) (tt, s)
  turn-seats (Starting w x occasion) = each (handler_for p w x)
    where
      each : (o : Option Handler) → LeadsSeats (starting_step w x occasion o p) fs
      each None = (tt, s)
      each (Some h) = (tt, s)
  turn-seats (Firing w x handler occasion) = (tt, s)
  turn-seats (Handling w x handler occasion) = ((λ e. subst (λ (z : What). Handles (frame.Turn (Handling z x handler occasion) ∷ fs)) (sym e) tt), (tt, s))
  turn-seats (Handled w x) = each (goes_after p w x)
    where
      each : (b : Bool) → LeadsSeats (handled_step x b p) fs
      each true = (tt, (tt, s))
      each false = (tt, s)
  turn-seats (Clearing x) = done-seats _ p fs s
  turn-seats (Serving x) = done-seats _ p fs s
  turn-seats (Parting c v) = done-seats _ p fs s
  turn-seats (Closing v) = each p.turning
    where
      parts : (c : Obj) (b : Bool) → LeadsSeats (parting_step c v b p) fs
      parts c true = (tt, (tt, s))
      parts c false = done-seats _ (exit p c) fs s

      each : (o : Option Obj) → LeadsSeats (closing_step v o p) fs
      each None = done-seats _ p fs s
      each (Some c) = parts c (is_doomed p c)

  -- ---- requests

  request-seats : (f : RequestFrame) → SeatRequest f → LeadsSeats (request_step f p) fs
  request-seats (request.Finishing x state) w = (tt, s)
  request-seats (request.Receiving x) w = each (is_unreceived (note_of p.requests x))
    where
      each : (b : Bool) → LeadsSeats (receiving_step x b p) fs
      each true = (tt, s)
      each false = (tt, s)
  request-seats (request.Cancelling x) w = each (cancel_in (note_of p.requests x))
    where
      each : (o : Option Handler) → LeadsSeats (cancelling_step x o p) fs
      each None = (tt, s)
      each (Some handler) = ((λ e. cc), s)
  request-seats (request.Cleaning x errand) w = each (cleanup_in (note_of p.requests x))
    where
      each : (o : Option Handler) → LeadsSeats (cleaning_step x errand o p) fs
      each None = (tt, s)
      each (Some handler) = ((λ e. cc), s)
  request-seats (request.Cleaned x errand) w = each errand (note_of p.requests x)
    where
      releases : (plan : Plan) → LeadsSeats (release_object plan Receive p) fs
      releases (Frees c) = (tt, (tt, s))
      releases (Unlinks o c) = (tt, (tt, s))
      releases _ = (tt, s)

      each : (errand : Errand) (o : Option Note) → LeadsSeats (cleaned_step x errand o p) fs
      each errand None = (tt, s)
      each Receive (Some n) = releases (planned p (call.Free n.child))
      each _ (Some n) = (tt, s)
  request-seats (request.Notifying x errand) w = each (note_of p.requests x)
    where
      back : (o : Option Handler) → LeadsSeats (callback_step x errand o p) fs
      back None = (tt, s)
      back (Some handler) = ((λ e. cc), s)

      each : (o : Option Note) → LeadsSeats (notifying_step x errand o p) fs
      each None = (tt, s)
      each (Some n) = deferred n.deferred
        where
          deferred : (o : Option Obj) → LeadsSeats (deferred_step x errand o n.callback p) fs
          deferred (Some c) = (tt, s)
          deferred None = back n.callback
  request-seats (request.Calling v x handler errand) w = (w, s)
  request-seats (request.Called v x handler errand) w = ((λ e. absurd (w e)), (w, s))
  request-seats (request.Releasing c) w = done-seats _ p fs s
  request-seats (request.Vacating x) w = each (head_of p.queues x)
    where
      each : (o : Option Head) → LeadsSeats (vacating_step x o (run_queue p x false)) fs
      each None = (tt, s)
      each (Some h) = (tt, (tt, s))
  request-seats (request.Dropping q x) w = done-seats _ p fs s
  request-seats (request.Triggering x) w = each (next_of p.queues x)
    where
      each : (o : Option Head) → LeadsSeats (triggering_step o p) fs
      each None = (tt, s)
      each (Some h) = ((λ e. cc), s)
  request-seats (request.Over r) w = done-seats _ p fs s

  -- ---- callers, and the outside

  plan-seats : (q : Ask) (plan : Plan) → SeatBy (Some q) fs → LeadsSeats (plan_step q plan p) fs
  plan-seats q (Does c None r) w = (later-seat q r fs w, s)
  plan-seats q (Does c (Some notice) r) w = (later-seat q r fs w, s)
  plan-seats q (Frees x) w = (tt, (w, s))
  plan-seats q (Unlinks o x) w = (tt, (w, s))
  plan-seats q (Empties x) w = (tt, (w, s))
  plan-seats q (Asks o) w = (tt, (w, s))
  plan-seats ask.Quiet (Turns c) w = (tt, (tt, s))
  plan-seats (ask.Routine m) (Turns c) w = (w, s)
  plan-seats _ (Turns c) w = (tt, s)
  plan-seats q (Works c errand x) w = (errand-seat errand x _, (w, s))

  asked-seats : (q : Ask) (g : Frame) → Heard q g → SeatBy (Some q) fs → Seats (g ∷ fs)
  asked-seats q _ (HeardCall c) w = (w, s)
  asked-seats q _ (HeardReturn v o) w = (tt, s)

  reached-seats : (g : Frame) → Reached p g → Seats (g ∷ fs)
  reached-seats _ (ReachedOpening n number closed) = (tt, s)
  reached-seats _ (ReachedHearing r) = (tt, s)

  pub step-seats : (f : Frame) → Seat f fs → LeadsSeats (step f p) fs
  step-seats (frame.Free f) w = free-seats p.ring (free_step f p)
  step-seats (frame.Turn f) w = turn-seats f
  step-seats (frame.Request f) w = request-seats f w
  step-seats (frame.Outside (Reaching q)) w = λ i g h. reached-seats g (reached-leads p q i g h)
  step-seats (frame.Outside (Opening n)) w = done-seats _ (open_descriptor p n) fs s
  step-seats (frame.Outside (Hearing r)) w = done-seats _ p fs s
  step-seats (frame.Call (Asking q)) w = λ i g h. asked-seats q g (heard-leads q i g h) w
  step-seats (frame.Call (Doing q c)) w = plan-seats q (planned_at q p c) w
  step-seats (frame.Call (Announcing q notice r)) w = (w, s)
  step-seats (frame.Call (Telling q r)) w = (w, s)
  step-seats (frame.Call (Awaiting q x)) w = done-seats _ p fs s
  step-seats (frame.Call (Turning q)) w = done-seats _ p fs s
  step-seats (frame.Call (Requesting q)) w = done-seats _ p fs s
  step-seats (frame.Call (Returning v)) w = done-seats _ p fs s
