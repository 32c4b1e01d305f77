-- What each step keeps of what is so of the works below one: the host's own caller stands on nothing, and nothing goes on with
-- a request that is to be notified.
use Rattle.std.proofs.Common.{◌≡◌, ℕ, suc, zero, List, [], ◌∷◌, Option, Some, None, Bool, true, false, refl, sym, ◌∙◌, subst}
use Rattle.step_machine.specs.Machine.{Move, Move as Do}
use Rattle.step_machine.proofs.Ends.{Leads}
use Rattle.tree_specs.specs.declared.object.Obj.{Obj}
use Rattle.tree_specs.specs.declared.call.Call.{Call}
use Rattle.tree_specs.specs.declared.call.Call.TheVariants as call
use Rattle.tree_specs.specs.declared.event.Event.{Event}
use Rattle.tree_specs.specs.declared.handler.Handler.{Handler}
use Rattle.tree_specs.specs.declared.moment.What.{What}
use Rattle.tree_specs.specs.declared.moment.What.TheVariants as whats
use Rattle.tree_specs.specs.declared.question.Ask.{Ask}
use Rattle.tree_specs.specs.declared.question.Ask.TheVariants as ask
use Rattle.tree_specs.specs.declared.reply.Reply.{Reply}
use Rattle.tree_specs.specs.declared.reply.Reply.TheVariants as reply
use Rattle.tree_specs.specs.declared.reply.Refusal.TheVariants as refusal
use Rattle.tree_specs.specs.declared.request.Note.{Note}
use Rattle.tree_specs.specs.declared.request.State.{State}
use Rattle.tree_specs.specs.declared.request.State.TheVariants as state
use Rattle.tree_specs.specs.declared.watch.Watch.{Watch}
use Rattle.tree_specs.specs.declared.frame.Errand.{Errand}
use Rattle.tree_specs.specs.declared.frame.Errand.TheVariants.{Finish, Notify, Receive, Cancel}
use Rattle.tree_specs.specs.declared.frame.Frame.{Frame}
use Rattle.tree_specs.specs.declared.frame.Frame.TheVariants as frame
use Rattle.tree_specs.specs.declared.frame.CallFrame.TheVariants.{Asking, Doing, Announcing, Telling, Returning}
use Rattle.tree_specs.specs.declared.frame.FreeFrame.{FreeFrame}
use Rattle.tree_specs.specs.declared.frame.FreeFrame.TheVariants.{Hooked, Preparing}
use Rattle.tree_specs.specs.declared.frame.TurnFrame.{TurnFrame}
use Rattle.tree_specs.specs.declared.frame.TurnFrame.TheVariants.{Taking, Timing, Timed, Polling, Starting, Firing, Handling, Handled, Closing}
use Rattle.tree_specs.specs.declared.frame.OutsideFrame.{OutsideFrame}
use Rattle.tree_specs.specs.declared.frame.OutsideFrame.TheVariants.{Reaching, Opening, Hearing}
use Rattle.tree_specs.specs.declared.frame.RequestFrame.{RequestFrame}
use Rattle.tree_specs.specs.declared.frame.RequestFrame.TheVariants as request
use Rattle.tree_specs.specs.declared.frame.Answer.{Answer}
use Rattle.tree_specs.specs.declared.frame.Answer.TheVariants.{Freed, Returned, Turned, Heard}
use Rattle.tree_specs.specs.Rules.Items.{Item}
use Rattle.tree_specs.specs.Rules.Answers.{later}
use Rattle.tree_specs.specs.Tree.Pool.{exit, Pool, row_of, open_descriptor, run_queue}
use Rattle.tree_specs.specs.Events.Coming.{handler_for, goes_after}
use Rattle.tree_specs.specs.Events.Requests.{note_of, is_noted, is_received, is_unreceived, cleanup_in, cancel_in, routine_of}
use Rattle.tree_specs.specs.Calls.Plans.{Plan, planned, planned_at}
use Rattle.tree_specs.specs.Calls.Plans.Plan.{Does, Frees, Unlinks, Empties, Asks, Turns, Works}
use Rattle.tree_specs.specs.Calls.Refusals.{is_doomed}
use Rattle.tree_specs.specs.Machine.FreeTable.{FreeMove, free_step}
use Rattle.tree_specs.specs.Machine.Table.{closing_step, deferred_step, Step, table, event_of, announced, lifted, run_for, plan_step, turning_step, starting_step, handled_step, turn_step, outside_step, cancelling_step, cleaning_step, release_object, cleaned_step, callback_step, notifying_step, request_step, resume, step, vacating_step, triggering_step}
use Rattle.tree_specs.specs.Invariants.Sound.{phases, claims, AllWait, Sound}
use Rattle.tree_specs.specs.Invariants.Noted.{NotesHold, Noted, ClaimNothing, CalmAsk, CalmErrand, IsCalm, AllCalm}
use Rattle.tree_specs.proofs.Tree.Numbered.{by_test}
use Rattle.tree_specs.proofs.Calls.Checks.{Heard as HeardBy, HeardCall, HeardReturn, heard-leads, Reached, ReachedOpening, ReachedHearing, reached-leads}
use Rattle.tree_specs.proofs.Calls.Plans.{May, may-planned-at}
use Rattle.tree_specs.proofs.Invariants.Turning.{Passes, Pass, Serve, look-passes, taken-plain, Trigger}
use Rattle.tree_specs.proofs.Invariants.Waiters.{ForParting, Waiter, ForFree, ForTurn, ForRequest, ForRoutine, ForHandler, ForClear, ForServed, waiter}
use Rattle.tree_specs.proofs.Invariants.Notes.{settled}
use Rattle.tree_specs.proofs.Invariants.KeptFrees.{KeptBy}
use Rattle.tree_specs.proofs.Invariants.Keeps.{sound-kept}
use Rattle.tree_specs.proofs.Invariants.KeptNotes.{noted-kept, going-unreceived}
use Rattle.tree_specs.proofs.Invariants.FreeNotes.{NotedBy}
use Rattle.tree_specs.specs.Events.Queues.{Head, head_of, next_of}
use Rattle.tree_specs.specs.Invariants.Queued.{AreQueued}

-- what a step leads to
abbrev pub CalmBy : Move Frame Answer Pool Item → List Frame → ℕ → Type 0
CalmBy m fs k = Leads table (λ g gs q j. AllCalm (g ∷ gs)) m fs k

ask-later : (q : Ask) (r : Reply) (fs : List Frame) → CalmAsk (Some q) fs → CalmAsk (Some (later q r)) fs
ask-later ask.Quiet r fs h = h
ask-later _ r fs h = tt

-- a work that ends
ended : (a : Answer) (fs : List Frame) (p : Pool) (k : ℕ) → AllWait fs → AllCalm fs → CalmBy (Do.Done a p) fs k
ended a [] p k w h = tt
ended a (g ∷ gs) p k w h = (below g (waiter g gs w.0) h.0, h.1)
  where
    after : (w : What) (x : Obj) (handler : Handler) (errand : Errand) → IsCalm (frame.Request (request.Called w x handler errand)) gs → IsCalm (resume (frame.Request (request.Called w x handler errand)) a) gs
    after whats.Cleanup x handler errand h = h
    after whats.Cancel x handler errand h = tt
    after _ x handler errand h = tt

    below : (g : Frame) → Waiter g → IsCalm g gs → IsCalm (resume g a) gs
    below _ (ForFree q x) h = ask-later q _ gs h
    below _ (ForTurn q) h = ask-later q _ gs h
    below _ (ForRequest q) h = ask-later q _ gs h
    below _ (ForRoutine w x handler errand) h = after w x handler errand h
    below _ (ForHandler w x handler occasion) h = h
    below _ (ForClear x) h = h
    below _ (ForServed x) h = h
    below _ (ForParting x v) h = h
    below _ _ h = tt

-- nothing goes on with a request that is still to be received, so no work below frees it
unlooped : (x : Obj) (fs : List Frame) (p : Pool) → claims x fs ≡ phases (row_of p.rows x) → NotesHold None p → is_unreceived (note_of p.requests x) ≡ true → claims x fs ≡ []
unlooped x fs p claimed h u = claimed ∙ settled p x h u

-- a request that is to finish
finishing-calm : (x : Obj) (s : State) (fs : List Frame) (p : Pool) → Sound (frame.Request (request.Finishing x s)) fs p → Noted (frame.Request (request.Finishing x s)) p → claims x fs ≡ []
finishing-calm x s fs p sound n = unlooped x fs p (sound.open_frees x) n.pool (each (note_of p.requests x) refl)
  where
    each : (o : Option Note) → note_of p.requests x ≡ o → is_unreceived (note_of p.requests x) ≡ true
    each None e = let noted : is_noted p.requests x ≡ true = n.pool.notes x ∙ n.works.0 in let bad : false ≡ true = rw e at noted in cc
    each (Some m) e = rw e (going-unreceived p x m n.works.1 e)

-- ---- frees

lifted-calm : (ring : List Watch) (m : FreeMove) (fs : List Frame) (k : ℕ) → AllWait fs → AllCalm fs → CalmBy (lifted ring m) fs k
lifted-calm ring (Do.Done a p) fs k w h = ended (Freed a) fs p k w h
lifted-calm ring (Do.Go f p) fs k w h = (tt, h)
lifted-calm ring (Do.Emit e f p) fs k w h = each (event_of ring e)
  where
    each : (o : Option Event) → CalmBy (announced o f p) fs k
    each None = (tt, h)
    each (Some e) = (tt, h)
lifted-calm ring (Do.Wait q f p) fs k w h = (runs f, (tt, h))
  where
    runs : (f : FreeFrame) → IsCalm (run_for f) (frame.Free f ∷ fs)
    runs (Hooked x hook) = tt
    runs (Preparing x) = tt
    runs _ = tt
lifted-calm ring (Do.Call g f p) fs k w h = (tt, (tt, h))

-- ---- calls

planned-calm : (q : Ask) (c : Call) (fs : List Frame) (p : Pool) (k : ℕ) → AllCalm (frame.Call (Doing q c) ∷ fs) → (plan : Plan) → May p plan → KeptBy (plan_step q plan p) fs k → NotedBy (plan_step q plan p) fs k
    → CalmBy (plan_step q plan p) fs k
planned-calm q c fs p k h (Does change None r) may s n = (ask-later q r fs h.0, h.1)
planned-calm q c fs p k h (Does change (Some notice) r) may s n = (ask-later q r fs h.0, h.1)
planned-calm q c fs p k h (Frees x) may s n = (tt, h)
planned-calm q c fs p k h (Unlinks o x) may s n = (tt, h)
planned-calm q c fs p k h (Empties x) may s n = (tt, h)
planned-calm q c fs p k h (Asks outside) may s n = (tt, h)
planned-calm q c fs p k h (Turns x) may s n = turns q h
  where
    turns : (q : Ask) → AllCalm (frame.Call (Doing q c) ∷ fs) → CalmBy (turning_step q x p) fs k
    turns ask.Quiet h = (h.0, h)
    turns q h = (ask-later q (reply.No refusal.Nested) fs h.0, h.1)
planned-calm q c fs p k h (Works change (Finish state) x) may s n = (finishing-calm x state _ _ s n, h)
planned-calm q c fs p k h (Works change Receive x) may s n = (tt, h)
planned-calm q c fs p k h (Works change Cancel x) may s n = (tt, h)
planned-calm q c fs p k h (Works change Notify x) may s n = absurd may.3

-- ---- turns

passes-calm : (p : Pool) (fs : List Frame) (k : ℕ) (m : Step) → ClaimNothing fs → AllCalm fs → Passes p m → CalmBy m fs k
passes-calm p fs k _ c h (Pass g q rows next notes queues turning times plain) = (c, h)
passes-calm p fs k _ c h (Trigger x q rows next notes queues turning times queue) = (c, (c, h))
passes-calm p fs k _ c h (Serve Notify x q rows next notes queues turning times served noted) = (c x, (c, h))
passes-calm p fs k _ c h (Serve (Finish state.TimedOut) x q rows next notes queues turning times served noted) = (c x, (c, h))
passes-calm p fs k _ c h (Serve _ x q rows next notes queues turning times served noted) = absurd served

turn-calm : (f : TurnFrame) (fs : List Frame) (p : Pool) (k : ℕ) → Sound (frame.Turn f) fs p → ClaimNothing fs → AllCalm fs → CalmBy (turn_step f p) fs k
turn-calm Taking fs p k s c h = passes-calm p fs k _ c h (look-passes Taking p tt)
turn-calm (Timed again now) fs p k s c h = passes-calm p fs k _ c h (look-passes (Timed again now) p tt)
turn-calm (Timing again) fs p zero s c h = tt
turn-calm (Timing again) fs p (suc k) s c h = λ i g e. (let t = taken-plain (Timing again) p i g e in subst (λ (z : Frame). AllCalm (z ∷ fs)) (sym t.1) (c, h))
turn-calm (Polling limit) fs p zero s c h = tt
turn-calm (Polling limit) fs p (suc k) s c h = λ i g e. (let t = taken-plain (Polling limit) p i g e in subst (λ (z : Frame). AllCalm (z ∷ fs)) (sym t.1) (c, h))
turn-calm (Starting w x occasion) fs p k s c h = each (handler_for p w x)
  where
    each : (o : Option Handler) → CalmBy (starting_step w x occasion o p) fs k
    each None = (c, h)
    each (Some handler) = (c, h)
turn-calm (Firing w x handler occasion) fs p k s c h = (c, h)
turn-calm (Handling w x handler occasion) fs p k s c h = (tt, (c, h))
turn-calm (Handled w x) fs p k s c h = each (goes_after p w x)
  where
    each : (b : Bool) → CalmBy (handled_step x b p) fs k
    each true = (tt, (c, h))
    each false = (c, h)
turn-calm (Closing v) fs p k s c h = each p.turning
  where
    each : (o : Option Obj) → CalmBy (closing_step v o p) fs k
    each None = ended (Turned v) fs p k s.waiting h
    each (Some x) = by_test (is_doomed p x) (λ d. rw d (tt, (c, h))) (λ d. rw d (ended (Turned v) fs (exit p x) k s.waiting h))
turn-calm _ fs p k s c h = absurd s.rests

outside-calm : (f : OutsideFrame) (fs : List Frame) (p : Pool) (k : ℕ) → Sound (frame.Outside f) fs p → AllCalm fs → CalmBy (outside_step f p) fs k
outside-calm (Reaching q) fs p zero s h = tt
outside-calm (Reaching q) fs p (suc k) s h = λ i g e. leads g (reached-leads p q i g e)
  where
    leads : (g : Frame) → Reached p g → AllCalm (g ∷ fs)
    leads _ (ReachedOpening fd number closed) = (tt, h)
    leads _ (ReachedHearing r) = (tt, h)
outside-calm (Opening fd) fs p k s h = ended (Heard (reply.Number fd)) fs (open_descriptor p fd) k s.waiting h
outside-calm (Hearing r) fs p k s h = ended (Heard r) fs p k s.waiting h

-- ---- requests

from-none : (errand : Errand) (x : Obj) (fs : List Frame) → claims x fs ≡ [] → CalmErrand errand x fs
from-none Receive x fs h = tt
from-none _ x fs h = h

module _ (fs : List Frame) (p : Pool) (k : ℕ) (h : AllCalm fs) where
  cleaned-calm : (x : Obj) (errand : Errand) → CalmErrand errand x fs → (o : Option Note) → CalmBy (cleaned_step x errand o p) fs k
  cleaned-calm x errand c None = (tt, h)
  cleaned-calm x Receive c (Some n) = releases (planned p (call.Free n.child))
    where
      releases : (plan : Plan) → CalmBy (release_object plan Receive p) fs k
      releases (Frees d) = (tt, (tt, h))
      releases (Unlinks o d) = (tt, (tt, h))
      releases _ = (tt, h)
  cleaned-calm x (Finish s) c (Some n) = (c, h)
  cleaned-calm x Notify c (Some n) = (c, h)
  cleaned-calm x Cancel c (Some n) = (c, h)

  notifying-calm : (x : Obj) (errand : Errand) → claims x fs ≡ [] → (o : Option Note) → CalmBy (notifying_step x errand o p) fs k
  notifying-calm x errand c None = (tt, h)
  notifying-calm x errand c (Some n) = deferred n.deferred
    where
      back : (o : Option Handler) → CalmBy (callback_step x errand o p) fs k
      back None = (tt, h)
      back (Some handler) = (from-none errand x fs c, h)

      deferred : (o : Option Obj) → CalmBy (deferred_step x errand o n.callback p) fs k
      deferred None = back n.callback
      deferred (Some d) = (tt, h)

  -- only what wasn't received is cancelled
  cancelling-calm : (x : Obj) → claims x fs ≡ phases (row_of p.rows x) → NotesHold None p → (o : Option Note) → note_of p.requests x ≡ o → CalmBy (cancelling_step x (cancel_in o) p) fs k
  cancelling-calm x claimed holds None e = (tt, h)
  cancelling-calm x claimed holds (Some n) e = by_test (is_received n.state)
      (λ t. rw t (tt, h))
      (λ t. let u : is_unreceived (note_of p.requests x) ≡ true = rw (e, t) refl in rw t (each u (routine_of n.cancel 0)))
    where
      each : is_unreceived (note_of p.requests x) ≡ true → (o : Option Handler) → CalmBy (cancelling_step x o p) fs k
      each u None = (tt, h)
      each u (Some handler) = (unlooped x fs p claimed holds u, h)

  cleaning-calm : (x : Obj) (errand : Errand) → CalmErrand errand x fs → (o : Option Handler) → CalmBy (cleaning_step x errand o p) fs k
  cleaning-calm x errand c None = (c, h)
  cleaning-calm x errand c (Some handler) = (c, h)

request-calm : (f : RequestFrame) (fs : List Frame) (p : Pool) (k : ℕ) → Sound (frame.Request f) fs p → Noted (frame.Request f) p → AllCalm (frame.Request f ∷ fs) → CalmBy (request_step f p) fs k
request-calm (request.Finishing x s) fs p k sound n h = h
request-calm (request.Receiving x) fs p k sound n h = by_test (is_unreceived (note_of p.requests x)) (λ t. rw t (tt, h.1)) (λ t. rw t (tt, h.1))
request-calm (request.Cancelling x) fs p k sound n h = cancelling-calm fs p k h.1 x (sound.open_frees x) n.pool (note_of p.requests x) refl
request-calm (request.Cleaning x errand) fs p k sound n h = cleaning-calm fs p k h.1 x errand h.0 (cleanup_in (note_of p.requests x))
request-calm (request.Cleaned x errand) fs p k sound n h = cleaned-calm fs p k h.1 x errand h.0 (note_of p.requests x)
request-calm (request.Notifying x errand) fs p k sound n h = notifying-calm fs p k h.1 x errand h.0 (note_of p.requests x)
request-calm (request.Calling w x handler errand) fs p k sound n h = h
request-calm (request.Called w x handler errand) fs p k sound n h = (tt, h)
request-calm (request.Releasing c) fs p k sound n h = absurd sound.rests
request-calm (request.Vacating q) fs p k sound n h = each (head_of p.queues q)
  where
    each : (o : Option Head) → CalmBy (vacating_step q o (run_queue p q false)) fs k
    each None = (tt, h.1)
    each (Some u) = (tt, (tt, h.1))
request-calm (request.Dropping q e) fs p k sound n h = absurd sound.rests
request-calm (request.Triggering q) fs p k sound n h = each (next_of p.queues q)
  where
    each : (o : Option Head) → CalmBy (triggering_step o p) fs k
    each None = (tt, h.1)
    each (Some u) = (h.0 u.entry.request, h.1)
request-calm (request.Over r) fs p k sound n h = ended (Heard r) fs p k sound.waiting h.1

-- ---- all

pub calm-kept : (f : Frame) (fs : List Frame) (p : Pool) (k : ℕ) → Sound f fs p → Noted f p → AreQueued p → AllCalm (f ∷ fs) → CalmBy (step f p) fs k
calm-kept (frame.Call (Asking q)) fs p zero s n w h = tt
calm-kept (frame.Call (Asking q)) fs p (suc k) s n w h = λ i g e. leads g (heard-leads q i g e)
  where
    leads : (g : Frame) → HeardBy q g → AllCalm (g ∷ fs)
    leads _ (HeardCall c) = h
    leads _ (HeardReturn v of) = (tt, h.1)
calm-kept (frame.Call (Doing q c)) fs p k s n w h =
    planned-calm q c fs p k h (planned_at q p c) (may-planned-at (frame.Call (Doing q c)) fs p s q c) (sound-kept (frame.Call (Doing q c)) fs p k s w) (noted-kept (frame.Call (Doing q c)) fs p k s n)
calm-kept (frame.Call (Announcing q notice r)) fs p k s n w h = h
calm-kept (frame.Call (Telling q r)) fs p k s n w h = h
calm-kept (frame.Call (Returning v)) fs p k s n w h = ended (Returned v) fs p k s.waiting h.1
calm-kept (frame.Free f) fs p k s n w h = lifted-calm p.ring (free_step f p) fs k s.waiting h.1
calm-kept (frame.Turn f) fs p k s n w h = turn-calm f fs p k s h.0 h.1
calm-kept (frame.Outside f) fs p k s n w h = outside-calm f fs p k s h.1
calm-kept (frame.Request f) fs p k s n w h = request-calm f fs p k s n h
calm-kept _ fs p k s n w h = absurd s.rests
