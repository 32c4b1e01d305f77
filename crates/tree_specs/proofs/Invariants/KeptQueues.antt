-- What each step keeps of what holds of queues.
use Rattle.std.proofs.Common.{◌≡◌, ℕ, suc, zero, List, [], ◌∷◌, Option, Some, None, true, false, Bool, refl, sym, ap, subst, ◌∙◌, inl}
use Rattle.std.specs.Prelude.{is_some}
use Rattle.tree_specs.specs.declared.object.Obj.{Obj}
use Rattle.tree_specs.specs.declared.kind.Kind.{Kind}
use Rattle.tree_specs.specs.declared.kind.Kind.TheVariants as kind
use Rattle.tree_specs.specs.declared.row.Row.{Row}
use Rattle.tree_specs.specs.declared.row.Mark.{Mark}
use Rattle.tree_specs.specs.declared.row.Mark.TheVariants.{Quiet, Busy, Doomed, Dying}
use Rattle.tree_specs.specs.declared.call.Call.TheVariants as call
use Rattle.tree_specs.specs.declared.handler.Handler.{Handler}
use Rattle.tree_specs.specs.declared.moment.What.{What}
use Rattle.tree_specs.specs.declared.moment.What.TheVariants as whats
use Rattle.tree_specs.specs.declared.question.Ask.TheVariants as ask
use Rattle.tree_specs.specs.declared.request.Note.{Note}
use Rattle.tree_specs.specs.declared.request.State.TheVariants.{TimedOut}
use Rattle.tree_specs.specs.declared.frame.Errand.{Errand}
use Rattle.tree_specs.specs.declared.frame.Errand.TheVariants.{Finish, Notify, Receive}
use Rattle.tree_specs.specs.declared.frame.Frame.{Frame}
use Rattle.tree_specs.specs.declared.frame.Frame.TheVariants as frame
use Rattle.tree_specs.specs.declared.frame.CallFrame.TheVariants.{Asking, Doing, Announcing, Telling, Returning}
use Rattle.tree_specs.specs.declared.frame.FreeFrame.TheVariants.{Draining, Beginning, Unlinking}
use Rattle.tree_specs.specs.declared.frame.TurnFrame.{TurnFrame}
use Rattle.tree_specs.specs.declared.frame.TurnFrame.TheVariants.{Taking, Timing, Timed, Polling, Starting, Firing, Handling, Handled, Closing}
use Rattle.tree_specs.specs.declared.frame.OutsideFrame.{OutsideFrame}
use Rattle.tree_specs.specs.declared.frame.OutsideFrame.TheVariants.{Reaching, Opening, Hearing}
use Rattle.tree_specs.specs.declared.frame.RequestFrame.{RequestFrame}
use Rattle.tree_specs.specs.declared.frame.RequestFrame.TheVariants as request
use Rattle.tree_specs.specs.declared.frame.Answer.TheVariants.{Returned, Turned, Heard}
use Rattle.tree_specs.specs.declared.free_step.FreeReply.TheVariants.{Ok as FreeOk}
use Rattle.tree_specs.specs.Tree.Targets.{is_context}
use Rattle.tree_specs.specs.Tree.Pool.{exit, set_mark, marked_row, is_usable, Pool, row_of, run_queue, open_descriptor, finish, receive, renote, schedule, is_dying_mark}
use Rattle.tree_specs.specs.Events.Queues.{Head, head_of, has_entries, next_of, has_queue, head_in}
use Rattle.tree_specs.specs.Events.Requests.{note_of, is_unreceived, cleanup_in, cancel_in, cleaned, not_deferring}
use Rattle.tree_specs.specs.Events.Coming.{comes_as, handler_for, goes_after, begun, handler_moment, plainly}
use Rattle.tree_specs.specs.Calls.Refusals.{is_doomed, is_queue, is_entry, is_queue_row}
use Rattle.tree_specs.specs.Calls.Plans.{Plan, planned, planned_at}
use Rattle.tree_specs.specs.Calls.Plans.Plan.{Frees, Unlinks}
use Rattle.tree_specs.specs.Machine.Table.{closing_step, deferred_step, over_step, Step, step, starting_step, handled_step, turn_step, outside_step, cancelling_step, cleaning_step, release_object, cleaned_step, callback_step, notifying_step, vacating_step, triggering_step, request_step}
use Rattle.tree_specs.specs.Invariants.Sound.{is_at_turn_mark, IsTurning, Footing, OnFree, footing, claims, IsRequested, Drains, Sound, IsLive}
use Rattle.tree_specs.specs.Invariants.Consistent.{IsStacked}
use Rattle.tree_specs.specs.Invariants.Queued.{drains, QueuesHold, OverFor, Queued, RestsQueued, IsOfChild}
use Rattle.tree_specs.proofs.Tree.Numbered.{by_test}
use Rattle.tree_specs.proofs.Invariants.Changes.{turning-row, handling-row, claim-here}
use Rattle.tree_specs.proofs.Invariants.Turning.{Passes, Pass, Trigger, Serve, handler-ready, look-passes, taken-plain}
use Rattle.tree_specs.proofs.Invariants.Queues.{no-entries, same-queues, changed-queues, ran-queues, triggered-queues, next-head}
use Rattle.tree_specs.proofs.Invariants.FreeQueues.{QueuedBy, requested-over, no-work-over, no-free-ends, ended, lifted-queued, free-queued}
use Rattle.tree_specs.proofs.Calls.Checks.{heard-leads, Heard as HeardBy, HeardCall, HeardReturn, reached-leads, Reached, ReachedOpening, ReachedHearing, planned-at-by}
use Rattle.tree_specs.proofs.Calls.Plans.{may-planned-at}
use Rattle.tree_specs.specs.Machine.Profiles.{InHandler}
use Rattle.tree_specs.specs.declared.occasion.Occasion.{Occasion}
use Rattle.tree_specs.specs.Machine.FreeTable.{free_step}
use Rattle.step_machine.specs.Machine.{Move as Do}
use Rattle.tree_specs.proofs.Invariants.KeptQueueCalls.{goes, PlanKeeps, plan-keeps, planned-queued}

-- ---- turns

passes-queued : (f : TurnFrame) (fs : List Frame) (p : Pool) (k : ℕ) (m : Step) → Queued (frame.Turn f) fs p → Passes p m → QueuedBy m fs k
passes-queued f fs p k _ u (Pass g q rows next notes queues turning times plain) = record { pool = goes (frame.Turn f) (frame.Turn g) fs p q rows queues (λ y d. d) u.pool; works = tt; frees = (tt, u.frees.1) }
passes-queued f fs p k _ u (Trigger x q rows next notes queues turning times queue) = record { pool = same-queues (frame.Turn f ∷ fs) _ p q u.pool rows queues (λ y t d. d); works = tt; frees = (tt, (tt, u.frees.1)) }
passes-queued f fs p k _ u (Serve Notify x q rows next notes queues turning times served noted) = record { pool = same-queues (frame.Turn f ∷ fs) _ p q u.pool rows queues (λ y t d. d); works = tt; frees = (tt, (tt, u.frees.1)) }
passes-queued f fs p k _ u (Serve (Finish TimedOut) x q rows next notes queues turning times served noted) = record { pool = same-queues (frame.Turn f ∷ fs) _ p q u.pool rows queues (λ y t d. d); works = tt; frees = (tt, (tt, u.frees.1)) }
passes-queued f fs p k _ u (Serve _ x q rows next notes queues turning times served noted) = absurd served

-- an event is no entry, and no queue
event-is : (w : What) (k : Kind) → comes_as w k ≡ true → (is_entry k ≡ false) × (is_queue k ≡ false)
event-is whats.Immediate kind.Immediate e = (refl, refl)
event-is whats.Timer kind.Timer e = (refl, refl)
event-is whats.Descriptor kind.Descriptor e = (refl, refl)
event-is _ _ e = cc

begun-queued : (w : What) (x : Obj) (occasion : Occasion) (h : Handler) (fs : List Frame) (p : Pool) → handler_for p w x ≡ Some h → Queued (frame.Turn (Starting w x occasion)) fs p → Queued (frame.Turn (Firing w x h occasion)) fs (begun w x p)
begun-queued w x occasion h fs p e u =
    let ready = handler-ready p w x h e in
    let is = event-is w ready.row.kind ready.comes in
    let busy : QueuesHold (frame.Turn (Firing w x h occasion) ∷ fs) (set_mark p x Busy) = changed-queues (marked_row Busy) (frame.Turn (Starting w x occasion) ∷ fs) (frame.Turn (Firing w x h occasion) ∷ fs) p x ready.row u.pool ready.is (λ r. refl) (λ r. refl)
    (rw ready.quiet refl) (λ t o i. let bad : true ≡ false = sym i.0 ∙ is.0 in cc) (λ y ne t d. d)
    (λ t i. let bad : true ≡ false = sym t ∙ no-entries p p.queues.entries x u.pool.waiting (ap is_queue_row ready.is ∙ is.1) in cc) in
    record { pool = rotated w busy; works = tt; frees = (tt, u.frees.1) }
  where
    rotated : (w : What) → QueuesHold (frame.Turn (Firing w x h occasion) ∷ fs) (set_mark p x Busy) → QueuesHold (frame.Turn (Firing w x h occasion) ∷ fs) (begun w x p)
    rotated whats.Descriptor b = same-queues _ _ (set_mark p x Busy) (begun whats.Descriptor x p) b refl refl (λ y t d. d)
    rotated _ b = b

handled-queued : (w : What) (x : Obj) (fs : List Frame) (p : Pool) (k : ℕ) → Sound (frame.Turn (Handled w x)) fs p → Queued (frame.Turn (Handled w x)) fs p → QueuedBy (turn_step (Handled w x) p) fs k
handled-queued w x fs p k s u = each (goes_after p w x)
  where
    row : (r : Row) × (row_of p.rows x ≡ Some r) × IsLive r.mark × (is_context r.kind ≡ false) × (claims x fs ≡ [])
    row = handling-row (row_of p.rows x) (claims x fs) (claim-here x InHandler (claims x fs) (row_of p.rows x) (s.open_frees x))

    live : (m : Mark) → IsLive m → is_dying_mark Quiet ≡ is_dying_mark m
    live (Dying former) l = absurd l
    live _ l = refl

    quiet : (gs : List Frame) → ((y : Obj) → drains y (frame.Turn (Handled w x) ∷ fs) ≡ true → drains y gs ≡ true) → QueuesHold gs (set_mark p x Quiet)
    quiet gs more = changed-queues (marked_row Quiet) (frame.Turn (Handled w x) ∷ fs) gs p x row.0 u.pool row.1 (λ r. refl) (λ r. refl) (live row.0.mark row.2) (λ t o i. (i.0, refl, i.2, i.3)) (λ y ne t d. more y d) (λ t i. inl refl)

    each : (b : Bool) → QueuedBy (handled_step x b p) fs k
    each true = record { pool = quiet _ (λ y d. d); works = tt; frees = (tt, (tt, u.frees.1)) }
    each false = record { pool = quiet _ (λ y d. d); works = tt; frees = (tt, u.frees.1) }

turn-queued : (f : TurnFrame) (fs : List Frame) (p : Pool) (k : ℕ) → Sound (frame.Turn f) fs p → IsStacked (frame.Turn f) fs → Queued (frame.Turn f) fs p → QueuedBy (turn_step f p) fs k
turn-queued Taking fs p k s b u = passes-queued Taking fs p k _ u (look-passes Taking p tt)
turn-queued (Timed again now) fs p k s b u = passes-queued (Timed again now) fs p k _ u (look-passes (Timed again now) p tt)
turn-queued (Timing again) fs p zero s b u = tt
turn-queued (Timing again) fs p (suc k) s b u = λ i g e. (let t = taken-plain (Timing again) p i g e in
    subst (λ (z : Frame). Queued z fs p) (sym t.1) (record { pool = goes (frame.Turn (Timing again)) (frame.Turn t.0) fs p p refl refl (λ y d. d) u.pool; works = tt; frees = (tt, u.frees.1) }))
turn-queued (Polling limit) fs p zero s b u = tt
turn-queued (Polling limit) fs p (suc k) s b u = λ i g e. (let t = taken-plain (Polling limit) p i g e in
    subst (λ (z : Frame). Queued z fs p) (sym t.1) (record { pool = goes (frame.Turn (Polling limit)) (frame.Turn t.0) fs p p refl refl (λ y d. d) u.pool; works = tt; frees = (tt, u.frees.1) }))
turn-queued (Starting w x occasion) fs p k s b u = each (handler_for p w x) refl
  where
    each : (o : Option Handler) → handler_for p w x ≡ o → QueuedBy (starting_step w x occasion o p) fs k
    each None e = record { pool = goes (frame.Turn (Starting w x occasion)) _ fs p p refl refl (λ y d. d) u.pool; works = tt; frees = (tt, u.frees.1) }
    each (Some h) e = begun-queued w x occasion h fs p e u
turn-queued (Firing w x h occasion) fs p k s b u = record { pool = goes (frame.Turn (Firing w x h occasion)) _ fs p p refl refl (λ y d. d) u.pool; works = tt; frees = (tt, u.frees.1) }
turn-queued (Handling w x h occasion) fs p k s b u = record { pool = same-queues (frame.Turn (Handling w x h occasion) ∷ fs) _ p p u.pool refl refl (λ y t d. d); works = tt; frees = (tt, u.frees) }
turn-queued (Handled w x) fs p k s b u = handled-queued w x fs p k s u
turn-queued (Closing v) fs p k s b u = each p.turning refl
  where
    over : (q : Pool) → QueuesHold fs q → QueuedBy (Do.Done (Turned v) q) fs k
    over q h = ended (Turned v) fs q k s.waiting h u.frees.1 (no-free-ends (frame.Turn (Closing v)) fs q FreeOk (λ z. z) s.waiting b) (no-work-over (frame.Turn (Closing v)) fs q (λ z. z) s.waiting b)

    live : (m : Mark) → is_at_turn_mark m ≡ true → is_dying_mark Quiet ≡ is_dying_mark m
    live Busy t = refl
    live Doomed t = refl
    live _ t = cc

    out : (gs : List Frame) (c : Obj) (o : Option Row) → row_of p.rows c ≡ o → IsTurning o → ((y : Obj) → drains y (frame.Turn (Closing v) ∷ fs) ≡ true → drains y gs ≡ true) → QueuesHold gs (exit p c)
    out gs c None e t more = absurd t
    out gs c (Some r) e t more =
        let q : Pool = record p { turning = None } in
        changed-queues (marked_row Quiet) (frame.Turn (Closing v) ∷ fs) gs q c r (same-queues (frame.Turn (Closing v) ∷ fs) (frame.Turn (Closing v) ∷ fs) p q u.pool refl refl (λ y z d. d)) e (λ z. refl) (λ z. refl) (live r.mark t.1)
        (λ z o i. (i.0, refl, i.2, i.3)) (λ y ne z d. more y d) (λ z i. inl refl)

    each : (o : Option Obj) → p.turning ≡ o → QueuedBy (closing_step v o p) fs k
    each None e = over p (same-queues (frame.Turn (Closing v) ∷ fs) fs p p u.pool refl refl (λ y t d. d))
    each (Some c) e =
        let t = turning-row p.turning p.rows c (row_of p.rows c) s.turned e refl in
        by_test (is_doomed p c)
        (λ d. rw d (record { pool = out _ c (row_of p.rows c) refl t (λ y z. z); works = tt; frees = (tt, (tt, u.frees.1)) }))
        (λ d. rw d (over (exit p c) (out fs c (row_of p.rows c) refl t (λ y z. z))))
turn-queued _ fs p k s b u = absurd s.rests

-- ---- a question to the outside

outside-queued : (f : OutsideFrame) (fs : List Frame) (p : Pool) (k : ℕ) → Sound (frame.Outside f) fs p → IsStacked (frame.Outside f) fs → Queued (frame.Outside f) fs p → QueuedBy (outside_step f p) fs k
outside-queued (Reaching q) fs p zero s b u = tt
outside-queued (Reaching q) fs p (suc k) s b u = λ i g e. leads g (reached-leads p q i g e)
  where
    leads : (g : Frame) → Reached p g → Queued g fs p
    leads _ (ReachedOpening fd number closed) = record { pool = goes (frame.Outside (Reaching q)) _ fs p p refl refl (λ y d. d) u.pool; works = tt; frees = (tt, u.frees.1) }
    leads _ (ReachedHearing r) = record { pool = goes (frame.Outside (Reaching q)) _ fs p p refl refl (λ y d. d) u.pool; works = tt; frees = (tt, u.frees.1) }
outside-queued (Opening fd) fs p k s b u = ended (Heard _) fs (open_descriptor p fd) k s.waiting (same-queues (frame.Outside (Opening fd) ∷ fs) fs p (open_descriptor p fd) u.pool refl refl (λ y t d. d)) u.frees.1
    (no-free-ends (frame.Outside (Opening fd)) fs (open_descriptor p fd) FreeOk (λ z. z) s.waiting b) (no-work-over (frame.Outside (Opening fd)) fs (open_descriptor p fd) (λ z. z) s.waiting b)
outside-queued (Hearing r) fs p k s b u = ended (Heard r) fs p k s.waiting (same-queues (frame.Outside (Hearing r) ∷ fs) fs p p u.pool refl refl (λ y t d. d)) u.frees.1
    (no-free-ends (frame.Outside (Hearing r)) fs p FreeOk (λ z. z) s.waiting b) (no-work-over (frame.Outside (Hearing r)) fs p (λ z. z) s.waiting b)

-- ---- requests and queues

module _ (f : RequestFrame) (fs : List Frame) (p : Pool) (k : ℕ) (u : Queued (frame.Request f) fs p) where
  -- it goes on over the same rows and queues
  on : (g : RequestFrame) (q : Pool) → q.rows ≡ p.rows → q.queues ≡ p.queues → RestsQueued (frame.Request g) fs q → Queued (frame.Request g) fs q
  on g q rows queues works = record { pool = goes (frame.Request f) (frame.Request g) fs p q rows queues (λ y d. d) u.pool; works = works; frees = (tt, u.frees.1) }

  -- a work that drains nothing stands on it
  under : (g : Frame) (h : RequestFrame) (q : Pool) → QueuesHold (g ∷ frame.Request h ∷ fs) q → RestsQueued g (frame.Request h ∷ fs) q → IsOfChild g (footing (frame.Request h ∷ fs)) → Queued g (frame.Request h ∷ fs) q
  under g h q hold works one = record { pool = hold; works = works; frees = (one, (tt, u.frees.1)) }

module _ (fs : List Frame) (p : Pool) (k : ℕ) where
  -- a work of a request that is over
  over-here : (p' : Pool) → IsRequested (footing fs) → OverFor (footing fs) p'
  over-here p' r = requested-over (footing fs) p' r

  cancels : (x : Obj) → Sound (frame.Request (request.Cancelling x)) fs p → Queued (frame.Request (request.Cancelling x)) fs p → (o : Option Handler) → QueuedBy (cancelling_step x o p) fs k
  cancels x s u None = on (request.Cancelling x) fs p k u _ p refl refl (over-here p s.rests)
  cancels x s u (Some handler) = on (request.Cancelling x) fs p k u _ p refl refl tt

  cleans : (x : Obj) (errand : Errand) → Queued (frame.Request (request.Cleaning x errand)) fs p → (o : Option Handler) → QueuedBy (cleaning_step x errand o p) fs k
  cleans x errand u None = on (request.Cleaning x errand) fs p k u _ p refl refl tt
  cleans x errand u (Some handler) = on (request.Cleaning x errand) fs p k u _ (renote p x cleaned) refl refl tt

  releases : (x : Obj) → IsRequested (footing fs) → Queued (frame.Request (request.Cleaned x Receive)) fs p → (plan : Plan) → QueuedBy (release_object plan Receive p) fs k
  releases x r u (Frees c) = under (request.Cleaned x Receive) fs p k u (frame.Free (Beginning c)) (request.Releasing c) p (same-queues _ _ p p u.pool refl refl (λ y t d. d)) tt tt
  releases x r u (Unlinks o c) = under (request.Cleaned x Receive) fs p k u (frame.Free (Unlinking o c)) (request.Releasing c) p (same-queues _ _ p p u.pool refl refl (λ y t d. d)) tt tt
  releases x r u _ = on (request.Cleaned x Receive) fs p k u _ p refl refl (over-here p r)

  cleaned-on : (x : Obj) (errand : Errand) → IsRequested (footing fs) → Queued (frame.Request (request.Cleaned x errand)) fs p → (o : Option Note) → QueuedBy (cleaned_step x errand o p) fs k
  cleaned-on x errand r u None = on (request.Cleaned x errand) fs p k u _ p refl refl (over-here p r)
  cleaned-on x Receive r u (Some n) = releases x r u (planned p (call.Free n.child))
  cleaned-on x errand r u (Some n) = on (request.Cleaned x errand) fs p k u (request.Notifying x errand) p refl refl tt

  notifies : (x : Obj) (errand : Errand) → IsRequested (footing fs) → Queued (frame.Request (request.Notifying x errand)) fs p → (o : Option Note) → QueuedBy (notifying_step x errand o p) fs k
  notifies x errand r u None = on (request.Notifying x errand) fs p k u _ p refl refl (over-here p r)
  notifies x errand r u (Some n) = deferred n.deferred
    where
      back : (o : Option Handler) → QueuedBy (callback_step x errand o p) fs k
      back None = on (request.Notifying x errand) fs p k u _ p refl refl (over-here p r)
      back (Some handler) = on (request.Notifying x errand) fs p k u _ p refl refl tt

      to : (q : Pool) → q.rows ≡ p.rows → q.queues ≡ p.queues → QueuedBy (over_step errand q) fs k
      to q rows queues = on (request.Notifying x errand) fs p k u _ q rows queues (over-here q r)

      deferred : (o : Option Obj) → QueuedBy (deferred_step x errand o n.callback p) fs k
      deferred None = back n.callback
      deferred (Some c) = by_test (is_usable p.rows c)
          (λ t. rw t (to (schedule (renote p x not_deferring) x c) refl refl))
          (λ t. rw t (to (renote p x not_deferring) refl refl))

  -- the entries of a queue are freed; once there is none it is over
  vacates : (q : Obj) → Drains q (footing fs) → Queued (frame.Request (request.Vacating q)) fs p → (o : Option Head) → head_of p.queues q ≡ o → QueuedBy (vacating_step q o (run_queue p q false)) fs k
  vacates q d u None e = record { pool = ran-queues (frame.Request (request.Vacating q) ∷ fs) _ p q false (λ y z. z) u.pool; works = emptied (footing fs) d; frees = (tt, u.frees.1) }
    where
      same_entries : (run_queue p q false).queues.entries ≡ p.queues.entries
      same_entries = by_test (has_queue p.queues q) (λ t. rw t refl) (λ t. rw t refl)

      emptied : (on : Footing) → Drains q on → OverFor on (run_queue p q false)
      emptied (OnFree (Draining x)) d = subst (λ (z : Obj). has_entries (run_queue p q false).queues z ≡ false) d (ap (λ es. is_some (head_in es q)) same_entries ∙ ap is_some e)
      emptied _ d = absurd d
  vacates q d u (Some h) e = under (request.Vacating q) fs p k u (frame.Free (Beginning h.object)) (request.Dropping q h.object) (run_queue p q false) (ran-queues (frame.Request (request.Vacating q) ∷ fs) _ p q false (λ y z. z) u.pool) tt tt

  triggers : (q : Obj) → IsRequested (footing fs) → Queued (frame.Request (request.Triggering q)) fs p → (o : Option Head) → next_of p.queues q ≡ o → QueuedBy (triggering_step o p) fs k
  triggers q r u None e = on (request.Triggering q) fs p k u _ p refl refl (over-here p r)
  triggers q r u (Some h) e = record { pool = triggered-queues (frame.Request (request.Triggering q) ∷ fs) _ p q h (next-head p.queues q h e) (λ y d. d) u.pool; works = tt; frees = (tt, u.frees.1) }

request-queued : (f : RequestFrame) (fs : List Frame) (p : Pool) (k : ℕ) → Sound (frame.Request f) fs p → IsStacked (frame.Request f) fs → Queued (frame.Request f) fs p → QueuedBy (request_step f p) fs k
request-queued (request.Finishing x state) fs p k s b u = on (request.Finishing x state) fs p k u _ (finish p x state) refl refl tt
request-queued (request.Receiving x) fs p k s b u = by_test (is_unreceived (note_of p.requests x))
    (λ t. rw t (on (request.Receiving x) fs p k u _ (receive p x) refl refl tt))
    (λ t. rw t (on (request.Receiving x) fs p k u _ p refl refl (requested-over (footing fs) p s.rests.0)))
request-queued (request.Cancelling x) fs p k s b u = cancels fs p k x s u (cancel_in (note_of p.requests x))
request-queued (request.Cleaning x errand) fs p k s b u = cleans fs p k x errand u (cleanup_in (note_of p.requests x))
request-queued (request.Cleaned x errand) fs p k s b u = cleaned-on fs p k x errand s.rests u (note_of p.requests x)
request-queued (request.Notifying x errand) fs p k s b u = notifies fs p k x errand s.rests u (note_of p.requests x)
request-queued (request.Calling w x h errand) fs p k s b u = on (request.Calling w x h errand) fs p k u _ p refl refl tt
request-queued (request.Called w x h errand) fs p k s b u =
    under (request.Called w x h errand) fs p k u (frame.Call (Asking (ask.Routine (handler_moment w x h plainly)))) (request.Called w x h errand) p (same-queues _ _ p p u.pool refl refl (λ y t d. d)) tt tt
request-queued (request.Releasing c) fs p k s b u = absurd s.rests
request-queued (request.Vacating q) fs p k s b u = vacates fs p k q s.rests u (head_of p.queues q) refl
request-queued (request.Dropping q e) fs p k s b u = absurd s.rests
request-queued (request.Triggering q) fs p k s b u = triggers fs p k q s.rests u (next_of p.queues q) refl
request-queued (request.Over r) fs p k s b u = ended (Heard r) fs p k s.waiting (same-queues (frame.Request (request.Over r) ∷ fs) fs p p u.pool refl refl (λ y t d. d)) u.frees.1
    (no-free-ends (frame.Request (request.Over r)) fs p FreeOk (λ z. z) s.waiting b) u.works

-- ---- all

pub queued-kept : (f : Frame) (fs : List Frame) (p : Pool) (k : ℕ) → Sound f fs p → IsStacked f fs → Queued f fs p → QueuedBy (step f p) fs k
queued-kept (frame.Call (Asking q)) fs p zero s b u = tt
queued-kept (frame.Call (Asking q)) fs p (suc k) s b u = λ i g e. leads g (heard-leads q i g e)
  where
    leads : (g : Frame) → HeardBy q g → Queued g fs p
    leads _ (HeardCall c) = record { pool = goes (frame.Call (Asking q)) _ fs p p refl refl (λ y d. d) u.pool; works = tt; frees = (tt, u.frees.1) }
    leads _ (HeardReturn v of) = record { pool = goes (frame.Call (Asking q)) _ fs p p refl refl (λ y d. d) u.pool; works = tt; frees = (tt, u.frees.1) }
queued-kept (frame.Call (Doing q c)) fs p k s b u = planned-queued q c fs p k s u (planned_at q p c) (may-planned-at (frame.Call (Doing q c)) fs p s q c) (planned-at-by (PlanKeeps p) q p c (plan-keeps p s.refers s.forest.distinct c) (λ t. tt))
queued-kept (frame.Call (Announcing q notice r)) fs p k s b u = record { pool = goes (frame.Call (Announcing q notice r)) _ fs p p refl refl (λ y d. d) u.pool; works = tt; frees = (tt, u.frees.1) }
queued-kept (frame.Call (Telling q r)) fs p k s b u = record { pool = goes (frame.Call (Telling q r)) _ fs p p refl refl (λ y d. d) u.pool; works = tt; frees = (tt, u.frees.1) }
queued-kept (frame.Call (Returning v)) fs p k s b u = ended (Returned v) fs p k s.waiting (same-queues (frame.Call (Returning v) ∷ fs) fs p p u.pool refl refl (λ y t d. d)) u.frees.1
    (no-free-ends (frame.Call (Returning v)) fs p FreeOk (λ z. z) s.waiting b) (no-work-over (frame.Call (Returning v)) fs p (λ z. z) s.waiting b)
queued-kept (frame.Free f) fs p k s b u = lifted-queued p.ring (free_step f p) fs k s.waiting u.frees.1 (λ q. no-work-over (frame.Free f) fs q (λ z. z) s.waiting b) (free-queued f fs p s u)
queued-kept (frame.Turn f) fs p k s b u = turn-queued f fs p k s b u
queued-kept (frame.Outside f) fs p k s b u = outside-queued f fs p k s b u
queued-kept (frame.Request f) fs p k s b u = request-queued f fs p k s b u
queued-kept _ fs p k s b u = absurd s.rests
