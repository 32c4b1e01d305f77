-- The stated number of turns is above the measure at every moment, and each work stands where it may.
use Rattle.tree_specs.specs.Machine.Profiles.{InHandler, InRun}
use Rattle.tree_specs.specs.declared.occasion.Occasion.{Occasion}
use Rattle.tree_specs.proofs.Calls.Plans.{may-planned-at}
use Rattle.tree_specs.specs.Calls.Plans.{Plan, planned, planned_at}
use Rattle.tree_specs.specs.declared.call.Call.TheVariants as call
use Rattle.tree_specs.specs.declared.request.Note.{Note}
use Rattle.tree_specs.specs.declared.request.State.TheVariants.{TimedOut}
use Rattle.tree_specs.specs.declared.frame.Errand.{Errand}
use Rattle.tree_specs.specs.declared.frame.Errand.TheVariants.{Finish, Notify, Receive}
use Rattle.tree_specs.specs.declared.frame.RequestFrame.{RequestFrame}
use Rattle.tree_specs.specs.declared.frame.RequestFrame.TheVariants as request
use Rattle.tree_specs.specs.Events.Requests.{note_of, is_unreceived, cleanup_in, cancel_in}
use Rattle.tree_specs.specs.Calls.Refusals.{is_doomed}
use Rattle.tree_specs.specs.Calls.Plans.Plan.{Frees, Unlinks}
use Rattle.tree_specs.specs.Tree.Targets.{is_context}
use Rattle.std.proofs.Common.{true, ◌≡◌, ℕ, suc, zero, List, Option, Some, None, refl, sym, ap, subst, arith, false}
use Rattle.tree_specs.specs.declared.object.Obj.{Obj}
use Rattle.tree_specs.specs.declared.row.Row.{Row}
use Rattle.tree_specs.specs.declared.row.Mark.{Mark}
use Rattle.tree_specs.specs.declared.row.Mark.TheVariants.{Quiet, Busy, Doomed}
use Rattle.tree_specs.specs.declared.frame.Frame.{Frame}
use Rattle.tree_specs.specs.declared.frame.Frame.TheVariants as frame
use Rattle.tree_specs.specs.declared.frame.CallFrame.TheVariants.{Asking, Doing, Announcing, Telling, Returning}
use Rattle.tree_specs.specs.declared.frame.TurnFrame.{TurnFrame}
use Rattle.tree_specs.specs.declared.frame.TurnFrame.TheVariants.{Parting, Taking, Timing, Timed, Polling, Starting, Firing, Handling, Handled, Clearing, Serving, Closing}
use Rattle.tree_specs.specs.declared.handler.Handler.{Handler}
use Rattle.tree_specs.specs.declared.moment.What.{What}
use Rattle.tree_specs.specs.declared.reply.Reply.TheVariants as reply
use Rattle.tree_specs.specs.Events.Coming.{handler_for, goes_after}
use Rattle.tree_specs.proofs.Invariants.Turning.{handler-ready, rotated-rows, IsPlain, Passes, Pass, Serve, look-passes, taken-plain, Trigger}
use Rattle.tree_specs.specs.declared.frame.FreeFrame.TheVariants.{Unlinking, Releasing, Giving, Beginning, Hooked, Judged, Preparing, Prepared, Dooming, Leaving, Looping, AfterChild, Ending, Draining}
use Rattle.tree_specs.specs.declared.frame.OutsideFrame.{OutsideFrame}
use Rattle.tree_specs.specs.declared.frame.OutsideFrame.TheVariants.{Reaching, Opening, Hearing}
use Rattle.tree_specs.specs.declared.frame.Answer.TheVariants.{Freed, Returned, Turned, Heard as HeardBy}
use Rattle.tree_specs.specs.declared.free_step.FreeReply.TheVariants.{Ok, Running}
use Rattle.tree_specs.specs.declared.kind.Kind.{Kind}
use Rattle.tree_specs.specs.Tree.Pool.{exit, is_usable, Pool, row_of, marked_row, open_descriptor, run_queue}
use Rattle.tree_specs.specs.Machine.Table.{closing_step, deferred_step, Step, step, cancelling_step, cleaning_step, release_object, cleaned_step, callback_step, notifying_step, request_step, turn_step, outside_step, starting_step, vacating_step, triggering_step}
use Rattle.tree_specs.specs.Invariants.Sound.{is_at_turn_mark, IsTurning, claims, Sound}
use Rattle.tree_specs.proofs.Tree.Numbered.{by_test}
use Rattle.tree_specs.proofs.Calls.Checks.{Reached, ReachedOpening, ReachedHearing, reached-leads}
use Rattle.tree_specs.specs.Invariants.Consistent.{IsStacked, mark_deposit, deposit, IsPaidFor}
use Rattle.tree_specs.proofs.Tree.Rows.{total-placed, total-changed}
use Rattle.tree_specs.proofs.Invariants.Changes.{turning-row, running-row, handling-row, claim-here}
use Rattle.tree_specs.proofs.Turns.Seats.{Placed, reseat, reseat-free, reseat-turn, reseat-work, turn-least, over}
use Rattle.tree_specs.specs.Events.Queues.{Head, head_of, next_of}
use Rattle.tree_specs.proofs.Turns.LoadFrees.{asking-placed, planned-placed, beginning-placed, unlinking-placed, releasing-placed, mark_deposit-most, judged-placed, leaving-placed, looping-placed, tried-placed}

-- ---- turns

passes-placed : (f : TurnFrame) (fs : List Frame) (p : Pool) (k : ℕ) (m : Step) → Passes p m → IsStacked (frame.Turn f) fs → IsPaidFor (frame.Turn f) fs p → Placed m fs k
passes-placed f fs p k _ (Pass g q rows next notes queues turning times plain) b l = let z = plain.size in (reseat-turn f g fs b, rw rows (omega (arith, l, z, turn-least f)))
passes-placed f fs p k _ (Trigger x q rows next notes queues turning times queue) b l = ((tt, reseat-turn f (Serving x) fs b), rw rows (omega (arith, l, turn-least f)))
passes-placed f fs p k _ (Serve Notify x q rows next notes queues turning times served noted) b l = ((tt, reseat-turn f (Serving x) fs b), rw rows (omega (arith, l, turn-least f)))
passes-placed f fs p k _ (Serve (Finish TimedOut) x q rows next notes queues turning times served noted) b l = ((tt, reseat-turn f (Serving x) fs b), rw rows (omega (arith, l, turn-least f)))
passes-placed f fs p k _ (Serve _ x q rows next notes queues turning times served noted) b l = absurd served

-- what an answer leads to is as light
asked-placed : (f : TurnFrame) (fs : List Frame) (p : Pool) (g : Frame) (t : TurnFrame) → g ≡ frame.Turn t → IsPlain t 13 → IsStacked (frame.Turn f) fs → IsPaidFor (frame.Turn f) fs p
    → IsStacked g fs × IsPaidFor g fs p
asked-placed f fs p g t e plain b l = let z = plain.size in subst (λ (w : Frame). IsStacked w fs × IsPaidFor w fs p) (sym e) (reseat-turn f t fs b, omega (arith, l, z, turn-least f))

starting-placed : (w : What) (x : Obj) (occasion : Occasion) (fs : List Frame) (p : Pool) (k : ℕ) → IsStacked (frame.Turn (Starting w x occasion)) fs → IsPaidFor (frame.Turn (Starting w x occasion)) fs p
    → Placed (turn_step (Starting w x occasion) p) fs k
starting-placed w x occasion fs p k b l = each (handler_for p w x) refl
  where
    each : (o : Option Handler) → handler_for p w x ≡ o → Placed (starting_step w x occasion (handler_for p w x) p) fs k
    each None e = rw e (reseat-turn (Starting w x occasion) (Closing 1) fs b, l)
    each (Some h) e =
        let ready = handler-ready p w x h e in
        let u = total-changed deposit (marked_row Busy) p.rows x ready.row ready.is in
        rw (e, (rotated-rows w x p).0) (reseat-turn (Starting w x occasion) (Firing w x h occasion) fs b, (let c = ready.context in let busy : deposit (marked_row Busy ready.row) ≡ 3 = rw c refl in omega (arith, u, l, busy, ap (mark_deposit ready.row.kind) ready.quiet)))

handled-placed : (w : What) (x : Obj) (fs : List Frame) (p : Pool) (k : ℕ) → Sound (frame.Turn (Handled w x)) fs p → IsStacked (frame.Turn (Handled w x)) fs
    → IsPaidFor (frame.Turn (Handled w x)) fs p → Placed (turn_step (Handled w x) p) fs k
handled-placed w x fs p k s b l =
    let row = handling-row (row_of p.rows x) (claims x fs) (claim-here x InHandler (claims x fs) (row_of p.rows x) (s.open_frees x)) in
    let u = total-changed deposit (marked_row Quiet) p.rows x row.0 row.1 in
    let most = mark_deposit-most row.0.kind row.0.mark in
    by_test (goes_after p w x)
    (λ t. rw t ((tt, reseat-turn (Handled w x) (Clearing x) fs b), omega (arith, u, l, most)))
    (λ t. rw t (reseat-turn (Handled w x) (Closing 1) fs b, omega (arith, u, l, most)))

turn-placed : (f : TurnFrame) (fs : List Frame) (p : Pool) (k : ℕ) → Sound (frame.Turn f) fs p → IsStacked (frame.Turn f) fs → IsPaidFor (frame.Turn f) fs p → Placed (turn_step f p) fs k
turn-placed Taking fs p k s b l = passes-placed Taking fs p k _ (look-passes Taking p tt) b l
turn-placed (Timed again now) fs p k s b l = passes-placed (Timed again now) fs p k _ (look-passes (Timed again now) p tt) b l
turn-placed (Timing again) fs p zero s b l = tt
turn-placed (Timing again) fs p (suc k) s b l = λ i g e. (let t = taken-plain (Timing again) p i g e in asked-placed (Timing again) fs p g t.0 t.1 t.2 b l)
turn-placed (Polling limit) fs p zero s b l = tt
turn-placed (Polling limit) fs p (suc k) s b l = λ i g e. (let t = taken-plain (Polling limit) p i g e in asked-placed (Polling limit) fs p g t.0 t.1 t.2 b l)
turn-placed (Starting w x occasion) fs p k s b l = starting-placed w x occasion fs p k b l
turn-placed (Firing w x h occasion) fs p k s b l = (reseat-turn (Firing w x h occasion) (Handling w x h occasion) fs b, l)
turn-placed (Handling w x h occasion) fs p k s b l = ((tt, b), omega (arith, l))
turn-placed (Handled w x) fs p k s b l = handled-placed w x fs p k s b l
turn-placed (Clearing x) fs p k s b l = absurd s.rests
turn-placed (Serving x) fs p k s b l = absurd s.rests
turn-placed (Parting c v) fs p k s b l = absurd s.rests
turn-placed (Closing v) fs p k s b l = each p.turning refl
  where
    free-of : (k : Kind) (m : Mark) → is_context k ≡ true → is_at_turn_mark m ≡ true → mark_deposit k m ≡ 0
    free-of k Busy i t = rw i refl
    free-of k Doomed i t = rw i refl
    free-of k _ i t = cc

    light : (c : Obj) (o : Option Row) → row_of p.rows c ≡ o → IsTurning o → IsPaidFor (frame.Turn (Closing v)) fs (exit p c)
    light c None e t = absurd t
    light c (Some r) e t = let w = total-changed deposit (marked_row Quiet) p.rows c r e in let f = free-of r.kind r.mark t.0 t.1 in omega (arith, w, f, l)

    each : (o : Option Obj) → p.turning ≡ o → Placed (closing_step v o p) fs k
    each None e = over (Turned v) (frame.Turn (Closing v)) fs p k s.waiting b l
    each (Some c) e =
        let h = light c (row_of p.rows c) refl (turning-row p.turning p.rows c (row_of p.rows c) s.turned e refl) in
        by_test (is_doomed p c)
        (λ d. rw d ((tt, reseat-turn (Closing v) (Parting c v) fs b), omega (arith, h)))
        (λ d. rw d (over (Turned v) (frame.Turn (Closing v)) fs (exit p c) k s.waiting b h))

-- ---- a question to the outside

reseat-outside : (f g : OutsideFrame) (fs : List Frame) → IsStacked (frame.Outside f) fs → IsStacked (frame.Outside g) fs
reseat-outside f g fs s = reseat (frame.Outside f) (frame.Outside g) fs (λ c. c) (λ r. r) (λ k. k) (λ t. t) (λ v. v) s

outside-placed : (f : OutsideFrame) (fs : List Frame) (p : Pool) (k : ℕ) → Sound (frame.Outside f) fs p → IsStacked (frame.Outside f) fs → IsPaidFor (frame.Outside f) fs p → Placed (outside_step f p) fs k
outside-placed (Reaching q) fs p zero s b l = tt
outside-placed (Reaching q) fs p (suc k) s b l = λ i g e. leads g (reached-leads p q i g e)
  where
    leads : (g : Frame) → Reached p g → IsStacked g fs × IsPaidFor g fs p
    leads _ (ReachedOpening fd number closed) = (reseat-outside (Reaching q) (Opening fd) fs b, l)
    leads _ (ReachedHearing r) = (reseat-outside (Reaching q) (Hearing r) fs b, l)
outside-placed (Opening fd) fs p k s b l = over (HeardBy (reply.Number fd)) (frame.Outside (Opening fd)) fs (open_descriptor p fd) k s.waiting b l
outside-placed (Hearing r) fs p k s b l = over (HeardBy r) (frame.Outside (Hearing r)) fs p k s.waiting b l

prepared-placed : (x : Obj) (fs : List Frame) (p : Pool) (k : ℕ) → Sound (frame.Free (Prepared x)) fs p → IsStacked (frame.Free (Prepared x)) fs → IsPaidFor (frame.Free (Prepared x)) fs p
    → Placed (step (frame.Free (Prepared x)) p) fs k
prepared-placed x fs p k s seats l =
    let row = running-row (row_of p.rows x) (claims x fs) (claim-here x InRun (claims x fs) (row_of p.rows x) (s.open_frees x)) in
    let u = total-changed deposit (marked_row Quiet) p.rows x row.0 row.1 in
    (reseat-free (Prepared x) (Leaving x 0) fs seats, omega (arith, u, l, mark_deposit-most row.0.kind row.0.mark))

-- ---- requests

module _ (fs : List Frame) (p : Pool) (k : ℕ) where
  cleaned-placed : (x : Obj) (errand : Errand) → IsStacked (frame.Request (request.Cleaned x errand)) fs → IsPaidFor (frame.Request (request.Cleaned x errand)) fs p → (o : Option Note) → Placed (cleaned_step x errand o p) fs k
  cleaned-placed x errand b l None = (reseat-work (request.Cleaned x errand) _ fs b, l)
  cleaned-placed x Receive b l (Some n) = releases (planned p (call.Free n.child))
    where
      releases : (plan : Plan) → Placed (release_object plan Receive p) fs k
      releases (Frees c) = ((tt, reseat-work (request.Cleaned x Receive) _ fs b), omega (arith, l))
      releases (Unlinks o c) = ((tt, reseat-work (request.Cleaned x Receive) _ fs b), omega (arith, l))
      releases _ = (reseat-work (request.Cleaned x Receive) _ fs b, l)
  cleaned-placed x errand b l (Some n) = (reseat-work (request.Cleaned x errand) _ fs b, l)

  notifying-placed : (x : Obj) (errand : Errand) → IsStacked (frame.Request (request.Notifying x errand)) fs → IsPaidFor (frame.Request (request.Notifying x errand)) fs p → (o : Option Note) → Placed (notifying_step x errand o p) fs k
  notifying-placed x errand b l None = (reseat-work (request.Notifying x errand) _ fs b, l)
  notifying-placed x errand b l (Some n) = deferred n.deferred
    where
      back : (o : Option Handler) → Placed (callback_step x errand o p) fs k
      back None = (reseat-work (request.Notifying x errand) _ fs b, l)
      back (Some handler) = (reseat-work (request.Notifying x errand) _ fs b, l)

      deferred : (o : Option Obj) → Placed (deferred_step x errand o n.callback p) fs k
      deferred None = back n.callback
      deferred (Some c) = by_test (is_usable p.rows c) (λ t. rw t (reseat-work (request.Notifying x errand) _ fs b, l)) (λ t. rw t (reseat-work (request.Notifying x errand) _ fs b, l))

  cancelling-placed : (x : Obj) → IsStacked (frame.Request (request.Cancelling x)) fs → IsPaidFor (frame.Request (request.Cancelling x)) fs p → (o : Option Handler) → Placed (cancelling_step x o p) fs k
  cancelling-placed x b l None = (reseat-work (request.Cancelling x) _ fs b, l)
  cancelling-placed x b l (Some handler) = (reseat-work (request.Cancelling x) _ fs b, l)

  cleaning-placed : (x : Obj) (errand : Errand) → IsStacked (frame.Request (request.Cleaning x errand)) fs → IsPaidFor (frame.Request (request.Cleaning x errand)) fs p → (o : Option Handler) → Placed (cleaning_step x errand o p) fs k
  cleaning-placed x errand b l None = (reseat-work (request.Cleaning x errand) _ fs b, l)
  cleaning-placed x errand b l (Some handler) = (reseat-work (request.Cleaning x errand) _ fs b, l)

request-placed : (f : RequestFrame) (fs : List Frame) (p : Pool) (k : ℕ) → Sound (frame.Request f) fs p → IsStacked (frame.Request f) fs → IsPaidFor (frame.Request f) fs p → Placed (request_step f p) fs k
request-placed (request.Finishing x state) fs p k s b l = (reseat-work (request.Finishing x state) _ fs b, l)
request-placed (request.Receiving x) fs p k s b l = by_test (is_unreceived (note_of p.requests x))
    (λ t. rw t (reseat-work (request.Receiving x) _ fs b, l))
    (λ t. rw t (reseat-work (request.Receiving x) _ fs b, l))
request-placed (request.Cancelling x) fs p k s b l = cancelling-placed fs p k x b l (cancel_in (note_of p.requests x))
request-placed (request.Cleaning x errand) fs p k s b l = cleaning-placed fs p k x errand b l (cleanup_in (note_of p.requests x))
request-placed (request.Cleaned x errand) fs p k s b l = cleaned-placed fs p k x errand b l (note_of p.requests x)
request-placed (request.Notifying x errand) fs p k s b l = notifying-placed fs p k x errand b l (note_of p.requests x)
request-placed (request.Calling w x h errand) fs p k s b l = (reseat-work (request.Calling w x h errand) _ fs b, l)
request-placed (request.Called w x h errand) fs p k s b l = ((tt, b), omega (arith, l))
request-placed (request.Releasing c) fs p k s b l = absurd s.rests
request-placed (request.Vacating q) fs p k s b l = each (head_of p.queues q)
  where
    each : (o : Option Head) → Placed (vacating_step q o (run_queue p q false)) fs k
    each None = (reseat-work (request.Vacating q) _ fs b, l)
    each (Some h) = ((tt, reseat-work (request.Vacating q) (request.Dropping q h.object) fs b), omega (arith, l))
request-placed (request.Dropping q e) fs p k s b l = absurd s.rests
request-placed (request.Triggering q) fs p k s b l = each (next_of p.queues q)
  where
    each : (o : Option Head) → Placed (triggering_step o p) fs k
    each None = (reseat-work (request.Triggering q) _ fs b, l)
    each (Some h) = (reseat-work (request.Triggering q) _ fs b, l)
request-placed (request.Over r) fs p k s b l = over (HeardBy r) (frame.Request (request.Over r)) fs p k s.waiting b l

pub placed-kept : (f : Frame) (fs : List Frame) (p : Pool) (k : ℕ) → Sound f fs p → IsStacked f fs → IsPaidFor f fs p → Placed (step f p) fs k
placed-kept (frame.Call (Asking q)) fs p k s b l = asking-placed q fs p k b l
placed-kept (frame.Call (Doing q c)) fs p k s b l = planned-placed q c fs p k b l (planned_at q p c) (may-planned-at (frame.Call (Doing q c)) fs p s q c)
placed-kept (frame.Call (Announcing q notice r)) fs p k s b l = (reseat (frame.Call (Announcing q notice r)) (frame.Call (Telling q r)) fs (λ z. z) (λ z. z) (λ z. z) (λ z. z) (λ z. z) b, l)
placed-kept (frame.Call (Telling q r)) fs p k s b l = (reseat (frame.Call (Telling q r)) (frame.Call (Asking q)) fs (λ z. z) (λ z. z) (λ z. z) (λ z. z) (λ z. z) b, l)
placed-kept (frame.Call (Returning v)) fs p k s b l = over (Returned v) (frame.Call (Returning v)) fs p k s.waiting b l
placed-kept (frame.Free (Unlinking o x)) fs p k s b l = unlinking-placed o x fs p k s b l
placed-kept (frame.Free (Releasing x)) fs p k s b l = releasing-placed x fs p k s b l
placed-kept (frame.Free (Giving x o)) fs p k s b l = let w = total-placed deposit p o x s.rests.row s.rests.is refl in (reseat-free (Giving x o) (Ending Ok) fs b, omega (arith, w, l))
placed-kept (frame.Free (Beginning x)) fs p k s b l = beginning-placed x fs p k s b l
placed-kept (frame.Free (Hooked x h)) fs p k s b l = ((tt, b), omega (arith, l))
placed-kept (frame.Free (Judged x h v)) fs p k s b l = judged-placed x h v fs p k s b l
placed-kept (frame.Free (Preparing x)) fs p k s b l = ((tt, b), omega (arith, l))
placed-kept (frame.Free (Draining x)) fs p k s b l = ((tt, b), omega (arith, l))
placed-kept (frame.Free (Prepared x)) fs p k s b l = prepared-placed x fs p k s b l
placed-kept (frame.Free (Dooming x)) fs p k s b l = over (Freed Running) (frame.Free (Dooming x)) fs p k s.waiting b l
placed-kept (frame.Free (Leaving x h)) fs p k s b l = leaving-placed x h fs p k s b l
placed-kept (frame.Free (Looping x purpose)) fs p k s b l = looping-placed x purpose fs p k s b l
placed-kept (frame.Free (AfterChild x c noted purpose a)) fs p k s b l = tried-placed x c noted purpose a fs p k s b l
placed-kept (frame.Free (Ending answer)) fs p k s b l = over (Freed answer) (frame.Free (Ending answer)) fs p k s.waiting b l
placed-kept (frame.Turn f) fs p k s b l = turn-placed f fs p k s b l
placed-kept (frame.Outside f) fs p k s b l = outside-placed f fs p k s b l
placed-kept (frame.Request f) fs p k s b l = request-placed f fs p k s b l
placed-kept _ fs p k s b l = absurd s.rests
