-- The object that a request was made with has a number that was given: no step forgets this.
use Rattle.std.proofs.Common.{◌≡◌, Bool, true, false, Option, Some, None, refl, sym, ◌∙◌, ap, inl, inr}
use Rattle.step_machine.specs.Machine.{Move as Do}
use Rattle.std.specs.Prelude.{nat_eq}
use Rattle.tree_specs.specs.declared.object.Obj.{Obj}
use Rattle.tree_specs.specs.declared.object.Owner.TheVariants.{Of}
use Rattle.tree_specs.specs.declared.row.Row.{Row}
use Rattle.tree_specs.specs.declared.row.Mark.{Mark}
use Rattle.tree_specs.specs.declared.row.Mark.TheVariants as mark
use Rattle.tree_specs.specs.declared.call.Call.TheVariants as call
use Rattle.tree_specs.specs.declared.handler.Handler.{Handler}
use Rattle.tree_specs.specs.declared.request.Note.{Note}
use Rattle.tree_specs.specs.declared.event.Event.{Event}
use Rattle.tree_specs.specs.declared.frame.Frame.{Frame}
use Rattle.tree_specs.specs.declared.frame.Frame.TheVariants as frame
use Rattle.tree_specs.specs.declared.frame.FreeFrame.{FreeFrame}
use Rattle.tree_specs.specs.declared.frame.FreeFrame.TheVariants.{Unlinking, Releasing, Giving, Beginning, Hooked, Judged, Preparing, Prepared, Dooming, Draining, Leaving, Looping, FreeingChild, AfterChild, Ending}
use Rattle.tree_specs.specs.declared.frame.Purpose.{Purpose}
use Rattle.tree_specs.specs.declared.frame.Purpose.TheVariants.{Removal, Emptying}
use Rattle.tree_specs.specs.declared.frame.TurnFrame.{TurnFrame}
use Rattle.tree_specs.specs.declared.frame.TurnFrame.TheVariants.{Taking, Timing, Timed, Polling, Starting, Firing, Handling, Handled, Clearing, Serving, Parting, Closing}
use Rattle.tree_specs.specs.declared.frame.RequestFrame.{RequestFrame}
use Rattle.tree_specs.specs.declared.frame.RequestFrame.TheVariants as request
use Rattle.tree_specs.specs.declared.frame.Errand.{Errand}
use Rattle.tree_specs.specs.declared.frame.Errand.TheVariants.{Receive}
use Rattle.tree_specs.specs.declared.free_step.FreeReply.{FreeReply}
use Rattle.tree_specs.specs.declared.free_step.FreeReply.TheVariants as free_reply
use Rattle.tree_specs.specs.Tree.Pool.{Pool, row_of, owner_of, is_below, is_inside, newest_ref_of, target_at, first_kid, run_queue, is_usable, exit}
use Rattle.tree_specs.specs.Tree.Targets.{newest_ref}
use Rattle.tree_specs.specs.Calls.Refusals.{is_request, is_queue, is_doomed}
use Rattle.tree_specs.specs.Calls.Plans.{Plan, planned}
use Rattle.tree_specs.specs.Calls.Plans.Plan.{Frees, Unlinks}
use Rattle.tree_specs.specs.Events.Coming.{handler_for, goes_after, begun}
use Rattle.tree_specs.specs.Events.Queues.{Head, head_of, next_of}
use Rattle.tree_specs.specs.Events.Requests.{note_of, without_note, renoted, is_unreceived, cleanup_in, cancel_in, cleaned, not_deferring, in_state}
use Rattle.tree_specs.specs.Machine.FreeTable.{FreeMove, free_step, begin_step, begin_by, unlink_step, release_step, refs_step, loop_step, last_step, child_step, tried_step, hand_on_step}
use Rattle.tree_specs.specs.Machine.Table.{Step, step, announced, event_of, lifted, starting_step, handled_step, turn_step, cancelling_step, cleaning_step, release_object, cleaned_step, callback_step, notifying_step, receiving_step, vacating_step, triggering_step, deferred_step, parting_step, closing_step, request_step}
use Rattle.tree_specs.specs.Tree.Pool.{remove, schedule, renote, finish, receive}
use Rattle.tree_specs.proofs.Tree.Numbered.{by_test, same_or_not}
use Rattle.tree_specs.proofs.Invariants.Turning.{Passes, Pass, Serve, Trigger, look-passes, rotated-rows}
use Rattle.tree_specs.specs.declared.request.State.TheVariants.{Received}
use Rattle.tree_specs.specs.Tree.Pool.{trigger, set_mark}
use Rattle.tree_specs.specs.Invariants.Awaiting.{pool_after}
use Rattle.tree_specs.proofs.Events.NoteLaws.{forgotten-same, forgotten-other, renoted-same, renoted-none, renoted-other}
use Rattle.service_rules.proofs.Works.{IsWork}

-- what is kept of requests is kept of those of which it was, and their objects are the same
abbrev pub Kids : Pool → Pool → Type 0
Kids p q = (x : Obj) (n : Note) → note_of q.requests x ≡ Some n → (m : Note) × (note_of p.requests x ≡ Some m) × (n.child ≡ m.child)

kept : (p q : Pool) → q.requests ≡ p.requests → Kids p q
kept p q is x n h = (n, sym (ap (λ ns. note_of ns x) is) ∙ h, refl)

removed : (p : Pool) (x : Obj) → Kids p (remove p x)
removed p x y n h = elim (same_or_not x y) [
  | inl is ↦ absurd (none n (sym (forgotten-same p.requests x) ∙ ap (note_of (without_note p.requests x)) is ∙ h))
  | inr other ↦ (n, sym (forgotten-other p.requests x y other) ∙ h, refl)
]
  where
    none : (n : Note) → None ≡ Some n → ⊥
    none n e = cc

pub changed-note : (g : Note → Note) (p q : Pool) (x : Obj) → q.requests ≡ renoted g p.requests x → ((n : Note) → (g n).child ≡ n.child) → Kids p q
changed-note g p q x is child y n h = elim (same_or_not x y) [
  | inl i ↦ own (note_of p.requests x) refl i
  | inr other ↦ (n, sym (ap (λ ns. note_of ns y) is ∙ renoted-other g p.requests x y other) ∙ h, refl)
]
  where
    there : note_of (renoted g p.requests x) y ≡ Some n
    there = sym (ap (λ ns. note_of ns y) is) ∙ h

    own : (o : Option Note) → note_of p.requests x ≡ o → x ≡ y → (m : Note) × (note_of p.requests y ≡ Some m) × (n.child ≡ m.child)
    own None i s =
        let a : note_of (renoted g p.requests x) x ≡ None = renoted-none g p.requests x i in
        let b : note_of (renoted g p.requests x) x ≡ Some n = ap (note_of (renoted g p.requests x)) s ∙ there in
        let bad : None ≡ Some n = sym a ∙ b in cc
    own (Some m) i s =
        let a : note_of (renoted g p.requests x) x ≡ Some (g m) = renoted-same g p.requests x m i in
        let b : note_of (renoted g p.requests x) x ≡ Some n = ap (note_of (renoted g p.requests x)) s ∙ there in
        let c : Some (g m) ≡ Some n = sym a ∙ b in
        let c' : g m ≡ n = cc in
        (m, sym (ap (note_of p.requests) s) ∙ i, sym (ap (λ (z : Note). z.child) c') ∙ child m)

abbrev pub LeadsKids : Pool → Step → Type 0
LeadsKids p m = Kids p (pool_after m)

-- ---- freeing

abbrev FreeKids : Pool → FreeMove → Type 0
FreeKids p (Do.Done a q) = Kids p q
FreeKids p (Do.Go f q) = Kids p q
FreeKids p (Do.Emit e f q) = Kids p q
FreeKids p (Do.Wait e f q) = Kids p q
FreeKids p (Do.Call g f q) = Kids p q

begin-kids : (x : Obj) (o : Option Row) (p : Pool) → FreeKids p (begin_step x o p)
begin-kids x None p = (λ y n h. (n, h, refl))
begin-kids x (Some r) p = each r.mark
  where
    each : (m : Mark) → FreeKids p (begin_by x r.kind r.hook m p)
    each mark.Quiet = by_test (is_request r.kind)
        (λ t. rw t ((λ y n h. (n, h, refl))))
        (λ t. rw t (by_test (is_queue r.kind) (λ u. rw u ((λ y n h. (n, h, refl)))) (λ u. rw u (by_test (nat_eq r.hook 0) (λ v. rw v ((λ y n h. (n, h, refl)))) (λ v. rw v ((λ y n h. (n, h, refl))))))))
    each mark.Asked = (λ y n h. (n, h, refl))
    each mark.Busy = (λ y n h. (n, h, refl))
    each mark.Doomed = (λ y n h. (n, h, refl))
    each (mark.Dying former) = (λ y n h. (n, h, refl))

free-kids : (f : FreeFrame) (p : Pool) → FreeKids p (free_step f p)
free-kids (Unlinking o x) p = each (newest_ref_of p.rows o x)
  where
    each : (r : Option Obj) → FreeKids p (unlink_step x r p)
    each None = kept p p refl
    each (Some r) = removed p r
free-kids (Releasing x) p = each (newest_ref p.rows x)
  where
    each : (r : Option Obj) → FreeKids p (release_step x r p)
    each None = (λ y n h. (n, h, refl))
    each (Some r) = by_test (is_inside p.rows (Of r) (Of x)) (λ t. rw t (removed p r)) (λ t. rw t (removed p r))
free-kids (Giving x o) p = (λ y n h. (n, h, refl))
free-kids (Beginning x) p = each (newest_ref p.rows x)
  where
    each : (r : Option Obj) → FreeKids p (refs_step x r p)
    each None = begin-kids x (row_of p.rows x) p
    each (Some r) = by_test (is_inside p.rows (Of r) (Of x)) (λ t. rw t (removed p r)) (λ t. rw t (removed p r))
free-kids (Hooked x h) p = (λ y n h. (n, h, refl))
free-kids (Judged x h v) p = by_test (nat_eq v 0) (λ t. rw t ((λ y n h. (n, h, refl)))) (λ t. rw t ((λ y n h. (n, h, refl))))
free-kids (Preparing x) p = (λ y n h. (n, h, refl))
free-kids (Draining x) p = (λ y n h. (n, h, refl))
free-kids (Prepared x) p = (λ y n h. (n, h, refl))
free-kids (Dooming x) p = (λ y n h. (n, h, refl))
free-kids (Leaving x h) p = (λ y n h. (n, h, refl))
free-kids (Looping x purpose) p = each (first_kid p.rows (Of x))
  where
    last : (purpose : Purpose) → FreeKids p (last_step x purpose p)
    last (Removal h) = removed p x
    last Emptying = (λ y n h. (n, h, refl))

    child : (c : Obj) (o : Option Obj) → FreeKids p (child_step x c purpose o p)
    child c None = (λ y n h. (n, h, refl))
    child c (Some t) = removed p c

    each : (c : Option Obj) → FreeKids p (loop_step x purpose c p)
    each None = last purpose
    each (Some c) = child c (target_at p.rows c)
free-kids (FreeingChild x c noted purpose) p = (λ y n h. (n, h, refl))
free-kids (AfterChild x c noted purpose answer) p = each answer
  where
    hand : FreeKids p (hand_on_step x c noted purpose p)
    hand = by_test (is_below (owner_of p.rows c) (Of x)) (λ t. rw t ((λ y n h. (n, h, refl)))) (λ t. rw t ((λ y n h. (n, h, refl))))

    each : (a : FreeReply) → FreeKids p (tried_step x c noted purpose a p)
    each free_reply.Ok = (λ y n h. (n, h, refl))
    each free_reply.Held = hand
    each free_reply.Running = hand
    each (free_reply.Refused v) = hand
free-kids (Ending answer) p = (λ y n h. (n, h, refl))

free-leads : (p : Pool) (m : FreeMove) → FreeKids p m → LeadsKids p (lifted p.ring m)
free-leads p (Do.Done a q) n = n
free-leads p (Do.Go f q) n = n
free-leads p (Do.Emit e f q) n = told (event_of p.ring e)
  where
    told : (o : Option Event) → LeadsKids p (announced o f q)
    told None = n
    told (Some e) = n
free-leads p (Do.Wait e f q) n = n
free-leads p (Do.Call g f q) n = n

-- ---- turns

passes-kids : (p : Pool) (m : Step) → Passes p m → LeadsKids p m
passes-kids p _ (Pass t r rows next notes queues turning times plain) = kept p r notes
passes-kids p _ (Trigger x r rows next notes queues turning times queue) = kept p r notes
passes-kids p _ (Serve errand x r rows next notes queues turning times served noted) = kept p r notes

turn-kids : (f : TurnFrame) (p : Pool) → LeadsKids p (turn_step f p)
turn-kids Taking p = passes-kids p (turn_step Taking p) (look-passes Taking p tt)
turn-kids (Timing again) p = kept p p refl
turn-kids (Timed again now) p = passes-kids p (turn_step (Timed again now) p) (look-passes (Timed again now) p tt)
turn-kids (Polling limit) p = kept p p refl
turn-kids (Starting what x occasion) p = each (handler_for p what x)
  where
    each : (o : Option Handler) → LeadsKids p (starting_step what x occasion o p)
    each None = kept p p refl
    each (Some h) = kept p (begun what x p) (rotated-rows what x p).2
turn-kids (Firing what x handler occasion) p = kept p p refl
turn-kids (Handling what x handler occasion) p = kept p p refl
turn-kids (Handled what x) p = each (goes_after p what x)
  where
    each : (b : Bool) → LeadsKids p (handled_step x b p)
    each true = kept p (set_mark p x mark.Quiet) refl
    each false = kept p (set_mark p x mark.Quiet) refl
turn-kids (Clearing x) p = kept p p refl
turn-kids (Serving x) p = kept p p refl
turn-kids (Parting c v) p = kept p p refl
turn-kids (Closing v) p = each p.turning
  where
    parts : (c : Obj) (b : Bool) → LeadsKids p (parting_step c v b p)
    parts c true = kept p (exit p c) refl
    parts c false = kept p (exit p c) refl

    each : (o : Option Obj) → LeadsKids p (closing_step v o p)
    each None = kept p p refl
    each (Some c) = parts c (is_doomed p c)

-- ---- requests

request-kids : (f : RequestFrame) (p : Pool) → LeadsKids p (request_step f p)
request-kids (request.Finishing x state) p = changed-note (in_state state) p (finish p x state) x refl (λ n. refl)
request-kids (request.Receiving x) p = each (is_unreceived (note_of p.requests x))
  where
    each : (b : Bool) → LeadsKids p (receiving_step x b p)
    each true = changed-note (in_state Received) p (receive p x) x refl (λ n. refl)
    each false = kept p p refl
request-kids (request.Cancelling x) p = each (cancel_in (note_of p.requests x))
  where
    each : (o : Option Handler) → LeadsKids p (cancelling_step x o p)
    each None = kept p p refl
    each (Some handler) = kept p p refl
request-kids (request.Cleaning x errand) p = each (cleanup_in (note_of p.requests x))
  where
    each : (o : Option Handler) → LeadsKids p (cleaning_step x errand o p)
    each None = kept p p refl
    each (Some handler) = changed-note cleaned p (renote p x cleaned) x refl (λ n. refl)
request-kids (request.Cleaned x errand) p = each errand (note_of p.requests x)
  where
    releases : (plan : Plan) → LeadsKids p (release_object plan Receive p)
    releases (Frees c) = kept p p refl
    releases (Unlinks o c) = kept p p refl
    releases _ = kept p p refl

    each : (errand : Errand) (o : Option Note) → LeadsKids p (cleaned_step x errand o p)
    each errand None = kept p p refl
    each Receive (Some n) = releases (planned p (call.Free n.child))
    each _ (Some n) = kept p p refl
request-kids (request.Notifying x errand) p = each (note_of p.requests x)
  where
    back : (o : Option Handler) → LeadsKids p (callback_step x errand o p)
    back None = kept p p refl
    back (Some handler) = kept p p refl

    each : (o : Option Note) → LeadsKids p (notifying_step x errand o p)
    each None = kept p p refl
    each (Some n) = deferred n.deferred
      where
        deferred : (o : Option Obj) → LeadsKids p (deferred_step x errand o n.callback p)
        deferred (Some c) = by_test (is_usable p.rows c)
            (λ t. rw t (changed-note not_deferring p (schedule (renote p x not_deferring) x c) x refl (λ n. refl)))
            (λ t. rw t (changed-note not_deferring p (renote p x not_deferring) x refl (λ n. refl)))
        deferred None = back n.callback
request-kids (request.Calling what x handler errand) p = kept p p refl
request-kids (request.Called what x handler errand) p = kept p p refl
request-kids (request.Releasing c) p = kept p p refl
request-kids (request.Vacating x) p = each (head_of p.queues x)
  where
    each : (o : Option Head) → LeadsKids p (vacating_step x o (run_queue p x false))
    each None = kept p (run_queue p x false) refl
    each (Some h) = kept p (run_queue p x false) refl
request-kids (request.Dropping q e) p = kept p p refl
request-kids (request.Triggering x) p = each (next_of p.queues x)
  where
    each : (o : Option Head) → LeadsKids p (triggering_step o p)
    each None = kept p p refl
    each (Some h) = kept p (trigger p h) refl
request-kids (request.Over r) p = kept p p refl

pub work-kids : (f : Frame) (p : Pool) → IsWork f → LeadsKids p (step f p)
work-kids (frame.Call f) p w = absurd w
work-kids (frame.Outside f) p w = absurd w
work-kids (frame.Free f) p w = free-leads p (free_step f p) (free-kids f p)
work-kids (frame.Turn f) p w = turn-kids f p
work-kids (frame.Request f) p w = request-kids f p
