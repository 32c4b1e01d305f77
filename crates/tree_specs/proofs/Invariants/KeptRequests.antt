-- What each step of a request's work, and of a free that waits for it, keeps of what holds at every moment.
use Rattle.std.proofs.Common.{◌≡◌, ℕ, List, [], ◌∷◌, Option, Some, None, false, refl, ◌∙◌, inl}
use Rattle.tree_specs.specs.declared.object.Obj.{Obj}
use Rattle.tree_specs.specs.declared.row.Row.{Row}
use Rattle.tree_specs.specs.declared.row.Mark.TheVariants.{Asked, Quiet}
use Rattle.tree_specs.specs.declared.call.Call.TheVariants as call
use Rattle.tree_specs.specs.declared.handler.Handler.{Handler}
use Rattle.tree_specs.specs.declared.question.Ask.TheVariants.{Routine}
use Rattle.tree_specs.specs.declared.request.Note.{Note}
use Rattle.tree_specs.specs.declared.frame.Errand.{Errand}
use Rattle.tree_specs.specs.declared.frame.Errand.TheVariants.{Finish, Receive}
use Rattle.tree_specs.specs.declared.frame.Frame.{Frame}
use Rattle.tree_specs.specs.declared.frame.Frame.TheVariants as frame
use Rattle.tree_specs.specs.declared.frame.CallFrame.TheVariants.{Asking}
use Rattle.tree_specs.specs.declared.frame.FreeFrame.TheVariants.{Preparing, Draining, Prepared, Leaving, Beginning, Unlinking}
use Rattle.tree_specs.specs.declared.frame.RequestFrame.{RequestFrame}
use Rattle.tree_specs.specs.declared.frame.RequestFrame.TheVariants as request
use Rattle.tree_specs.specs.declared.frame.Answer.TheVariants.{Heard}
use Rattle.tree_specs.specs.Words.Objects.{same}
use Rattle.tree_specs.specs.Tree.Targets.{target_of, newest_ref}
use Rattle.tree_specs.specs.Tree.Pool.{Pool, row_of, target_in, target_at, set_mark, marked_row, finish, receive, run_queue, trigger, is_usable, schedule, renote}
use Rattle.tree_specs.specs.Events.Requests.{note_of, is_unreceived, cleanup_in, cancel_in, not_deferring}
use Rattle.tree_specs.specs.Events.Coming.{handler_moment, plainly}
use Rattle.tree_specs.specs.Rules.Errands.{reply_to}
use Rattle.tree_specs.specs.Calls.Plans.{Plan, planned}
use Rattle.tree_specs.specs.Calls.Plans.Plan.{Frees, Unlinks}
use Rattle.tree_specs.specs.Machine.Profiles.{InRun}
use Rattle.tree_specs.specs.Machine.Table.{step, cancelling_step, cleaning_step, release_object, cleaned_step, callback_step, notifying_step, request_step, vacating_step, triggering_step, deferred_step}
use Rattle.tree_specs.specs.Invariants.Sound.{phases, claims, footing, IsLive, IsRequested, RequestRests, Sound, Footing, Drains, IsPrepared}
use Rattle.tree_specs.proofs.Tree.Numbered.{by_test, same-false}
use Rattle.tree_specs.proofs.Tree.Rows.{row_of-changed-same}
use Rattle.tree_specs.proofs.Tree.Referring.{newest-changed}
use Rattle.tree_specs.proofs.Calls.Plans.{May, may-planned}
use Rattle.tree_specs.proofs.Invariants.Changes.{no-turn-row, run-refers, run-unreferred, running-row, claim-here, stands, waiting-sound, changed-sound, shape-of, live-owned, marks-place}
use Rattle.tree_specs.proofs.Invariants.KeptFrees.{KeptBy, ended, prepared-on}
use Rattle.tree_specs.specs.Invariants.Sound.Footing.{OnFree}
use Rattle.tree_specs.specs.Invariants.Queued.{AreQueued}
use Rattle.tree_specs.specs.Events.Queues.{Head, head_of, next_of}
use Rattle.tree_specs.specs.declared.reply.Reply.TheVariants.{Ok}
use Rattle.tree_specs.proofs.Invariants.Queues.{entry-object, entry-unreferred, head-waiting, idle-entry}

-- ---- a free that waits for a request

pub preparing : (x : Obj) (fs : List Frame) (p : Pool) (k : ℕ) → Sound (frame.Free (Preparing x)) fs p → KeptBy (step (frame.Free (Preparing x)) p) fs k
preparing x fs p k s =
    stands (frame.Free (Preparing x)) (frame.Request (request.Receiving x)) fs (frame.Free (Preparing x) ∷ fs) p (λ y. refl) (tt, s.waiting) (tt, s.rests) s

pub draining : (x : Obj) (fs : List Frame) (p : Pool) (k : ℕ) → Sound (frame.Free (Draining x)) fs p → KeptBy (step (frame.Free (Draining x)) p) fs k
draining x fs p k s =
    stands (frame.Free (Draining x)) (frame.Request (request.Vacating x)) fs (frame.Free (Draining x) ∷ fs) p (λ y. refl) (tt, s.waiting) refl s

pub prepared : (x : Obj) (fs : List Frame) (p : Pool) (k : ℕ) → Sound (frame.Free (Prepared x)) fs p → KeptBy (step (frame.Free (Prepared x)) p) fs k
prepared x fs p k s =
    let phase = claim-here x InRun (claims x fs) (row_of p.rows x) (s.open_frees x) in
    let row = running-row (row_of p.rows x) (claims x fs) phase in
    by-row row.0 row.1 row.2 row.3 row.4 phase
  where
    by-row : (r : Row) → row_of p.rows x ≡ Some r → IsLive r.mark → claims x fs ≡ [] → r.mark ≡ Asked → InRun ∷ claims x fs ≡ phases (row_of p.rows x) → Sound (frame.Free (Leaving x 0)) fs (set_mark p x Quiet)
    by-row r e live none asked phase =
        let object : target_of r.kind ≡ None = (let t : target_at p.rows x ≡ None = run-refers p.rows x (claims x fs) s.refers phase in let t' : target_in (Some r) ≡ None = rw e at t in t') in
        let unreferred : newest_ref p.rows x ≡ None = run-unreferred p.rows x (claims x fs) s.forest.distinct s.refers phase in
        changed-sound (marked_row Quiet) (frame.Free (Prepared x)) (frame.Free (Leaving x 0)) fs fs p x r s (marks-place Quiet) e
        (live-owned r.mark r.owner x live (shape-of p x r s.valid e)) object (inl (λ q. refl)) (λ y ne. let u : same x y ≡ false = same-false x y ne in rw u refl) none (no-turn-row p.turning p.rows x r s.turned e (rw asked refl)) s.waiting
        (marked_row Quiet r, row_of-changed-same (marked_row Quiet) p.rows x r (λ q. refl) e, tt, none, object, newest-changed (marked_row Quiet) p.rows x x (λ q. refl) (λ q. refl) ∙ unreferred, refl)

-- ---- the work of a request

-- another step of it, over the same rows
goes : (f g : RequestFrame) (fs : List Frame) (p q : Pool) → q.rows ≡ p.rows → q.next ≡ p.next → q.turning ≡ p.turning → Sound (frame.Request f) fs p → RequestRests g (footing fs) q → Sound (frame.Request g) fs q
goes f g fs p q rows next turning s rests = waiting-sound (frame.Request f) (frame.Request g) fs p q s rows next turning (λ y. refl) rests

-- the object of a request is freed as by a call
releasing : (x : Obj) (fs : List Frame) (p : Pool) (k : ℕ) → IsRequested (footing fs) → Sound (frame.Request (request.Cleaned x Receive)) fs p → (plan : Plan) → May p plan → KeptBy (release_object plan Receive p) fs k
releasing x fs p k on s (Frees c) may =
    stands (frame.Request (request.Cleaned x Receive)) (frame.Free (Beginning c)) fs (frame.Request (request.Releasing c) ∷ fs) p (λ y. refl) (on, s.waiting) may s
releasing x fs p k on s (Unlinks o c) may =
    stands (frame.Request (request.Cleaned x Receive)) (frame.Free (Unlinking o c)) fs (frame.Request (request.Releasing c) ∷ fs) p (λ y. refl) (on, s.waiting) (tt, may.0, may.1, may.2, may.3) s
releasing x fs p k on s _ may = goes (request.Cleaned x Receive) _ fs p p refl refl refl s (prepared-on (footing fs) on)

cleaned-kept : (x : Obj) (errand : Errand) (fs : List Frame) (p : Pool) (k : ℕ) → Sound (frame.Request (request.Cleaned x errand)) fs p → (o : Option Note) → KeptBy (cleaned_step x errand o p) fs k
cleaned-kept x errand fs p k s None = goes (request.Cleaned x errand) _ fs p p refl refl refl s (prepared-on (footing fs) s.rests)
cleaned-kept x Receive fs p k s (Some n) = releasing x fs p k s.rests s (planned p (call.Free n.child)) (may-planned (frame.Request (request.Cleaned x Receive)) fs p s (call.Free n.child))
cleaned-kept x errand fs p k s (Some n) = goes (request.Cleaned x errand) (request.Notifying x errand) fs p p refl refl refl s s.rests

notifying-kept : (x : Obj) (errand : Errand) (fs : List Frame) (p : Pool) (k : ℕ) → Sound (frame.Request (request.Notifying x errand)) fs p → (o : Option Note) → KeptBy (notifying_step x errand o p) fs k
notifying-kept x errand fs p k s None = goes (request.Notifying x errand) _ fs p p refl refl refl s (prepared-on (footing fs) s.rests)
notifying-kept x errand fs p k s (Some n) = deferred n.deferred
  where
    back : (o : Option Handler) → KeptBy (callback_step x errand o p) fs k
    back None = goes (request.Notifying x errand) _ fs p p refl refl refl s (prepared-on (footing fs) s.rests)
    back (Some handler) = goes (request.Notifying x errand) _ fs p p refl refl refl s s.rests

    deferred : (o : Option Obj) → KeptBy (deferred_step x errand o n.callback p) fs k
    deferred None = back n.callback
    deferred (Some c) = by_test (is_usable p.rows c)
        (λ t. rw t (goes (request.Notifying x errand) _ fs p (schedule (renote p x not_deferring) x c) refl refl refl s (prepared-on (footing fs) s.rests)))
        (λ t. rw t (goes (request.Notifying x errand) _ fs p (renote p x not_deferring) refl refl refl s (prepared-on (footing fs) s.rests)))

-- the freeing of the first entry of a queue begins
vacating-kept : (q : Obj) (fs : List Frame) (p : Pool) (k : ℕ) → Sound (frame.Request (request.Vacating q)) fs p → AreQueued p → KeptBy (request_step (request.Vacating q) p) fs k
vacating-kept q fs p k s waiting = each (head_of p.queues q) refl
  where
    drained : Sound (frame.Request (request.Vacating q)) fs (run_queue p q false)
    drained = goes (request.Vacating q) (request.Vacating q) fs p (run_queue p q false) refl refl refl s s.rests

    over : (on : Footing) → Drains q on → IsPrepared on
    over (OnFree (Draining x)) d = tt
    over _ d = absurd d

    each : (o : Option Head) → head_of p.queues q ≡ o → KeptBy (vacating_step q (head_of p.queues q) (run_queue p q false)) fs k
    each None e = rw e (goes (request.Vacating q) (request.Over Ok) fs p (run_queue p q false) refl refl refl s (over (footing fs) s.rests))
    each (Some h) e =
        let w = head-waiting p p.queues.entries q h waiting e in
        rw e (stands (frame.Request (request.Vacating q)) (frame.Free (Beginning h.object)) fs (frame.Request (request.Dropping q h.object) ∷ fs) (run_queue p q false) (λ y. refl) (s.rests, s.waiting)
        ((entry-unreferred p h.object h.entry s.forest.distinct s.refers w, idle-entry h.entry.request (row_of p.rows h.object) w.entry), entry-object p h.object h.entry w) drained)

pub request-kept : (f : RequestFrame) (fs : List Frame) (p : Pool) (k : ℕ) → Sound (frame.Request f) fs p → AreQueued p → KeptBy (request_step f p) fs k
request-kept (request.Finishing x state) fs p k s w = goes (request.Finishing x state) (request.Cleaning x (Finish state)) fs p (finish p x state) refl refl refl s s.rests
request-kept (request.Receiving x) fs p k s w = by_test (is_unreceived (note_of p.requests x))
    (λ t. rw t (goes (request.Receiving x) (request.Cleaning x Receive) fs p (receive p x) refl refl refl s s.rests.0))
    (λ t. rw t (goes (request.Receiving x) (request.Over (reply_to Receive)) fs p p refl refl refl s (prepared-on (footing fs) s.rests.0)))
request-kept (request.Cancelling x) fs p k s w = each (cancel_in (note_of p.requests x))
  where
    each : (o : Option Handler) → KeptBy (cancelling_step x o p) fs k
    each None = goes (request.Cancelling x) _ fs p p refl refl refl s (prepared-on (footing fs) s.rests)
    each (Some handler) = goes (request.Cancelling x) _ fs p p refl refl refl s s.rests
request-kept (request.Cleaning x errand) fs p k s w = each (cleanup_in (note_of p.requests x))
  where
    each : (o : Option Handler) → KeptBy (cleaning_step x errand o p) fs k
    each None = goes (request.Cleaning x errand) _ fs p p refl refl refl s s.rests
    each (Some handler) = goes (request.Cleaning x errand) _ fs p _ refl refl refl s s.rests
request-kept (request.Cleaned x errand) fs p k s w = cleaned-kept x errand fs p k s (note_of p.requests x)
request-kept (request.Notifying x errand) fs p k s w = notifying-kept x errand fs p k s (note_of p.requests x)
request-kept (request.Calling what x handler errand) fs p k s w = goes (request.Calling what x handler errand) (request.Called what x handler errand) fs p p refl refl refl s s.rests
request-kept (request.Called what x handler errand) fs p k s w =
    stands (frame.Request (request.Called what x handler errand)) (frame.Call (Asking (Routine (handler_moment what x handler plainly)))) fs (frame.Request (request.Called what x handler errand) ∷ fs) p (λ y. refl) (s.rests, s.waiting) tt s
request-kept (request.Releasing c) fs p k s w = absurd s.rests
request-kept (request.Vacating q) fs p k s w = vacating-kept q fs p k s w
request-kept (request.Dropping q e) fs p k s w = absurd s.rests
request-kept (request.Triggering q) fs p k s w = each (next_of p.queues q)
  where
    each : (o : Option Head) → KeptBy (triggering_step o p) fs k
    each None = goes (request.Triggering q) (request.Over Ok) fs p p refl refl refl s (prepared-on (footing fs) s.rests)
    each (Some h) = goes (request.Triggering q) _ fs p (trigger p h) refl refl refl s s.rests
request-kept (request.Over r) fs p k s w = ended (Heard r) (frame.Request (request.Over r)) fs p k s (λ x. refl) (λ x c n b gs e. tt)
