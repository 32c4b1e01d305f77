-- Each step of a request's work lowers the measure.
use Rattle.std.proofs.Common.{◌≡◌, ℕ, ◌+◌, ◌*◌, ◌≤◌, ◌<◌, true, List, ◌∷◌, Option, Some, None, subst, arith, false}
use Rattle.std.proofs.Math.Nat.{mul-le-mul_left}
use Rattle.tree_specs.specs.declared.object.Obj.{Obj}
use Rattle.tree_specs.specs.declared.call.Call.TheVariants as call
use Rattle.tree_specs.specs.declared.handler.Handler.{Handler}
use Rattle.tree_specs.specs.declared.request.Note.{Note}
use Rattle.tree_specs.specs.declared.frame.Errand.{Errand}
use Rattle.tree_specs.specs.declared.frame.Errand.TheVariants.{Receive}
use Rattle.tree_specs.specs.declared.frame.Frame.{Frame}
use Rattle.tree_specs.specs.declared.frame.Frame.TheVariants as frame
use Rattle.tree_specs.specs.declared.frame.CallFrame.TheVariants.{Requesting}
use Rattle.tree_specs.specs.declared.frame.TurnFrame.TheVariants.{Serving}
use Rattle.tree_specs.specs.declared.frame.FreeFrame.TheVariants.{Preparing, Draining}
use Rattle.tree_specs.specs.declared.frame.RequestFrame.{RequestFrame}
use Rattle.tree_specs.specs.declared.frame.RequestFrame.TheVariants as request
use Rattle.tree_specs.specs.declared.frame.Answer.TheVariants.{Heard}
use Rattle.tree_specs.specs.Tree.Pool.{Pool, run_queue, is_usable}
use Rattle.tree_specs.specs.Tree.Inside.{total}
use Rattle.tree_specs.specs.Events.Requests.{note_of, cleanup_in, cancel_in, renoted, cleaned, not_deferring, in_state, is_unreceived}
use Rattle.tree_specs.specs.Calls.Plans.{Plan, planned}
use Rattle.tree_specs.specs.Calls.Plans.Plan.{Frees, Unlinks}
use Rattle.tree_specs.specs.Machine.Table.{resume, cancelling_step, cleaning_step, release_object, cleaned_step, callback_step, notifying_step, request_step, vacating_step, triggering_step, deferred_step}
use Rattle.tree_specs.specs.Invariants.Sound.{footing, Sound, IsPrepared}
use Rattle.tree_specs.specs.Invariants.Noted.{Noted}
use Rattle.tree_specs.specs.Invariants.Measure.{weight, row_worth, waiting_cost, top_cost, cost}
use Rattle.tree_specs.proofs.Tree.Numbered.{by_test}
use Rattle.tree_specs.proofs.Events.NoteLaws.{total-lighter, total-receive, renoted-lighter}
use Rattle.tree_specs.proofs.Invariants.KeptNotes.{going-unreceived}
use Rattle.tree_specs.proofs.Turns.Lowering.{Lowers, Room, done-lower}
use Rattle.tree_specs.specs.Events.Queues.{Head, head_of, next_of}

-- a note that is changed, where a request that wasn't received stays so, weighs no more
renoted-cost : (R : ℕ) (g : Note → Note) (p : Pool) (x : Obj) → ((n : Note) → note_of p.requests x ≡ Some n → is_unreceived (Some (g n)) ≡ true → is_unreceived (Some n) ≡ true)
    → row_worth R * total (weight (renoted g p.requests x)) p.rows ≤ row_worth R * total (weight p.requests) p.rows
renoted-cost R g p x calm = mul-le-mul_left (row_worth R) (total-lighter (renoted g p.requests x) p.requests p.rows (renoted-lighter g p.requests x calm))

release-lower : (R : ℕ) (x : Obj) (fs : List Frame) (p : Pool) (k : ℕ) → Room R (frame.Request (request.Cleaned x Receive)) p k → (plan : Plan)
    → Lowers R (cost R (frame.Request (request.Cleaned x Receive)) fs p k) (release_object plan Receive p) fs k
release-lower R x fs p k room (Frees c) = (omega arith, omega arith)
release-lower R x fs p k room (Unlinks o c) = (omega arith, omega arith)
release-lower R x fs p k room _ = (omega arith, omega arith)

cleaned-lower : (R : ℕ) (x : Obj) (errand : Errand) (fs : List Frame) (p : Pool) (k : ℕ) → Room R (frame.Request (request.Cleaned x errand)) p k → (o : Option Note)
    → Lowers R (cost R (frame.Request (request.Cleaned x errand)) fs p k) (cleaned_step x errand o p) fs k
cleaned-lower R x errand fs p k room None = (omega arith, omega arith)
cleaned-lower R x Receive fs p k room (Some n) = release-lower R x fs p k room (planned p (call.Free n.child))
cleaned-lower R x errand fs p k room (Some n) = (omega arith, omega arith)

notifying-lower : (R : ℕ) (x : Obj) (errand : Errand) (fs : List Frame) (p : Pool) (k : ℕ) → Room R (frame.Request (request.Notifying x errand)) p k → (o : Option Note)
    → Lowers R (cost R (frame.Request (request.Notifying x errand)) fs p k) (notifying_step x errand o p) fs k
notifying-lower R x errand fs p k room None = (omega arith, omega arith)
notifying-lower R x errand fs p k room (Some n) = deferred n.deferred
  where
    back : (o : Option Handler) → Lowers R (cost R (frame.Request (request.Notifying x errand)) fs p k) (callback_step x errand o p) fs k
    back None = (omega arith, omega arith)
    back (Some handler) = (omega arith, omega arith)

    deferred : (o : Option Obj) → Lowers R (cost R (frame.Request (request.Notifying x errand)) fs p k) (deferred_step x errand o n.callback p) fs k
    deferred None = back n.callback
    deferred (Some c) =
        let u = renoted-cost R not_deferring p x (λ m q h. h) in
        by_test (is_usable p.rows c) (λ t. rw t (omega arith, omega (arith, u))) (λ t. rw t (omega arith, omega (arith, u)))

pub request-lower : (R : ℕ) (f : RequestFrame) (fs : List Frame) (p : Pool) (k : ℕ) → Sound (frame.Request f) fs p → Noted (frame.Request f) p → Room R (frame.Request f) p k → Lowers R (cost R (frame.Request f) fs p k) (request_step f p) fs k
request-lower R (request.Finishing x state) fs p k s noted room = let u = renoted-cost R (in_state state) p x (λ n e h. going-unreceived p x n noted.works.1 e) in (omega arith, omega (arith, u))
request-lower R (request.Receiving x) fs p k s noted room = by_test (is_unreceived (note_of p.requests x))
    (λ t.
    let w = total-receive p.requests p.rows x s.rests.1.0 s.rests.1.1 t in
    let u = mul-le-mul_left (row_worth R) w in
    rw t (omega arith, omega (arith, u)))
    (λ t. rw t (omega arith, omega arith))
request-lower R (request.Cancelling x) fs p k s noted room = each (cancel_in (note_of p.requests x))
  where
    each : (o : Option Handler) → Lowers R (cost R (frame.Request (request.Cancelling x)) fs p k) (cancelling_step x o p) fs k
    each None = (omega arith, omega arith)
    each (Some handler) = (omega arith, omega arith)
request-lower R (request.Cleaning x errand) fs p k s noted room = each (cleanup_in (note_of p.requests x))
  where
    each : (o : Option Handler) → Lowers R (cost R (frame.Request (request.Cleaning x errand)) fs p k) (cleaning_step x errand o p) fs k
    each None = (omega arith, omega arith)
    each (Some handler) = let u = renoted-cost R cleaned p x (λ n q h. h) in (omega arith, omega (arith, u))
request-lower R (request.Cleaned x errand) fs p k s noted room = cleaned-lower R x errand fs p k room (note_of p.requests x)
request-lower R (request.Notifying x errand) fs p k s noted room = notifying-lower R x errand fs p k room (note_of p.requests x)
request-lower R (request.Calling what x handler errand) fs p k s noted room = (omega arith, omega arith)
request-lower R (request.Called what x handler errand) fs p k s noted room = (omega arith, omega arith)
request-lower R (request.Releasing c) fs p k s noted room = absurd s.rests
request-lower R (request.Vacating q) fs p k s noted room = each (head_of p.queues q)
  where
    each : (o : Option Head) → Lowers R (cost R (frame.Request (request.Vacating q)) fs p k) (vacating_step q o (run_queue p q false)) fs k
    each None = (omega arith, omega arith)
    each (Some h) = (omega arith, omega arith)
request-lower R (request.Dropping q e) fs p k s noted room = absurd s.rests
request-lower R (request.Triggering q) fs p k s noted room = each (next_of p.queues q)
  where
    each : (o : Option Head) → Lowers R (cost R (frame.Request (request.Triggering q)) fs p k) (triggering_step o p) fs k
    each None = (omega arith, omega arith)
    each (Some h) = (omega arith, omega arith)
request-lower R (request.Over r) fs p k s noted room =
    done-lower R (Heard r) (frame.Request (request.Over r)) fs p k s.waiting (omega arith) (λ g gs e w. let l = pays g gs (subst (λ (l : List Frame). IsPrepared (footing l)) e s.rests) in omega (arith, l))
  where
    -- what waits for it
    pays : (g : Frame) (gs : List Frame) → IsPrepared (footing (g ∷ gs)) → top_cost R (resume g (Heard r)) gs p.rows < waiting_cost g + 3
    pays (frame.Call (Requesting q)) gs t = omega arith
    pays (frame.Turn (Serving x)) gs t = omega arith
    pays (frame.Free (Preparing x)) gs t = omega arith
    pays (frame.Free (Draining x)) gs t = omega arith
    pays (frame.Request (request.Releasing c)) gs t = absurd t
    pays (frame.Request (request.Dropping q e)) gs t = absurd t
    pays _ gs t = absurd t
