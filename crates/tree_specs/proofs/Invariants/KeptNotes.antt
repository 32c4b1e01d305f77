-- What each step keeps of what holds of requests.
use Rattle.std.proofs.Common.{◌≡◌, ℕ, suc, zero, nat_eq, List, [], Option, Some, None, Bool, true, false, refl, sym, ◌∙◌, ap, subst}
use Rattle.tree_specs.specs.declared.object.Obj.{Obj}
use Rattle.tree_specs.specs.declared.row.Mark.TheVariants.{Busy}
use Rattle.tree_specs.specs.declared.kind.Kind.{Kind}
use Rattle.tree_specs.specs.declared.kind.Kind.TheVariants as kind
use Rattle.tree_specs.specs.declared.call.Call.{Call}
use Rattle.tree_specs.specs.declared.call.Call.TheVariants as call
use Rattle.tree_specs.specs.declared.handler.Handler.{Handler}
use Rattle.tree_specs.specs.declared.moment.What.{What}
use Rattle.tree_specs.specs.declared.moment.What.TheVariants as whats
use Rattle.tree_specs.specs.declared.question.Ask.{Ask}
use Rattle.tree_specs.specs.declared.question.Ask.TheVariants as ask
use Rattle.tree_specs.specs.declared.request.Note.{Note}
use Rattle.tree_specs.specs.declared.request.State.{State}
use Rattle.tree_specs.specs.declared.request.State.TheVariants.{TimedOut, Received}
use Rattle.tree_specs.specs.declared.reply.Refusal.TheVariants.{BadState}
use Rattle.std.specs.Prelude.{not, codes}
use Rattle.tree_specs.specs.declared.frame.Errand.{Errand}
use Rattle.tree_specs.specs.declared.frame.Errand.TheVariants.{Finish, Notify, Receive, Cancel}
use Rattle.tree_specs.specs.declared.frame.Frame.{Frame}
use Rattle.tree_specs.specs.declared.frame.Frame.TheVariants as frame
use Rattle.tree_specs.specs.declared.frame.CallFrame.TheVariants.{Asking, Doing, Announcing, Telling, Returning}
use Rattle.tree_specs.specs.declared.frame.TurnFrame.{TurnFrame}
use Rattle.tree_specs.specs.declared.frame.TurnFrame.TheVariants.{Taking, Timing, Timed, Polling, Starting, Firing, Handling, Handled, Closing}
use Rattle.tree_specs.specs.declared.frame.OutsideFrame.{OutsideFrame}
use Rattle.tree_specs.specs.declared.frame.OutsideFrame.TheVariants.{Reaching, Opening, Hearing}
use Rattle.tree_specs.specs.declared.frame.RequestFrame.{RequestFrame}
use Rattle.tree_specs.specs.declared.frame.RequestFrame.TheVariants as request
use Rattle.tree_specs.specs.declared.frame.Answer.TheVariants.{Returned, Turned, Heard}
use Rattle.tree_specs.specs.Tree.Pool.{exit, is_usable, enter, marked_row, set_mark, Pool, row_of, schedule, renote, open_descriptor, run_queue, trigger, add, add_queue, add_entry}
use Rattle.tree_specs.specs.Tree.Targets.{newest_ref, is_context}
use Rattle.tree_specs.specs.Events.Coming.{handler_for, begun, goes_after}
use Rattle.tree_specs.specs.Events.Requests.{note_of, is_noted, is_unreceived, cleanup_in, cancel_in, is_received, is_in_progress, state_number, cleaned, not_deferring}
use Rattle.tree_specs.specs.Calls.Refusals as refusing
use Rattle.tree_specs.specs.Calls.Refusals.{is_doomed, tests, is_request, is_referable, is_request_row}
use Rattle.tree_specs.specs.Calls.Plans.{Change, Plan, planned, plan, changed_by, gift, planned_at}
use Rattle.tree_specs.specs.Calls.Plans.Change.{Enter, Edit, Add, Place, Arm, AddRequest, Renotes, Then, AddQueue, AddEntry}
use Rattle.tree_specs.specs.Calls.Plans.Plan.{Does, Frees, Unlinks, Turns, Works}
use Rattle.tree_specs.specs.Calls.Passed.{IsUsable, AllPassed}
use Rattle.tree_specs.specs.Machine.FreeTable.{free_step}
use Rattle.tree_specs.specs.Machine.Table.{closing_step, deferred_step, Step, plan_step, turning_step, starting_step, handled_step, turn_step, outside_step, cancelling_step, cleaning_step, release_object, cleaned_step, callback_step, notifying_step, request_step, step, vacating_step, triggering_step}
use Rattle.tree_specs.specs.Invariants.Sound.{Rests, Sound}
use Rattle.tree_specs.specs.Invariants.Noted.{IsInProgress, NotesHold, Noted, IsForRequest, IsOfRequest}
use Rattle.tree_specs.proofs.Tree.Numbered.{by_test}
use Rattle.tree_specs.proofs.Calls.Checks.{planned-by, Makes, frees-makes, handed-makes, Heard as HeardBy, HeardCall, HeardReturn, heard-leads, Reached, ReachedOpening, ReachedHearing, reached-leads, planned-at-by}
use Rattle.tree_specs.proofs.Calls.Plans.{MayWork, May, may-planned-at}
use Rattle.tree_specs.proofs.Calls.Changes.{usable-row, MayDo, change-sound}
use Rattle.tree_specs.proofs.Invariants.Changes.{nobody}
use Rattle.tree_specs.proofs.Invariants.Turning.{handler-ready, Passes, Pass, Serve, look-passes, taken-plain, Trigger}
use Rattle.tree_specs.proofs.Invariants.Notes.{same-holds, unnoted-unreceived, excepted, unexcepted, changed-holds, unmarked-holds, quiet-holds, placed-holds, added-holds, requested-holds, armed-holds, renoted-holds, finished-holds, received-holds}
use Rattle.tree_specs.proofs.Invariants.FreeNotes.{NotedBy, ended, free-noted, lifted-noted}
use Rattle.tree_specs.specs.Events.Queues.{Head, head_of, next_of, runs}
use Rattle.tree_specs.specs.declared.object.Owner.TheVariants.{Of}
use Rattle.tree_specs.specs.Words.Objects.{same, first_context}

-- ---- calls

-- a change that makes no other row of a request, and arms only what is in progress
abbrev KeepsNotes : Pool → Change → Type 0
KeepsNotes p (Add k o size name) = is_request k ≡ false
KeepsNotes p (Arm x time number c) = IsInProgress p x
KeepsNotes p (Then first second) = KeepsNotes p first × KeepsNotes (changed_by first p) second
KeepsNotes p change = Unit {0}

abbrev PlanKeeps : Pool → Plan → Type 0
PlanKeeps p plan = Makes (KeepsNotes p) plan

-- nothing is kept of the next number
unnoted : (p : Pool) → ((x : Obj) → is_noted p.requests x ≡ is_request_row (row_of p.rows x)) → row_of p.rows (record { 0 = p.next }) ≡ None → IsInProgress p (record { 0 = p.next })
unnoted p notes none = each (note_of p.requests (record { 0 = p.next })) refl
  where
    each : (o : Option Note) → note_of p.requests (record { 0 = p.next }) ≡ o → IsInProgress p (record { 0 = p.next })
    each None e = rw e refl
    each (Some n) e = let bad : true ≡ false = sym (rw e refl) ∙ notes (record { 0 = p.next }) ∙ ap is_request_row none in cc

module _ (p : Pool) (new : IsInProgress p (record { 0 = p.next })) where
  each : (c : Call) → AllPassed p (tests c) → PlanKeeps p (plan p c)
  each (call.New o size name) h = refl
  each (call.Free x) h = frees-makes (KeepsNotes p) x (newest_ref p.rows x)
  each (call.Reparent from to x) h = handed-makes (KeepsNotes p) to (gift p from x) tt (λ y e. tt)
  each (call.Reference o x) h = refl
  each (call.Context o) h = refl
  each (call.Immediate o) h = refl
  each (call.Schedule x routine user c) h = by_test (nat_eq routine 0) (λ t. rw t tt) (λ t. rw t (tt, tt))
  each (call.Timer o time routine user c) h = (refl, (tt, new))
  each (call.Fd o fd flags routine user c) h = (refl, (tt, tt))
  each (call.Error x error) h = by_test (nat_eq error 0) (λ t. rw t tt) (λ t. rw t tt)
  each (call.Endtime x time c) h = (h.1.1.0, tt)
  each (call.Queue o name) h = tt
  each (call.Enqueue q x routine user c) h = tt
  each (call.Start q) h = by_test (runs p.queues q) (λ t. rw t tt) (λ t. rw t (tt, tt))
  each _ h = tt

  plan-keeps : (c : Call) → PlanKeeps p (planned p c)
  plan-keeps c = planned-by (PlanKeeps p) p c (each c) (λ r. tt)

-- a turn of a context begins
entered-holds : (p : Pool) (c : Obj) → IsUsable p c → NotesHold None p → NotesHold None (enter p c)
entered-holds p c may h = by_test (same c first_context)
    (λ t. rw t h)
    (λ t.
    let q : Pool = record p { turning = Some c } in
    let u = usable-row p c may t in
    let none : is_unreceived (note_of p.requests c) ≡ false = unnoted-unreceived p c (h.notes c ∙ ap is_request_row u.is ∙ other u.row.kind u.context) in
    rw t (changed-holds (marked_row Busy) q (set_mark q c Busy) c (same-holds p q h refl refl (λ y t. t)) (λ r. refl) (λ r. refl) refl refl (λ y t. t) (λ v r. let bad : true ≡ false = sym v ∙ none in cc)))
  where
    other : (k : Kind) → is_context k ≡ true → is_request k ≡ false
    other kind.Context t = refl
    other _ t = cc

change-holds : (f : Frame) (fs : List Frame) (p : Pool) (c : Change) → Sound f fs p → ((q : Pool) → Rests f fs q) → MayDo p c → KeepsNotes p c → NotesHold None p → NotesHold None (changed_by c p)
change-holds f fs p (Edit x g) s calm may keeps h = unmarked-holds g p x may.place.serial may.place.kind may.mark h
change-holds f fs p (Add k o size name) s calm may keeps h = added-holds p k o size name keeps (nobody p s.valid) h
change-holds f fs p (AddRequest o size name) s calm may keeps h = requested-holds p o size name s.valid h
change-holds f fs p (AddQueue o name) s calm may keeps h =
    same-holds (add p kind.Queue o 0 name) (add_queue p o name) (added-holds p kind.Queue o 0 name refl (nobody p s.valid) h) refl refl (λ y t. t)
change-holds f fs p (AddEntry q x trigger) s calm may keeps h =
    same-holds (add p kind.Entry (Of x) 0 (codes "entry")) (add_entry p q x trigger) (added-holds p kind.Entry (Of x) 0 (codes "entry") refl (nobody p s.valid) h) refl refl (λ y t. t)
change-holds f fs p (Place o x) s calm may keeps h = placed-holds p o x may h
change-holds f fs p (Arm x time number c) s calm may keeps h = armed-holds p x time number c keeps h
change-holds f fs p (Enter c) s calm may keeps h = entered-holds p c may h
change-holds f fs p (Renotes x g) s calm may keeps h = renoted-holds g p x may h
change-holds f fs p (Then c d) s calm may keeps h =
    let t = change-sound f f fs p c s may.0 (λ y. refl) calm (calm (changed_by c p)) in
    change-holds f fs (changed_by c p) d t calm may.1 keeps.1 (change-holds f fs p c s calm may.0 keeps.0 h)
change-holds f fs p c s calm may keeps h = same-holds p (changed_by c p) h refl refl (λ y t. t)

planned-noted : (q : Ask) (c : Call) (fs : List Frame) (p : Pool) (k : ℕ) → Sound (frame.Call (Doing q c)) fs p → NotesHold None p → (plan : Plan) → May p plan → PlanKeeps p plan → NotedBy (plan_step q plan p) fs k
planned-noted q c fs p k s h plan may keeps = each plan may keeps
  where
    over : (change : Change) → MayDo p change → KeepsNotes p change → NotesHold None (changed_by change p)
    over change may keeps = change-holds (frame.Call (Doing q c)) fs p change s (λ p'. tt) may keeps h

    works : (change : Change) (errand : Errand) (x : Obj) → NotesHold None (changed_by change p) → MayWork (changed_by change p) errand x → NotedBy (plan_step q (Works change errand x) p) fs k
    works change (Finish s) x h work = record { pool = h; works = work }
    works change Receive x h work = record { pool = excepted (changed_by change p) x h; works = tt }
    works change Cancel x h work = record { pool = h; works = tt }
    works change Notify x h work = absurd work

    turning : (q : Ask) (x : Obj) → IsUsable p x → NotedBy (turning_step q x p) fs k
    turning ask.Quiet x may = record { pool = over (Enter x) may tt; works = tt }
    turning q x may = record { pool = h; works = tt }

    each : (plan : Plan) → May p plan → PlanKeeps p plan → NotedBy (plan_step q plan p) fs k
    each (Does change None r) may keeps = record { pool = over change may.0 keeps; works = tt }
    each (Does change (Some notice) r) may keeps = record { pool = over change may.0 keeps; works = tt }
    each (Turns x) may keeps = turning q x may
    each (Works change errand x) may keeps = works change errand x (over change may.0 keeps) may.3
    each _ may keeps = record { pool = h; works = tt }

-- ---- turns

passes-noted : (p : Pool) (fs : List Frame) (k : ℕ) (m : Step) → NotesHold None p → Passes p m → NotedBy m fs k
passes-noted p fs k _ h (Pass g q rows next notes queues turning times plain) = record { pool = same-holds p q h rows notes times; works = tt }
passes-noted p fs k _ h (Trigger x q rows next notes queues turning times queue) = record { pool = same-holds p q h rows notes times; works = tt }
passes-noted p fs k _ h (Serve Notify x q rows next notes queues turning times served noted) = record { pool = same-holds p q h rows notes times; works = tt }
passes-noted p fs k _ h (Serve (Finish TimedOut) x q rows next notes queues turning times served noted) = record {
  pool = same-holds p q h rows notes times;
  works = (rw rows (sym (h.notes x) ∙ noted), rw notes (h.timed x served), tt);
}
passes-noted p fs k _ h (Serve _ x q rows next notes queues turning times served noted) = absurd served

-- an event that starts is no request
begun-holds : (w : What) (x : Obj) (p : Pool) (handler : Handler) → handler_for p w x ≡ Some handler → NotesHold None p → NotesHold None (begun w x p)
begun-holds w x p handler e h =
    let ready = handler-ready p w x handler e in
    let none : is_unreceived (note_of p.requests x) ≡ false = unnoted-unreceived p x (h.notes x ∙ ap is_request_row ready.is ∙ no-request ready.row.kind ready.event) in
    each w none
  where
    no-request : (k : Kind) → is_referable k ≡ false → is_request k ≡ false
    no-request kind.Request e = cc
    no-request _ e = refl

    each : (w : What) → is_unreceived (note_of p.requests x) ≡ false → NotesHold None (begun w x p)
    each whats.Descriptor none = changed-holds (marked_row Busy) p (begun whats.Descriptor x p) x h (λ r. refl) (λ r. refl) refl refl (λ y t. t) (λ v r. let bad : true ≡ false = sym v ∙ none in cc)
    each w none = changed-holds (marked_row Busy) p (begun w x p) x h (λ r. refl) (λ r. refl) refl refl (λ y t. t) (λ v r. let bad : true ≡ false = sym v ∙ none in cc)

turn-noted : (f : TurnFrame) (fs : List Frame) (p : Pool) (k : ℕ) → Sound (frame.Turn f) fs p → NotesHold None p → NotedBy (turn_step f p) fs k
turn-noted Taking fs p k s h = passes-noted p fs k _ h (look-passes Taking p tt)
turn-noted (Timed again now) fs p k s h = passes-noted p fs k _ h (look-passes (Timed again now) p tt)
turn-noted (Timing again) fs p zero s h = tt
turn-noted (Timing again) fs p (suc k) s h = λ i g e. (let t = taken-plain (Timing again) p i g e in subst (λ (z : Frame). Noted z p) (sym t.1) (record { pool = h; works = tt }))
turn-noted (Polling limit) fs p zero s h = tt
turn-noted (Polling limit) fs p (suc k) s h = λ i g e. (let t = taken-plain (Polling limit) p i g e in subst (λ (z : Frame). Noted z p) (sym t.1) (record { pool = h; works = tt }))
turn-noted (Starting w x occasion) fs p k s h = each (handler_for p w x) refl
  where
    each : (o : Option Handler) → handler_for p w x ≡ o → NotedBy (starting_step w x occasion o p) fs k
    each None e = record { pool = h; works = tt }
    each (Some handler) e = record { pool = begun-holds w x p handler e h; works = tt }
turn-noted (Handled w x) fs p k s h = each (goes_after p w x)
  where
    each : (b : Bool) → NotedBy (handled_step x b p) fs k
    each true = record { pool = quiet-holds p x h; works = tt }
    each false = record { pool = quiet-holds p x h; works = tt }
turn-noted (Closing v) fs p k s h = each p.turning
  where
    out : (c : Obj) → NotesHold None (exit p c)
    out c = quiet-holds (record p { turning = None }) c (same-holds p (record p { turning = None }) h refl refl (λ y t. t))

    each : (o : Option Obj) → NotedBy (closing_step v o p) fs k
    each None = ended (Turned v) fs p k s.waiting h
    each (Some c) = by_test (is_doomed p c) (λ d. rw d (record { pool = out c; works = tt })) (λ d. rw d (ended (Turned v) fs (exit p c) k s.waiting (out c)))
turn-noted (Firing w x handler occasion) fs p k s h = record { pool = h; works = tt }
turn-noted (Handling w x handler occasion) fs p k s h = record { pool = h; works = tt }
turn-noted _ fs p k s h = absurd s.rests

-- ---- a question to the outside

outside-noted : (f : OutsideFrame) (fs : List Frame) (p : Pool) (k : ℕ) → Sound (frame.Outside f) fs p → NotesHold None p → NotedBy (outside_step f p) fs k
outside-noted (Reaching q) fs p zero s h = tt
outside-noted (Reaching q) fs p (suc k) s h = λ i g e. leads g (reached-leads p q i g e)
  where
    leads : (g : Frame) → Reached p g → Noted g p
    leads _ (ReachedOpening fd number closed) = record { pool = h; works = tt }
    leads _ (ReachedHearing r) = record { pool = h; works = tt }
outside-noted (Opening fd) fs p k s h = ended (Heard _) fs (open_descriptor p fd) k s.waiting (same-holds p (open_descriptor p fd) h refl refl (λ y t. t))
outside-noted (Hearing r) fs p k s h = ended (Heard r) fs p k s.waiting h

-- ---- requests

-- what is kept is kept of a request
is-request : (p : Pool) (x : Obj) → NotesHold None p → is_noted p.requests x ≡ true → is_request_row (row_of p.rows x) ≡ true
is-request p x h noted = sym (h.notes x) ∙ noted

module _ (fs : List Frame) (p : Pool) (k : ℕ) (h : NotesHold None p) where
  cancels : (x : Obj) (o : Option Note) → note_of p.requests x ≡ o → NotedBy (cancelling_step x (cancel_in o) p) fs k
  cancels x None e = record { pool = h; works = tt }
  cancels x (Some n) e = each (cancel_in (Some n))
    where
      each : (o : Option Handler) → NotedBy (cancelling_step x o p) fs k
      each None = record { pool = h; works = tt }
      each (Some handler) = record { pool = h; works = (is-request p x h (rw e refl), tt) }

  cleans : (x : Obj) (errand : Errand) (o : Option Note) → note_of p.requests x ≡ o → NotedBy (cleaning_step x errand (cleanup_in o) p) fs k
  cleans x errand None e = record { pool = h; works = tt }
  cleans x errand (Some n) e = each (cleanup_in (Some n))
    where
      each : (o : Option Handler) → NotedBy (cleaning_step x errand o p) fs k
      each None = record { pool = h; works = tt }
      each (Some handler) = record { pool = renoted-holds cleaned p x (λ m. refl) h; works = (is-request p x h (rw e refl), tt) }

  releases : (plan : Plan) → NotedBy (release_object plan Receive p) fs k
  releases (Frees c) = record { pool = h; works = tt }
  releases (Unlinks o c) = record { pool = h; works = tt }
  releases _ = record { pool = h; works = tt }

  goes-on : (x : Obj) (errand : Errand) (o : Option Note) → NotedBy (cleaned_step x errand o p) fs k
  goes-on x errand None = record { pool = h; works = tt }
  goes-on x Receive (Some n) = releases (planned p (call.Free n.child))
  goes-on x _ (Some n) = record { pool = h; works = tt }

  notifies : (x : Obj) (errand : Errand) (o : Option Note) → note_of p.requests x ≡ o → NotedBy (notifying_step x errand o p) fs k
  notifies x errand None e = record { pool = h; works = tt }
  notifies x errand (Some n) e = deferred n.deferred
    where
      back : (o : Option Handler) → NotedBy (callback_step x errand o p) fs k
      back None = record { pool = h; works = tt }
      back (Some handler) = record { pool = h; works = (is-request p x h (rw e refl), tt) }

      deferred : (o : Option Obj) → NotedBy (deferred_step x errand o n.callback p) fs k
      deferred None = back n.callback
      deferred (Some c) =
          let r = renoted-holds not_deferring p x (λ m. refl) h in
          by_test (is_usable p.rows c)
          (λ t. rw t (record { pool = same-holds (renote p x not_deferring) (schedule (renote p x not_deferring) x c) r refl refl (λ y u. u); works = tt }))
          (λ t. rw t (record { pool = r; works = tt }))

-- what is in progress wasn't received
pub going-unreceived : (p : Pool) (x : Obj) (n : Note) → IsInProgress p x → note_of p.requests x ≡ Some n → is_unreceived (Some n) ≡ true
going-unreceived p x n h e = each n.state (let h' : refusing.in_state x is_in_progress (Some n) ≡ [] = rw e at h in h')
  where
    each : (s : State) → refusing.refuse_if (not (is_in_progress s)) (BadState x (state_number s)) ≡ [] → not (is_received s) ≡ true
    each Received h = cc
    each _ h = refl

for-request : (w : What) → IsOfRequest w → IsForRequest w
for-request whats.Callback h = h
for-request whats.Cleanup h = h
for-request whats.Cancel h = h
for-request _ h = absurd h

request-noted : (f : RequestFrame) (fs : List Frame) (p : Pool) (k : ℕ) → Sound (frame.Request f) fs p → Noted (frame.Request f) p → NotedBy (request_step f p) fs k
request-noted (request.Finishing x s) fs p k sound n = record { pool = finished-holds p x s (λ m e h. going-unreceived p x m n.works.1 e) n.pool; works = tt }
request-noted (request.Receiving x) fs p k sound n = by_test (is_unreceived (note_of p.requests x))
    (λ t. rw t (record { pool = received-holds p x n.pool; works = tt }))
    (λ t. let h = unexcepted p x n.pool t in rw t (record { pool = h; works = tt }))
request-noted (request.Cancelling x) fs p k sound n = cancels fs p k n.pool x (note_of p.requests x) refl
request-noted (request.Cleaning x errand) fs p k sound n = cleans fs p k n.pool x errand (note_of p.requests x) refl
request-noted (request.Cleaned x errand) fs p k sound n = goes-on fs p k n.pool x errand (note_of p.requests x)
request-noted (request.Notifying x errand) fs p k sound n = notifies fs p k n.pool x errand (note_of p.requests x) refl
request-noted (request.Calling w x handler errand) fs p k sound n = record { pool = n.pool; works = for-request w n.works.1 }
request-noted (request.Called w x handler errand) fs p k sound n = record { pool = n.pool; works = tt }
request-noted (request.Releasing c) fs p k sound n = absurd sound.rests
request-noted (request.Vacating q) fs p k sound n = each (head_of p.queues q)
  where
    each : (o : Option Head) → NotedBy (vacating_step q o (run_queue p q false)) fs k
    each None = record { pool = same-holds p (run_queue p q false) n.pool refl refl (λ y u. u); works = tt }
    each (Some h) = record { pool = same-holds p (run_queue p q false) n.pool refl refl (λ y u. u); works = tt }
request-noted (request.Dropping q e) fs p k sound n = absurd sound.rests
request-noted (request.Triggering q) fs p k sound n = each (next_of p.queues q)
  where
    each : (o : Option Head) → NotedBy (triggering_step o p) fs k
    each None = record { pool = n.pool; works = tt }
    each (Some h) = record { pool = same-holds p (trigger p h) n.pool refl refl (λ y u. u); works = tt }
request-noted (request.Over r) fs p k sound n = ended (Heard r) fs p k sound.waiting n.pool

-- ---- all

pub noted-kept : (f : Frame) (fs : List Frame) (p : Pool) (k : ℕ) → Sound f fs p → Noted f p → NotedBy (step f p) fs k
noted-kept (frame.Call (Asking q)) fs p zero s n = tt
noted-kept (frame.Call (Asking q)) fs p (suc k) s n = λ i g e. leads g (heard-leads q i g e)
  where
    leads : (g : Frame) → HeardBy q g → Noted g p
    leads _ (HeardCall c) = record { pool = n.pool; works = tt }
    leads _ (HeardReturn v of) = record { pool = n.pool; works = tt }
noted-kept (frame.Call (Doing q c)) fs p k s n =
    planned-noted q c fs p k s n.pool (planned_at q p c) (may-planned-at (frame.Call (Doing q c)) fs p s q c) (planned-at-by (PlanKeeps p) q p c (plan-keeps p (unnoted p n.pool.notes (nobody p s.valid)) c) (λ t. tt))
noted-kept (frame.Call (Announcing q notice r)) fs p k s n = record { pool = n.pool; works = tt }
noted-kept (frame.Call (Telling q r)) fs p k s n = record { pool = n.pool; works = tt }
noted-kept (frame.Call (Returning v)) fs p k s n = ended (Returned v) fs p k s.waiting n.pool
noted-kept (frame.Free f) fs p k s n = lifted-noted p.ring (free_step f p) fs k s.waiting (free-noted f fs p s n)
noted-kept (frame.Turn f) fs p k s n = turn-noted f fs p k s n.pool
noted-kept (frame.Outside f) fs p k s n = outside-noted f fs p k s n.pool
noted-kept (frame.Request f) fs p k s n = request-noted f fs p k s n
noted-kept _ fs p k s n = absurd s.rests
