-- The works of a host that are no caller's: they lead to works and to routines that begin, take no number, and close only the
-- descriptor that they tell. No work, no routine that begins and nothing that is resumed carries anything.
use Rattle.std.proofs.Common.{◌≡◌, Bool, true, false, Option, Some, None, refl, sym, subst}
use Rattle.step_machine.specs.Machine.{Move as Do}
use Rattle.std.specs.Prelude.{ℕ, nat_eq, nat_le}
use Rattle.tree_specs.specs.declared.object.Obj.{Obj}
use Rattle.tree_specs.specs.declared.object.Owner.TheVariants.{Of}
use Rattle.tree_specs.specs.declared.row.Row.{Row}
use Rattle.tree_specs.specs.declared.row.Mark.{Mark}
use Rattle.tree_specs.specs.declared.row.Mark.TheVariants as mark
use Rattle.tree_specs.specs.declared.call.Call.TheVariants as call
use Rattle.tree_specs.specs.declared.handler.Handler.{Handler}
use Rattle.tree_specs.specs.declared.request.Note.{Note}
use Rattle.tree_specs.specs.declared.event.Event.{Event}
use Rattle.tree_specs.specs.declared.event.Event.TheVariants as event
use Rattle.tree_specs.specs.declared.coming.Coming.{Coming}
use Rattle.tree_specs.specs.declared.due.Due.{Due}
use Rattle.tree_specs.specs.declared.question.Ask.TheVariants.{Routine, Clock, Wait}
use Rattle.tree_specs.specs.declared.question.Input.{Input}
use Rattle.tree_specs.specs.declared.frame.Frame.{Frame}
use Rattle.tree_specs.specs.declared.frame.Frame.TheVariants as frame
use Rattle.tree_specs.specs.declared.frame.CallFrame.TheVariants.{Asking, Doing, Announcing}
use Rattle.tree_specs.specs.declared.frame.FreeFrame.{FreeFrame}
use Rattle.tree_specs.specs.declared.frame.FreeFrame.TheVariants.{Unlinking, Releasing, Giving, Beginning, Hooked, Judged, Preparing, Prepared, Dooming, Draining, Leaving, Looping, FreeingChild, AfterChild, Ending}
use Rattle.tree_specs.specs.declared.frame.Purpose.{Purpose}
use Rattle.tree_specs.specs.declared.frame.Purpose.TheVariants.{Removal, Emptying}
use Rattle.tree_specs.specs.declared.frame.TurnFrame.{TurnFrame}
use Rattle.tree_specs.specs.declared.frame.TurnFrame.TheVariants.{Taking, Timing, Timed, Polling, Starting, Firing, Handling, Handled, Clearing, Serving, Parting, Closing}
use Rattle.tree_specs.specs.declared.frame.RequestFrame.{RequestFrame}
use Rattle.tree_specs.specs.declared.frame.RequestFrame.TheVariants as request
use Rattle.tree_specs.specs.declared.frame.Errand.{Errand}
use Rattle.tree_specs.specs.declared.frame.Errand.TheVariants.{Finish, Notify, Receive, Cancel}
use Rattle.tree_specs.specs.declared.frame.OutsideFrame.TheVariants.{Reaching, Opening}
use Rattle.tree_specs.specs.declared.frame.Answer.{Answer}
use Rattle.tree_specs.specs.declared.free_step.FreeReply.{FreeReply}
use Rattle.tree_specs.specs.declared.free_step.FreeReply.TheVariants as free_reply
use Rattle.tree_specs.specs.declared.moment.What.{What}
use Rattle.tree_specs.specs.declared.moment.What.TheVariants.{Descriptor}
use Rattle.tree_specs.specs.Tree.Pool.{Pool, row_of, owner_of, is_below, is_inside, newest_ref_of, target_at, first_kid, run_queue, is_usable, soon_here, times_here}
use Rattle.tree_specs.specs.Tree.Targets.{newest_ref}
use Rattle.tree_specs.specs.Calls.Refusals.{is_request, is_queue, is_doomed}
use Rattle.tree_specs.specs.Calls.Plans.{Plan, planned}
use Rattle.tree_specs.specs.Calls.Plans.Plan.{Frees, Unlinks}
use Rattle.tree_specs.specs.Invariants.Awaiting.{pool_after}
use Rattle.tree_specs.specs.Events.Coming.{handler_for, goes_after, begun}
use Rattle.tree_specs.specs.Events.Descriptors.{Descriptors, shut}
use Rattle.tree_specs.specs.Events.Pending.{first}
use Rattle.tree_specs.specs.Events.Rotation.{closes_with}
use Rattle.tree_specs.specs.Events.Queues.{Head, head_of, next_of, has_queue}
use Rattle.tree_specs.specs.Events.Requests.{note_of, is_noted, is_unreceived, cleanup_in, cancel_in}
use Rattle.tree_specs.specs.Rules.Items.{Item}
use Rattle.tree_specs.specs.Rules.Items.Item.{Told, Asked}
use Rattle.tree_specs.specs.Machine.FreeTable.{FreeMove, free_step, begin_step, begin_by, unlink_step, release_step, refs_step, loop_step, last_step, child_step, tried_step, hand_on_step}
use Rattle.tree_specs.specs.Machine.Table.{Step, step, resume, taken, run_for, announced, event_of, closed_event, lifted, work_of, due_now, due_step, taking_step, early_step, timed_step, starting_step, handled_step, turn_step, cancelling_step, cleaning_step, release_object, cleaned_step, callback_step, notifying_step, receiving_step, vacating_step, triggering_step, deferred_step, parting_step, closing_step, request_step}
use Rattle.tree_specs.proofs.Tree.Numbered.{by_test}
use Rattle.tree_specs.proofs.Invariants.Turning.{Passes, Pass, Serve, Trigger, IsLook, look-passes, taken-plain}
use Rattle.tree_specs.proofs.Invariants.Waiters.{Waiter}
use Rattle.tree_specs.proofs.Invariants.Waiters.Waiter.{ForFree, ForRun, ForChild, ForTurn, ForHandler, ForClear, ForParting, ForRequest, ForServed, ForReceived, ForDrained, ForRoutine, ForRelease, ForEntry}

abbrev pub IsWork : Frame → Type 0
IsWork (frame.Call f) = ⊥
IsWork (frame.Outside f) = ⊥
IsWork f = Unit {0}

-- a work, or a routine that begins
abbrev pub IsStart : Frame → Type 0
IsStart (frame.Call (Asking (Routine m))) = (m.last ≡ None) × (m.step ≡ 0)
IsStart (frame.Call f) = ⊥
IsStart (frame.Outside f) = ⊥
IsStart f = Unit {0}

-- a work that carries nothing: no call that is to be done, no notice that is to be told, no question that is put to the outside, and no
-- descriptor that is to be opened
abbrev pub CarriesNothing : Frame → Type 0
CarriesNothing (frame.Call (Doing q c)) = ⊥
CarriesNothing (frame.Call (Announcing q n r)) = ⊥
CarriesNothing (frame.Outside (Reaching q)) = ⊥
CarriesNothing (frame.Outside (Opening fd)) = ⊥
CarriesNothing f = Unit {0}

abbrev pub IsEvent : Item → Type 0
IsEvent (Told e) = Unit {0}
IsEvent (Asked q) = ⊥

-- what a turn asks
abbrev pub IsOfTurn : Item → Frame → Type 0
IsOfTurn (Asked Clock) (frame.Turn (Timing again)) = Unit {0}
IsOfTurn (Asked (Wait limit)) (frame.Turn (Polling most)) = Unit {0}
IsOfTurn i f = ⊥

-- the descriptor that is told to be closed
abbrev pub closes : Option Event → Option ℕ
closes (Some (event.Closed fd)) = Some fd
closes o = None

abbrev pub closes_told : Item → Option ℕ
closes_told (Told e) = closes (Some e)
closes_told (Asked q) = None

abbrev pub LeadsWork : Pool → Step → Type 0
LeadsWork p (Do.Done a q) = (q.next ≡ p.next) × (q.descriptors ≡ p.descriptors)
LeadsWork p (Do.Go g q) = IsWork g × (q.next ≡ p.next) × (q.descriptors ≡ p.descriptors)
LeadsWork p (Do.Emit e g q) = IsEvent e × IsWork g × (q.next ≡ p.next) × (q.descriptors ≡ shut p.descriptors (closes_told e))
LeadsWork p (Do.Wait e g q) = IsOfTurn e g × (q.next ≡ p.next) × ((i : Input) (h : Frame) → taken g q i ≡ Some h → IsWork h) × (q.descriptors ≡ p.descriptors)
LeadsWork p (Do.Call h g q) = IsStart h × IsWork g × (q.next ≡ p.next) × (q.descriptors ≡ p.descriptors)

-- ---- what carries nothing

-- what waited for the work above it
pub resumed-carries : (a : Answer) (g : Frame) → Waiter g → CarriesNothing (resume g a)
resumed-carries a _ (ForFree q x) = tt
resumed-carries a _ (ForRun x h) = tt
resumed-carries a _ (ForChild x c noted purpose) = tt
resumed-carries a _ (ForTurn q) = tt
resumed-carries a _ (ForHandler what x handler occasion) = tt
resumed-carries a _ (ForClear x) = tt
resumed-carries a _ (ForParting c v) = tt
resumed-carries a _ (ForRequest q) = tt
resumed-carries a _ (ForServed x) = tt
resumed-carries a _ (ForReceived x) = tt
resumed-carries a _ (ForDrained x) = tt
resumed-carries a _ (ForRoutine what x handler errand) = tt
resumed-carries a _ (ForRelease c) = tt
resumed-carries a _ (ForEntry q e) = tt

pub work-carries : (f : Frame) → IsWork f → CarriesNothing f
work-carries (frame.Call f) w = absurd w
work-carries (frame.Outside f) w = absurd w
work-carries _ w = tt

pub start-carries : (f : Frame) → IsStart f → CarriesNothing f
start-carries (frame.Call (Asking q)) s = tt
start-carries (frame.Call _) s = absurd s
start-carries (frame.Outside f) s = absurd s
start-carries _ s = tt

-- ---- freeing

abbrev FreeLeads : Pool → FreeMove → Type 0
FreeLeads p (Do.Done a q) = (q.next ≡ p.next) × (q.descriptors ≡ p.descriptors)
FreeLeads p (Do.Go f q) = (q.next ≡ p.next) × (q.descriptors ≡ p.descriptors)
FreeLeads p (Do.Emit e f q) = (q.next ≡ p.next) × (q.descriptors ≡ shut p.descriptors (closes (event_of p.ring e)))
FreeLeads p (Do.Wait e f q) = (q.next ≡ p.next) × (q.descriptors ≡ p.descriptors)
FreeLeads p (Do.Call g f q) = (q.next ≡ p.next) × (q.descriptors ≡ p.descriptors)

-- what is let go of is closed as it is told
told-closed : (ds : Descriptors) (o : Option ℕ) → shut ds o ≡ shut ds (closes (closed_event o))
told-closed ds None = refl
told-closed ds (Some fd) = refl

begin-leads : (x : Obj) (o : Option Row) (p : Pool) → FreeLeads p (begin_step x o p)
begin-leads x None p = (refl, refl)
begin-leads x (Some r) p = each r.mark
  where
    each : (m : Mark) → FreeLeads p (begin_by x r.kind r.hook m p)
    each mark.Quiet = by_test (is_request r.kind)
        (λ t. rw t (refl, refl))
        (λ t. rw t (by_test (is_queue r.kind) (λ u. rw u (refl, refl)) (λ u. rw u (by_test (nat_eq r.hook 0) (λ v. rw v (refl, refl)) (λ v. rw v (refl, refl))))))
    each mark.Asked = (refl, refl)
    each mark.Busy = (refl, told-closed p.descriptors (closes_with p.ring x))
    each mark.Doomed = (refl, refl)
    each (mark.Dying former) = (refl, refl)

free-leads : (f : FreeFrame) (p : Pool) → FreeLeads p (free_step f p)
free-leads (Unlinking o x) p = each (newest_ref_of p.rows o x)
  where
    each : (r : Option Obj) → FreeLeads p (unlink_step x r p)
    each None = (refl, refl)
    each (Some r) = (refl, refl)
free-leads (Releasing x) p = each (newest_ref p.rows x)
  where
    each : (r : Option Obj) → FreeLeads p (release_step x r p)
    each None = (refl, refl)
    each (Some r) = by_test (is_inside p.rows (Of r) (Of x)) (λ t. rw t (refl, refl)) (λ t. rw t (refl, refl))
free-leads (Giving x o) p = (refl, refl)
free-leads (Beginning x) p = each (newest_ref p.rows x)
  where
    each : (r : Option Obj) → FreeLeads p (refs_step x r p)
    each None = begin-leads x (row_of p.rows x) p
    each (Some r) = by_test (is_inside p.rows (Of r) (Of x)) (λ t. rw t (refl, refl)) (λ t. rw t (refl, refl))
free-leads (Hooked x h) p = (refl, refl)
free-leads (Judged x h v) p = by_test (nat_eq v 0) (λ t. rw t (refl, refl)) (λ t. rw t (refl, refl))
free-leads (Preparing x) p = (refl, refl)
free-leads (Draining x) p = (refl, refl)
free-leads (Prepared x) p = (refl, refl)
free-leads (Dooming x) p = (refl, refl)
free-leads (Leaving x h) p = (refl, told-closed p.descriptors (closes_with p.ring x))
free-leads (Looping x purpose) p = each (first_kid p.rows (Of x))
  where
    last : (purpose : Purpose) → FreeLeads p (last_step x purpose p)
    last (Removal h) = (refl, refl)
    last Emptying = (refl, refl)

    child : (c : Obj) (o : Option Obj) → FreeLeads p (child_step x c purpose o p)
    child c None = (refl, refl)
    child c (Some t) = (refl, refl)

    each : (c : Option Obj) → FreeLeads p (loop_step x purpose c p)
    each None = last purpose
    each (Some c) = child c (target_at p.rows c)
free-leads (FreeingChild x c noted purpose) p = (refl, refl)
free-leads (AfterChild x c noted purpose answer) p = each answer
  where
    hand : FreeLeads p (hand_on_step x c noted purpose p)
    hand = by_test (is_below (owner_of p.rows c) (Of x)) (λ t. rw t (refl, refl)) (λ t. rw t (refl, refl))

    each : (a : FreeReply) → FreeLeads p (tried_step x c noted purpose a p)
    each free_reply.Ok = (refl, refl)
    each free_reply.Held = hand
    each free_reply.Running = hand
    each (free_reply.Refused v) = hand
free-leads (Ending answer) p = (refl, refl)

run-starts : (f : FreeFrame) → IsStart (run_for f)
run-starts (Hooked x h) = (refl, refl)
run-starts (Preparing x) = tt
run-starts (Draining x) = tt
run-starts _ = tt

free-works : (p : Pool) (m : FreeMove) → FreeLeads p m → LeadsWork p (lifted p.ring m)
free-works p (Do.Done a q) n = n
free-works p (Do.Go f q) n = (tt, n.0, n.1)
free-works p (Do.Emit e f q) n = told (event_of p.ring e) n.1
  where
    told : (o : Option Event) → q.descriptors ≡ shut p.descriptors (closes o) → LeadsWork p (announced o f q)
    told None d = (tt, n.0, d)
    told (Some e) d = (tt, tt, n.0, d)
free-works p (Do.Wait e f q) n = (run-starts f, tt, n.0, n.1)
free-works p (Do.Call g f q) n = (tt, tt, n.0, n.1)

-- ---- turns

pub errand-starts : (errand : Errand) (x : Obj) → IsStart (work_of errand x)
errand-starts (Finish s) x = tt
errand-starts Notify x = tt
errand-starts Receive x = tt
errand-starts Cancel x = tt

-- looking for what comes closes nothing
due-closes : (x : Obj) (now : ℕ) (p : Pool) → (pool_after (due_now x now p)).descriptors ≡ p.descriptors
due-closes x now p = by_test (is_noted p.requests x) (λ t. rw t refl) (λ t. rw t refl)

look-closes : (f : TurnFrame) (p : Pool) → IsLook f → (pool_after (turn_step f p)).descriptors ≡ p.descriptors
look-closes Taking p i = each (first (soon_here p))
  where
    due : (o : Option Due) → (pool_after (due_step o p)).descriptors ≡ p.descriptors
    due None = refl
    due (Some d) = by_test (nat_eq d.time 0) (λ t. rw t (due-closes d.object 0 p)) (λ t. rw t refl)

    each : (o : Option Coming) → (pool_after (taking_step o p)).descriptors ≡ p.descriptors
    each None = due (first (times_here p))
    each (Some y) = by_test (is_noted p.requests y.object) (λ t. rw t refl) (λ t. rw t (by_test (has_queue p.queues y.object) (λ u. rw u refl) (λ u. rw u refl)))
look-closes (Timed again now) p i = each (first (times_here p))
  where
    early : (again : Bool) (d : Due) → (pool_after (early_step again d now p)).descriptors ≡ p.descriptors
    early true d = refl
    early false d = refl

    each : (o : Option Due) → (pool_after (timed_step again now o p)).descriptors ≡ p.descriptors
    each None = refl
    each (Some d) = by_test (nat_le d.time now) (λ t. rw t (due-closes d.object now p)) (λ t. rw t (early again d))
look-closes _ p i = absurd i

passes-works : (p : Pool) (m : Step) → Passes p m → (pool_after m).descriptors ≡ p.descriptors → LeadsWork p m
passes-works p _ (Pass t r rows next notes queues turning times plain) d = (tt, next, d)
passes-works p _ (Trigger x r rows next notes queues turning times queue) d = (tt, tt, next, d)
passes-works p _ (Serve errand x r rows next notes queues turning times served noted) d = (errand-starts errand x, tt, next, d)

begun-next : (what : What) (x : Obj) (p : Pool) → ((begun what x p).next ≡ p.next) × ((begun what x p).descriptors ≡ p.descriptors)
begun-next Descriptor x p = (refl, refl)
begun-next _ x p = (refl, refl)

turn-works : (f : TurnFrame) (p : Pool) → LeadsWork p (turn_step f p)
turn-works Taking p = passes-works p (turn_step Taking p) (look-passes Taking p tt) (look-closes Taking p tt)
turn-works (Timing again) p = (tt, refl, λ i g e. let t = taken-plain (Timing again) p i g e in subst IsWork (sym t.1) tt, refl)
turn-works (Timed again now) p = passes-works p (turn_step (Timed again now) p) (look-passes (Timed again now) p tt) (look-closes (Timed again now) p tt)
turn-works (Polling limit) p = (tt, refl, λ i g e. let t = taken-plain (Polling limit) p i g e in subst IsWork (sym t.1) tt, refl)
turn-works (Starting what x occasion) p = each (handler_for p what x)
  where
    each : (o : Option Handler) → LeadsWork p (starting_step what x occasion o p)
    each None = (tt, refl, refl)
    each (Some h) = let b = begun-next what x p in (tt, b.0, b.1)
turn-works (Firing what x handler occasion) p = (tt, tt, refl, refl)
turn-works (Handling what x handler occasion) p = ((refl, refl), tt, refl, refl)
turn-works (Handled what x) p = each (goes_after p what x)
  where
    each : (b : Bool) → LeadsWork p (handled_step x b p)
    each true = (tt, tt, refl, refl)
    each false = (tt, refl, refl)
turn-works (Clearing x) p = (refl, refl)
turn-works (Serving x) p = (refl, refl)
turn-works (Parting c v) p = (refl, refl)
turn-works (Closing v) p = each p.turning
  where
    parts : (c : Obj) (b : Bool) → LeadsWork p (parting_step c v b p)
    parts c true = (tt, tt, refl, refl)
    parts c false = (refl, refl)

    each : (o : Option Obj) → LeadsWork p (closing_step v o p)
    each None = (refl, refl)
    each (Some c) = parts c (is_doomed p c)

-- ---- requests

request-works : (f : RequestFrame) (p : Pool) → LeadsWork p (request_step f p)
request-works (request.Finishing x state) p = (tt, tt, refl, refl)
request-works (request.Receiving x) p = each (is_unreceived (note_of p.requests x))
  where
    each : (b : Bool) → LeadsWork p (receiving_step x b p)
    each true = (tt, tt, refl, refl)
    each false = (tt, refl, refl)
request-works (request.Cancelling x) p = each (cancel_in (note_of p.requests x))
  where
    each : (o : Option Handler) → LeadsWork p (cancelling_step x o p)
    each None = (tt, refl, refl)
    each (Some handler) = (tt, refl, refl)
request-works (request.Cleaning x errand) p = each (cleanup_in (note_of p.requests x))
  where
    each : (o : Option Handler) → LeadsWork p (cleaning_step x errand o p)
    each None = (tt, refl, refl)
    each (Some handler) = (tt, refl, refl)
request-works (request.Cleaned x errand) p = each errand (note_of p.requests x)
  where
    releases : (plan : Plan) → LeadsWork p (release_object plan Receive p)
    releases (Frees c) = (tt, tt, refl, refl)
    releases (Unlinks o c) = (tt, tt, refl, refl)
    releases _ = (tt, refl, refl)

    each : (errand : Errand) (o : Option Note) → LeadsWork p (cleaned_step x errand o p)
    each errand None = (tt, refl, refl)
    each Receive (Some n) = releases (planned p (call.Free n.child))
    each _ (Some n) = (tt, refl, refl)
request-works (request.Notifying x errand) p = each (note_of p.requests x)
  where
    back : (o : Option Handler) → LeadsWork p (callback_step x errand o p)
    back None = (tt, refl, refl)
    back (Some handler) = (tt, refl, refl)

    each : (o : Option Note) → LeadsWork p (notifying_step x errand o p)
    each None = (tt, refl, refl)
    each (Some n) = deferred n.deferred
      where
        deferred : (o : Option Obj) → LeadsWork p (deferred_step x errand o n.callback p)
        deferred (Some c) = by_test (is_usable p.rows c) (λ t. rw t (tt, refl, refl)) (λ t. rw t (tt, refl, refl))
        deferred None = back n.callback
request-works (request.Calling what x handler errand) p = (tt, tt, refl, refl)
request-works (request.Called what x handler errand) p = ((refl, refl), tt, refl, refl)
request-works (request.Releasing c) p = (refl, refl)
request-works (request.Vacating x) p = each (head_of p.queues x)
  where
    each : (o : Option Head) → LeadsWork p (vacating_step x o (run_queue p x false))
    each None = (tt, refl, refl)
    each (Some h) = (tt, tt, refl, refl)
request-works (request.Dropping q e) p = (refl, refl)
request-works (request.Triggering x) p = each (next_of p.queues x)
  where
    each : (o : Option Head) → LeadsWork p (triggering_step o p)
    each None = (tt, refl, refl)
    each (Some h) = (tt, tt, refl, refl)
request-works (request.Over r) p = (refl, refl)

pub works : (f : Frame) (p : Pool) → IsWork f → LeadsWork p (step f p)
works (frame.Call f) p w = absurd w
works (frame.Outside f) p w = absurd w
works (frame.Free f) p w = free-works p (free_step f p) (free-leads f p)
works (frame.Turn f) p w = turn-works f p
works (frame.Request f) p w = request-works f p
