-- Each step leaves what waits as it must be.
use Rattle.std.proofs.Common.{◌≡◌, ℕ, List, [], ◌∷◌, Option, Some, None, Bool, true, false, nat_eq, nat_le, ◌<◌, arith, refl, sym, ◌∙◌, ap, subst}
use Rattle.tree_specs.specs.declared.object.Obj.{Obj}
use Rattle.tree_specs.specs.declared.object.Owner.{Owner}
use Rattle.tree_specs.specs.declared.object.Owner.TheVariants.{Of}
use Rattle.tree_specs.specs.declared.row.Row.{Row}
use Rattle.tree_specs.specs.declared.row.Mark.TheVariants.{Quiet, Busy}
use Rattle.tree_specs.specs.declared.due.Due.{Due}
use Rattle.tree_specs.specs.declared.handler.Handler.{Handler}
use Rattle.tree_specs.specs.declared.moment.What.{What}
use Rattle.tree_specs.specs.declared.moment.What.TheVariants.{Immediate, Timer, Descriptor}
use Rattle.std.specs.Prelude.{◌+◌, is_some, codes}
use Rattle.tree_specs.specs.Words.Objects.{first_context, same}
use Rattle.tree_specs.specs.declared.kind.Kind.{Kind}
use Rattle.tree_specs.specs.declared.kind.Kind.TheVariants as kind
use Rattle.tree_specs.specs.declared.call.Call.TheVariants as call
use Rattle.tree_specs.specs.declared.request.Note.{Note}
use Rattle.tree_specs.specs.declared.request.State.{State}
use Rattle.tree_specs.specs.declared.request.State.TheVariants.{Received}
use Rattle.tree_specs.specs.declared.frame.Errand.{Errand}
use Rattle.tree_specs.specs.declared.frame.Errand.TheVariants.{Receive}
use Rattle.tree_specs.specs.declared.frame.RequestFrame.{RequestFrame}
use Rattle.tree_specs.specs.declared.frame.RequestFrame.TheVariants as request
use Rattle.tree_specs.specs.Events.Requests.{note_of, is_noted, is_unreceived, new_note, cleanup_in, cancel_in, cleaned, not_deferring}
use Rattle.tree_specs.specs.Events.Queues.{Head, has_queue, head_of, next_of, with_entry, new_entry}
use Rattle.tree_specs.specs.Calls.Refusals.{is_doomed, is_request, is_request_row, is_queue_row}
use Rattle.tree_specs.specs.Invariants.Noted.{IsCalm, NotesHold, Noted}
use Rattle.tree_specs.specs.declared.notice.Notice.{Notice}
use Rattle.tree_specs.specs.declared.question.Ask.{Ask}
use Rattle.tree_specs.specs.declared.question.Ask.TheVariants as ask
use Rattle.tree_specs.specs.declared.frame.Frame.{Frame}
use Rattle.tree_specs.specs.declared.frame.Frame.TheVariants as frame
use Rattle.tree_specs.specs.declared.frame.CallFrame.TheVariants.{Asking, Doing}
use Rattle.tree_specs.specs.declared.frame.TurnFrame.{TurnFrame}
use Rattle.tree_specs.specs.declared.frame.OutsideFrame.{OutsideFrame}
use Rattle.tree_specs.specs.declared.frame.OutsideFrame.TheVariants.{Opening}
use Rattle.tree_specs.specs.declared.frame.TurnFrame.TheVariants.{Closing, Taking, Timed, Starting, Handled}
use Rattle.tree_specs.specs.Tree.Pool.{enter, exit, soon_here, times_here, is_usable, Pool, row_of, add, note, add_request, add_queue, add_entry, run_queue, trigger, schedule, unschedule, disarm, renote, finish}
use Rattle.tree_specs.specs.declared.call.Call.{Call}
use Rattle.tree_specs.specs.declared.coming.Coming.{Coming}
use Rattle.tree_specs.specs.Calls.Plans.{Change, Plan, planned, changed_by, planned_at}
use Rattle.tree_specs.specs.Calls.Plans.Change.{Enter, Nothing, Edit, Add, Place, Handle, Schedule, Unschedule, Arm, Watches, Rewatch, Close, TakeNumber, AddRequest, Renotes, Runs, AddQueue, AddEntry, LooksAt, Then}
use Rattle.tree_specs.specs.Calls.Plans.Plan.{Does, Frees, Unlinks, Turns, Works}
use Rattle.tree_specs.specs.Events.Pending.{first}
use Rattle.tree_specs.specs.Events.Handlers.{handler_of}
use Rattle.tree_specs.specs.Events.Rotation.{is_watching}
use Rattle.tree_specs.specs.Events.Coming.{handler_for, rotated, goes_after}
use Rattle.tree_specs.specs.Machine.FreeTable.{free_step}
use Rattle.tree_specs.specs.Machine.Table.{closing_step, notice_step, plan_step, turning_step, due_step, taking_step, timed_step, early_step, due_now, starting_step, handled_step, turn_step, outside_step, cancelling_step, cleaning_step, release_object, cleaned_step, callback_step, deferred_step, notifying_step, vacating_step, triggering_step, request_step, step}
use Rattle.tree_specs.specs.Invariants.Sound.{ValidAt, phases, Rests, Sound}
use Rattle.tree_specs.specs.Invariants.Queued.{QueuesHold}
use Rattle.tree_specs.specs.Invariants.Awaiting.{waits_as, waits_as_row, is_event, is_event_row, MayCome, IsHandled, Awaits, pool_after}
use Rattle.tree_specs.proofs.Tree.Numbered.{by_test, same-false}
use Rattle.tree_specs.proofs.Calls.Plans.{May, may-planned-at}
use Rattle.tree_specs.proofs.Calls.Changes.{MayDo, change-sound}
use Rattle.tree_specs.proofs.Calls.NewEvents.{request-no-context, AreNew, OnlyNew, quiet-spared, new-events}
use Rattle.tree_specs.proofs.Events.Awaiting.{changed-awaits, marked-awaits, placed-awaits, added-awaits}
use Rattle.tree_specs.proofs.Events.AwaitingLists.{looked-awaits, kept-awaits, handled-awaits, scheduled-awaits, armed-awaits, unscheduled-awaits, disarmed-awaits, watching-awaits, rewatched-awaits, turned-awaits, opened-awaits, closed-awaits}
use Rattle.tree_specs.proofs.Events.LiveContexts.{usable-context}
use Rattle.tree_specs.proofs.Events.AwaitingFrees.{comes, free-awaits, lifted-awaits}
use Rattle.tree_specs.proofs.Calls.Checks.{planned-at-by}

-- ---- calls

-- a new number is nobody's
fresh : (next : ℕ) (o : Option Row) → ValidAt next o (record { 0 = next }) → o ≡ None
fresh next None v = refl
fresh next (Some r) v = let l : next < next = v.1 in absurd (omega arith)

-- and so it watches nothing
unwatching : (p : Pool) → ((x : Obj) → ValidAt p.next (row_of p.rows x) x) → Awaits p → is_watching p.ring (record { 0 = p.next }) ≡ false
unwatching p valid a =
    let n : Obj = record { 0 = p.next } in
    by_test (is_watching p.ring n)
    (λ t. absurd (let comes : MayCome Descriptor None = rw (fresh p.next (row_of p.rows n) (valid n)) at (a.events Descriptor n t).0 in comes))
    (λ t. t)

-- a new request, with its object
requested-awaits : (p : Pool) (o : Owner) (size : ℕ) (name : List ℕ) → ((x : Obj) → ValidAt p.next (row_of p.rows x) x) → Awaits p → Awaits (add_request p o size name)
requested-awaits p o size name valid a =
    let x : Obj = record { 0 = p.next } in
    let b : Pool = note (add p kind.Request o 0 (codes "req")) x (new_note (record { 0 = p.next + 1 })) in
    let one = added-awaits p kind.Request o 0 (codes "req") (fresh p.next _ (valid x)) a in
    added-awaits b kind.Plain (Of x) size name later (kept-awaits (add p kind.Request o 0 (codes "req")) b one refl refl refl refl refl refl)
  where
    apart : same (record { 0 = p.next }) (record { 0 = p.next + 1 }) ≡ false
    apart = same-false (record { 0 = p.next }) (record { 0 = p.next + 1 }) (λ e. let e' : p.next ≡ p.next + 1 = ap (λ (z : Obj). z.0) e in absurd (omega arith))

    later : row_of (add p kind.Request o 0 (codes "req")).rows (record { 0 = p.next + 1 }) ≡ None
    later = rw apart (each (row_of p.rows (record { 0 = p.next + 1 })) (valid (record { 0 = p.next + 1 })))
      where
        each : (q : Option Row) → ValidAt p.next q (record { 0 = p.next + 1 }) → q ≡ None
        each None v = refl
        each (Some r) v = let l : p.next + 1 < p.next = v.1 in absurd (omega arith)

-- a new entry, whose queue comes soon where it is the first
entered-awaits : (p : Pool) (q x : Obj) (trigger : Handler) → row_of p.rows (record { 0 = p.next }) ≡ None → is_queue_row (row_of p.rows q) ≡ true → MayCome Immediate (row_of p.rows q) → IsHandled (row_of p.rows q) (handler_of p.handlers q)
    → Awaits p → Awaits (add_entry p q x trigger)
entered-awaits p q x trigger nobody queue may ready a =
    let n : Obj = record { 0 = p.next } in
    let b : Pool = record (add p kind.Entry (Of x) 0 (codes "entry")) { queues = with_entry p.queues n (new_entry q x trigger) } in
    let other : row_of b.rows q ≡ row_of p.rows q = (let ne : same n q ≡ false = same-false n q (λ e. let t : is_queue_row None ≡ true = rw nobody at (subst (λ (z : Obj). is_queue_row (row_of p.rows z) ≡ true) (sym e) queue) in cc) in rw ne refl) in
    looked-awaits b q (rw other may) (rw other ready)
    (kept-awaits (add p kind.Entry (Of x) 0 (codes "entry")) b (added-awaits p kind.Entry (Of x) 0 (codes "entry") nobody a) refl refl refl refl refl refl)

-- a turn of a context begins
entered-context : (p : Pool) (c : Obj) → Awaits p → Awaits (enter p c)
entered-context p c a = by_test (same c first_context)
    (λ t. rw t a)
    (λ t. rw t (marked-awaits Busy (record p { turning = Some c }) c refl (kept-awaits p (record p { turning = Some c }) a refl refl refl refl refl refl)))

exited-context : (p : Pool) (c : Obj) → Awaits p → Awaits (exit p c)
exited-context p c a = marked-awaits Quiet (record p { turning = None }) c refl (kept-awaits p (record p { turning = None }) a refl refl refl refl refl refl)

change-awaits : (f : Frame) (fs : List Frame) (p : Pool) (c : Change) → Sound f fs p → ((q : Pool) → Rests f fs q) → MayDo p c → AreNew p c → Awaits p → Awaits (changed_by c p)
change-awaits f fs p Nothing s calm may new a = a
change-awaits f fs p (Edit x g) s calm may new a = changed-awaits g p x (record { serial = may.place.serial; kind = may.place.kind; mark = λ r l. rw (may.mark r) l }) a
change-awaits f fs p (Add kind o size name) s calm may new a = added-awaits p kind o size name (fresh p.next _ (s.valid (record { 0 = p.next }))) a
change-awaits f fs p (Place o x) s calm may new a = placed-awaits p o x may a
change-awaits f fs p (Handle x handler) s calm may new a = handled-awaits p x handler may a
change-awaits f fs p (Schedule x c) s calm may new a = scheduled-awaits p x c (comes Immediate (row_of p.rows x) may.comes new.0) may.ready new.1 a
change-awaits f fs p (Unschedule x) s calm may new a = unscheduled-awaits p x a
change-awaits f fs p (Arm x time number c) s calm may new a = armed-awaits p x time number c (comes Timer (row_of p.rows x) may.comes new.0) may.ready new.1 a
change-awaits f fs p (Watches x fd flags c) s calm may new a = watching-awaits p x fd flags c may.comes (λ i. may.ready) new.0 may.free may.open_one new.1 a
change-awaits f fs p (Rewatch x g) s calm may new a = rewatched-awaits p x g may.object may.fd may.context a
change-awaits f fs p (Close fd) s calm may new a = closed-awaits p fd may a
change-awaits f fs p (AddRequest o size name) s calm may new a = requested-awaits p o size name s.valid a
change-awaits f fs p TakeNumber s calm may new a = kept-awaits p (changed_by TakeNumber p) a refl refl refl refl refl refl
change-awaits f fs p (Renotes x g) s calm may new a = kept-awaits p (changed_by (Renotes x g) p) a refl refl refl refl refl refl
change-awaits f fs p (Runs q b) s calm may new a = kept-awaits p (run_queue p q b) a refl refl refl refl refl refl
change-awaits f fs p (AddQueue o name) s calm may new a =
    kept-awaits (add p kind.Queue o 0 name) (add_queue p o name) (added-awaits p kind.Queue o 0 name (fresh p.next _ (s.valid (record { 0 = p.next }))) a) refl refl refl refl refl refl
change-awaits f fs p (AddEntry q x trigger) s calm may new a = entered-awaits p q x trigger may.3 may.2 (comes Immediate (row_of p.rows q) may.1.comes new) may.1.ready a
change-awaits f fs p (LooksAt q) s calm may new a = looked-awaits p q (comes Immediate (row_of p.rows q) may.comes new) may.ready a
change-awaits f fs p (Enter c) s calm may new a = entered-context p c a
change-awaits f fs p (Then c d) s calm may new a =
    let t = change-sound f f fs p c s may.0 (λ y. refl) calm (calm (changed_by c p)) in
    change-awaits f fs (changed_by c p) d t calm may.1 new.1 (change-awaits f fs p c s calm may.0 new.0 a)

turning-awaits : (q : Ask) (x : Obj) (p : Pool) → Awaits p → Awaits (pool_after (turning_step q x p))
turning-awaits ask.Quiet x p a = entered-context p x a
turning-awaits _ x p a = a

planned-awaits : (q : Ask) (c : Call) (fs : List Frame) (p : Pool) → Sound (frame.Call (Doing q c)) fs p → (plan : Plan) → May p plan → OnlyNew p plan → Awaits p → Awaits (pool_after (plan_step q plan p))
planned-awaits q c fs p s (Does change notice r) may new a = each notice
  where
    each : (notice : Option Notice) → Awaits (pool_after (notice_step notice q r (changed_by change p)))
    each None = change-awaits (frame.Call (Doing q c)) fs p change s (λ q'. tt) may.0 new a
    each (Some n) = change-awaits (frame.Call (Doing q c)) fs p change s (λ q'. tt) may.0 new a
planned-awaits q c fs p s (Turns x) may new a = turning-awaits q x p a
planned-awaits q c fs p s (Works change errand x) may new a = change-awaits (frame.Call (Doing q c)) fs p change s (λ q'. tt) may.0 new a
planned-awaits q c fs p s _ may new a = a

-- ---- turns

-- a time has come
has-come : (x : Obj) (now : ℕ) (p : Pool) → Awaits p → Awaits (pool_after (due_now x now p))
has-come x now p a = by_test (is_noted p.requests x) (λ t. rw t (disarmed-awaits p x a)) (λ t. rw t (disarmed-awaits p x a))

taking : (p : Pool) → Awaits p → Awaits (pool_after (turn_step Taking p))
taking p a = each (first (soon_here p))
  where
    due : (o : Option Due) → Awaits (pool_after (due_step o p))
    due None = a
    due (Some d) = by_test (nat_eq d.time 0) (λ t. rw t (has-come d.object 0 p a)) (λ t. rw t a)

    each : (o : Option Coming) → Awaits (pool_after (taking_step o p))
    each None = due (first (times_here p))
    each (Some y) =
        let x : Obj = y.object in
        by_test (is_noted p.requests x)
        (λ t. rw t (unscheduled-awaits p x a))
        (λ t. by_test (has_queue p.queues x) (λ u. rw (t, u) (unscheduled-awaits p x a)) (λ u. rw (t, u) (unscheduled-awaits p x a)))

timed : (again : Bool) (now : ℕ) (p : Pool) → Awaits p → Awaits (pool_after (turn_step (Timed again now) p))
timed again now p a = each (first (times_here p))
  where
    early : (again : Bool) (d : Due) → Awaits (pool_after (early_step again d now p))
    early true d = a
    early false d = a

    each : (o : Option Due) → Awaits (pool_after (timed_step again now o p))
    each None = a
    each (Some d) = by_test (nat_le d.time now) (λ t. rw t (has-come d.object now p a)) (λ t. rw t (early again d))

-- an event that comes goes to the end of the rotation
rotated-awaits : (w : What) (x : Obj) (p : Pool) → Awaits p → Awaits (rotated w x p)
rotated-awaits Descriptor x p a = turned-awaits p x a
rotated-awaits _ x p a = a

turn-awaits : (f : TurnFrame) (p : Pool) → Awaits p → Awaits (pool_after (turn_step f p))
turn-awaits Taking p a = taking p a
turn-awaits (Timed again now) p a = timed again now p a
turn-awaits (Starting w x occasion) p a = each (handler_for p w x)
  where
    each : (o : Option Handler) → Awaits (pool_after (starting_step w x occasion o p))
    each None = a
    each (Some h) = marked-awaits Busy (rotated w x p) x refl (rotated-awaits w x p a)
turn-awaits (Handled w x) p a = each (goes_after p w x)
  where
    each : (b : Bool) → Awaits (pool_after (handled_step x b p))
    each true = marked-awaits Quiet p x refl a
    each false = marked-awaits Quiet p x refl a
turn-awaits (Closing v) p a = each p.turning
  where
    each : (o : Option Obj) → Awaits (pool_after (closing_step v o p))
    each None = a
    each (Some c) = by_test (is_doomed p c) (λ t. rw t (exited-context p c a)) (λ t. rw t (exited-context p c a))
turn-awaits _ p a = a

-- ---- questions to the outside

outside-awaits : (f : OutsideFrame) (p : Pool) → Awaits p → Awaits (pool_after (outside_step f p))
outside-awaits (Opening fd) p a = opened-awaits p fd a
outside-awaits _ p a = a

-- ---- requests

-- it goes to a state, and has no end time any more
finished-awaits : (p : Pool) (x : Obj) (s : State) → Awaits p → Awaits (finish p x s)
finished-awaits p x s a = kept-awaits (disarm p x) (finish p x s) (disarmed-awaits p x a) refl refl refl refl refl refl

module _ (fs : List Frame) (p : Pool) (a : Awaits p) where
  cancelling : (x : Obj) (o : Option Handler) → Awaits (pool_after (cancelling_step x o p))
  cancelling x None = a
  cancelling x (Some handler) = a

  cleaning : (x : Obj) (errand : Errand) (o : Option Handler) → Awaits (pool_after (cleaning_step x errand o p))
  cleaning x errand None = a
  cleaning x errand (Some handler) = kept-awaits p (renote p x cleaned) a refl refl refl refl refl refl

  cleaned-object : (x : Obj) (errand : Errand) (o : Option Note) → Awaits (pool_after (cleaned_step x errand o p))
  cleaned-object x errand None = a
  cleaned-object x Receive (Some n) = releases (planned p (call.Free n.child))
    where
      releases : (plan : Plan) → Awaits (pool_after (release_object plan Receive p))
      releases (Frees c) = a
      releases (Unlinks o c) = a
      releases _ = a
  cleaned-object x _ (Some n) = a

  -- a request with which nothing goes on comes soon
  notifying : (x : Obj) (errand : Errand) → phases (row_of p.rows x) ≡ [] → NotesHold None p → (o : Option Note) → note_of p.requests x ≡ o → Awaits (pool_after (notifying_step x errand o p))
  notifying x errand quiet holds None e = a
  notifying x errand quiet holds (Some n) e = deferred n.deferred
    where
      q : Pool
      q = renote p x not_deferring

      row : is_request_row (row_of p.rows x) ≡ true
      row = sym (holds.notes x) ∙ ap is_some e

      kinds : (k : Kind) → is_request k ≡ true → (waits_as Immediate k ≡ true) × (is_event k ≡ false)
      kinds kind.Request t = (refl, refl)
      kinds _ t = cc

      waits : (o : Option Row) → is_request_row o ≡ true → (waits_as_row Immediate o ≡ true) × (is_event_row o ≡ false)
      waits None t = cc
      waits (Some r) t = kinds r.kind t

      kept : Awaits q
      kept = kept-awaits p q a refl refl refl refl refl refl

      comes-soon : (c : Obj) → is_usable p.rows c ≡ true → Awaits (schedule q x c)
      comes-soon c t =
          let w = waits (row_of p.rows x) row in
          scheduled-awaits q x c (comes Immediate (row_of p.rows x) w.0 (quiet-spared (row_of p.rows x) (request-no-context (row_of p.rows x) row) quiet)) (λ i. let bad : true ≡ false = sym i ∙ w.1 in cc)
          (usable-context p.rows c t) kept

      back : (o : Option Handler) → Awaits (pool_after (callback_step x errand o p))
      back None = a
      back (Some handler) = a

      deferred : (o : Option Obj) → Awaits (pool_after (deferred_step x errand o n.callback p))
      deferred None = back n.callback
      deferred (Some c) = by_test (is_usable p.rows c) (λ t. rw t (comes-soon c t)) (λ t. rw t kept)

-- a queue is emptied, or triggers its first entry
module _ (p : Pool) (a : Awaits p) where
  vacating : (q : Obj) (o : Option Head) → Awaits (pool_after (vacating_step q o (run_queue p q false)))
  vacating q None = kept-awaits p (run_queue p q false) a refl refl refl refl refl refl
  vacating q (Some h) = kept-awaits p (run_queue p q false) a refl refl refl refl refl refl

  triggering : (o : Option Head) → Awaits (pool_after (triggering_step o p))
  triggering None = a
  triggering (Some h) = kept-awaits p (trigger p h) a refl refl refl refl refl refl

request-awaits : (f : RequestFrame) (fs : List Frame) (p : Pool) → Sound (frame.Request f) fs p → Noted (frame.Request f) p → IsCalm (frame.Request f) fs → Awaits p → Awaits (pool_after (request_step f p))
request-awaits (request.Finishing x s) fs p sound n c a = finished-awaits p x s a
request-awaits (request.Receiving x) fs p sound n c a = by_test (is_unreceived (note_of p.requests x))
    (λ t. rw t (finished-awaits (unschedule p x) x Received (unscheduled-awaits p x a)))
    (λ t. rw t a)
request-awaits (request.Cancelling x) fs p sound n c a = cancelling fs p a x (cancel_in (note_of p.requests x))
request-awaits (request.Cleaning x errand) fs p sound n c a = cleaning fs p a x errand (cleanup_in (note_of p.requests x))
request-awaits (request.Cleaned x errand) fs p sound n c a = cleaned-object fs p a x errand (note_of p.requests x)
request-awaits (request.Notifying x errand) fs p sound n c a = notifying fs p a x errand (sym (sound.open_frees x) ∙ c) n.pool (note_of p.requests x) refl
request-awaits (request.Vacating q) fs p sound n c a = vacating p a q (head_of p.queues q)
request-awaits (request.Triggering q) fs p sound n c a = triggering p a (next_of p.queues q)
request-awaits _ fs p sound n c a = a

-- ---- all

-- every step leaves what waits as it must be
pub step-awaits : (f : Frame) (fs : List Frame) (p : Pool) → Sound f fs p → Noted f p → QueuesHold (f ∷ fs) p → IsCalm f fs → Awaits p → Awaits (pool_after (step f p))
step-awaits (frame.Call (Doing q c)) fs p s n h c' a = planned-awaits q c fs p s (planned_at q p c) (may-planned-at (frame.Call (Doing q c)) fs p s q c) (planned-at-by (OnlyNew p) q p c (new-events p (unwatching p s.valid a) (fresh p.next _ (s.valid (record { 0 = p.next }))) n.pool c) (λ t. tt)) a
step-awaits (frame.Call (Asking q)) fs p s n h c a = a
step-awaits (frame.Call _) fs p s n h c a = a
step-awaits (frame.Free f) fs p s n h c a = lifted-awaits p.ring (free_step f p) (free-awaits f fs p s h a)
step-awaits (frame.Turn f) fs p s n h c a = turn-awaits f p a
step-awaits (frame.Outside f) fs p s n h c a = outside-awaits f p a
step-awaits (frame.Request f) fs p s n h c a = request-awaits f fs p s n c a
