-- What each step of a free keeps of what holds of queues.
use Rattle.std.proofs.Common.{◌≡◌, ◌≢◌, ℕ, List, [], ◌∷◌, Option, Some, None, true, false, nat_eq, refl, sym, ap, subst, ◌∙◌, inl, inr}
use Rattle.std.specs.Prelude.{unwrap_or, ◌++◌, if◌then◌else◌}
use Rattle.step_machine.specs.Machine.{Move, Move as Do}
use Rattle.step_machine.proofs.Ends.{Leads}
use Rattle.tree_specs.specs.declared.object.Obj.{Obj}
use Rattle.tree_specs.specs.declared.object.Owner.{Owner}
use Rattle.tree_specs.specs.declared.object.Owner.TheVariants.{Root, Of}
use Rattle.tree_specs.specs.declared.kind.Kind.{Kind}
use Rattle.tree_specs.specs.declared.kind.Kind.TheVariants as kind
use Rattle.tree_specs.specs.declared.row.Row.{Row}
use Rattle.tree_specs.specs.declared.row.Mark.{Mark}
use Rattle.tree_specs.specs.declared.row.Mark.TheVariants.{Quiet, Asked, Busy, Doomed, Dying}
use Rattle.tree_specs.specs.declared.event.Event.{Event}
use Rattle.tree_specs.specs.declared.watch.Watch.{Watch}
use Rattle.tree_specs.specs.declared.queue.QueueEntry.{QueueEntry}
use Rattle.tree_specs.specs.declared.handler.Handler.{Handler}
use Rattle.tree_specs.specs.declared.moment.What.{What}
use Rattle.tree_specs.specs.declared.moment.What.TheVariants as whats
use Rattle.tree_specs.specs.declared.frame.Errand.{Errand}
use Rattle.tree_specs.specs.declared.frame.Frame.{Frame}
use Rattle.tree_specs.specs.declared.frame.Frame.TheVariants as frame
use Rattle.tree_specs.specs.declared.frame.CallFrame.TheVariants.{Awaiting, Turning, Requesting}
use Rattle.tree_specs.specs.declared.frame.TurnFrame.TheVariants.{Parting, Handling, Clearing, Serving}
use Rattle.tree_specs.specs.declared.frame.FreeFrame.{FreeFrame}
use Rattle.tree_specs.specs.declared.frame.FreeFrame.TheVariants.{Unlinking, Releasing, Giving, Beginning, Hooked, Judged, Preparing, Draining, Prepared, Dooming, Leaving, Looping, FreeingChild, AfterChild, Ending}
use Rattle.tree_specs.specs.declared.frame.RequestFrame.TheVariants as request
use Rattle.tree_specs.specs.declared.frame.Purpose.{Purpose}
use Rattle.tree_specs.specs.declared.frame.Purpose.TheVariants.{Removal, Emptying}
use Rattle.tree_specs.specs.declared.frame.Answer.{Answer}
use Rattle.tree_specs.specs.declared.frame.Answer.TheVariants.{Freed}
use Rattle.tree_specs.specs.declared.free_step.FreeReply.{FreeReply}
use Rattle.tree_specs.specs.declared.free_step.FreeStep.TheVariants.{Dropped as IsDropped}
use Rattle.tree_specs.specs.declared.free_step.FreeReply.TheVariants.{Ok, Held, Running, Refused}
use Rattle.tree_specs.specs.Words.Objects.{same}
use Rattle.tree_specs.specs.Tree.Targets.{target_of, newest_ref, is_context}
use Rattle.tree_specs.specs.Tree.Heirs.{heir}
use Rattle.tree_specs.specs.Tree.Pool.{Pool, row_of, target_at, is_below, owner_of, noted_owner, newest_ref_of, is_inside, first_kid, passes, remove, left_row, doom, set_mark, marked_row, hooked_row, place}
use Rattle.tree_specs.specs.Tree.Forest.{Distinct}
use Rattle.tree_specs.specs.Events.Queues.{entry_of, is_entered, has_entries}
use Rattle.tree_specs.specs.Calls.Refusals.{is_doomed_mark, is_request, is_queue, is_entry, is_queue_row, is_request_row}
use Rattle.tree_specs.specs.Rules.Items.{Item}
use Rattle.tree_specs.specs.Machine.FreeTable.{FreeMove, begin_quiet, begin_step, refs_step, unlink_step, release_step, last_step, child_step, loop_step, hand_on_step, tried_step, free_step}
use Rattle.tree_specs.specs.Machine.Profiles.{Phase, InRun, InLoop, free_profile}
use Rattle.tree_specs.specs.Machine.Table.{table, resume, reply_in, value_in, run_for, announced, event_of, lifted}
use Rattle.tree_specs.specs.Invariants.Sound.{IsWaiting, Footing, OnFree, OnRequesting, footing, phases, phase_of, claims, claim, AllWait, IsReferable, IsRequested, IsLive, Sound}
use Rattle.tree_specs.specs.Invariants.Consistent.{IsFree, IsWork, IsStacked, MayStandOn}
use Rattle.tree_specs.specs.Invariants.Queued.{IsEntryRow, is_live_entry, drains, QueuesHold, IsNoEntry, EndsFor, OverFor, RestsQueued, IsThat, IsOfChild, AreOfChildren, Queued}
use Rattle.tree_specs.proofs.Tree.Numbered.{by_test, same-true, same-equal}
use Rattle.tree_specs.proofs.Tree.Rows.{childless}
use Rattle.tree_specs.proofs.Tree.Referring.{newest-refers, newest-of-refers}
use Rattle.tree_specs.proofs.Invariants.Changes.{running-row, dying-row, claim-here, heir-placed}
use Rattle.tree_specs.proofs.Invariants.Waiters.{ForParting, Waiter, ForFree, ForRun, ForChild, ForTurn, ForHandler, ForClear, ForRequest, ForServed, ForReceived, ForDrained, ForRoutine, ForRelease, ForEntry, waiter}
use Rattle.tree_specs.proofs.Events.EntryLaws.{without-same}
use Rattle.tree_specs.proofs.Invariants.Queues.{entry-unreferable, find-waiting, no-entries, same-queues, changed-queues, placed-queues, gone-queues, removed-queues}

-- what a step leads to
abbrev pub QueuedBy : Move Frame Answer Pool Item → List Frame → ℕ → Type 0
QueuedBy m fs k = Leads table (λ g gs q j. Queued g gs q) m fs k

-- ---- a work that ends

-- where nothing but that is waited for which is over
pub requested-over : (on : Footing) (p : Pool) → IsRequested on → OverFor on p
requested-over OnRequesting p h = tt
requested-over (OnFree (Preparing x)) p h = tt
requested-over _ p h = absurd h

-- one that is no work of a request or a queue stands on no queue that is being freed
pub no-work-over : (f : Frame) (fs : List Frame) (p : Pool) → (IsWork f → ⊥) → AllWait fs → IsStacked f fs → OverFor (footing fs) p
no-work-over f [] p other w s = tt
no-work-over f (g ∷ gs) p other w s = below g (waiter g gs w.0) s.0
  where
    below : (g : Frame) → Waiter g → MayStandOn f (g ∷ gs) → OverFor (footing (g ∷ gs)) p
    below _ (ForDrained x) s = absurd (other s)
    below _ _ s = tt

-- one that is no free stands on no loop
pub no-free-ends : (f : Frame) (fs : List Frame) (p : Pool) (a : FreeReply) → (IsFree f → ⊥) → AllWait fs → IsStacked f fs → EndsFor a (footing fs) p
no-free-ends f [] p a other w s = tt
no-free-ends f (g ∷ gs) p a other w s = below g (waiter g gs w.0) s.0
  where
    below : (g : Frame) → Waiter g → MayStandOn f (g ∷ gs) → EndsFor a (footing (g ∷ gs)) p
    below _ (ForChild x c noted purpose) s = absurd (other s)
    below _ _ s = tt

pub ends-ok : (on : Footing) (p : Pool) → EndsFor Ok on p
ends-ok (OnFree (FreeingChild x c noted purpose)) p = tt
ends-ok _ p = tt

-- what a loop waits for is the object of the free
ends-for : (f : FreeFrame) (x : Obj) (a : FreeReply) (on : Footing) (p : Pool) → (free_profile f).role ≡ Some x → IsOfChild (frame.Free f) on → entry_of p.queues x ≡ None → EndsFor a on p
ends-for f x a (OnFree (FreeingChild y c noted purpose)) p is of none =
    let of' : x ≡ c = rw is at of in
    let none' : entry_of p.queues c ≡ None = subst (λ (z : Obj). entry_of p.queues z ≡ None) of' none in
    no-entry a none'
  where
    no-entry : (a : FreeReply) → entry_of p.queues c ≡ None → IsNoEntry a c p
    no-entry Ok e = tt
    no-entry Held e = e
    no-entry Running e = e
    no-entry (Refused v) e = e
ends-for f x a _ p is of none = tt

-- the same object, or none
of-same : (f g : FreeFrame) (on : Footing) → ((c : Obj) → IsThat (free_profile f).role c → IsThat (free_profile g).role c) → IsOfChild (frame.Free f) on → IsOfChild (frame.Free g) on
of-same f g (OnFree (FreeingChild x c noted purpose)) is h = is c h
of-same f g _ is h = tt

-- a work that ends, over the same queues
pub ended : (a : Answer) (fs : List Frame) (p : Pool) (k : ℕ) → AllWait fs → QueuesHold fs p → AreOfChildren fs → EndsFor (reply_in a) (footing fs) p → OverFor (footing fs) p → QueuedBy (Do.Done a p) fs k
ended a [] p k w h of ends over = tt
ended a (g ∷ gs) p k w h of ends over = below g (waiter g gs w.0) w.0 h of.0 ends over
  where
    moved : (f g : Frame) → QueuesHold (f ∷ gs) p → ((y : Obj) → has_entries p.queues y ≡ true → drains y (f ∷ gs) ≡ true → drains y (g ∷ gs) ≡ true) → QueuesHold (g ∷ gs) p
    moved f g h more = same-queues (f ∷ gs) (g ∷ gs) p p h refl refl more

    after : (what : What) (x : Obj) (handler : Handler) (errand : Errand) → IsRequested (footing gs) → QueuesHold gs p → Queued (resume (frame.Request (request.Called what x handler errand)) a) gs p
    after whats.Cleanup x handler errand on h = record { pool = same-queues gs _ p p h refl refl (λ y t d. d); works = tt; frees = (tt, of.1) }
    after whats.Cancel x handler errand on h = record { pool = same-queues gs _ p p h refl refl (λ y t d. d); works = requested-over (footing gs) p on; frees = (tt, of.1) }
    after _ x handler errand on h = record { pool = same-queues gs _ p p h refl refl (λ y t d. d); works = requested-over (footing gs) p on; frees = (tt, of.1) }

    below : (g : Frame) → Waiter g → IsWaiting g gs → QueuesHold (g ∷ gs) p → IsOfChild g (footing gs) → EndsFor (reply_in a) (footing (g ∷ gs)) p → OverFor (footing (g ∷ gs)) p → Queued (resume g a) gs p
    below _ (ForFree q x) w h one ends over = record { pool = moved (frame.Call (Awaiting q x)) _ h (λ y t d. d); works = tt; frees = (tt, of.1) }
    below _ (ForRun x hook) w h one ends over =
        record { pool = moved (frame.Free (Hooked x hook)) _ h (λ y t d. d); works = tt; frees = (of-same (Hooked x hook) (Judged x hook (value_in a)) (footing gs) (λ c e. e) one, of.1) }
    below _ (ForChild x c noted purpose) w h one ends over =
        record { pool = moved (frame.Free (FreeingChild x c noted purpose)) _ h (λ y t d. d); works = ends; frees = (of-same (FreeingChild x c noted purpose) (AfterChild x c noted purpose (reply_in a)) (footing gs) (λ z e. e) one, of.1) }
    below _ (ForTurn q) w h one ends over = record { pool = moved (frame.Call (Turning q)) _ h (λ y t d. d); works = tt; frees = (tt, of.1) }
    below _ (ForHandler what x handler occasion) w h one ends over = record { pool = moved (frame.Turn (Handling what x handler occasion)) _ h (λ y t d. d); works = tt; frees = (tt, of.1) }
    below _ (ForClear x) w h one ends over = record { pool = moved (frame.Turn (Clearing x)) _ h (λ y t d. d); works = tt; frees = (tt, of.1) }
    below _ (ForParting x v) w h one ends over = record { pool = moved (frame.Turn (Parting x v)) _ h (λ y t d. d); works = tt; frees = (tt, of.1) }
    below _ (ForRequest q) w h one ends over = record { pool = moved (frame.Call (Requesting q)) _ h (λ y t d. d); works = tt; frees = (tt, of.1) }
    below _ (ForServed x) w h one ends over = record { pool = moved (frame.Turn (Serving x)) _ h (λ y t d. d); works = tt; frees = (tt, of.1) }
    below _ (ForReceived x) w h one ends over =
        record { pool = moved (frame.Free (Preparing x)) _ h (λ y t d. d); works = tt; frees = (of-same (Preparing x) (Prepared x) (footing gs) (λ c e. e) one, of.1) }
    below _ (ForDrained x) w h one ends over = record {
      pool = moved (frame.Free (Draining x)) _ h (λ y t d. by_test (same x y)
          (λ u. let t' : has_entries p.queues x ≡ true = subst (λ (z : Obj). has_entries p.queues z ≡ true) (sym (same-true x y u)) t in let bad : true ≡ false = sym t' ∙ over in cc)
          (λ u. rw u at d));
      works = tt;
      frees = (of-same (Draining x) (Prepared x) (footing gs) (λ c e. e) one, of.1);
    }
    below _ (ForRoutine what x handler errand) w h one ends over = after what x handler errand w (same-queues (frame.Request (request.Called what x handler errand) ∷ gs) gs p p h refl refl (λ y t d. d))
    below _ (ForRelease c) w h one ends over = record { pool = moved (frame.Request (request.Releasing c)) _ h (λ y t d. d); works = requested-over (footing gs) p w; frees = (tt, of.1) }
    below _ (ForEntry q e) w h one ends over = record { pool = moved (frame.Request (request.Dropping q e)) _ h (λ y t d. d); works = tt; frees = (tt, of.1) }

-- ---- what a free by itself leads to

-- over the works below it
abbrev FreeQueued : List Frame → FreeMove → Type 0
FreeQueued fs (Do.Done a p) = QueuesHold fs p × EndsFor a (footing fs) p
FreeQueued fs (Do.Go g p) = Queued (frame.Free g) fs p
FreeQueued fs (Do.Emit e g p) = Queued (frame.Free g) fs p
FreeQueued fs (Do.Wait q g p) = Queued (run_for g) (frame.Free g ∷ fs) p
FreeQueued fs (Do.Call g f p) = Queued (frame.Free g) (frame.Free f ∷ fs) p

-- among the host's works
pub lifted-queued : (ring : List Watch) (m : FreeMove) (fs : List Frame) (k : ℕ) → AllWait fs → AreOfChildren fs → ((p : Pool) → OverFor (footing fs) p) → FreeQueued fs m → QueuedBy (lifted ring m) fs k
lifted-queued ring (Do.Done a p) fs k w of over h = ended (Freed a) fs p k w h.0 of h.1 (over p)
lifted-queued ring (Do.Go f p) fs k w of over h = h
lifted-queued ring (Do.Emit e f p) fs k w of over h = each (event_of ring e)
  where
    each : (o : Option Event) → QueuedBy (announced o f p) fs k
    each None = h
    each (Some e) = h
lifted-queued ring (Do.Wait q f p) fs k w of over h = h
lifted-queued ring (Do.Call g f p) fs k w of over h = h

-- ---- what is so of an object

-- one of these works runs a destructor, or does what comes before a free
abbrev HasRun : List Phase → Type 0
HasRun [] = ⊥
HasRun (InRun ∷ l) = Unit {0}
HasRun (_ ∷ l) = HasRun l

later-run : (l m : List Phase) → HasRun m → HasRun (l ++ m)
later-run [] m h = h
later-run (InRun ∷ l) m h = tt
later-run (_ ∷ l) m h = later-run l m h

-- a queue whose entries are freed is claimed by the work that does it
drained-runs : (x : Obj) (fs : List Frame) → AllWait fs → drains x fs ≡ true → HasRun (claims x fs)
drained-runs x [] w d = cc
drained-runs x (g ∷ gs) w d = below g (waiter g gs w.0) d (drained-runs x gs w.1)
  where
    below : (g : Frame) → Waiter g → drains x (g ∷ gs) ≡ true → (drains x gs ≡ true → HasRun (claims x gs)) → HasRun (claims x (g ∷ gs))
    below _ (ForDrained y) d more = by_test (same y x) (λ t. rw t tt) (λ t. rw t (more (rw t at d)))
    below g (ForFree q y) d more = later-run (claim x g) (claims x gs) (more d)
    below g (ForRun y h) d more = later-run (claim x g) (claims x gs) (more d)
    below g (ForChild y c noted purpose) d more = later-run (claim x g) (claims x gs) (more d)
    below g (ForTurn q) d more = later-run (claim x g) (claims x gs) (more d)
    below g (ForHandler what y handler occasion) d more = later-run (claim x g) (claims x gs) (more d)
    below g (ForClear y) d more = later-run (claim x g) (claims x gs) (more d)
    below g (ForParting y v) d more = later-run (claim x g) (claims x gs) (more d)
    below g (ForRequest q) d more = later-run (claim x g) (claims x gs) (more d)
    below g (ForServed y) d more = later-run (claim x g) (claims x gs) (more d)
    below g (ForReceived y) d more = later-run (claim x g) (claims x gs) (more d)
    below g (ForRoutine what y handler errand) d more = later-run (claim x g) (claims x gs) (more d)
    below g (ForRelease c) d more = later-run (claim x g) (claims x gs) (more d)
    below g (ForEntry q e) d more = later-run (claim x g) (claims x gs) (more d)

-- what no work claims isn't drained
claims-drained : (x : Obj) (fs : List Frame) → AllWait fs → drains x fs ≡ true → claims x fs ≡ [] → ⊥
claims-drained x fs w d none = subst HasRun none (drained-runs x fs w d)

-- and what is drained isn't doomed
pub drained-spared : (f : Frame) (fs : List Frame) (p : Pool) (x : Obj) → Sound f fs p → drains x fs ≡ true → passes (λ r. is_doomed_mark r.mark) (row_of p.rows x) ≡ false
drained-spared f fs p x s d = each (row_of p.rows x) (subst HasRun (s.open_frees x) (later-run (claim x f) (claims x fs) (drained-runs x fs s.waiting d)))
  where
    marks : (k : Kind) (m : Mark) → HasRun (phase_of k m) → is_doomed_mark m ≡ false
    marks k Asked h = refl
    marks k Quiet h = absurd h
    marks k (Dying former) h = absurd h
    marks k _ h = by_test (is_context k) (λ t. absurd (rw t at h)) (λ t. absurd (rw t at h))

    each : (o : Option Row) → HasRun (phases o) → passes (λ r. is_doomed_mark r.mark) o ≡ false
    each None h = absurd h
    each (Some r) h = marks r.kind r.mark h

entry-is : (k : Kind) → is_entry k ≡ true → (is_request k ≡ false) × (is_queue k ≡ false)
entry-is kind.Entry e = (refl, refl)
entry-is _ e = cc

request-is : (k : Kind) → is_request k ≡ true → is_queue k ≡ false
request-is kind.Request e = refl
request-is _ e = cc

reference-is : (k : Kind) (t : Obj) → target_of k ≡ Some t → (is_entry k ≡ false) × (is_queue k ≡ false) × (is_request k ≡ false)
reference-is (kind.Reference t) t' e = (refl, refl, refl)
reference-is _ t e = cc

module _ (fs : List Frame) (p : Pool) (h : QueuesHold fs p) where
  -- an entry in a queue is quiet, has no destructor and isn't referred to
  unentered : (x : Obj) → ((w : QueueEntry) → IsEntryRow w.request (row_of p.rows x) → ⊥) → entry_of p.queues x ≡ None
  unentered x never = each (entry_of p.queues x) refl
    where
      each : (o : Option QueueEntry) → entry_of p.queues x ≡ o → entry_of p.queues x ≡ None
      each None e = e
      each (Some w) e = absurd (never w (find-waiting p p.queues.entries x w h.waiting e).entry)

  unquiet : (x : Obj) (r : Row) → row_of p.rows x ≡ Some r → r.mark ≢ Quiet → entry_of p.queues x ≡ None
  unquiet x r e ne = unentered x (λ w i. let i' : IsEntryRow w.request (Some r) = rw e at i in ne i'.1)

  -- nothing but its freeing goes on with a queue that has entries
  gone-through : (x : Obj) (a : Phase) (l : List Phase) → a ∷ l ≡ phases (row_of p.rows x) → (drains x fs ≡ true → ⊥) → has_entries p.queues x ≡ false
  gone-through x a l e never = by_test (has_entries p.queues x)
      (λ t. elim (h.idle x t) [
        | inl none ↦ (let bad : a ∷ l ≡ [] = e ∙ none in cc)
        | inr d ↦ absurd (never d)
      ])
      (λ t. t)

  empty : (x : Obj) (r : Row) → row_of p.rows x ≡ Some r → is_queue r.kind ≡ false → has_entries p.queues x ≡ false
  empty x r e no_queue = no-entries p p.queues.entries x h.waiting (ap is_queue_row e ∙ no_queue)

-- a reference is no more
dropped : (fs gs : List Frame) (p : Pool) (r t : Obj) → Distinct p.rows → target_at p.rows r ≡ Some t → ((y : Obj) → drains y fs ≡ true → drains y gs ≡ true) → QueuesHold fs p → QueuesHold gs (remove p r)
dropped fs gs p r t d is more h = by-row (row_of p.rows r) refl
  where
    by-row : (o : Option Row) → row_of p.rows r ≡ o → QueuesHold gs (remove p r)
    by-row None e = let bad : None ≡ Some t = rw e at is in cc
    by-row (Some row) e =
        let at : target_of row.kind ≡ Some t = rw e at is in
        let k = reference-is row.kind t at in
        removed-queues fs gs p r d h (ap is_live_entry e ∙ rw k.0 refl) (empty fs p h r row e k.1)
        (λ y w i q. let i' : is_request_row (row_of p.rows r) ≡ true = subst (λ (z : Obj). is_request_row (row_of p.rows z) ≡ true) (sym q) i.request in let bad : true ≡ false = sym i' ∙ ap is_request_row e ∙ k.2 in cc)
        (λ y ne d. more y d)

-- what is referred to is no entry
referred-to : (fs : List Frame) (p : Pool) (x : Obj) → QueuesHold fs p → IsReferable (row_of p.rows x) → entry_of p.queues x ≡ None
referred-to fs p x h is = unentered fs p h x (λ w i. entry-unreferable w.request (row_of p.rows x) i is)

-- ---- the steps of a free

-- the newest reference to an object is dropped: a free goes on as it was where this was inside the object, and else as another
drops-newest : (f g : FreeFrame) (x r : Obj) (fs : List Frame) (p : Pool) → Sound (frame.Free f) fs p → newest_ref p.rows x ≡ Some r → AreOfChildren (frame.Free f ∷ fs) → QueuesHold fs p
    → ((y : Obj) → drains y fs ≡ true → drains y (frame.Free f ∷ fs) ≡ true) → ((y : Obj) → drains y fs ≡ true → drains y (frame.Free g ∷ fs) ≡ true)
    → (entry_of p.queues x ≡ None → RestsQueued (frame.Free f) fs (remove p r)) → (entry_of p.queues x ≡ None → RestsQueued (frame.Free g) fs (remove p r))
    → ((c : Obj) → IsThat (free_profile f).role c → IsThat (free_profile g).role c)
    → FreeQueued fs (if is_inside p.rows (Of r) (Of x) then Do.Emit (IsDropped r x) f (remove p r) else Do.Emit (IsDropped r x) g (remove p r))
drops-newest f g x r fs p s e of h drains-f drains-g works-f works-g same_object =
    let w = newest-refers p.rows x r s.forest.distinct e in
    let is : target_at p.rows r ≡ Some x = rw w.1 w.2 in
    let none = referred-to fs p x h (s.refers.target r x is) in
    by_test (is_inside p.rows (Of r) (Of x))
    (λ t. rw t (record { pool = dropped fs (frame.Free f ∷ fs) p r x s.forest.distinct is drains-f h; works = works-f none; frees = of }))
    (λ t. rw t (record { pool = dropped fs (frame.Free g ∷ fs) p r x s.forest.distinct is drains-g h; works = works-g none; frees = (of-same f g (footing fs) same_object of.0, of.1) }))

beginning : (x : Obj) (fs : List Frame) (p : Pool) → Sound (frame.Free (Beginning x)) fs p → Queued (frame.Free (Beginning x)) fs p → FreeQueued fs (free_step (Beginning x) p)
beginning x fs p s q = newest (newest_ref p.rows x) refl
  where
    h : QueuesHold fs p
    h = same-queues (frame.Free (Beginning x) ∷ fs) fs p p q.pool refl refl (λ y t d. d)

    -- an object that is asked, and is no queue
    asks : (g : FreeFrame) (r : Row) → row_of p.rows x ≡ Some r → r.mark ≡ Quiet → is_queue r.kind ≡ false → ((o : Obj) → IsEntryRow o (Some r) → ⊥) → ((y : Obj) → drains y (frame.Free g ∷ fs) ≡ drains y fs) → QueuesHold (frame.Free g ∷ fs) (set_mark p x Asked)
    asks g r e m no_queue never same_drains = changed-queues (marked_row Asked) fs (frame.Free g ∷ fs) p x r h e (λ z. refl) (λ z. refl) (rw m refl) (λ t o w. absurd (never o w)) (λ y ne t d. same_drains y ∙ d)
        (λ t i. let bad : true ≡ false = sym t ∙ empty fs p h x r e no_queue in cc)

    quiet : (r : Row) → row_of p.rows x ≡ Some r → r.mark ≡ Quiet → FreeQueued fs (begin_quiet x r.kind r.hook p)
    quiet r e m = by_test (is_request r.kind)
        (λ u. rw u (record {
          pool = asks (Preparing x) r e m (request-is r.kind u) (λ o w. let bad : true ≡ false = sym u ∙ (entry-is r.kind w.0).0 in cc) (λ y. refl);
          works = tt;
          frees = (of-same (Beginning x) (Preparing x) (footing fs) (λ c z. z) q.frees.0, q.frees.1);
        }))
        (λ u. by_test (is_queue r.kind)
        (λ v. rw (u, v) (record {
          pool = changed-queues (marked_row Asked) fs (frame.Free (Draining x) ∷ fs) p x r h e (λ z. refl) (λ z. refl) (rw m refl) (λ t o w. let bad : true ≡ false = sym v ∙ (entry-is r.kind w.0).1 in cc)
              (λ y ne t d. by_test (same x y) (λ a. rw a refl) (λ a. rw a d)) (λ t i. inr (let self : same x x ≡ true = same-equal x x refl in rw self refl));
          works = tt;
          frees = (of-same (Beginning x) (Draining x) (footing fs) (λ c z. z) q.frees.0, q.frees.1);
        }))
        (λ v. by_test (nat_eq r.hook 0)
        (λ t. rw (u, v, t) (record {
          pool = same-queues fs (frame.Free (Leaving x 0) ∷ fs) p p h refl refl (λ y t d. d);
          works = empty fs p h x r e v;
          frees = (of-same (Beginning x) (Leaving x 0) (footing fs) (λ c z. z) q.frees.0, q.frees.1);
        }))
        (λ t. rw (u, v, t) (record {
          pool = asks (Hooked x r.hook) r e m v (λ o w. let t' : nat_eq 0 0 ≡ false = subst (λ (z : ℕ). nat_eq z 0 ≡ false) w.2 t in cc) (λ y. refl);
          works = tt;
          frees = (of-same (Beginning x) (Hooked x r.hook) (footing fs) (λ c z. z) q.frees.0, q.frees.1);
        }))))

    runs : (r : Row) → row_of p.rows x ≡ Some r → r.mark ≢ Quiet → QueuesHold fs p × EndsFor Running (footing fs) p
    runs r e ne = (h, ends-for (Beginning x) x Running (footing fs) p refl q.frees.0 (unquiet fs p h x r e ne))

    -- a busy event is no entry
    doomed-live : (r : Row) → row_of p.rows x ≡ Some r → r.mark ≡ Busy → is_live_entry (Some (marked_row Doomed r)) ≡ false
    doomed-live r e m = by_test (is_entry r.kind)
        (λ t.
        let live : is_live_entry (row_of p.rows x) ≡ true = rw (e, t, m) refl in
        let entered : is_entered p.queues x ≡ true = h.entries x ∙ live in
        let none : entry_of p.queues x ≡ None = unquiet fs p h x r e (λ z. let bad : Busy ≡ Quiet = sym m ∙ z in cc) in
        let bad : false ≡ true = rw none at entered in cc)
        (λ t. rw t refl)

    dooms : (r : Row) → row_of p.rows x ≡ Some r → r.mark ≡ Busy → Queued (frame.Free (Dooming x)) fs (doom p x)
    dooms r e m = record {
      pool = gone-queues (marked_row Doomed) fs (frame.Free (Dooming x) ∷ fs) p x r h e (λ z. refl) (λ z. refl) (doomed-live r e m) (λ y ne t d. d) (λ t. elim (h.idle x t) [
        | inl none ↦ inl (sym (ap phases e ∙ ap (phase_of r.kind) m) ∙ none)
        | inr d ↦ inr d
      ]);
      works = without-same p.queues.entries x x (same-equal x x refl);
      frees = (of-same (Beginning x) (Dooming x) (footing fs) (λ c z. z) q.frees.0, q.frees.1);
    }

    marks : (r : Row) (m : Mark) → r.mark ≡ m → row_of p.rows x ≡ Some r → FreeQueued fs (begin_step x (Some r) p)
    marks r Quiet m e = rw m (quiet r e m)
    marks r Asked m e = rw m (runs r e (λ z. let bad : Asked ≡ Quiet = sym m ∙ z in cc))
    marks r Busy m e = rw m (dooms r e m)
    marks r Doomed m e = rw m (runs r e (λ z. let bad : Doomed ≡ Quiet = sym m ∙ z in cc))
    marks r (Dying former) m e = rw m (h, ends-ok (footing fs) p)

    each : (o : Option Row) → row_of p.rows x ≡ o → FreeQueued fs (begin_step x o p)
    each None e = (h, ends-ok (footing fs) p)
    each (Some r) e = marks r r.mark refl e

    newest : (o : Option Obj) → newest_ref p.rows x ≡ o → FreeQueued fs (refs_step x o p)
    newest None e = each (row_of p.rows x) refl
    newest (Some r) e = drops-newest (Beginning x) (Ending Held) x r fs p s e q.frees h (λ y d. d) (λ y d. d) (λ none. tt)
        (λ none. ends-for (Beginning x) x Held (footing fs) (remove p r) refl q.frees.0 none) (λ c z. tt)

releasing : (x : Obj) (fs : List Frame) (p : Pool) → Sound (frame.Free (Releasing x)) fs p → Queued (frame.Free (Releasing x)) fs p → FreeQueued fs (free_step (Releasing x) p)
releasing x fs p s q = each (newest_ref p.rows x) refl
  where
    h : QueuesHold fs p
    h = same-queues (frame.Free (Releasing x) ∷ fs) fs p p q.pool refl refl (λ y t d. d)

    each : (o : Option Obj) → newest_ref p.rows x ≡ o → FreeQueued fs (release_step x o p)
    each None e = record { pool = same-queues fs (frame.Free (Beginning x) ∷ fs) p p h refl refl (λ y t d. d); works = tt; frees = (of-same (Releasing x) (Beginning x) (footing fs) (λ c z. z) q.frees.0, q.frees.1) }
    each (Some r) e = drops-newest (Releasing x) (Giving x (unwrap_or (owner_of p.rows r) Root)) x r fs p s e q.frees h (λ y d. d) (λ y d. d) (λ none. tt) (λ none. none) (λ c z. z)

unlinking : (o : Owner) (x : Obj) (fs : List Frame) (p : Pool) → Sound (frame.Free (Unlinking o x)) fs p → Queued (frame.Free (Unlinking o x)) fs p → FreeQueued fs (free_step (Unlinking o x) p)
unlinking o x fs p s q = each (newest_ref_of p.rows o x) refl
  where
    h : QueuesHold fs p
    h = same-queues (frame.Free (Unlinking o x) ∷ fs) fs p p q.pool refl refl (λ y t d. d)

    each : (n : Option Obj) → newest_ref_of p.rows o x ≡ n → FreeQueued fs (unlink_step x n p)
    each None e = record { pool = same-queues fs (frame.Free (Releasing x) ∷ fs) p p h refl refl (λ y t d. d); works = tt; frees = (of-same (Unlinking o x) (Releasing x) (footing fs) (λ c z. z) q.frees.0, q.frees.1) }
    each (Some r) e =
        let w = newest-of-refers p.rows o x r s.forest.distinct e in
        record {
          pool = dropped fs (frame.Free (Ending Ok) ∷ fs) p r x s.forest.distinct (rw w.1 w.2) (λ y d. d) h;
          works = ends-ok (footing fs) (remove p r);
          frees = (of-same (Unlinking o x) (Ending Ok) (footing fs) (λ c z. tt) q.frees.0, q.frees.1);
        }

judged : (x : Obj) (hook v : ℕ) (fs : List Frame) (p : Pool) → Sound (frame.Free (Judged x hook v)) fs p → Queued (frame.Free (Judged x hook v)) fs p → FreeQueued fs (free_step (Judged x hook v) p)
judged x hook v fs p s q = by_test (nat_eq v 0)
    (λ t. rw t (record {
      pool = changed-queues (hooked_row 0) fs (frame.Free (Leaving x hook) ∷ fs) p x r h e (λ z. refl) (λ z. refl) refl (λ t o w. (w.0, w.1, refl, w.3)) (λ y ne t d. d) (λ t i. i);
      works = none;
      frees = (of-same (Judged x hook v) (Leaving x hook) (footing fs) (λ c z. z) q.frees.0, q.frees.1);
    }))
    (λ t. rw t (record {
      pool = changed-queues (marked_row Quiet) fs (frame.Free (Ending (Refused v)) ∷ fs) p x r h e (λ z. refl) (λ z. refl) (rw row.4 refl) (λ t o w. (w.0, refl, w.2, w.3)) (λ y ne t d. d) (λ t i. inl refl);
      works = ends-for (Judged x hook v) x (Refused v) (footing fs) (set_mark p x Quiet) refl q.frees.0 (unquiet fs p h x r e (λ z. let bad : Asked ≡ Quiet = sym row.4 ∙ z in cc));
      frees = (of-same (Judged x hook v) (Ending (Refused v)) (footing fs) (λ c z. tt) q.frees.0, q.frees.1);
    }))
  where
    h : QueuesHold fs p
    h = same-queues (frame.Free (Judged x hook v) ∷ fs) fs p p q.pool refl refl (λ y t d. d)

    runs : InRun ∷ claims x fs ≡ phases (row_of p.rows x)
    runs = claim-here x InRun (claims x fs) (row_of p.rows x) (s.open_frees x)

    row : (r : Row) × (row_of p.rows x ≡ Some r) × IsLive r.mark × (claims x fs ≡ []) × (r.mark ≡ Asked)
    row = running-row (row_of p.rows x) (claims x fs) runs

    r : Row
    r = row.0

    e : row_of p.rows x ≡ Some r
    e = row.1

    none : has_entries p.queues x ≡ false
    none = gone-through fs p h x InRun (claims x fs) runs (λ d. claims-drained x fs s.waiting d row.3)

prepared : (x : Obj) (fs : List Frame) (p : Pool) → Sound (frame.Free (Prepared x)) fs p → Queued (frame.Free (Prepared x)) fs p → FreeQueued fs (free_step (Prepared x) p)
prepared x fs p s q =
    let h : QueuesHold fs p = same-queues (frame.Free (Prepared x) ∷ fs) fs p p q.pool refl refl (λ y t d. d) in
    let runs = claim-here x InRun (claims x fs) (row_of p.rows x) (s.open_frees x) in
    let row = running-row (row_of p.rows x) (claims x fs) runs in
    record {
      pool = changed-queues (marked_row Quiet) fs (frame.Free (Leaving x 0) ∷ fs) p x row.0 h row.1 (λ z. refl) (λ z. refl) (rw row.4 refl) (λ t o w. (w.0, refl, w.2, w.3)) (λ y ne t d. d) (λ t i. inl refl);
      works = gone-through fs p h x InRun (claims x fs) runs (λ d. claims-drained x fs s.waiting d row.3);
      frees = (of-same (Prepared x) (Leaving x 0) (footing fs) (λ c z. z) q.frees.0, q.frees.1);
    }

leaving : (x : Obj) (hook : ℕ) (fs : List Frame) (p : Pool) → Sound (frame.Free (Leaving x hook)) fs p → Queued (frame.Free (Leaving x hook)) fs p → FreeQueued fs (free_step (Leaving x hook) p)
leaving x hook fs p s q =
    let h : QueuesHold fs p = same-queues (frame.Free (Leaving x hook) ∷ fs) fs p p q.pool refl refl (λ y t d. d) in
    record {
      pool = gone-queues left_row fs (frame.Free (Looping x (Removal hook)) ∷ fs) p x s.rests.0 h s.rests.1 (λ z. refl) (λ z. refl) (dead s.rests.0) (λ y ne t d. d) (λ t. let bad : true ≡ false = sym t ∙ q.works in cc);
      works = tt;
      frees = (of-same (Leaving x hook) (Looping x (Removal hook)) (footing fs) (λ c z. z) q.frees.0, q.frees.1);
    }
  where
    dead : (r : Row) → is_live_entry (Some (left_row r)) ≡ false
    dead r = by_test (is_entry r.kind) (λ t. rw t refl) (λ t. rw t refl)

looping : (x : Obj) (purpose : Purpose) (fs : List Frame) (p : Pool) → Sound (frame.Free (Looping x purpose)) fs p → Queued (frame.Free (Looping x purpose)) fs p → FreeQueued fs (free_step (Looping x purpose) p)
looping x purpose fs p s q = each (first_kid p.rows (Of x)) refl
  where
    h : QueuesHold fs p
    h = same-queues (frame.Free (Looping x purpose) ∷ fs) fs p p q.pool refl refl (λ y t d. d)

    -- a request that is removed has no entries any more, since they are its children
    last : (purpose : Purpose) → first_kid p.rows (Of x) ≡ None → Sound (frame.Free (Looping x purpose)) fs p → IsOfChild (frame.Free (Looping x purpose)) (footing fs) → FreeQueued fs (last_step x purpose p)
    last (Removal hook) alone s of =
        let dies = claim-here x InLoop (claims x fs) (row_of p.rows x) (s.open_frees x) in
        let row = dying-row (row_of p.rows x) (claims x fs) dies in
        record {
          pool = removed-queues fs (frame.Free (Ending Ok) ∷ fs) p x s.forest.distinct h (ap is_live_entry row.1 ∙ dead row.0 row.2 row.3) (gone-through fs p h x InLoop (claims x fs) dies (λ d. claims-drained x fs s.waiting d row.4))
              (λ y w i e. no-kid (row_of p.rows y) y w.request refl i.entry e) (λ y ne d. d);
          works = ends-ok (footing fs) (remove p x);
          frees = (of-same (Looping x (Removal hook)) (Ending Ok) (footing fs) (λ c z. tt) of, q.frees.1);
        }
      where
        dead : (r : Row) (former : Owner) → r.mark ≡ Dying former → is_live_entry (Some r) ≡ false
        dead r former m = by_test (is_entry r.kind) (λ t. rw (t, m) refl) (λ t. rw t refl)

        no-kid : (o : Option Row) (y z : Obj) → row_of p.rows y ≡ o → IsEntryRow z o → x ≡ z → ⊥
        no-kid None y z e i is = i
        no-kid (Some r) y z e i is = childless p.rows (Of x) y r alone e (i.3 ∙ ap (λ (o : Obj). Some (Of o)) (sym is))
    last Emptying alone s of = (h, ends-ok (footing fs) p)

    child : (c : Obj) (o : Option Obj) → target_at p.rows c ≡ o → FreeQueued fs (child_step x c purpose o p)
    child c None t = record { pool = same-queues fs _ p p h refl refl (λ y t d. d); works = tt; frees = (refl, (of-same (Looping x purpose) (FreeingChild x c (noted_owner p.rows c) purpose) (footing fs) (λ z e. e) q.frees.0, q.frees.1)) }
    child c (Some target) t = record { pool = dropped fs (frame.Free (Looping x purpose) ∷ fs) p c target s.forest.distinct t (λ y d. d) h; works = tt; frees = q.frees }

    each : (o : Option Obj) → first_kid p.rows (Of x) ≡ o → FreeQueued fs (loop_step x purpose o p)
    each None e = last purpose e s q.frees.0
    each (Some c) e = child c (target_at p.rows c) refl

tried : (x c : Obj) (noted : Option Owner) (purpose : Purpose) (a : FreeReply) (fs : List Frame) (p : Pool) → Sound (frame.Free (AfterChild x c noted purpose a)) fs p → Queued (frame.Free (AfterChild x c noted purpose a)) fs p
    → FreeQueued fs (free_step (AfterChild x c noted purpose a) p)
tried x c noted purpose a fs p s q = each a q.works
  where
    h : QueuesHold fs p
    h = same-queues (frame.Free (AfterChild x c noted purpose a) ∷ fs) fs p p q.pool refl refl (λ y t d. d)

    of : AreOfChildren (frame.Free (Looping x purpose) ∷ fs)
    of = (of-same (AfterChild x c noted purpose a) (Looping x purpose) (footing fs) (λ z e. e) q.frees.0, q.frees.1)

    handed : entry_of p.queues c ≡ None → FreeQueued fs (hand_on_step x c noted purpose p)
    handed none = by_test (is_below (owner_of p.rows c) (Of x))
        (λ t. rw t (record { pool = placed-queues fs (frame.Free (Looping x purpose) ∷ fs) p (heir p.rows x c noted) c (heir-placed x c noted _ fs p s t) none h (λ y d. d); works = tt; frees = of }))
        (λ t. rw t (record { pool = same-queues fs (frame.Free (Looping x purpose) ∷ fs) p p h refl refl (λ y t d. d); works = tt; frees = of }))

    each : (b : FreeReply) → IsNoEntry b c p → FreeQueued fs (tried_step x c noted purpose b p)
    each Ok none = record { pool = same-queues fs (frame.Free (Looping x purpose) ∷ fs) p p h refl refl (λ y t d. d); works = tt; frees = of }
    each Held none = handed none
    each Running none = handed none
    each (Refused v) none = handed none

pub free-queued : (f : FreeFrame) (fs : List Frame) (p : Pool) → Sound (frame.Free f) fs p → Queued (frame.Free f) fs p → FreeQueued fs (free_step f p)
free-queued (Unlinking o x) fs p s q = unlinking o x fs p s q
free-queued (Releasing x) fs p s q = releasing x fs p s q
free-queued (Giving x o) fs p s q = record {
  pool = placed-queues (frame.Free (Giving x o) ∷ fs) (frame.Free (Ending Ok) ∷ fs) p o x s.rests q.works q.pool (λ y d. d);
  works = ends-ok (footing fs) (place p o x);
  frees = (of-same (Giving x o) (Ending Ok) (footing fs) (λ c z. tt) q.frees.0, q.frees.1);
}
free-queued (Beginning x) fs p s q = beginning x fs p s q
free-queued (Hooked x hook) fs p s q = record { pool = same-queues (frame.Free (Hooked x hook) ∷ fs) _ p p q.pool refl refl (λ y t d. d); works = tt; frees = (tt, q.frees) }
free-queued (Judged x hook v) fs p s q = judged x hook v fs p s q
free-queued (Preparing x) fs p s q = record { pool = same-queues (frame.Free (Preparing x) ∷ fs) _ p p q.pool refl refl (λ y t d. d); works = tt; frees = (tt, q.frees) }
free-queued (Draining x) fs p s q = record { pool = same-queues (frame.Free (Draining x) ∷ fs) _ p p q.pool refl refl (λ y t d. d); works = tt; frees = (tt, q.frees) }
free-queued (Prepared x) fs p s q = prepared x fs p s q
free-queued (Dooming x) fs p s q = (same-queues (frame.Free (Dooming x) ∷ fs) fs p p q.pool refl refl (λ y t d. d), ends-for (Dooming x) x Running (footing fs) p refl q.frees.0 q.works)
free-queued (Leaving x hook) fs p s q = leaving x hook fs p s q
free-queued (Looping x purpose) fs p s q = looping x purpose fs p s q
free-queued (FreeingChild x c noted purpose) fs p s q = absurd s.rests
free-queued (AfterChild x c noted purpose a) fs p s q = tried x c noted purpose a fs p s q
free-queued (Ending a) fs p s q = (same-queues (frame.Free (Ending a) ∷ fs) fs p p q.pool refl refl (λ y t d. d), q.works)
