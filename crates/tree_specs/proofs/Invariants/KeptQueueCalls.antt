-- Each call keeps what holds of queues.
use Rattle.std.proofs.Common.{◌≡◌, ℕ, nat_eq, List, [], ◌∷◌, Option, Some, None, true, false, refl, sym, ap, ◌∙◌, inl, inr}
use Rattle.std.specs.Prelude.{codes, ◌+◌}
use Rattle.tree_specs.specs.declared.object.Obj.{Obj}
use Rattle.tree_specs.specs.declared.object.Owner.{Owner}
use Rattle.tree_specs.specs.declared.object.Owner.TheVariants.{Of}
use Rattle.tree_specs.specs.declared.kind.Kind.{Kind}
use Rattle.tree_specs.specs.declared.kind.Kind.TheVariants as kind
use Rattle.tree_specs.specs.declared.row.Row.{Row}
use Rattle.tree_specs.specs.declared.row.Mark.{Mark}
use Rattle.tree_specs.specs.declared.row.Mark.TheVariants.{Quiet, Busy}
use Rattle.tree_specs.specs.declared.call.Call.{Call}
use Rattle.tree_specs.specs.declared.call.Call.TheVariants as call
use Rattle.tree_specs.specs.declared.question.Ask.{Ask}
use Rattle.tree_specs.specs.declared.question.Ask.TheVariants as ask
use Rattle.tree_specs.specs.declared.request.Note.{Note}
use Rattle.tree_specs.specs.declared.frame.Errand.{Errand}
use Rattle.tree_specs.specs.declared.frame.Errand.TheVariants.{Finish, Notify, Receive, Cancel}
use Rattle.tree_specs.specs.declared.frame.Frame.{Frame}
use Rattle.tree_specs.specs.declared.frame.Frame.TheVariants as frame
use Rattle.tree_specs.specs.declared.frame.CallFrame.TheVariants.{Doing}
use Rattle.tree_specs.specs.Tree.Targets.{newest_ref, target_of, is_usable_mark, is_context}
use Rattle.tree_specs.specs.Tree.Pool.{set_mark, marked_row, Pool, row_of, passes, trigger, add, note, is_below, owner_of, newest_ref_of, is_dying_mark}
use Rattle.tree_specs.specs.Events.Queues.{runs}
use Rattle.tree_specs.specs.Events.Requests.{new_note}
use Rattle.tree_specs.specs.Calls.Passed.{IsUsable, AllPassed}
use Rattle.tree_specs.specs.Calls.Refusals.{tests, is_queue, is_entry, is_plain, is_going, is_going_mark, is_entry_row, is_plain_row}
use Rattle.tree_specs.specs.Calls.Plans.{Change, Plan, plan, planned, changed_by, handed, gift}
use Rattle.tree_specs.specs.Calls.Plans.Change.{Enter, Edit, Add, Place, AddQueue, AddEntry, AddRequest, Runs, Then}
use Rattle.tree_specs.specs.Calls.Plans.Plan.{Does, Frees, Unlinks, Empties, Asks, Turns, Works}
use Rattle.tree_specs.specs.Machine.Table.{plan_step, turning_step}
use Rattle.tree_specs.specs.Invariants.Sound.{phases, phase_of, Rests, Sound, Refers}
use Rattle.tree_specs.specs.Invariants.Queued.{is_live_entry, drains, QueuesHold, Queued}
use Rattle.tree_specs.proofs.Tree.Numbered.{by_test}
use Rattle.tree_specs.proofs.Invariants.Changes.{nobody, new-sound}
use Rattle.tree_specs.proofs.Invariants.Queues.{same-queues, changed-queues, placed-queues, added-queues, new-queue-holds, new-entry-holds, ran-queues, not-entered}
use Rattle.tree_specs.proofs.Invariants.FreeQueues.{QueuedBy}
use Rattle.tree_specs.proofs.Calls.Checks.{Makes, frees-makes, handed-makes, planned-by}
use Rattle.tree_specs.proofs.Calls.Plans.{May}
use Rattle.tree_specs.proofs.Calls.Changes.{usable-row, usable-mark, MayDo, change-sound}
use Rattle.tree_specs.specs.Tree.Forest.{Distinct}
use Rattle.tree_specs.proofs.Tree.Referring.{newest-of-refers}
use Rattle.tree_specs.specs.Words.Objects.{same, first_context}

-- a work goes on as another that drains as much and is no free
pub goes : (f g : Frame) (fs : List Frame) (p q : Pool) → q.rows ≡ p.rows → q.queues ≡ p.queues → ((y : Obj) → drains y (f ∷ fs) ≡ true → drains y (g ∷ fs) ≡ true) → QueuesHold (f ∷ fs) p → QueuesHold (g ∷ fs) q
goes f g fs p q rows queues more h = same-queues (f ∷ fs) (g ∷ fs) p q h rows queues (λ y t d. more y d)

-- ---- calls

-- what a change says of queues: what is edited keeps its destructor or is no entry, what is placed is no entry, a new row is
-- neither, and nothing goes on with a queue that gets an entry
abbrev pub KeepsQueues : Pool → Change → Type 0
KeepsQueues p (Edit x g) = ((r : Row) → row_of p.rows x ≡ Some r → is_entry r.kind ≡ true → (g r).hook ≡ r.hook)
KeepsQueues p (Add k o size name) = (is_queue k ≡ false) × (is_entry k ≡ false)
KeepsQueues p (Place o x) = is_entry_row (row_of p.rows x) ≡ false
KeepsQueues p (AddEntry q x trigger) = is_going p q ≡ false
KeepsQueues p (Then first second) = KeepsQueues p first × KeepsQueues (changed_by first p) second
KeepsQueues p change = Unit {0}

abbrev pub PlanKeeps : Pool → Plan → Type 0
PlanKeeps p plan = Makes (KeepsQueues p) plan

-- what a change leads to
change-queues : (fs gs : List Frame) (f : Frame) (below : List Frame) (p : Pool) (c : Change) → Sound f below p → ((q : Pool) → Rests f below q) → MayDo p c → KeepsQueues p c → ((y : Obj) → drains y fs ≡ true → drains y gs ≡ true) → QueuesHold fs p
    → QueuesHold gs (changed_by c p)
change-queues fs gs f below p (Edit x g) s calm may keeps more h = changed-queues g fs gs p x may.row h may.is may.place.serial may.place.kind (ap is_dying_mark (may.mark may.row))
    (λ t o w. let k = may.place.kind may.row in (k' k w.0, may.mark may.row ∙ w.1, keeps may.row may.is w.0 ∙ w.2, may.place.owner may.row ∙ w.3)) (λ y ne t d. more y d)
    (λ t i. elim i [
      | inl none ↦ inl ((let a = may.mark may.row in let b = may.place.kind may.row in rw (a, b) refl) ∙ none)
      | inr d ↦ inr (more x d)
    ])
  where
    k' : {a b : Kind} → a ≡ b → is_entry b ≡ true → is_entry a ≡ true
    k' e t = ap is_entry e ∙ t
change-queues fs gs f below p (Add k o size name) s calm may keeps more h = added-queues p (nobody p s.valid) fs gs k o size name _ keeps.0 keeps.1 refl refl more h
change-queues fs gs f below p (AddRequest o size name) s calm may keeps more h =
    let a : Pool = add p kind.Request o 0 (codes "req") in
    let n : Note = new_note (record { 0 = p.next + 1 }) in
    let b : Pool = note a (record { 0 = p.next }) n in
    let hb : QueuesHold gs b = added-queues p (nobody p s.valid) fs gs kind.Request o 0 (codes "req") b refl refl refl refl more h in
    let sa = new-sound f f kind.Request o 0 (codes "req") below p s may.0 (λ t e. cc) (λ y. refl) (calm a) in
    added-queues b (nobody b sa.valid) gs gs kind.Plain (Of (record { 0 = p.next })) size name _ refl refl refl refl (λ y d. d) hb
change-queues fs gs f below p (Place o x) s calm may keeps more h = placed-queues fs gs p o x may (not-entered p fs x h (not-live (row_of p.rows x) keeps)) h more
  where
    not-live : (w : Option Row) → is_entry_row w ≡ false → is_live_entry w ≡ false
    not-live None e = refl
    not-live (Some r) e = rw e refl
change-queues fs gs f below p (AddQueue o name) s calm may keeps more h = new-queue-holds p (nobody p s.valid) fs gs o name more h
change-queues fs gs f below p (AddEntry q x trigger) s calm may keeps more h = new-entry-holds p (nobody p s.valid) fs gs q x trigger may.0 may.2 (idle (row_of p.rows q) keeps) more h
  where
    marks : (k : Kind) (m : Mark) → is_going_mark m ≡ false → phase_of k m ≡ []
    marks k Quiet e = refl
    marks k _ e = cc

    idle : (w : Option Row) → passes (λ r. is_going_mark r.mark) w ≡ false → phases w ≡ []
    idle None e = refl
    idle (Some r) e = marks r.kind r.mark e
change-queues fs gs f below p (Runs q b) s calm may keeps more h = ran-queues fs gs p q b more h
change-queues fs gs f below p (Enter c) s calm may keeps more h = by_test (same c first_context)
    (λ t. rw t (same-queues fs gs p p h refl refl (λ y u d. more y d)))
    (λ t.
    let u = usable-row p c may t in
    let m = usable-mark u.row.kind u.row.mark u.context u.mark in
    let k = u.context in
    let b : QueuesHold gs (set_mark p c Busy) = changed-queues (marked_row Busy) fs gs p c u.row h u.is (λ r. refl) (λ r. refl) (sym (usable-live u.row.mark u.mark)) (λ v o i. let e = entry-context u.row.kind i.0 in let bad : true ≡ false = sym u.context ∙ e in cc)
    (λ y ne v d. more y d) (λ v i. inl (rw k refl)) in
    rw t (same-queues gs gs (set_mark p c Busy) (set_mark (record p { turning = Some c }) c Busy) b refl refl (λ y v d. d)))
  where
    usable-live : (m : Mark) → is_usable_mark m ≡ true → is_dying_mark m ≡ false
    usable-live Quiet t = refl
    usable-live Busy t = refl
    usable-live _ t = cc

    entry-context : (k : Kind) → is_entry k ≡ true → is_context k ≡ false
    entry-context kind.Entry t = refl
    entry-context _ t = cc
change-queues fs gs f below p (Then c d) s calm may keeps more h =
    let t = change-sound f f below p c s may.0 (λ y. refl) calm (calm (changed_by c p)) in
    change-queues gs gs f below (changed_by c p) d t calm may.1 keeps.1 (λ y d. d) (change-queues fs gs f below p c s calm may.0 keeps.0 more h)
change-queues fs gs f below p c s calm may keeps more h = same-queues fs gs p (changed_by c p) h refl refl (λ y t d. more y d)

module _ (p : Pool) (refers : Refers p.rows) (distinct : Distinct p.rows) where
  -- what a call gives away is no entry
  given : (from to : Owner) (x : Obj) → is_entry_row (row_of p.rows x) ≡ false → KeepsQueues p (handed to (gift p from x))
  given from to x movable = by_test (is_below (owner_of p.rows x) from)
      (λ t. rw t movable)
      (λ t. rw t (handed-makes (KeepsQueues p) to (newest_ref_of p.rows from x) tt newest))
    where
      reference : (k : Kind) (t : Obj) → target_of k ≡ Some t → is_entry k ≡ false
      reference (kind.Reference t) t' e = refl
      reference _ t e = cc

      newest : (r : Obj) → newest_ref_of p.rows from x ≡ Some r → KeepsQueues p (Place to r)
      newest r e = let w = newest-of-refers p.rows from x r distinct e in ap is_entry_row w.1 ∙ reference w.0.kind x w.2

  plain-only : (x : Obj) → is_plain_row (row_of p.rows x) ≡ true → (r : Row) → row_of p.rows x ≡ Some r → is_entry r.kind ≡ true → ⊥
  plain-only x plain r e entry = kinds r.kind (let t : is_plain_row (Some r) ≡ true = rw e at plain in t) entry
    where
      kinds : (k : Kind) → is_plain k ≡ true → is_entry k ≡ true → ⊥
      kinds kind.Plain a b = cc
      kinds _ a b = cc

  each : (c : Call) → AllPassed p (tests c) → PlanKeeps p (plan p c)
  each (call.New o size name) h = (refl, refl)
  each (call.Free x) h = frees-makes (KeepsQueues p) x (newest_ref p.rows x)
  each (call.Steal o x) h = h.1.0
  each (call.Move o x) h = h.1.0
  each (call.Reparent from to x) h = given from to x h.1.0
  each (call.Reference o x) h = (refl, refl)
  each (call.Hook x routine) h = λ r e entry. absurd (plain-only x h.1.0 r e entry)
  each (call.Unhook x) h = λ r e entry. absurd (plain-only x h.1.0 r e entry)
  each (call.Rename x name) h = λ r e entry. refl
  each (call.Resize x size) h = λ r e entry. refl
  each (call.Limit x max) h = λ r e entry. refl
  each (call.Context o) h = (refl, refl)
  each (call.Immediate o) h = (refl, refl)
  each (call.Schedule x routine user c) h = by_test (nat_eq routine 0) (λ t. rw t tt) (λ t. rw t (tt, tt))
  each (call.Timer o time routine user c) h = ((refl, refl), (tt, tt))
  each (call.Fd o fd flags routine user c) h = ((refl, refl), (tt, tt))
  each (call.Error x error) h = by_test (nat_eq error 0) (λ t. rw t tt) (λ t. rw t tt)
  each (call.Endtime x time c) h = (tt, tt)
  each (call.Enqueue q x routine user c) h = h.1.1.0
  each (call.Start q) h = by_test (runs p.queues q) (λ t. rw t tt) (λ t. rw t (tt, tt))
  each _ h = tt

  pub plan-keeps : (c : Call) → PlanKeeps p (planned p c)
  plan-keeps c = planned-by (PlanKeeps p) p c (each c) (λ r. tt)

pub planned-queued : (q : Ask) (c : Call) (fs : List Frame) (p : Pool) (k : ℕ) → Sound (frame.Call (Doing q c)) fs p → Queued (frame.Call (Doing q c)) fs p → (plan : Plan) → May p plan → PlanKeeps p plan → QueuedBy (plan_step q plan p) fs k
planned-queued q c fs p k s u plan may keeps = each plan may keeps
  where
    f : Frame
    f = frame.Call (Doing q c)

    -- over the objects as they are, a work below which nothing of queues is known
    stays : (gs : List Frame) → ((y : Obj) → drains y (f ∷ fs) ≡ true → drains y gs ≡ true) → QueuesHold gs p
    stays gs more = same-queues (f ∷ fs) gs p p u.pool refl refl (λ y t d. more y d)

    over : (gs : List Frame) (change : Change) → MayDo p change → KeepsQueues p change → ((y : Obj) → drains y (f ∷ fs) ≡ true → drains y gs ≡ true) → QueuesHold gs (changed_by change p)
    over gs change may keeps more = change-queues (f ∷ fs) gs f fs p change s (λ p'. tt) may keeps more u.pool

    works : (change : Change) (errand : Errand) (x : Obj) → MayDo p change → KeepsQueues p change → QueuedBy (plan_step q (Works change errand x) p) fs k
    works change (Finish state) x may keeps = record { pool = over _ change may keeps (λ y d. d); works = tt; frees = (tt, (tt, u.frees.1)) }
    works change Receive x may keeps = record { pool = over _ change may keeps (λ y d. d); works = tt; frees = (tt, (tt, u.frees.1)) }
    works change Cancel x may keeps = record { pool = over _ change may keeps (λ y d. d); works = tt; frees = (tt, (tt, u.frees.1)) }
    works change Notify x may keeps = record { pool = over _ change may keeps (λ y d. d); works = tt; frees = (tt, (tt, u.frees.1)) }

    turning : (q' : Ask) (x : Obj) → IsUsable p x → q ≡ q' → QueuedBy (turning_step q' x p) fs k
    turning ask.Quiet x may e = record { pool = over _ (Enter x) may tt (λ y d. d); works = tt; frees = (tt, (tt, u.frees.1)) }
    turning q' x may e = record { pool = stays _ (λ y d. d); works = tt; frees = (tt, u.frees.1) }

    each : (plan : Plan) → May p plan → PlanKeeps p plan → QueuedBy (plan_step q plan p) fs k
    each (Does change None r) may keeps = record { pool = over _ change may.0 keeps (λ y d. d); works = tt; frees = (tt, u.frees.1) }
    each (Does change (Some notice) r) may keeps = record { pool = over _ change may.0 keeps (λ y d. d); works = tt; frees = (tt, u.frees.1) }
    each (Frees x) may keeps = record { pool = stays _ (λ y d. d); works = tt; frees = (tt, (tt, u.frees.1)) }
    each (Unlinks o x) may keeps = record { pool = stays _ (λ y d. d); works = tt; frees = (tt, (tt, u.frees.1)) }
    each (Empties x) may keeps = record { pool = stays _ (λ y d. d); works = tt; frees = (tt, (tt, u.frees.1)) }
    each (Asks outside) may keeps = record { pool = stays _ (λ y d. d); works = tt; frees = (tt, (tt, u.frees.1)) }
    each (Turns x) may keeps = turning q x may refl
    each (Works change errand x) may keeps = works change errand x may.0 keeps
