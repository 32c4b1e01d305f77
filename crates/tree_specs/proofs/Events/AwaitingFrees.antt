-- Each step of a free leaves what waits as it must be.
use Rattle.std.proofs.Common.{◌≡◌, ℕ, List, ◌∷◌, Option, Some, None, true, false, nat_eq, refl, sym, ◌∙◌, ap, subst, inl, inr}
use Rattle.step_machine.specs.Machine.{Move as Do}
use Rattle.tree_specs.specs.declared.object.Obj.{Obj}
use Rattle.tree_specs.specs.declared.object.Owner.{Owner}
use Rattle.tree_specs.specs.declared.object.Owner.TheVariants.{Of}
use Rattle.tree_specs.specs.declared.row.Row.{Row}
use Rattle.tree_specs.specs.declared.row.Mark.{Mark}
use Rattle.tree_specs.specs.declared.row.Mark.TheVariants.{Quiet, Asked, Busy, Doomed}
use Rattle.tree_specs.specs.declared.event.Event.{Event}
use Rattle.tree_specs.specs.declared.queue.QueueEntry.{QueueEntry}
use Rattle.tree_specs.specs.declared.moment.What.{What}
use Rattle.tree_specs.specs.declared.moment.What.TheVariants.{Immediate}
use Rattle.std.specs.Prelude.{not, is_some}
use Rattle.std.specs.Ordering.{nat_cmp, eq_by_cmp}
use Rattle.tree_specs.specs.declared.kind.Kind.{Kind}
use Rattle.tree_specs.specs.declared.kind.Kind.TheVariants as kind
use Rattle.tree_specs.specs.Events.Queues.{Queues, Head, entry_of, has_entries, without_entry, next_of}
use Rattle.tree_specs.specs.Calls.Refusals.{is_doomed, is_doomed_mark, is_request, is_queue, is_queue_row, is_entry}
use Rattle.tree_specs.specs.declared.watch.Watch.{Watch}
use Rattle.tree_specs.specs.declared.frame.Frame.{Frame}
use Rattle.tree_specs.specs.declared.frame.Frame.TheVariants as frame
use Rattle.tree_specs.specs.declared.frame.FreeFrame.{FreeFrame}
use Rattle.tree_specs.specs.declared.frame.FreeFrame.TheVariants.{Unlinking, Releasing, Giving, Beginning, Judged, Prepared, Leaving, Looping, AfterChild}
use Rattle.tree_specs.specs.declared.frame.Purpose.{Purpose}
use Rattle.tree_specs.specs.declared.frame.Purpose.TheVariants.{Removal, Emptying}
use Rattle.tree_specs.specs.declared.free_step.FreeReply.{FreeReply}
use Rattle.tree_specs.specs.declared.free_step.FreeReply.TheVariants.{Ok}
use Rattle.tree_specs.specs.Tree.Pool.{target_in, Pool, row_of, passes, remove, target_at, newest_ref_of, is_below, owner_of, is_inside, first_kid, left_row, marked_row, hooked_row}
use Rattle.tree_specs.specs.Tree.Targets.{newest_ref, target_of, is_context}
use Rattle.tree_specs.specs.Tree.Heirs.{heir}
use Rattle.tree_specs.specs.Tree.Forest.{Distinct}
use Rattle.tree_specs.specs.Machine.Profiles.{InLoop}
use Rattle.tree_specs.specs.Machine.FreeTable.{FreeMove, begin_step, refs_step, unlink_step, release_step, judge_step, last_step, child_step, loop_step, hand_on_step, tried_step, free_step}
use Rattle.tree_specs.specs.Machine.Table.{event_of, announced, lifted}
use Rattle.tree_specs.specs.Invariants.Sound.{claims, Sound}
use Rattle.tree_specs.specs.Invariants.Queued.{IsEntryRow, AreQueued, QueuesHold}
use Rattle.tree_specs.specs.Invariants.Awaiting.{waits_as, waits_as_row, is_event, is_event_row, MayCome, is_live_context_row, Awaits, pool_after}
use Rattle.tree_specs.proofs.Tree.Numbered.{by_test}
use Rattle.tree_specs.proofs.Tree.Referring.{newest-refers, newest-of-refers}
use Rattle.tree_specs.proofs.Invariants.Changes.{dying-row, claim-here, heir-placed}
use Rattle.tree_specs.proofs.Calls.NewEvents.{queue-no-context, quiet-spared}
use Rattle.tree_specs.proofs.Events.QueueLaws.{has-without}
use Rattle.tree_specs.proofs.Invariants.Queues.{find-waiting, next-head}
use Rattle.tree_specs.proofs.Invariants.FreeQueues.{drained-spared}
use Rattle.tree_specs.proofs.Events.Awaiting.{MayLook, changed-awaits, marked-awaits, placed-awaits, gone-awaits, removed-awaits, reference-stays}

-- what may wait so, and isn't being freed
pub comes : (w : What) (o : Option Row) → waits_as_row w o ≡ true → passes (λ r. is_doomed_mark r.mark) o ≡ false → MayCome w o
comes w None t d = cc
comes w (Some r) t d = (t, d)

-- ---- frees

-- a reference is no context
reference-dead : (p : Pool) (r t : Obj) → target_at p.rows r ≡ Some t → is_live_context_row (row_of p.rows r) ≡ false
reference-dead p r t is = each (row_of p.rows r) is
  where
    kinds : (k : Kind) → target_of k ≡ Some t → is_context k ≡ false
    kinds kind.Context e = cc
    kinds _ e = refl

    each : (o : Option Row) → target_in o ≡ Some t → is_live_context_row o ≡ false
    each None e = refl
    each (Some row) e = rw (kinds row.kind e) refl

-- an object that is removed is dying
removed : (x : Obj) (h : ℕ) (fs : List Frame) (p : Pool) → Sound (frame.Free (Looping x (Removal h))) fs p → Awaits p → Awaits (remove p x)
removed x h fs p s a =
    let row = dying-row (row_of p.rows x) (claims x fs) (claim-here x InLoop (claims x fs) (row_of p.rows x) (s.open_frees x)) in
    removed-awaits p x (λ w c. (let c' : MayCome w (Some row.0) = rw row.1 at c in let bad : true ≡ false = rw row.3 at c'.1 in cc))
    (rw (row.1, row.3) (by_test (is_context row.0.kind) (λ t. rw t refl) (λ t. rw t refl))) a

newest : (p : Pool) (x r : Obj) → Distinct p.rows → newest_ref p.rows x ≡ Some r → Awaits p → Awaits (remove p r)
newest p x r d e a = let w = newest-refers p.rows x r d e in removed-awaits p r (reference-stays p r x (rw w.1 w.2)) (reference-dead p r x (rw w.1 w.2)) a

beginning : (x : Obj) (fs : List Frame) (p : Pool) → Sound (frame.Free (Beginning x)) fs p → AreQueued p → Awaits p → Awaits (pool_after (refs_step x (newest_ref p.rows x) p))
beginning x fs p s queued a = each (newest_ref p.rows x) refl
  where
    -- an event whose handler runs is no entry
    busy : (r : Row) → row_of p.rows x ≡ Some r → r.mark ≡ Busy → MayLook p x (entry_of p.queues x)
    busy r e m = entries (entry_of p.queues x) refl
      where
        entries : (o : Option QueueEntry) → entry_of p.queues x ≡ o → MayLook p x o
        entries None is = tt
        entries (Some w) is = let i = (find-waiting p p.queues.entries x w queued is).entry in let i' : IsEntryRow w.request (Some r) = rw e at i in let bad : Busy ≡ Quiet = sym m ∙ i'.1 in cc

    marks : (r : Row) → row_of p.rows x ≡ Some r → (m : Mark) → r.mark ≡ m → Awaits (pool_after (begin_step x (Some r) p))
    marks r e Quiet m = rw m (by_test (is_request r.kind)
        (λ u. rw u (marked-awaits Asked p x refl a))
        (λ u. by_test (is_queue r.kind)
        (λ v. rw (u, v) (marked-awaits Asked p x refl a))
        (λ v. by_test (nat_eq r.hook 0) (λ t. rw (u, v, t) a) (λ t. rw (u, v, t) (marked-awaits Asked p x refl a)))))
    marks r e Busy m = rw m (gone-awaits (marked_row Doomed) p x (λ q. refl) (λ q. refl) (busy r e m) a)
    marks r e Asked m = rw m a
    marks r e _ m = rw m a

    row : (o : Option Row) → row_of p.rows x ≡ o → Awaits (pool_after (begin_step x o p))
    row None e = a
    row (Some r) e = marks r e r.mark refl

    each : (n : Option Obj) → newest_ref p.rows x ≡ n → Awaits (pool_after (refs_step x n p))
    each None e = row (row_of p.rows x) refl
    each (Some r) e = by_test (is_inside p.rows (Of r) (Of x)) (λ t. rw t (newest p x r s.forest.distinct e a)) (λ t. rw t (newest p x r s.forest.distinct e a))

releasing : (x : Obj) (fs : List Frame) (p : Pool) → Sound (frame.Free (Releasing x)) fs p → Awaits p → Awaits (pool_after (release_step x (newest_ref p.rows x) p))
releasing x fs p s a = each (newest_ref p.rows x) refl
  where
    each : (n : Option Obj) → newest_ref p.rows x ≡ n → Awaits (pool_after (release_step x n p))
    each None e = a
    each (Some r) e = by_test (is_inside p.rows (Of r) (Of x)) (λ t. rw t (newest p x r s.forest.distinct e a)) (λ t. rw t (newest p x r s.forest.distinct e a))

unlinking : (o : Owner) (x : Obj) (fs : List Frame) (p : Pool) → Sound (frame.Free (Unlinking o x)) fs p → Awaits p → Awaits (pool_after (unlink_step x (newest_ref_of p.rows o x) p))
unlinking o x fs p s a = each (newest_ref_of p.rows o x) refl
  where
    each : (n : Option Obj) → newest_ref_of p.rows o x ≡ n → Awaits (pool_after (unlink_step x n p))
    each None e = a
    each (Some r) e = let w = newest-of-refers p.rows o x r s.forest.distinct e in removed-awaits p r (reference-stays p r x (rw w.1 w.2)) (reference-dead p r x (rw w.1 w.2)) a

-- a queue that has entries, of which one leaves, may come soon
leaving : (x : Obj) (h : ℕ) (fs : List Frame) (p : Pool) → Sound (frame.Free (Leaving x h)) fs p → QueuesHold (frame.Free (Leaving x h) ∷ fs) p → MayLook p x (entry_of p.queues x)
leaving x h fs p s hold = each (entry_of p.queues x) refl
  where
    kinds : (k : Kind) → is_queue k ≡ true → (waits_as Immediate k ≡ true) × (is_event k ≡ false) × (is_entry k ≡ false)
    kinds kind.Queue t = (refl, refl, refl)
    kinds _ t = cc

    rows : (o : Option Row) → is_queue_row o ≡ true → (waits_as_row Immediate o ≡ true) × (is_event_row o ≡ false) × ((z : Obj) → IsEntryRow z o → ⊥)
    rows None t = cc
    rows (Some r) t = let k = kinds r.kind t in (k.0, k.1, λ z i. (let bad : true ≡ false = sym i.0 ∙ k.2 in cc))

    spared : (q : Obj) → is_queue_row (row_of p.rows q) ≡ true → has_entries p.queues q ≡ true → is_doomed p q ≡ false
    spared q row t = elim (hold.idle q t) [
      | inl quiet ↦ quiet-spared (row_of p.rows q) (queue-no-context (row_of p.rows q) row) quiet
      | inr d ↦ drained-spared (frame.Free (Leaving x h)) fs p q s d
    ]

    runs_on : (qs : Queues) (q : Obj) → is_some (next_of qs q) ≡ true → has_entries qs q ≡ true
    runs_on qs q t = some (next_of qs q) refl t
      where
        some : (o : Option Head) → next_of qs q ≡ o → is_some o ≡ true → has_entries qs q ≡ true
        some None e t = cc
        some (Some g) e t = ap is_some (next-head qs q g e)

    each : (o : Option QueueEntry) → entry_of p.queues x ≡ o → MayLook p x o
    each None e = tt
    each (Some w) e = λ t.
        let i = find-waiting p p.queues.entries x w hold.waiting e in
        let r = rows (row_of p.rows w.queue) i.queue in
        let had = has-without (λ z. not (eq_by_cmp nat_cmp x.0 z.0)) p.queues.entries w.queue (runs_on (without_entry p.queues x) w.queue t) in
        (comes Immediate (row_of p.rows w.queue) r.0 (spared w.queue i.queue had), r.1, λ is. r.2 w.request (subst (λ (z : Obj). IsEntryRow w.request (row_of p.rows z)) is i.entry))

judged : (x : Obj) (h v : ℕ) (p : Pool) → Awaits p → Awaits (pool_after (judge_step x h v p))
judged x h v p a = by_test (nat_eq v 0)
    (λ t. rw t (changed-awaits (hooked_row 0) p x (record { serial = λ r. refl; kind = λ r. refl; mark = λ r l. l }) a))
    (λ t. rw t (marked-awaits Quiet p x refl a))

looping : (x : Obj) (purpose : Purpose) (fs : List Frame) (p : Pool) → Sound (frame.Free (Looping x purpose)) fs p → Awaits p → Awaits (pool_after (loop_step x purpose (first_kid p.rows (Of x)) p))
looping x purpose fs p s a = each (first_kid p.rows (Of x))
  where
    last : (purpose : Purpose) → Sound (frame.Free (Looping x purpose)) fs p → Awaits (pool_after (last_step x purpose p))
    last (Removal h) s = removed x h fs p s a
    last Emptying s = a

    child : (c : Obj) (o : Option Obj) → target_at p.rows c ≡ o → Awaits (pool_after (child_step x c purpose o p))
    child c None e = a
    child c (Some t) e = removed-awaits p c (reference-stays p c t e) (reference-dead p c t e) a

    each : (o : Option Obj) → Awaits (pool_after (loop_step x purpose o p))
    each None = last purpose s
    each (Some c) = child c (target_at p.rows c) refl

tried : (x c : Obj) (noted : Option Owner) (purpose : Purpose) (b : FreeReply) (fs : List Frame) (p : Pool) → Sound (frame.Free (AfterChild x c noted purpose b)) fs p → Awaits p
    → Awaits (pool_after (tried_step x c noted purpose b p))
tried x c noted purpose b fs p s a = each b
  where
    handed : Awaits (pool_after (hand_on_step x c noted purpose p))
    handed = by_test (is_below (owner_of p.rows c) (Of x)) (λ t. rw t (placed-awaits p (heir p.rows x c noted) c (heir-placed x c noted _ fs p s t) a)) (λ t. rw t a)

    each : (b : FreeReply) → Awaits (pool_after (tried_step x c noted purpose b p))
    each Ok = a
    each _ = handed

pub free-awaits : (f : FreeFrame) (fs : List Frame) (p : Pool) → Sound (frame.Free f) fs p → QueuesHold (frame.Free f ∷ fs) p → Awaits p → Awaits (pool_after (free_step f p))
free-awaits (Unlinking o x) fs p s q a = unlinking o x fs p s a
free-awaits (Releasing x) fs p s q a = releasing x fs p s a
free-awaits (Giving x o) fs p s q a = placed-awaits p o x s.rests a
free-awaits (Beginning x) fs p s q a = beginning x fs p s q.waiting a
free-awaits (Judged x h v) fs p s q a = judged x h v p a
free-awaits (Prepared x) fs p s q a = marked-awaits Quiet p x refl a
free-awaits (Leaving x h) fs p s q a = gone-awaits left_row p x (λ r. refl) (λ r. refl) (leaving x h fs p s q) a
free-awaits (Looping x purpose) fs p s q a = looping x purpose fs p s a
free-awaits (AfterChild x c noted purpose b) fs p s q a = tried x c noted purpose b fs p s a
free-awaits _ fs p s q a = a

-- among the host's works it leaves the same
pub lifted-awaits : (ring : List Watch) (m : FreeMove) → Awaits (pool_after m) → Awaits (pool_after (lifted ring m))
lifted-awaits ring (Do.Done b p) a = a
lifted-awaits ring (Do.Go f p) a = a
lifted-awaits ring (Do.Emit e f p) a = each (event_of ring e)
  where
    each : (o : Option Event) → Awaits (pool_after (announced o f p))
    each None = a
    each (Some e) = a
lifted-awaits ring (Do.Wait q f p) a = a
lifted-awaits ring (Do.Call g f p) a = a
