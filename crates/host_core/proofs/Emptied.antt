-- What is no more with the next step of a free is no queue with entries, and no context in which something comes.
use Rattle.std.proofs.Common.{◌≡◌, ℕ, ◌<◌, nat_eq, Bool, List, [], ◌∷◌, ◌++◌, Option, Some, None, is_some, true, false, refl, ◌∙◌, ap, subst, arith}
use Rattle.std.specs.List.{find, filter}
use Rattle.step_machine.specs.Machine.{Move as Do}
use Rattle.tree_specs.specs.declared.event.Event.{Event}
use Rattle.tree_specs.specs.declared.event.Event.TheVariants.{Freed, Unreferenced}
use Rattle.tree_specs.specs.declared.frame.Frame.{Frame}
use Rattle.tree_specs.specs.declared.frame.Frame.TheVariants as frame
use Rattle.tree_specs.specs.declared.frame.FreeFrame.{FreeFrame}
use Rattle.tree_specs.specs.declared.frame.FreeFrame.TheVariants.{Unlinking, Releasing, Beginning, Judged, Looping, AfterChild}
use Rattle.tree_specs.specs.declared.frame.Purpose.{Purpose}
use Rattle.tree_specs.specs.declared.frame.Purpose.TheVariants.{Removal, Emptying}
use Rattle.tree_specs.specs.declared.free_step.FreeReply.{FreeReply}
use Rattle.tree_specs.specs.declared.free_step.FreeReply.TheVariants.{Ok}
use Rattle.tree_specs.specs.declared.free_step.FreeStep.{FreeStep}
use Rattle.tree_specs.specs.declared.free_step.FreeStep.TheVariants.{Dropped, Gone}
use Rattle.tree_specs.specs.declared.kind.Kind.{Kind}
use Rattle.tree_specs.specs.declared.object.Obj.{Obj}
use Rattle.tree_specs.specs.declared.object.Owner.TheVariants.{Of}
use Rattle.tree_specs.specs.declared.row.Mark.{Mark}
use Rattle.tree_specs.specs.declared.row.Mark.TheVariants.{Quiet}
use Rattle.tree_specs.specs.declared.row.Row.{Row}
use Rattle.tree_specs.specs.Calls.Refusals.{is_request, is_queue, is_queue_row}
use Rattle.tree_specs.specs.Words.Objects.{same, is_same, first_context}
use Rattle.tree_specs.specs.Invariants.Awaiting.{is_live_context, is_live_context_row}
use Rattle.tree_specs.specs.Invariants.Consistent.{IsConsistent}
use Rattle.tree_specs.specs.Invariants.Sound.{Sound, ValidAt, phases, claim, claims}
use Rattle.tree_specs.specs.Machine.FreeTable.{FreeMove, free_step, begin_by, begin_step, refs_step, unlink_step, release_step, child_step, loop_step}
use Rattle.tree_specs.specs.Machine.Profiles.Phase.{InLoop}
use Rattle.tree_specs.specs.Machine.Table.{lifted}
use Rattle.tree_specs.specs.Tree.Forest.{Distinct}
use Rattle.tree_specs.specs.Tree.Pool.{Pool, row_of, remove, without, is_inside, is_below, owner_of, first_kid, target_in, newest_ref_of}
use Rattle.tree_specs.specs.Tree.Targets.{newest_ref, target_of}
use Rattle.tree_specs.proofs.Invariants.Queues.{no-entries}
use Rattle.tree_specs.proofs.Tree.Numbered.{by_test, same-equal, same-true}
use Rattle.tree_specs.proofs.Tree.Referring.{newest-refers, newest-of-refers}
use Rattle.tree_specs.proofs.Tree.Rows.{row_of-without-same}
use Rattle.destructors.specs.Frees.{answered, moves, awaits_run}
use Rattle.destructors.specs.Runs.{AsksFor}
use Rattle.destructors.proofs.FreeMoves.{IsMoveOf, is_move}
use Rattle.destructors.specs.Frees.{moved as free_moved}
use Rattle.object_pool.specs.Upcoming.{IsForgettable, MayForget, upcoming_in}
use Rattle.host_core.specs.declared.waiting.Waiting.{Waiting}
use Rattle.host_core.specs.Stacks.{below_free, free_view, freeing_view}
use Rattle.host_core.specs.Hosts.{moved, next_of}
use Rattle.host_core.proofs.StepsSilently.{after-event}

-- what a move says is no more is taken out, and had a row
abbrev Removes : Pool → FreeMove → Type 0
Removes p (Do.Emit (Gone x h) g q) = (q ≡ remove p x) × (0 < x.0)
Removes p (Do.Emit (Dropped r target) g q) = (q ≡ remove p r) × (0 < r.0)
Removes p m = Unit {0}

-- an object has a number of its own, and isn't the first context
numbered : (f : Frame) (fs : List Frame) (p : Pool) (x : Obj) (r : Row) → Sound f fs p → row_of p.rows x ≡ Some r → 0 < x.0
numbered f fs p x r s e = let v = subst (λ (o : Option Row). ValidAt p.next o x) e (s.valid x) in v.0

removes : (f : FreeFrame) (fs : List Frame) (p : Pool) → Sound (frame.Free f) fs p → Removes p (free_step f p)
removes (Unlinking o x) fs p s = each (newest_ref_of p.rows o x) refl
  where
    each : (n : Option Obj) → newest_ref_of p.rows o x ≡ n → Removes p (unlink_step x n p)
    each None e = tt
    each (Some r) e = let w = newest-of-refers p.rows o x r s.forest.distinct e in (refl, numbered _ fs p r w.0 s w.1)
removes (Releasing x) fs p s = each (newest_ref p.rows x) refl
  where
    each : (n : Option Obj) → newest_ref p.rows x ≡ n → Removes p (release_step x n p)
    each None e = tt
    each (Some r) e =
        let w = newest-refers p.rows x r s.forest.distinct e in
        let there = numbered _ fs p r w.0 s w.1 in
        by_test (is_inside p.rows (Of r) (Of x)) (λ t. rw t (refl, there)) (λ t. rw t (refl, there))
removes (Beginning x) fs p s = each (newest_ref p.rows x) refl
  where
    marks : (k : Kind) (h : ℕ) (m : Mark) → Removes p (begin_by x k h m p)
    marks k h Quiet = by_test (is_request k) (λ t. rw t tt) (λ t. by_test (is_queue k) (λ v. rw (t, v) tt) (λ v. rw (t, v) (by_test (nat_eq h 0) (λ u. rw u tt) (λ u. rw u tt))))
    marks k h _ = tt

    begins : (o : Option Row) → Removes p (begin_step x o p)
    begins None = tt
    begins (Some r) = marks r.kind r.hook r.mark

    each : (n : Option Obj) → newest_ref p.rows x ≡ n → Removes p (refs_step x n p)
    each None e = begins (row_of p.rows x)
    each (Some r) e =
        let w = newest-refers p.rows x r s.forest.distinct e in
        let there = numbered _ fs p r w.0 s w.1 in
        by_test (is_inside p.rows (Of r) (Of x)) (λ t. rw t (refl, there)) (λ t. rw t (refl, there))
removes (Judged x h v) fs p s = by_test (nat_eq v 0) (λ t. rw t tt) (λ t. rw t tt)
removes (Looping x purpose) fs p s = each purpose refl (first_kid p.rows (Of x))
  where
    taken : (purpose : Purpose) (c : Obj) (row : Option Row) → row_of p.rows c ≡ row → Removes p (child_step x c purpose (target_in row) p)
    taken purpose c None e = tt
    taken purpose c (Some r) e = target (target_of r.kind)
      where
        target : (o : Option Obj) → Removes p (child_step x c purpose o p)
        target None = tt
        target (Some y) = (refl, numbered _ fs p c r s e)

    -- an object whose children are freed with it is dying
    dying : (h : ℕ) → purpose ≡ Removal h → (row : Option Row) → row_of p.rows x ≡ row → 0 < x.0
    dying h is (Some r) e = numbered _ fs p x r s e
    dying h is None e =
        let self : same x x ≡ true = same-equal x x refl in
        let claims-none : claim x (frame.Free (Looping x (Removal h))) ++ claims x fs ≡ [] = subst (λ (z : Purpose). claim x (frame.Free (Looping x z)) ++ claims x fs ≡ []) is (s.open_frees x ∙ ap phases e) in
        let bad : InLoop ∷ claims x fs ≡ [] = rw self at claims-none in
        cc

    each : (of : Purpose) → purpose ≡ of → (o : Option Obj) → Removes p (loop_step x of o p)
    each of is (Some c) = taken of c (row_of p.rows c) refl
    each (Removal h) is None = (refl, dying h is (row_of p.rows x) refl)
    each Emptying is None = tt
removes (AfterChild x c noted purpose Ok) fs p s = tt
removes (AfterChild x c noted purpose answer) fs p s = by_test (is_below (owner_of p.rows c) (Of x)) (λ t. rw t tt) (λ t. rw t tt)
removes _ fs p s = tt

-- ---- nothing comes in what is no live context

none-in : {A : Type 0} (q : A → Bool) (xs : List A) → (is_some (find q xs) ≡ true → ⊥) → filter q xs ≡ []
none-in q [] h = refl
none-in q (x ∷ xs) h = by_test (q x)
    (λ u. let found : is_some (find q (x ∷ xs)) ≡ true = rw u refl in absurd (h found))
    (λ u. rw u (none-in q xs (λ e. h (rw u e))))

-- a context of which the row is gone
not-live : (rs : List Row) (x : Obj) → 0 < x.0 → Distinct rs → is_live_context (without rs x) x ≡ true → ⊥
not-live rs x above distinct live = by_test (same x first_context)
    (λ t. let e = ap (λ (z : Obj). z.0) (same-true x first_context t) in omega (arith, e, above))
    (λ t. let live' : is_live_context_row (row_of (without rs x) x) ≡ true = rw t at live in
    let bad : false ≡ true = rw (row_of-without-same rs x distinct) at live' in
    cc)

pub may-forget : (works : List FreeFrame) (ws : List Waiting) (p : Pool) → IsConsistent (freeing_view works ws p) → MayForget (moves works p).0 (upcoming_in p)
may-forget [] ws p h = tt
may-forget (f ∷ fs) ws p h = each (free_step f p) refl (is_move f p) (removes f (below_free fs ws) p h.sound)
  where
    -- an object of which an event tells that it is no more
    gone : (x : Obj) (e : Event) (g : FreeFrame) (q : Pool) → next_of (free_view f fs ws p) ≡ (Some e, free_view g fs ws q) → (q ≡ remove p x) × (0 < x.0) → IsForgettable x (upcoming_in p)
    gone x e g q n r =
        let w : IsConsistent (free_view g fs ws (remove p x)) = subst (λ (z : Pool). IsConsistent (free_view g fs ws z)) r.0 (after-event _ _ e h n).whole in
        let distinct = h.sound.forest.distinct in
        let live = w.awaits.contexts in
        record {
          entries = no-entries (remove p x) p.queues.entries x w.queued.pool.waiting (ap is_queue_row (row_of-without-same p.rows x distinct));
          soon = none-in (λ y. same y.context x) p.soon (λ s. not-live p.rows x r.1 distinct (live.soon x s));
          times = none-in (λ d. same d.context x) p.times (λ s. not-live p.rows x r.1 distinct (live.times x s));
          ring = none-in (λ c. is_same c.context x) p.ring (λ s. not-live p.rows x r.1 distinct (live.ring x s));
        }

    over : (a : FreeReply) (q : Pool) (gs : List FreeFrame) → MayForget (answered a q gs).0 (upcoming_in p)
    over a q [] = tt
    over a q (g ∷ gs) = by_test (awaits_run g) (λ t. rw t tt) (λ t. rw t tt)

    asks : (t : FreeStep) → AsksFor t f → MayForget (Some t) (upcoming_in p)
    asks (Gone x k) a = absurd a
    asks (Dropped r target) a = absurd a
    asks _ a = tt

    leads : (m : FreeMove) → free_step f p ≡ m → next_of (free_view f fs ws p) ≡ moved (lifted p.ring m) (below_free fs ws)
    leads m e = ap (λ (z : FreeMove). moved (lifted p.ring z) (below_free fs ws)) e

    each : (m : FreeMove) → free_step f p ≡ m → IsMoveOf f p m → Removes p m → MayForget (free_moved m fs).0 (upcoming_in p)
    each (Do.Done a q) e of r = over a q fs
    each (Do.Go g q) e of r = tt
    each (Do.Call g k q) e of r = tt
    each (Do.Wait t g q) e of r = asks t of.2
    each (Do.Emit (Gone x k) g q) e of r = gone x (Freed x k) g q (leads _ e) r
    each (Do.Emit (Dropped y target) g q) e of r = gone y (Unreferenced y target) g q (leads _ e) r
    each (Do.Emit t g q) e of r = tt
