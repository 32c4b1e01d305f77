-- Turns, and the works of requests, spare an event below an owner.
use Rattle.std.proofs.Common.{◌≡◌, ◌≢◌, ℕ, Bool, true, false, List, [], ◌∷◌, Option, Some, None, refl, sym, ◌∙◌, ap, subst, inl, inr}
use Rattle.std.specs.Prelude.{nat_eq, nat_le, is_some}
use Rattle.tree_specs.specs.declared.object.Obj.{Obj}
use Rattle.tree_specs.specs.declared.kind.Kind.TheVariants as kind
use Rattle.tree_specs.specs.declared.row.Row.{Row}
use Rattle.tree_specs.specs.declared.row.Mark.TheVariants as mark
use Rattle.tree_specs.specs.declared.coming.Coming.{Coming}
use Rattle.tree_specs.specs.declared.due.Due.{Due}
use Rattle.tree_specs.specs.declared.call.Call.TheVariants as call
use Rattle.tree_specs.specs.declared.handler.Handler.{Handler}
use Rattle.tree_specs.specs.declared.request.Note.{Note}
use Rattle.tree_specs.specs.declared.request.State.TheVariants.{Received}
use Rattle.tree_specs.specs.declared.moment.What.{What}
use Rattle.tree_specs.specs.declared.moment.What.TheVariants as what
use Rattle.tree_specs.specs.declared.frame.Frame.{Frame}
use Rattle.tree_specs.specs.declared.frame.Frame.TheVariants as frame
use Rattle.tree_specs.specs.declared.frame.TurnFrame.{TurnFrame}
use Rattle.tree_specs.specs.declared.frame.TurnFrame.TheVariants.{Taking, Timing, Timed, Polling, Starting, Firing, Handling, Handled, Clearing, Serving, Parting, Closing}
use Rattle.tree_specs.specs.declared.frame.RequestFrame.{RequestFrame}
use Rattle.tree_specs.specs.declared.frame.RequestFrame.TheVariants as request
use Rattle.tree_specs.specs.declared.frame.Errand.{Errand}
use Rattle.tree_specs.specs.declared.frame.Errand.TheVariants.{Finish, Notify, Receive, Cancel}
use Rattle.tree_specs.specs.Tree.Pool.{Pool, row_of, is_usable, soon_here, times_here, exit, set_mark, marked_row, schedule, unschedule, disarm, renote, finish, receive, run_queue, trigger}
use Rattle.tree_specs.specs.Tree.Targets.{newest_ref}
use Rattle.tree_specs.specs.Calls.Refusals.{Check, refusals, is_entry, is_doomed, is_doomed_mark}
use Rattle.tree_specs.specs.Calls.Plans.{unless_refused, frees}
use Rattle.tree_specs.specs.Events.Coming.{handler_for, goes_after, begun, rotated, comes_as, is_once}
use Rattle.tree_specs.specs.Events.Pending.{first}
use Rattle.tree_specs.specs.Events.Queues.{Head, has_queue, head_of, next_of}
use Rattle.tree_specs.specs.Events.Requests.{note_of, is_noted, is_unreceived, cleanup_in, cancel_in, cleaned, not_deferring, in_state}
use Rattle.tree_specs.specs.Events.Rotation.{watch_of, is_watching}
use Rattle.tree_specs.specs.Machine.Table.{work_of, due_now, due_step, taking_step, early_step, timed_step, starting_step, handled_step, turn_step, cancelling_step, cleaning_step, release_object, cleaned_step, callback_step, notifying_step, receiving_step, vacating_step, triggering_step, deferred_step, parting_step, closing_step, request_step}
use Rattle.tree_specs.specs.Machine.Profiles.{turn_profile}
use Rattle.tree_specs.specs.Tree.Targets.{is_context}
use Rattle.tree_specs.specs.Invariants.Sound.{IsTurning, TurnedAt}
use Rattle.tree_specs.specs.Invariants.Consistent.{IsConsistent}
use Rattle.tree_specs.specs.Invariants.Awaiting.{MayCome}
use Rattle.tree_specs.specs.Invariants.Queued.{IsEntryRow}
use Rattle.tree_specs.proofs.Tree.Numbered.{by_test}
use Rattle.tree_specs.proofs.Invariants.Turning.{handler-ready, taken-plain}
use Rattle.tree_specs.proofs.Invariants.Queues.{head-waiting}
use Rattle.service_rules.proofs.Tending.{Tended, tended-on, tended-edited, no-more, notes-renoted, turned-of}
use Rattle.service_rules.proofs.Sparing.{Spares, SparesTurn, AllSpare, Tends, LeadsTends, done-tends, below-tends}

module _ (e k : Obj) (fd : ℕ) (fs : List Frame) (p : Pool) where
  abbrev Whole : Frame → Type 0
  Whole f = IsConsistent (record { innermost = f; below = fs; pool = p })

  module _ (t : Tended e k fd p) (spare : AllSpare e k fs) where
    -- other changes than of the rows and the rotation
    apart : (q : Pool) → q.rows ≡ p.rows → q.ring ≡ p.ring → q.requests ≡ p.requests → Tended e k fd q
    apart q rows ring requests = tended-on e k fd p t q (ap (λ rs. row_of rs e) rows) (ap (λ ws. watch_of ws e) ring) (no-more e k fd p t q requests)

    noted : (g : Note → Note) (q : Pool) (x : Obj) → q.rows ≡ p.rows → q.ring ≡ p.ring → ((n : Note) → (g n).child ≡ n.child) → q.requests ≡ (renote p x g).requests → Tended e k fd q
    noted g q x rows ring child is = tended-on e k fd p t q (ap (λ rs. row_of rs e) rows) (ap (λ ws. watch_of ws e) ring) (notes-renoted e k fd p t g q x is child)

    errand-spares : (errand : Errand) (x : Obj) (gs : List Frame) (q : Pool) → Tended e k fd q → AllSpare e k gs → Tends e k fd (work_of errand x) gs q
    errand-spares (Finish s) x gs q t' s' = inl (t', (tt, s'))
    errand-spares Notify x gs q t' s' = inl (t', (tt, s'))
    errand-spares Receive x gs q t' s' = inl (t', (tt, s'))
    errand-spares Cancel x gs q t' s' = inl (t', (tt, s'))

    -- ---- turns

    due-spares : (x : Obj) (now : ℕ) → LeadsTends e k fd (due_now x now p) fs
    due-spares x now = let t' = apart (disarm p x) refl refl refl in
        by_test (is_noted p.requests x) (λ b. rw b (inl (t', (tt, (tt, spare))))) (λ b. rw b (inl (t', (tt, spare))))

    timed-spares : (again : Bool) (now : ℕ) (o : Option Due) → LeadsTends e k fd (timed_step again now o p) fs
    timed-spares again now None = inl (t, (tt, spare))
    timed-spares again now (Some d) = by_test (nat_le d.time now) (λ b. rw b (due-spares d.object now)) (λ b. rw b (early again))
      where
        early : (again : Bool) → LeadsTends e k fd (early_step again d now p) fs
        early true = inl (t, (tt, spare))
        early false = inl (t, (tt, spare))

    taking-spares : (o : Option Coming) → LeadsTends e k fd (taking_step o p) fs
    taking-spares None = due (first (times_here p))
      where
        due : (o : Option Due) → LeadsTends e k fd (due_step o p) fs
        due None = inl (t, (tt, spare))
        due (Some d) = by_test (nat_eq d.time 0) (λ b. rw b (due-spares d.object 0)) (λ b. rw b (inl (t, (tt, spare))))
    taking-spares (Some y) = let t' = apart (unschedule p y.object) refl refl refl in
        by_test (is_noted p.requests y.object)
        (λ b. rw b (inl (t', (tt, (tt, spare)))))
        (λ b. rw b (by_test (has_queue p.queues y.object) (λ c. rw c (inl (t', (tt, (tt, spare))))) (λ c. rw c (inl (t', (tt, spare))))))

    begun-tended : (w : What) (x : Obj) → Tended e k fd (begun w x p)
    begun-tended what.Descriptor x =
        let q : Pool = rotated what.Descriptor x p in
        let t' : Tended e k fd q = tended-on e k fd p t q refl (turned-of e k fd p t x) (no-more e k fd p t q refl) in
        tended-edited e k fd q t' (marked_row mark.Busy) x (λ r. refl) (λ r. refl) (λ r h. h) (λ r. refl)
    begun-tended _ x = tended-edited e k fd p t (marked_row mark.Busy) x (λ r. refl) (λ r. refl) (λ r h. h) (λ r. refl)

    -- a timer is another object
    once-other : (w : What) (x : Obj) (h : Handler) → handler_for p w x ≡ Some h → is_once w ≡ true → x ≢ e
    once-other w x h is once same =
        let r = handler-ready p w x h is in
        let i : row_of p.rows e ≡ Some r.row = ap (row_of p.rows) (sym same) ∙ r.is in
        let j : Some t.row ≡ Some r.row = sym t.is ∙ i in
        let j' : t.row ≡ r.row = cc in
        let l : comes_as w kind.Descriptor ≡ true = ap (comes_as w) (sym (ap (λ (z : Row). z.kind) (sym j') ∙ t.kind)) ∙ r.comes in
        each w once l
      where
        each : (w : What) → is_once w ≡ true → comes_as w kind.Descriptor ≡ true → ⊥
        each what.Timer a b = cc
        each _ a b = cc

    -- what is watched isn't to be freed after its handler
    doomed-other : (f : Frame) (x : Obj) → Whole f → is_doomed p x ≡ true → x ≢ e
    doomed-other f x whole d same =
        let w : is_watching p.ring e ≡ true = ap is_some t.watches in
        let m = whole.awaits.events what.Descriptor e w in
        let m' : MayCome what.Descriptor (Some t.row) = subst (MayCome what.Descriptor) t.is m.0 in
        let c : is_doomed p e ≡ true = ap (is_doomed p) (sym same) ∙ d in
        let c' : is_doomed_mark t.row.mark ≡ true = sym (ap (λ (o : Option Row). passing o) t.is) ∙ c in
        let bad : true ≡ false = sym c' ∙ m'.1 in cc
      where
        passing : Option Row → Bool
        passing None = false
        passing (Some r) = is_doomed_mark r.mark

    goes-other : (f : Frame) (w : What) (x : Obj) → Whole f → (is_once w ≡ true → x ≢ e) → goes_after p w x ≡ true → x ≢ e
    goes-other f w x whole once g = by_test (is_once w) once (λ b. let d : is_doomed p x ≡ true = rw b at g in doomed-other f x whole d)

    -- a context is another object
    context-other : (c : Obj) → IsTurning (row_of p.rows c) → c ≢ e
    context-other c turns same =
        let i : IsTurning (row_of p.rows e) = subst (λ (z : Obj). IsTurning (row_of p.rows z)) same turns in
        let j : IsTurning (Some t.row) = subst IsTurning t.is i in
        let l : is_context kind.Descriptor ≡ true = ap is_context (sym t.kind) ∙ j.0 in cc

    -- a work that says nothing of an object
    plain-spares : (g : TurnFrame) → (turn_profile g).claims ≡ None → SparesTurn e k g
    plain-spares (Firing w x handler occasion) c = cc
    plain-spares (Handling w x handler occasion) c = cc
    plain-spares (Handled w x) c = cc
    plain-spares _ c = tt

    pub turn-spares : (f : TurnFrame) → Whole (frame.Turn f) → Spares e k (frame.Turn f) → LeadsTends e k fd (turn_step f p) fs
    turn-spares Taking whole s = taking-spares (first (soon_here p))
    turn-spares (Timing again) whole s = λ i g h. let a = taken-plain (Timing again) p i g h in subst (λ (z : Frame). Tends e k fd z fs p) (sym a.1) (inl (t, (plain-spares a.0 a.2.claims, spare)))
    turn-spares (Timed again now) whole s = timed-spares again now (first (times_here p))
    turn-spares (Polling limit) whole s = λ i g h. let a = taken-plain (Polling limit) p i g h in subst (λ (z : Frame). Tends e k fd z fs p) (sym a.1) (inl (t, (plain-spares a.0 a.2.claims, spare)))
    turn-spares (Starting w x occasion) whole s = each (handler_for p w x) refl
      where
        each : (o : Option Handler) → handler_for p w x ≡ o → LeadsTends e k fd (starting_step w x occasion o p) fs
        each None is = inl (t, (tt, spare))
        each (Some h) is = inl (begun-tended w x, (once-other w x h is, spare))
    turn-spares (Firing w x handler occasion) whole s = inl (t, (s, spare))
    turn-spares (Handling w x handler occasion) whole s = inl (t, (tt, (s, spare)))
    turn-spares (Handled w x) whole s = each (goes_after p w x) refl
      where
        quiet : Tended e k fd (set_mark p x mark.Quiet)
        quiet = tended-edited e k fd p t (marked_row mark.Quiet) x (λ r. refl) (λ r. refl) (λ r h. h) (λ r. refl)

        each : (b : Bool) → goes_after p w x ≡ b → LeadsTends e k fd (handled_step x b p) fs
        each true is = inl (quiet, (goes-other (frame.Turn (Handled w x)) w x whole s is, (tt, spare)))
        each false is = inl (quiet, (tt, spare))
    turn-spares (Clearing x) whole s = done-tends e k fd _ p fs (inl (t, spare))
    turn-spares (Serving x) whole s = done-tends e k fd _ p fs (inl (t, spare))
    turn-spares (Parting c v) whole s = done-tends e k fd _ p fs (inl (t, spare))
    turn-spares (Closing v) whole s = each p.turning whole.sound.turned
      where
        exited : (c : Obj) → Tended e k fd (exit p c)
        exited c =
            let q : Pool = record p { turning = None } in
            tended-edited e k fd q (apart q refl refl refl) (marked_row mark.Quiet) c (λ r. refl) (λ r. refl) (λ r h. h) (λ r. refl)

        parts : (c : Obj) (b : Bool) → c ≢ e → LeadsTends e k fd (parting_step c v b p) fs
        parts c true ne = inl (exited c, (ne, (tt, spare)))
        parts c false ne = done-tends e k fd _ (exit p c) fs (inl (exited c, spare))

        each : (o : Option Obj) → TurnedAt o p.rows → LeadsTends e k fd (closing_step v o p) fs
        each None turns = done-tends e k fd _ p fs (inl (t, spare))
        each (Some c) turns = parts c (is_doomed p c) (context-other c turns)

    -- ---- requests

    entry-other : (f : Frame) (q : Obj) (h : Head) → Whole f → head_of p.queues q ≡ Some h → h.object ≢ e
    entry-other f q h whole is same =
        let w = head-waiting p p.queues.entries q h whole.queued.pool.waiting is in
        let i : IsEntryRow h.entry.request (row_of p.rows e) = subst (λ (z : Obj). IsEntryRow h.entry.request (row_of p.rows z)) same w.entry in
        let j : IsEntryRow h.entry.request (Some t.row) = subst (IsEntryRow h.entry.request) t.is i in
        let l : is_entry kind.Descriptor ≡ true = ap is_entry (sym t.kind) ∙ j.0 in cc

    pub request-spares : (f : RequestFrame) → Whole (frame.Request f) → LeadsTends e k fd (request_step f p) fs
    request-spares (request.Finishing x state) whole = inl (noted (in_state state) (finish p x state) x refl refl (λ n. refl) refl, (tt, spare))
    request-spares (request.Receiving x) whole = each (is_unreceived (note_of p.requests x))
      where
        each : (b : Bool) → LeadsTends e k fd (receiving_step x b p) fs
        each true = inl (noted (in_state Received) (receive p x) x refl refl (λ n. refl) refl, (tt, spare))
        each false = inl (t, (tt, spare))
    request-spares (request.Cancelling x) whole = each (cancel_in (note_of p.requests x))
      where
        each : (o : Option Handler) → LeadsTends e k fd (cancelling_step x o p) fs
        each None = inl (t, (tt, spare))
        each (Some handler) = inl (t, (tt, spare))
    request-spares (request.Cleaning x errand) whole = each (cleanup_in (note_of p.requests x))
      where
        each : (o : Option Handler) → LeadsTends e k fd (cleaning_step x errand o p) fs
        each None = inl (t, (tt, spare))
        each (Some handler) = inl (noted cleaned (renote p x cleaned) x refl refl (λ n. refl) refl, (tt, spare))
    request-spares (request.Cleaned x errand) whole = each errand (note_of p.requests x) refl
      where
        child : (n : Note) → n.child ≢ e → (check : Check) (o : Option Obj) → LeadsTends e k fd (release_object (unless_refused check (frees o n.child)) Receive p) fs
        child n ne [] None = inl (t, (ne, (tt, spare)))
        child n ne [] (Some r) = inl (t, (ne, (tt, spare)))
        child n ne (why ∷ more) o = inl (t, (tt, spare))

        each : (errand : Errand) (o : Option Note) → note_of p.requests x ≡ o → LeadsTends e k fd (cleaned_step x errand o p) fs
        each errand None is = inl (t, (tt, spare))
        each Receive (Some n) is = child n (t.apart x n is) (refusals p (call.Free n.child)) (newest_ref p.rows n.child)
        each _ (Some n) is = inl (t, (tt, spare))
    request-spares (request.Notifying x errand) whole = each (note_of p.requests x)
      where
        back : (o : Option Handler) → LeadsTends e k fd (callback_step x errand o p) fs
        back None = inl (t, (tt, spare))
        back (Some handler) = inl (t, (tt, spare))

        each : (o : Option Note) → LeadsTends e k fd (notifying_step x errand o p) fs
        each None = inl (t, (tt, spare))
        each (Some n) = deferred n.deferred
          where
            deferred : (o : Option Obj) → LeadsTends e k fd (deferred_step x errand o n.callback p) fs
            deferred (Some c) = by_test (is_usable p.rows c)
                (λ b. rw b (inl (noted not_deferring (schedule (renote p x not_deferring) x c) x refl refl (λ n. refl) refl, (tt, spare))))
                (λ b. rw b (inl (noted not_deferring (renote p x not_deferring) x refl refl (λ n. refl) refl, (tt, spare))))
            deferred None = back n.callback
    request-spares (request.Calling w x handler errand) whole = inl (t, (tt, spare))
    request-spares (request.Called w x handler errand) whole = inl (t, (tt, (tt, spare)))
    request-spares (request.Releasing c) whole = done-tends e k fd _ p fs (inl (t, spare))
    request-spares (request.Vacating x) whole = each (head_of p.queues x) refl
      where
        t' : Tended e k fd (run_queue p x false)
        t' = apart (run_queue p x false) refl refl refl

        each : (o : Option Head) → head_of p.queues x ≡ o → LeadsTends e k fd (vacating_step x o (run_queue p x false)) fs
        each None is = inl (t', (tt, spare))
        each (Some h) is = inl (t', (entry-other (frame.Request (request.Vacating x)) x h whole is, (tt, spare)))
    request-spares (request.Dropping q x) whole = done-tends e k fd _ p fs (inl (t, spare))
    request-spares (request.Triggering x) whole = each (next_of p.queues x)
      where
        each : (o : Option Head) → LeadsTends e k fd (triggering_step o p) fs
        each None = inl (t, (tt, spare))
        each (Some h) = inl (apart (trigger p h) refl refl refl, (tt, spare))
    request-spares (request.Over r) whole = done-tends e k fd _ p fs (inl (t, spare))

  -- a work that is no caller's
  pub turn-tends : (f : TurnFrame) → Whole (frame.Turn f) → Tends e k fd (frame.Turn f) fs p → LeadsTends e k fd (turn_step f p) fs
  turn-tends f whole (inl w) = turn-spares w.0 w.1.1 f whole w.1.0
  turn-tends f whole (inr r) = below-tends e k fd (turn_step f p) fs r

  pub request-tends : (f : RequestFrame) → Whole (frame.Request f) → Tends e k fd (frame.Request f) fs p → LeadsTends e k fd (request_step f p) fs
  request-tends f whole (inl w) = request-spares w.0 w.1.1 f whole
  request-tends f whole (inr r) = below-tends e k fd (request_step f p) fs r
