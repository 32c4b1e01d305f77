-- An event that a call has watch a descriptor is a new one, and what a call has come isn't being freed.
use Rattle.std.proofs.Common.{◌≡◌, nat_eq, [], ◌∷◌, Option, Some, None, Bool, true, false, refl, ◌∙◌}
use Rattle.std.specs.Prelude.{not, codes}
use Rattle.tree_specs.specs.declared.object.Obj.{Obj}
use Rattle.tree_specs.specs.declared.call.Call.{Call}
use Rattle.tree_specs.specs.declared.call.Call.TheVariants as call
use Rattle.tree_specs.specs.Tree.Targets.{newest_ref, is_context}
use Rattle.tree_specs.specs.Tree.Pool.{Pool, row_of, passes, is_context_row, new_row}
use Rattle.tree_specs.specs.declared.request.Note.{Note}
use Rattle.tree_specs.specs.declared.request.State.{State}
use Rattle.tree_specs.specs.declared.request.State.TheVariants as state
use Rattle.tree_specs.specs.declared.reply.Refusal.TheVariants.{BadState}
use Rattle.tree_specs.specs.declared.row.Row.{Row}
use Rattle.tree_specs.specs.declared.row.Mark.{Mark}
use Rattle.tree_specs.specs.declared.row.Mark.TheVariants.{Quiet, Asked, Busy, Doomed, Dying}
use Rattle.tree_specs.specs.declared.kind.Kind.{Kind}
use Rattle.tree_specs.specs.declared.kind.Kind.TheVariants as kinds_of
use Rattle.tree_specs.specs.Words.Objects.{same}
use Rattle.tree_specs.specs.Events.Requests.{note_of, is_noted, is_received, is_unreceived, is_in_progress, state_number}
use Rattle.tree_specs.specs.Calls.Passed.{AllPassed}
use Rattle.tree_specs.specs.Machine.Profiles.{InHandler, InLoop}
use Rattle.tree_specs.specs.Invariants.Sound.{phases}
use Rattle.tree_specs.specs.Invariants.Noted.{NotesHold}
use Rattle.tree_specs.specs.Invariants.Awaiting.{is_live_context}
use Rattle.tree_specs.proofs.Calls.Checks.{planned-by, Makes, frees-makes, handed-makes}
use Rattle.tree_specs.proofs.Invariants.Notes.{settled}
use Rattle.tree_specs.specs.Events.Rotation.{is_watching}
use Rattle.tree_specs.specs.Calls.Refusals.{is_queue_row, is_queue, is_request, tests, refuse_if, in_state, is_finished, is_doomed_mark, is_doomed, is_request_row, is_going, is_going_mark}
use Rattle.tree_specs.specs.Calls.Plans.{Change, Plan, changed_by, plan, planned, gift}
use Rattle.tree_specs.specs.Calls.Plans.Change.{Watches, Schedule, Arm, Then, LooksAt, AddEntry}
use Rattle.tree_specs.proofs.Tree.Numbered.{by_test, same-equal}
use Rattle.tree_specs.proofs.Events.LiveContexts.{passed-context, live-added}
use Rattle.tree_specs.specs.Events.Queues.{runs}

-- each event that a change has watch a descriptor watches none yet, and what comes soon or at a time isn't being freed; nor is
-- the context in which it does
abbrev pub AreNew : Pool → Change → Type 0
AreNew p (Watches x fd flags c) = (is_watching p.ring x ≡ false) × (is_live_context p.rows c ≡ true)
AreNew p (Schedule x c) = (is_doomed p x ≡ false) × (is_live_context p.rows c ≡ true)
AreNew p (Arm x time number c) = (is_doomed p x ≡ false) × (is_live_context p.rows c ≡ true)
AreNew p (AddEntry q x trigger) = is_doomed p q ≡ false
AreNew p (LooksAt q) = is_doomed p q ≡ false
AreNew p (Then first second) = AreNew p first × AreNew (changed_by first p) second
AreNew p change = Unit {0}

abbrev pub OnlyNew : Pool → Plan → Type 0
OnlyNew p plan = Makes (AreNew p) plan

-- a request is no context
pub request-no-context : (o : Option Row) → is_request_row o ≡ true → is_context_row o ≡ false
request-no-context None t = refl
request-no-context (Some r) t = kinds r.kind t
  where
    kinds : (k : Kind) → is_request k ≡ true → is_context k ≡ false
    kinds kinds_of.Request t = refl
    kinds _ t = cc

-- nor is a queue
pub queue-no-context : (o : Option Row) → is_queue_row o ≡ true → is_context_row o ≡ false
queue-no-context None t = refl
queue-no-context (Some r) t = kinds r.kind t
  where
    kinds : (k : Kind) → is_queue k ≡ true → is_context k ≡ false
    kinds kinds_of.Queue t = refl
    kinds _ t = cc

-- an object with which nothing goes on isn't being freed
pub quiet-spared : (o : Option Row) → is_context_row o ≡ false → phases o ≡ [] → passes (λ r. is_doomed_mark r.mark) o ≡ false
quiet-spared None c e = refl
quiet-spared (Some r) c e = marks r.mark refl
  where
    marks : (m : Mark) → r.mark ≡ m → is_doomed_mark r.mark ≡ false
    marks Quiet m = rw m refl
    marks Asked m = rw m refl
    marks Busy m = rw m refl
    marks Doomed m = let bad : InHandler ∷ [] ≡ [] = rw (m, c) at e in cc
    marks (Dying former) m = let bad : InLoop ∷ [] ≡ [] = rw m at e in cc

module _ (p : Pool) (new : is_watching p.ring (record { 0 = p.next }) ≡ false) (nobody : row_of p.rows (record { 0 = p.next }) ≡ None) (holds : NotesHold None p) where
  -- nor is a request that wasn't received
  spared : (x : Obj) (is_right : State → Bool) → ((s : State) → is_right s ≡ true → is_received s ≡ false) → is_request_row (row_of p.rows x) ≡ true → in_state x is_right (note_of p.requests x) ≡ [] → is_doomed p x ≡ false
  spared x is_right right row h = quiet-spared (row_of p.rows x) (request-no-context (row_of p.rows x) row) (settled p x holds (each (note_of p.requests x) refl))
    where
      passed : (s : State) → is_right s ≡ true → not (is_received s) ≡ true
      passed s t = rw (right s t) refl

      each : (o : Option Note) → note_of p.requests x ≡ o → is_unreceived (note_of p.requests x) ≡ true
      each None e = let noted : is_noted p.requests x ≡ true = holds.notes x ∙ row in let bad : false ≡ true = rw e at noted in cc
      each (Some n) e =
          let h' : refuse_if (not (is_right n.state)) (BadState x (state_number n.state)) ≡ [] = rw e at h in
          rw e (by_test (is_right n.state) (λ t. passed n.state t) (λ t. let bad : BadState x (state_number n.state) ∷ [] ≡ [] = rw t at h' in cc))

  going : (s : State) → is_in_progress s ≡ true → is_received s ≡ false
  going state.Received t = cc
  going _ t = refl

  over : (s : State) → is_finished s ≡ true → is_received s ≡ false
  over state.Received t = cc
  over _ t = refl

  -- nor is a queue that doesn't go
  remains : (q : Obj) → is_going p q ≡ false → is_doomed p q ≡ false
  remains q h = each (row_of p.rows q) refl h
    where
      marks : (m : Mark) → is_going_mark m ≡ false → is_doomed_mark m ≡ false
      marks Quiet t = refl
      marks _ t = cc

      each : (o : Option Row) → row_of p.rows q ≡ o → passes (λ r. is_going_mark r.mark) o ≡ false → is_doomed p q ≡ false
      each None e t = rw e refl
      each (Some r) e t = rw e (marks r.mark t)

  each : (c : Call) → AllPassed p (tests c) → OnlyNew p (plan p c)
  each (call.Free x) h = frees-makes (AreNew p) x (newest_ref p.rows x)
  each (call.Reparent from to x) h = handed-makes (AreNew p) to (gift p from x) tt (λ y e. tt)
  each (call.Schedule x routine user c) h = by_test (nat_eq routine 0) (λ t. rw t tt) (λ t. rw t (tt, (h.1.1.0, passed-context p c h.1.1.1.0)))
  each (call.Timer o time routine user c) h =
      let n : Obj = record { 0 = p.next } in
      let self : same n n ≡ true = same-equal n n refl in
      (tt, (tt, (rw self refl, live-added p.rows (new_row n kinds_of.Timer o 0 (codes "timer")) c nobody (passed-context p c h.1.0))))
  each (call.Fd o fd flags routine user c) h = (tt, (tt, (new, live-added p.rows (new_row (record { 0 = p.next }) kinds_of.Descriptor o 0 (codes "fd")) c nobody (passed-context p c h.1.1.1.0))))
  each (call.Post x c) h = (spared x is_finished over h.1.0 h.1.1.0, passed-context p c h.1.1.1.0)
  each (call.Error x error) h = by_test (nat_eq error 0) (λ t. rw t tt) (λ t. rw t tt)
  each (call.Endtime x time c) h = ((spared x is_in_progress going h.1.0 h.1.1.0, passed-context p c h.1.1.1.0), tt)
  each (call.Enqueue q x routine user c) h = remains q h.1.1.0
  each (call.Start q) h = by_test (runs p.queues q) (λ t. rw t tt) (λ t. rw t (tt, remains q h.1.1.0))
  each _ h = tt

  -- so it is of each call, where the number of the next object is nobody's that watches
  pub new-events : (c : Call) → OnlyNew p (planned p c)
  new-events c = planned-by (OnlyNew p) p c (each c) (λ r. tt)
