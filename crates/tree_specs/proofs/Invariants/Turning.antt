-- How a turn goes on: what is to start, and the works that it goes on as.
use Rattle.std.proofs.Common.{subst, sym, inl, inr, ◌≡◌, ℕ, ◌≤◌, List, [], ◌∷◌, Option, Some, None, true, false, nat_eq, nat_le, Bool, refl, ap, ◌∙◌, arith}
use Rattle.std.specs.Prelude.{◌-◌}
use Rattle.step_machine.specs.Machine.{Move as Do}
use Rattle.tree_specs.specs.declared.object.Obj.{Obj}
use Rattle.tree_specs.specs.declared.due.Due.{Due}
use Rattle.tree_specs.specs.declared.row.Row.{Row}
use Rattle.tree_specs.specs.declared.row.Mark.{Mark}
use Rattle.tree_specs.specs.declared.row.Mark.TheVariants.{Busy, Quiet}
use Rattle.tree_specs.specs.declared.kind.Kind.{Kind}
use Rattle.tree_specs.specs.declared.kind.Kind.TheVariants as kind
use Rattle.tree_specs.specs.declared.handler.Handler.{Handler}
use Rattle.tree_specs.specs.declared.moment.What.{What}
use Rattle.tree_specs.specs.declared.moment.What.TheVariants.{Immediate as ForImmediate, Timer as ForTimer, Descriptor as ForDescriptor}
use Rattle.tree_specs.specs.declared.occasion.Occasion.{Occasion}
use Rattle.tree_specs.specs.declared.question.Input.{Input}
use Rattle.tree_specs.specs.declared.frame.Frame.{Frame}
use Rattle.tree_specs.specs.declared.frame.Frame.TheVariants as frame
use Rattle.tree_specs.specs.declared.frame.TurnFrame.{TurnFrame}
use Rattle.tree_specs.specs.declared.frame.TurnFrame.TheVariants.{Taking, Timing, Timed, Polling, Starting, Serving, Closing}
use Rattle.tree_specs.specs.declared.frame.RequestFrame.TheVariants as request
use Rattle.tree_specs.specs.declared.frame.Errand.{Errand}
use Rattle.tree_specs.specs.declared.frame.Errand.TheVariants.{Finish, Notify}
use Rattle.tree_specs.specs.declared.request.State.TheVariants.{TimedOut}
use Rattle.tree_specs.specs.declared.coming.Coming.{Coming}
use Rattle.tree_specs.specs.Events.Requests.{is_noted}
use Rattle.tree_specs.specs.Tree.Targets.{target_of, is_context}
use Rattle.tree_specs.specs.Tree.Pool.{set_mark, marked_row, Pool, row_of, here, soon_here, times_here, ring_here, unschedule, disarm}
use Rattle.tree_specs.specs.Words.Objects.{first_context, same}
use Rattle.tree_specs.specs.Events.Pending.{first, is_armed}
use Rattle.tree_specs.proofs.Events.PendingLaws.{disarmed-other, within-armed}
use Rattle.tree_specs.specs.Events.Rotation.{Ready as ReadyOne, first_ready}
use Rattle.tree_specs.specs.Events.Coming.{at_turn, is_at_turn, is_at_turn_row, wait_limit, comes_as, is_quiet_mark, may_start, handler_for, looks_again, at_time, with_flags, plainly, rotated}
use Rattle.tree_specs.specs.Calls.Refusals.{is_referable}
use Rattle.tree_specs.specs.Machine.Table.{Step, work_of, due_now, due_step, taking_step, early_step, timed_step, timed_turn, ready_turn, looked_turn, turn_step, turn_taken}
use Rattle.tree_specs.specs.Machine.Profiles.{turn_profile, caller_size}
use Rattle.tree_specs.specs.Invariants.Sound.{Footing, IsTurned, TurnRests}
use Rattle.tree_specs.proofs.Tree.Numbered.{same_or_not, by_test, same-equal}
use Rattle.tree_specs.proofs.Tree.Rows.{row_of-changed-other}
use Rattle.tree_specs.proofs.Calls.Checks.{both-true, clocked-by, polled-by}
use Rattle.tree_specs.specs.Events.Queues.{has_queue}
use Rattle.tree_specs.specs.Events.Handlers.{handler_of}

-- ---- what is to start

-- an event with which nothing goes on, and which comes as this
pub record Ready (rows : List Row) (what : What) (x : Obj) : Type 0 where
  pub row : Row
  pub is : row_of rows x ≡ Some row
  pub object : target_of row.kind ≡ None
  pub event : is_referable row.kind ≡ false
  pub comes : comes_as what row.kind ≡ true
  pub context : is_context row.kind ≡ false
  pub quiet : row.mark ≡ Quiet

quiet-mark : (m : Mark) → is_quiet_mark m ≡ true → m ≡ Quiet
quiet-mark Quiet e = refl
quiet-mark _ e = cc

-- an event is neither plain nor a reference
pub comes-event : (w : What) (k : Kind) → comes_as w k ≡ true → (target_of k ≡ None) × (is_referable k ≡ false) × (is_context k ≡ false)
comes-event ForImmediate kind.Immediate e = (refl, refl, refl)
comes-event ForTimer kind.Timer e = (refl, refl, refl)
comes-event ForDescriptor kind.Descriptor e = (refl, refl, refl)
comes-event _ _ e = cc

pub handler-ready : (p : Pool) (w : What) (x : Obj) (h : Handler) → handler_for p w x ≡ Some h → Ready p.rows w x
handler-ready p w x h e = by_test (may_start w (row_of p.rows x)) (λ t. by-row (row_of p.rows x) refl t) (λ t. let bad : None ≡ Some h = rw t at e in cc)
  where
    by-row : (o : Option Row) → row_of p.rows x ≡ o → may_start w o ≡ true → Ready p.rows w x
    by-row None k t = cc
    by-row (Some r) k t =
        let b = both-true (comes_as w r.kind) (is_quiet_mark r.mark) t in
        let c = comes-event w r.kind b.0 in
        record { row = r; is = k; object = c.0; event = c.1; comes = b.0; context = c.2; quiet = quiet-mark r.mark b.1 }

-- its handler, in a turn of its context
pub handler-home : (p : Pool) (w : What) (x : Obj) (h : Handler) → handler_for p w x ≡ Some h → (handler_of p.handlers x ≡ Some h) × (is_at_turn p h.context ≡ true)
handler-home p w x h e = by_test (may_start w (row_of p.rows x)) (λ t. found (handler_of p.handlers x) refl (rw t at e)) (λ t. let bad : None ≡ Some h = rw t at e in cc)
  where
    found : (o : Option Handler) → handler_of p.handlers x ≡ o → at_turn p o ≡ Some h → (handler_of p.handlers x ≡ Some h) × (is_at_turn p h.context ≡ true)
    found None k t = cc
    found (Some g) k t = by_test (is_at_turn p g.context)
        (λ u. let t' : Some g ≡ Some h = rw u at t in let is : g ≡ h = cc in (k ∙ t', subst (λ (z : Handler). is_at_turn p z.context ≡ true) is u))
        (λ u. let bad : None ≡ Some h = rw u at t in cc)

-- so it is once it is busy
pub at-turn-busy : (p : Pool) (x c : Obj) (r : Row) → row_of p.rows x ≡ Some r → is_context r.kind ≡ false → is_at_turn p c ≡ true → is_at_turn (set_mark p x Busy) c ≡ true
at-turn-busy p x c r is other h = by_test (same c first_context)
    (λ t. rw t refl)
    (λ t.
    let h' : is_at_turn_row (row_of p.rows c) ≡ true = rw t at h in
    elim (same_or_not x c) [
      | inl e ↦ (let k : is_at_turn_row (row_of p.rows x) ≡ true = subst (λ (z : Obj). is_at_turn_row (row_of p.rows z) ≡ true) (sym e) h' in let k' : is_at_turn_row (Some r) ≡ true = rw is at k in let bad : false ≡ true = rw other at k' in cc)
      | inr ne ↦ rw (t, row_of-changed-other (marked_row Busy) p.rows x c (λ z. refl) ne) h'
    ])

-- an event that comes goes to the end of the rotation, and nothing else changes
pub rotated-rows : (w : What) (x : Obj) (p : Pool) → ((rotated w x p).rows ≡ p.rows) × ((rotated w x p).next ≡ p.next) × ((rotated w x p).requests ≡ p.requests) × ((rotated w x p).turning ≡ p.turning)
rotated-rows ForDescriptor x p = (refl, refl, refl, refl)
rotated-rows _ x p = (refl, refl, refl, refl)

-- ---- works of a turn that say nothing of an object

pub record IsPlain (f : TurnFrame) (steps : ℕ) : Type 0 where
  pub claims : (turn_profile f).claims ≡ None
  pub size : (turn_profile f).top_size ≡ caller_size
  pub cheap : (turn_profile f).steps ≤ steps
  pub rests : (on : Footing) (p : Pool) → IsTurned on → TurnRests f on p

pub plain-timed : (again : Bool) (now : ℕ) → IsPlain (Timed again now) 13
plain-timed again now = record { claims = refl; size = refl; cheap = omega arith; rests = λ on p h. h }

pub plain-timing : (again : Bool) → IsPlain (Timing again) 4
plain-timing again = record { claims = refl; size = refl; cheap = omega arith; rests = λ on p h. h }

pub plain-polling : (limit : ℕ) → IsPlain (Polling limit) 4
plain-polling limit = record { claims = refl; size = refl; cheap = omega arith; rests = λ on p h. h }

pub plain-starting : (w : What) (x : Obj) (occasion : Occasion) → IsPlain (Starting w x occasion) 4
plain-starting w x occasion = record { claims = refl; size = refl; cheap = omega arith; rests = λ on p h. h }

pub plain-closing : (v : ℕ) → IsPlain (Closing v) 4
plain-closing v = record { claims = refl; size = refl; cheap = omega arith; rests = λ on p h. h }

plain-more : (f : TurnFrame) → IsPlain f 4 → IsPlain f 13
plain-more f h = record { claims = h.claims; size = h.size; cheap = (let l = h.cheap in omega (arith, l)); rests = h.rests }

-- ---- looking for what comes

-- a request is notified in its turn, or times out where it has an end time
abbrev pub IsServed : Pool → Errand → Obj → Type 0
IsServed p Notify x = Unit {0}
IsServed p (Finish TimedOut) x = is_armed p.times x ≡ true
IsServed p errand x = ⊥

-- it goes on over the same rows, and says nothing of an object
pub data Passes (p : Pool) : Step → Type 0 where
  Pass : (g : TurnFrame) (q : Pool) → q.rows ≡ p.rows → q.next ≡ p.next → q.requests ≡ p.requests → q.queues ≡ p.queues → q.turning ≡ p.turning → ((y : Obj) → is_armed q.times y ≡ true → is_armed p.times y ≡ true) → IsPlain g 4 → Passes p (Do.Go (frame.Turn g) q)
  -- or a queue has come
  Trigger : (x : Obj) (q : Pool) → q.rows ≡ p.rows → q.next ≡ p.next → q.requests ≡ p.requests → q.queues ≡ p.queues → q.turning ≡ p.turning → ((y : Obj) → is_armed q.times y ≡ true → is_armed p.times y ≡ true) → has_queue p.queues x ≡ true
      → Passes p (Do.Call (frame.Request (request.Triggering x)) (frame.Turn (Serving x)) q)
  -- or a request
  Serve : (errand : Errand) (x : Obj) (q : Pool) → q.rows ≡ p.rows → q.next ≡ p.next → q.requests ≡ p.requests → q.queues ≡ p.queues → q.turning ≡ p.turning → ((y : Obj) → is_armed q.times y ≡ true → is_armed p.times y ≡ true) → IsServed p errand x → is_noted p.requests x ≡ true
      → Passes p (Do.Call (work_of errand x) (frame.Turn (Serving x)) q)

-- the two works that look
abbrev pub IsLook : TurnFrame → Type 0
IsLook Taking = Unit {0}
IsLook (Timed again now) = Unit {0}
IsLook f = ⊥

-- what is first has a time
first-armed : (ds : List Due) (d : Due) → first ds ≡ Some d → is_armed ds d.object ≡ true
first-armed [] d e = cc
first-armed (c ∷ ds) d e = let e' : c ≡ d = cc in let self : same c.object d.object ≡ true = same-equal c.object d.object (ap (λ (z : Due). z.object) e') in rw self refl

first-armed-here : (p : Pool) (d : Due) → first (times_here p) ≡ Some d → is_armed p.times d.object ≡ true
first-armed-here p d e = within-armed p.times (here p) d.object (first-armed (times_here p) d e)

-- a time has come
due-passes : (x : Obj) (now : ℕ) (p : Pool) → is_armed p.times x ≡ true → Passes p (due_now x now p)
due-passes x now p timed = by_test (is_noted p.requests x)
    (λ t. rw t (Serve (Finish TimedOut) x (disarm p x) refl refl refl refl refl (λ y h. (disarmed-other p.times x y h).0) timed t))
    (λ t. rw t (Pass (Starting ForTimer x (at_time now)) (disarm p x) refl refl refl refl refl (λ y h. (disarmed-other p.times x y h).0) (plain-starting ForTimer x (at_time now))))

pub look-passes : (f : TurnFrame) (p : Pool) → IsLook f → Passes p (turn_step f p)
look-passes Taking p i = each (first (soon_here p))
  where
    due : (o : Option Due) → first (times_here p) ≡ o → Passes p (due_step o p)
    due None e = Pass (Polling wait_limit) p refl refl refl refl refl (λ y h. h) (plain-polling wait_limit)
    due (Some d) e = by_test (nat_eq d.time 0)
        (λ t. rw t (due-passes d.object 0 p (first-armed-here p d e)))
        (λ t. rw t (Pass (Timing false) p refl refl refl refl refl (λ y h. h) (plain-timing false)))

    each : (o : Option Coming) → Passes p (taking_step o p)
    each None = due (first (times_here p)) refl
    each (Some y) =
        let x : Obj = y.object in
        by_test (is_noted p.requests x)
        (λ t. rw t (Serve Notify x (unschedule p x) refl refl refl refl refl (λ y h. h) tt t))
        (λ t. rw t (by_test (has_queue p.queues x)
        (λ u. rw u (Trigger x (unschedule p x) refl refl refl refl refl (λ y h. h) u))
        (λ u. rw u (Pass (Starting ForImmediate x plainly) (unschedule p x) refl refl refl refl refl (λ y h. h) (plain-starting ForImmediate x plainly)))))
look-passes (Timed again now) p i = each (first (times_here p)) refl
  where
    early : (again : Bool) (d : Due) → Passes p (early_step again d now p)
    early true d = Pass (Closing 0) p refl refl refl refl refl (λ y h. h) (plain-closing 0)
    early false d = Pass (Polling (d.time - now)) p refl refl refl refl refl (λ y h. h) (plain-polling (d.time - now))

    each : (o : Option Due) → first (times_here p) ≡ o → Passes p (timed_step again now o p)
    each None e = Pass (Closing 0) p refl refl refl refl refl (λ y h. h) (plain-closing 0)
    each (Some d) e = by_test (nat_le d.time now)
        (λ t. rw t (due-passes d.object now p (first-armed-here p d e)))
        (λ t. rw t (early again d))
look-passes _ p i = absurd i

-- ---- what an answer leads to

-- an event on a descriptor comes, or none
ready-plain : (o : Option ReadyOne) → (t : TurnFrame) × (ready_turn o ≡ frame.Turn t) × IsPlain t 13
ready-plain None = (Closing 0, refl, plain-more (Closing 0) (plain-closing 0))
ready-plain (Some r) =
    let t : TurnFrame = Starting ForDescriptor r.object (with_flags r.flags) in
    (t, refl, plain-more t (plain-starting ForDescriptor r.object (with_flags r.flags)))

pub taken-plain : (f : TurnFrame) (p : Pool) (i : Input) (g : Frame) → turn_taken f p i ≡ Some g → (t : TurnFrame) × (g ≡ frame.Turn t) × IsPlain t 13
taken-plain (Timing again) p i g e = let t = clocked-by (timed_turn again) i g e in (Timed again t.0, t.1, plain-timed again t.0)
taken-plain (Polling limit) p i g e =
    let t = polled-by limit (looked_turn p) i g e in
    let r = ready-plain (first_ready (ring_here p) t.0) in
    by_test (looks_again p t.0)
    (λ l. (Timing true, t.1 ∙ rw l refl, plain-more (Timing true) (plain-timing true)))
    (λ l. (r.0, t.1 ∙ rw l r.1, r.2))
taken-plain _ p i g e = cc
