-- What is so of the works of a turn.
use Rattle.std.proofs.Common.{◌≡◌, ℕ, suc, nat_eq, List, Option, Some, None, true, false, refl, sym, subst}
use Rattle.step_machine.specs.Machine.{followed}
use Rattle.tree_specs.specs.declared.object.Obj.{Obj}
use Rattle.tree_specs.specs.declared.row.Mark.TheVariants as mark
use Rattle.tree_specs.specs.declared.event.Event.TheVariants.{Fired}
use Rattle.tree_specs.specs.declared.question.Ask.TheVariants as ask
use Rattle.tree_specs.specs.declared.question.Input.{Input}
use Rattle.tree_specs.specs.Tree.Pool.{exit, ring_here, times_here, soon_here, Pool, set_mark, unschedule, disarm}
use Rattle.tree_specs.specs.Rules.Items.Item.{Told, Asked}
use Rattle.tree_specs.specs.Rules.Sequence.{gives, Work, asks}
use Rattle.tree_specs.specs.Rules.Answers.{clocked, polled}
use Rattle.tree_specs.specs.Rules.Story.{free, asked, taking, timing, timed, polling, starting, firing, handling, handled, closing, finishing, notifying, triggering}
use Rattle.tree_specs.specs.Rules.Pieces.{comes}
use Rattle.tree_specs.specs.declared.reply.Reply.{Reply}
use Rattle.tree_specs.specs.declared.request.State.TheVariants.{TimedOut}
use Rattle.tree_specs.specs.declared.frame.Errand.TheVariants.{Notify}
use Rattle.tree_specs.specs.Events.Requests.{is_noted}
use Rattle.tree_specs.specs.Promises.Acceptances.{returned_by}
use Rattle.tree_specs.proofs.Tree.Numbered.{by_test}
use Rattle.tree_specs.proofs.Calls.Checks.{clocked-by, polled-by}
use Rattle.tree_specs.specs.declared.occasion.Occasion.{Occasion}
use Rattle.tree_specs.specs.declared.due.Due.{Due}
use Rattle.tree_specs.specs.declared.handler.Handler.{Handler}
use Rattle.tree_specs.specs.declared.moment.What.{What}
use Rattle.tree_specs.specs.declared.moment.What.TheVariants.{Immediate as ForImmediate, Timer as ForTimer, Descriptor as ForDescriptor}
use Rattle.tree_specs.specs.declared.wants.Want.{Want}
use Rattle.tree_specs.specs.declared.coming.Coming.{Coming}
use Rattle.tree_specs.specs.Events.Pending.{first}
use Rattle.tree_specs.specs.Events.Rotation.{Ready, first_ready}
use Rattle.tree_specs.specs.Events.Coming.{wait_limit, handler_for, handler_moment, at_time, with_flags, plainly, begun, goes_after, looks_again}
use Rattle.std.specs.Prelude.{Bool, nat_le, ◌-◌, if◌then◌else◌}
use Rattle.tree_specs.proofs.Rules.Lawful.{ended-lawful, Last, Lawful, Any, Said, same-lawful, told-lawful, followed-lawful, asks-lawful, Returned, scene_of, AllLawful}
use Rattle.tree_specs.specs.Events.Queues.{has_queue}
use Rattle.tree_specs.specs.Calls.Refusals.{is_doomed}

pub clocked-lawful : (timed : ℕ → Work ℕ) (p : Pool) (last : Last) → ((now : ℕ) (l : Last) → Lawful l Any (timed now p)) → Lawful last Any (asks (Asked ask.Clock) (clocked timed) p)
clocked-lawful timed p last h = asks-lawful last Any ask.Clock (clocked timed) p
    (λ i w e. (let t = clocked-by timed i w e in subst (λ (u : Work ℕ). Lawful (returned_by ask.Clock i) Any (u p)) (sym t.1) (h t.0 (returned_by ask.Clock i))))

-- a request or an event has come
comes-lawful : (n : ℕ) → AllLawful n → (b : Bool) (w : Work Reply) (what : What) (x : Obj) (o : Occasion) (p : Pool) (last : Last) → Lawful last Said (w p) → Lawful last Any (comes b w (closing n 1) (starting n what x o) p)
comes-lawful n ih true w what x o p last h = followed-lawful last Said Any (w p) _ h (λ r q l s. ih.turns.closing 1 q l)
comes-lawful n ih false w what x o p last h = ih.turns.starting what x o p last

pub taking-lawful : (n : ℕ) → AllLawful n → (p : Pool) (last : Last) → Lawful last Any (taking (suc n) p)
taking-lawful n ih p last = each (first (soon_here p)) refl
  where
    due : first (soon_here p) ≡ None → (o : Option Due) → first (times_here p) ≡ o → Lawful last Any (taking (suc n) p)
    due e None k = same-lawful last Any (taking (suc n) p) (polling n wait_limit p) (λ js. rw (e, k) refl) (ih.turns.polling wait_limit p last)
    due e (Some d) k = by_test (nat_eq d.time 0)
        (λ t. same-lawful last Any (taking (suc n) p) (comes (is_noted p.requests d.object) (finishing n d.object TimedOut) (closing n 1) (starting n ForTimer d.object (at_time 0)) (disarm p d.object)) (λ js. rw (e, k, t) refl)
        (comes-lawful n ih (is_noted p.requests d.object) (finishing n d.object TimedOut) ForTimer d.object (at_time 0) (disarm p d.object) last (ih.requests.finishing d.object TimedOut (disarm p d.object) last)))
        (λ t. same-lawful last Any (taking (suc n) p) (timing n false p) (λ js. rw (e, k, t) refl) (ih.turns.timing false p last))

    each : (o : Option Coming) → first (soon_here p) ≡ o → Lawful last Any (taking (suc n) p)
    each None e = due e (first (times_here p)) refl
    each (Some y) e =
        let x : Obj = y.object in
        by_test (is_noted p.requests x)
        (λ t. same-lawful last Any (taking (suc n) p) (comes true (notifying n x Notify) (closing n 1) (starting n ForImmediate x plainly) (unschedule p x)) (λ js. rw (e, t) refl)
        (comes-lawful n ih true (notifying n x Notify) ForImmediate x plainly (unschedule p x) last (ih.requests.notifying x Notify (unschedule p x) last)))
        (λ t. same-lawful last Any (taking (suc n) p) (comes (has_queue p.queues x) (triggering n x) (closing n 1) (starting n ForImmediate x plainly) (unschedule p x)) (λ js. rw (e, t) refl)
        (comes-lawful n ih (has_queue p.queues x) (triggering n x) ForImmediate x plainly (unschedule p x) last (ih.requests.triggering x (unschedule p x) last)))

pub timed-lawful : (n : ℕ) → AllLawful n → (again : Bool) (now : ℕ) (p : Pool) (last : Last) → Lawful last Any (timed (suc n) again now p)
timed-lawful n ih again now p last = each again (first (times_here p)) refl
  where
    each : (again : Bool) (o : Option Due) → first (times_here p) ≡ o → Lawful last Any (timed (suc n) again now p)
    each again None e = same-lawful last Any (timed (suc n) again now p) (closing n 0 p) (λ js. rw e refl) (ih.turns.closing 0 p last)
    each again (Some d) e = by_test (nat_le d.time now)
        (λ t. same-lawful last Any (timed (suc n) again now p) (comes (is_noted p.requests d.object) (finishing n d.object TimedOut) (closing n 1) (starting n ForTimer d.object (at_time now)) (disarm p d.object)) (λ js. rw (e, t) refl)
        (comes-lawful n ih (is_noted p.requests d.object) (finishing n d.object TimedOut) ForTimer d.object (at_time now) (disarm p d.object) last (ih.requests.finishing d.object TimedOut (disarm p d.object) last)))
        (λ t. early again d e t)
      where
        early : (again : Bool) (d : Due) → first (times_here p) ≡ Some d → nat_le d.time now ≡ false → Lawful last Any (timed (suc n) again now p)
        early true d e t = same-lawful last Any (timed (suc n) true now p) (closing n 0 p) (λ js. rw (e, t) refl) (ih.turns.closing 0 p last)
        early false d e t = same-lawful last Any (timed (suc n) false now p) (polling n (d.time - now) p) (λ js. rw (e, t) refl) (ih.turns.polling (d.time - now) p last)

pub polling-lawful : (n : ℕ) → AllLawful n → (limit : ℕ) (p : Pool) (last : Last) → Lawful last Any (polling (suc n) limit p)
polling-lawful n ih limit p last = asks-lawful last Any (ask.Wait limit) _ p next
  where
    looked : List Want → Work ℕ
    looked wants q is = (if looks_again q wants then timing n true else elim (first_ready (ring_here q) wants) [
      | None ↦ closing n 0
      | Some r ↦ starting n ForDescriptor r.object (with_flags r.flags)
    ]) q is

    ready : (l : Last) (wants : List Want) → looks_again p wants ≡ false → (o : Option Ready) → first_ready (ring_here p) wants ≡ o → Lawful l Any (looked wants p)
    ready l wants a None k = same-lawful l Any (looked wants p) (closing n 0 p) (λ js. rw (a, k) refl) (ih.turns.closing 0 p l)
    ready l wants a (Some r) k = same-lawful l Any (looked wants p) (starting n ForDescriptor r.object (with_flags r.flags) p) (λ js. rw (a, k) refl)
        (ih.turns.starting ForDescriptor r.object (with_flags r.flags) p l)

    next : (i : Input) (w : Work ℕ) → polled limit looked i ≡ Some w → Lawful (returned_by (ask.Wait limit) i) Any (w p)
    next i w e =
        let t = polled-by limit looked i w e in
        let l : Last = returned_by (ask.Wait limit) i in
        subst (λ (u : Work ℕ). Lawful l Any (u p)) (sym t.1) (by_test (looks_again p t.0)
        (λ a. same-lawful l Any (looked t.0 p) (timing n true p) (λ js. rw a refl) (ih.turns.timing true p l))
        (λ a. ready l t.0 a (first_ready (ring_here p) t.0) refl))

pub starting-lawful : (n : ℕ) → AllLawful n → (what : What) (x : Obj) (occasion : Occasion) (p : Pool) (last : Last) → Lawful last Any (starting (suc n) what x occasion p)
starting-lawful n ih what x occasion p last = each (handler_for p what x) refl
  where
    each : (o : Option Handler) → handler_for p what x ≡ o → Lawful last Any (starting (suc n) what x occasion p)
    each None e = same-lawful last Any (starting (suc n) what x occasion p) (closing n 1 p) (λ js. rw e refl) (ih.turns.closing 1 p last)
    each (Some h) e = same-lawful last Any (starting (suc n) what x occasion p) (firing n what x h occasion (begun what x p)) (λ js. rw e refl) (ih.turns.firing what x h occasion (begun what x p) last)

-- a context that was to be freed meanwhile is freed at the end
pub closing-lawful : (n : ℕ) → AllLawful n → (v : ℕ) (p : Pool) (last : Last) → Lawful last Any (closing (suc n) v p)
closing-lawful n ih v p last = each p.turning refl
  where
    each : (o : Option Obj) → p.turning ≡ o → Lawful last Any (closing (suc n) v p)
    each None e = same-lawful last Any (closing (suc n) v p) (gives v p) (λ js. rw e refl) (ended-lawful last Any v p tt)
    each (Some c) e = by_test (is_doomed p c)
        (λ t. same-lawful last Any (closing (suc n) v p) (λ js. followed (free n c (exit p c) js) (λ a q left. closing n v q left)) (λ js. rw (e, t) refl)
        (followed-lawful last Any Any (free n c (exit p c)) (λ a q left. closing n v q left) (ih.frees.free c (exit p c) last) (λ a q l k. ih.turns.closing v q l)))
        (λ t. same-lawful last Any (closing (suc n) v p) (gives v (exit p c)) (λ js. rw (e, t) refl) (ended-lawful last Any v (exit p c) tt))

pub firing-lawful : (n : ℕ) → AllLawful n → (what : What) (x : Obj) (h : Handler) (occasion : Occasion) (p : Pool) (last : Last) → Lawful last Any (firing (suc n) what x h occasion p)
firing-lawful n ih what x h occasion p last = told-lawful last Any (scene_of (Told (Fired what x h.routine)) p) (handling n what x h occasion p) tt (λ is. (refl, refl)) (ih.turns.handling what x h occasion p None)

pub handling-lawful : (n : ℕ) → AllLawful n → (what : What) (x : Obj) (h : Handler) (occasion : Occasion) (p : Pool) (last : Last) → Lawful last Any (handling (suc n) what x h occasion p)
handling-lawful n ih what x h occasion p last =
    followed-lawful last (Returned (ask.Routine (handler_moment what x h occasion))) Any (asked n (ask.Routine (handler_moment what x h occasion)) p) _ (ih.calls.asked (ask.Routine (handler_moment what x h occasion)) p last)
    (λ v q l k. ih.turns.handled what x q l)

pub handled-lawful : (n : ℕ) → AllLawful n → (what : What) (x : Obj) (p : Pool) (last : Last) → Lawful last Any (handled (suc n) what x p)
handled-lawful n ih what x p last = by_test (goes_after p what x)
    (λ t. same-lawful last Any (handled (suc n) what x p) (λ js. followed (free n x (set_mark p x mark.Quiet) js) (λ a q left. closing n 1 q left)) (λ js. rw t refl)
    (followed-lawful last Any Any (free n x (set_mark p x mark.Quiet)) (λ a q left. closing n 1 q left) (ih.frees.free x (set_mark p x mark.Quiet) last) (λ a q l k. ih.turns.closing 1 q l)))
    (λ t. same-lawful last Any (handled (suc n) what x p) (closing n 1 (set_mark p x mark.Quiet)) (λ js. rw t refl) (ih.turns.closing 1 (set_mark p x mark.Quiet) last))
