-- An answer that fits is taken: bytes that were read, or what takes no memory of its own.
use Rattle.std.proofs.Common.{◌≡◌, ◌+◌, ◌*◌, ◌≤◌, length, Some, None, true, false, refl, sym, ◌∙◌, subst, arith}
use Rattle.std.specs.Prelude.{is_none, vec_capacity}
use Rattle.tree_specs.specs.declared.frame.CallFrame.TheVariants.{Telling}
use Rattle.tree_specs.specs.declared.frame.Frame.TheVariants as frame
use Rattle.tree_specs.specs.declared.object.Owner.{Owner}
use Rattle.tree_specs.specs.declared.question.Ask.{Ask}
use Rattle.tree_specs.specs.declared.question.Input.{Input}
use Rattle.tree_specs.specs.Invariants.Consistent.{IsConsistent}
use Rattle.tree_specs.specs.Machine.View.{View}
use Rattle.tree_specs.specs.Texts.Schedule.{misfit}
use Rattle.tree_specs.specs.Words.Ranges.{is_sound}
use Rattle.object_pool.specs.Requests.{count_unreceived}
use Rattle.requests.specs.Register.{AreInOrder}
use Rattle.host_core.specs.declared.active.Active.{Active}
use Rattle.host_core.specs.declared.active.Active.TheVariants as active
use Rattle.host_core.specs.declared.parts.Parts.{Parts}
use Rattle.host_core.specs.Going.{CallsOutside, Reads}
use Rattle.host_core.specs.Moves.{call_of, reported}
use Rattle.host_core.specs.declared.owned_reply.OwnedReply.{OwnedReply}
use Rattle.host_core.specs.Callers.{remembers}
use Rattle.host_core.specs.Stacks.{active_frame}
use Rattle.host_core.specs.Places.{owed, taken_places}
use Rattle.host_core.proofs.KeptPlace.{kept_most}
use Rattle.host_core.specs.Promises.{TakesAnswer, taken_in}
use Rattle.host_core.specs.Reaches.{is_bytes}
use Rattle.host_core.specs.Hosts.{host_view, given_view, speaking_view, asked_now, caller_asked, IsReport, IsBetweenSteps, MayTake, TellsSameStory}
use Rattle.host_core.proofs.Draining.{undrained-most}
use Rattle.host_core.proofs.Offering.{Offered, offered, report-caller, offered-report, takes-answer}
use Rattle.host_core.proofs.Telling.{stands_at, asked-fit, asked-ready, bytes-asked, calls-outside, read_along}

-- what stands after it
pub record Taken (now : Active) (i : Input) (parts : Parts) (after : Active) (new : Parts) : Type 0 where
  pub along : TellsSameStory (given_view now i parts) (host_view after new)
  pub ready : IsBetweenSteps after new
  pub speaks : speaking_view (host_view after new) ≡ true

module _ (now : Active) (parts : Parts) (i : Input) (b : IsBetweenSteps now parts) (fits : is_none (misfit (asked_now now) i) ≡ true) (s : is_sound i ≡ true) (none : taken_in parts.objects.pool i ≡ None) where
  pub given : (q : Ask) × Offered now parts i q (given_view now i parts)
  given = offered now parts i b fits s none

  -- ---- bytes

  module _ (bytes : is_bytes i ≡ true) where
    asked : (q : Ask) × (now ≡ active.Reaching q)
    asked = bytes-asked now parts i bytes fits b given.1.whole

    there : IsBetweenSteps (active.Reaching asked.0) parts
    there = subst (λ (z : Active). IsBetweenSteps z parts) asked.1 b

    pub read_calls : CallsOutside parts.waiting.items
    read_calls = calls-outside asked.0 parts there

    pub read_taken : (after : Active) (new : Parts) → ((q : Ask) × Reads q i after parts new) → Taken now i parts after new
    read_taken after new r =
        let fits' : is_none (misfit (Some asked.0) i) ≡ true = subst (λ (z : Active). is_none (misfit (asked_now z) i) ≡ true) asked.1 fits in
        let whole : IsConsistent (given_view (active.Reaching asked.0) i parts) = subst (λ (z : Active). IsConsistent (given_view z i parts)) asked.1 given.1.whole in
        let h = read_along asked.0 r.0 i after parts new fits' whole there.fit r.1 in
        subst (λ (z : Active). Taken z i parts after new) (sym asked.1) (record { along = h.along; ready = h.ready; speaks = h.speaks })

  -- ---- any other answer, once the memory is taken

  module _ (new : Parts) (items : new.waiting.items ≡ parts.waiting.items) (objects : new.objects ≡ record parts.objects { ready = true }) where
    pub given_same : given_view now i new ≡ given_view now i parts
    given_same = rw (items, objects) refl

    pub may_take : is_bytes i ≡ false → reported (call_of i) ≡ None → AreInOrder parts.objects.pool.requests → length new.waiting.items + 2 * (count_unreceived parts.objects.pool.requests + length parts.objects.pool.queues.running) + 5 ≤ vec_capacity new.waiting → MayTake now i new
    may_take no_bytes no_report order places =
        let h = given.1.whole in
        let few = undrained-most parts.objects.pool.rows parts.objects.pool.queues.running h.sound.forest.distinct (λ x q. h.queued.pool.queues x ∙ q) in
        let kept = kept_most new.waiting.items in
        let room : taken_places new.waiting.items + 4 + 2 * owed parts.objects.pool ≤ vec_capacity new.waiting = omega (arith, places, few, kept) in
        record {
          fits = fits;
          no_bytes = no_bytes;
          no_report = no_report;
          ready = asked-ready now parts.objects new.objects given.0 given.1.open_before b.ready;
          fit = rw (items, objects) (asked-fit now parts given.0 given.1.open_before b);
          whole = subst IsConsistent (sym given_same) given.1.whole;
          room = record { ready = rw objects refl; order = rw objects order; places = rw objects room };
        }

-- ---- a report

module _ (now : Active) (parts : Parts) (i : Input) (b : IsBetweenSteps now parts) (fits : is_none (misfit (asked_now now) i) ≡ true) (s : is_sound i ≡ true) (o : Owner) (wants : reported (call_of i) ≡ Some o) where
  pub wanted_by : (q : Ask) × (caller_asked now ≡ Some q)
  wanted_by = report-caller now parts i b fits s o wants

  -- the caller that wants it is told it
  pub told_report : (r : OwnedReply) (after : Active) → IsReport i r o parts.objects.pool → ((q : Ask) → caller_asked now ≡ Some q → active_frame after ≡ frame.Call (Telling (remembers q r.copy) r.reply)) → (v : View) → speaking_view (host_view now parts) ≡ true → host_view now parts ≡ v
      → IsBetweenSteps after parts × (speaking_view (host_view after parts) ≡ true) × TakesAnswer v i (host_view after parts)
  told_report r after is tells v speaks same =
      let q = wanted_by in
      let given = offered-report now parts i b fits s q.0 o r q.1 wants is in
      let stands = stands_at after (Telling (remembers q.0 r.copy) r.reply) parts (tells q.0 q.1) (asked-fit now parts q.0 given.open_before b) given.whole in
      (stands.ready, stands.speaks, takes-answer v now parts i q.0 _ after parts b speaks same given stands.along stands.ready)
