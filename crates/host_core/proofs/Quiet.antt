-- What a call of the host's own caller leads to.
use Rattle.std.proofs.Common.{◌≡◌, ◌+◌, ◌*◌, ◌≤◌, length, vec_capacity, Option, Some, None, is_some, true, refl, sym, ◌∙◌, ap, subst}
use Rattle.std.specs.Prelude.{is_none}
use Rattle.std.specs.Option.{option_map}
use Rattle.tree_specs.specs.declared.call.Call.{Call}
use Rattle.tree_specs.specs.declared.call.Call.TheVariants.{Report}
use Rattle.tree_specs.specs.declared.event.Event.TheVariants.{Replied}
use Rattle.tree_specs.specs.declared.frame.CallFrame.TheVariants.{Asking}
use Rattle.tree_specs.specs.declared.frame.Frame.TheVariants as frame
use Rattle.tree_specs.specs.declared.object.Owner.{Owner}
use Rattle.tree_specs.specs.declared.question.Ask.{Ask}
use Rattle.tree_specs.specs.declared.question.Ask.TheVariants.{Quiet}
use Rattle.tree_specs.specs.declared.question.Input.TheVariants as input
use Rattle.tree_specs.specs.Texts.Schedule.{misfit}
use Rattle.tree_specs.specs.Words.Ranges.{is_sound_call}
use Rattle.tree_specs.specs.Machine.View.{View, question_of}
use Rattle.tree_specs.specs.Invariants.Consistent.{IsConsistent}
use Rattle.requests.specs.Register.{AreInOrder}
use Rattle.object_pool.specs.Requests.{count_unreceived}
use Rattle.host_core.specs.declared.active.Active.{Active}
use Rattle.host_core.specs.declared.active.Active.TheVariants as active
use Rattle.host_core.specs.declared.caller.Stage.{Stage}
use Rattle.host_core.specs.declared.caller.Stage.TheVariants as stage
use Rattle.host_core.specs.declared.parts.Parts.{Parts}
use Rattle.host_core.specs.declared.short_reply.ShortReply.{ShortReply}
use Rattle.host_core.specs.Callers.{staged, open_at}
use Rattle.host_core.specs.Moves.{report_of, reply_of, telling}
use Rattle.host_core.specs.Stacks.{active_frame}
use Rattle.host_core.specs.Promises.{TakesCall}
use Rattle.host_core.specs.Hosts.{asked_now, caller_asked, called_view, host_view, speaking_view, ComesTo, IsBetweenSteps, MayTake, TellsSameStory}
use Rattle.host_core.proofs.Nexts.{Told, told-next, next-law}
use Rattle.host_core.proofs.Offering.{Offered, acting-caller, offered-caller, question-view, same-asked, takes-answer, waits-now}
use Rattle.host_core.proofs.StepsSilently.{stays}
use Rattle.host_core.proofs.Taking.{may_take}

-- a call that wants no report
pub no-report : (c : Call) → ((o : Owner) → c ≡ Report o → ⊥) → report_of c ≡ None
no-report (Report o) n = absurd (n o refl)
no-report _ n = refl

-- who tells a reply next, and then asks for a call
abbrev told_caller : ShortReply → Active
told_caller b = active.Caller (record { ask = Quiet; stage = stage.Telling (reply_of b) })

-- the caller that was asked asks
asks-call : (now : Active) (q : Ask) → caller_asked now ≡ Some q → active_frame now ≡ frame.Call (Asking q)
asks-call (active.Caller c) q e = each c.stage e
  where
    each : (s : Stage) → open_at s c.ask ≡ Some q → frame.Call (staged c.ask s) ≡ frame.Call (Asking q)
    each stage.Asking e = let e' : c.ask ≡ q = cc in ap (λ (z : Ask). frame.Call (Asking z)) e'
    each _ e = cc
asks-call _ q e = cc

asks-next : (now : Active) (parts : Parts) (q : Ask) → caller_asked now ≡ Some q → speaking_view (host_view now parts) ≡ true
asks-next (active.Caller c) parts q e = each c.stage e
  where
    each : (s : Stage) → open_at s c.ask ≡ Some q → speaking_view (host_view (active.Caller (record { ask = c.ask; stage = s })) parts) ≡ true
    each stage.Asking e = refl
    each _ e = cc
asks-next _ parts q e = cc

module _ (v : View) (now : Active) (parts : Parts) (c : Call) (b : IsBetweenSteps now parts) (s : speaking_view (host_view now parts) ≡ true) (is : host_view now parts ≡ v) (asks : question_of v ≡ Some Quiet) (sound : is_sound_call c ≡ true) where
  asked : asked_now now ≡ Some Quiet
  asked = sym (question-view v now parts b s is) ∙ asks

  fits : is_none (misfit (asked_now now) (input.Call c)) ≡ true
  fits = rw asked refl

  caller : (q : Ask) × (caller_asked now ≡ Some q)
  caller = acting-caller now (input.Call c) parts.objects b.ready fits tt

  by-caller : (q : Ask) → caller_asked now ≡ Some q → q ≡ Quiet
  by-caller q e = same-asked (asked_now now) q Quiet (offered-caller now parts (input.Call c) b fits sound q e).open_before asked

  pub quiet-caller : caller_asked now ≡ Some Quiet
  quiet-caller = subst (λ (z : Ask). caller_asked now ≡ Some z) (by-caller caller.0 caller.1) caller.1

  quiet-offered : Offered now parts (input.Call c) Quiet (called_view Quiet (input.Call c) parts)
  quiet-offered = offered-caller now parts (input.Call c) b fits sound Quiet quiet-caller

  module _ (new : Parts) (items : new.waiting.items ≡ parts.waiting.items) (objects : new.objects ≡ record parts.objects { ready = true }) where
    same : (q : Ask) → called_view q (input.Call c) new ≡ called_view q (input.Call c) parts
    same q = rw (items, objects) refl

    pub quiet-whole : (q : Ask) → caller_asked now ≡ Some q → IsConsistent (called_view q (input.Call c) new)
    quiet-whole q e = subst IsConsistent (sym (same q)) (offered-caller now parts (input.Call c) b fits sound q e).whole

    pub quiet-room : report_of c ≡ None → AreInOrder parts.objects.pool.requests → length new.waiting.items + 2 * (count_unreceived parts.objects.pool.requests + length parts.objects.pool.queues.running) + 5 ≤ vec_capacity new.waiting → MayTake now (input.Call c) new
    quiet-room none order places = may_take now parts (input.Call c) b fits sound refl new items objects refl none order places

    -- it goes on
    pub quiet-begun : (next : Active) (after : Parts) → ComesTo (called_view Quiet (input.Call c) new) next after → TakesCall v c None (host_view next after)
    quiet-begun next after come = takes-answer v now parts (input.Call c) Quiet _ next after b s is quiet-offered (subst (λ (z : View). TellsSameStory z (host_view next after)) (same Quiet) come.along) come.ready

    -- it is replied to
    module _ (reply : ShortReply) (after : Parts) (come : (next : Active) → active_frame next ≡ frame.Call (telling Quiet reply) → ComesTo (called_view Quiet (input.Call c) new) next after) where
      there : ComesTo (called_view Quiet (input.Call c) new) (told_caller reply) after
      there = come (told_caller reply) refl

      told : Told (Replied (reply_of reply)) (told_caller reply) after now after.objects
      told = told-next (Replied (reply_of reply)) (told_caller reply) after now after.objects there.ready (refl, asks-call now Quiet quiet-caller, refl)

      pub replied-ready : IsBetweenSteps now after
      replied-ready = told.ready

      pub replied-asks : speaking_view (host_view now after) ≡ true
      replied-asks = asks-next now after Quiet quiet-caller

      pub quiet-replied : TakesCall v c (Some (reply_of reply)) (host_view now after)
      quiet-replied = record {
        between = host_view (told_caller reply) after;
        taken = quiet-begun (told_caller reply) after there;
        told = next-law (Replied (reply_of reply)) (told_caller reply) after now after.objects _ _ there.ready there.speaks refl (refl, asks-call now Quiet quiet-caller, refl) (stays (host_view now after) told.ready.whole);
        waits = waits-now now after Quiet asked told.ready;
      }

    -- either
    pub record Done (next : Active) (result : Option ShortReply) (after : Parts) : Type 0 where
      pub ready : IsBetweenSteps next after
      pub speaks : speaking_view (host_view next after) ≡ true
      pub taken : TakesCall v c (option_map reply_of result) (host_view next after)

    pub quiet-done : (result : Option ShortReply) (next : Active) (after : Parts) → (is_some result ≡ true → next ≡ now)
        → ((q : Ask) (reply : ShortReply) (told : Active) → caller_asked now ≡ Some q → result ≡ Some reply → active_frame told ≡ frame.Call (telling q reply) → ComesTo (called_view q (input.Call c) new) told after)
        → ((q : Ask) → caller_asked now ≡ Some q → result ≡ None → ComesTo (called_view q (input.Call c) new) next after) → Done next result after
    quiet-done (Some reply) next after still replied begun =
        let come = λ (told : Active). replied Quiet reply told quiet-caller refl in
        rw (still refl) (record {
          ready = replied-ready reply after come;
          speaks = replied-asks reply after come;
          taken = quiet-replied reply after come;
        })
    quiet-done None next after still replied begun =
        let come = begun Quiet quiet-caller refl in
        record { ready = come.ready; speaks = come.speaks; taken = quiet-begun next after come }
