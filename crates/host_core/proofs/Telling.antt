-- A reply that owns memory: a report, or bytes that were read, is told to the caller whose call it was.
use Rattle.std.proofs.Common.{◌≡◌, ℕ, ◌≤◌, List, [], ◌∷◌, ◌++◌, reverse, Option, Some, true, false, refl, sym, ◌∙◌, ap, subst}
use Rattle.std.specs.Prelude.{is_none}
use Rattle.std.proofs.lemmas.List.{reverse-reverse}
use Rattle.step_machine.specs.Machine.{Move}
use Rattle.step_machine.specs.Machine.{Move as Do}
use Rattle.tree_specs.specs.declared.frame.Answer.{Answer}
use Rattle.tree_specs.specs.declared.frame.Answer.TheVariants as answered
use Rattle.tree_specs.specs.declared.frame.CallFrame.TheVariants as call_frame
use Rattle.tree_specs.specs.Rules.Items.{Item}
use Rattle.tree_specs.specs.Tree.Pool.{Pool}
use Rattle.tree_specs.specs.declared.frame.CallFrame.{CallFrame}
use Rattle.tree_specs.specs.declared.frame.CallFrame.TheVariants.{Asking, Telling}
use Rattle.tree_specs.specs.declared.frame.Frame.{Frame}
use Rattle.tree_specs.specs.declared.frame.Frame.TheVariants as frame
use Rattle.tree_specs.specs.declared.frame.OutsideFrame.TheVariants.{Reaching}
use Rattle.tree_specs.specs.declared.frame.TurnFrame.{TurnFrame}
use Rattle.tree_specs.specs.declared.frame.TurnFrame.TheVariants.{Timing, Polling}
use Rattle.tree_specs.specs.declared.question.Ask.{Ask}
use Rattle.tree_specs.specs.declared.question.Input.{Input}
use Rattle.tree_specs.specs.declared.question.Input.TheVariants as input
use Rattle.tree_specs.specs.declared.reply.Reply.TheVariants as reply
use Rattle.tree_specs.specs.Invariants.Consistent.{IsConsistent}
use Rattle.tree_specs.specs.Machine.Table.{outside_step}
use Rattle.tree_specs.specs.Machine.View.{begin}
use Rattle.tree_specs.specs.Tree.Pool.{empty}
use Rattle.tree_specs.specs.declared.question.Ask.TheVariants.{Quiet}
use Rattle.tree_specs.proofs.Rules.StoryLaws.{begin-whole}
use Rattle.host_core.specs.declared.caller.Stage.TheVariants as stage
use Rattle.tree_specs.specs.Rules.Answers.{later}
use Rattle.tree_specs.specs.Texts.Schedule.{misfit}
use Rattle.object_pool.specs.Objects.{Objects}
use Rattle.host_core.specs.declared.active.Active.{Active}
use Rattle.host_core.specs.declared.active.Active.TheVariants as active
use Rattle.host_core.specs.declared.answer.Answer.TheVariants.{Turned}
use Rattle.host_core.specs.declared.parts.Parts.{Parts}
use Rattle.host_core.specs.declared.waiting.Waiting.{Waiting}
use Rattle.host_core.specs.declared.waiting.Waiting.TheVariants.{Turning}
use Rattle.host_core.specs.Callers.{frame_of}
use Rattle.host_core.specs.Going.{AnswersTo, CallsOutside, Reads}
use Rattle.host_core.specs.Reaches.{is_bytes, outside_given}
use Rattle.host_core.specs.Stacks.{active_frame, Fits, standing}
use Rattle.host_core.specs.Turns.{turn_asks}
use Rattle.host_core.specs.Hosts.{moved, next_of, speaks, FrameReady, host_view, below_in, given_view, speaking_view, asked_now, PartsReady, IsBetweenSteps, TellsSameStory}
use Rattle.host_core.proofs.StepsSilently.{stays, along-then, onward}
use Rattle.host_core.proofs.Answering.{caller-acts}
use Rattle.host_core.proofs.Ending.{turned-call}
use Rattle.host_core.proofs.Going.{below-waiter, pushed}
use Rattle.host_core.proofs.Offering.{caller-now}
use Rattle.host_core.proofs.Reaching.{read-step, kept, no-reason}
use Rattle.host_core.proofs.Speaking.{caller_speaking}

-- ---- a caller is told something next

-- what it is then
pub record Stands (f : CallFrame) (now : Active) (parts : Parts) : Type 0 where
  pub along : TellsSameStory (record { innermost = frame.Call f; below = below_in parts; pool = parts.objects.pool }) (host_view now parts)
  pub ready : IsBetweenSteps now parts
  pub speaks : speaking_view (host_view now parts) ≡ true

pub stands_at : (now : Active) (f : CallFrame) (parts : Parts) → active_frame now ≡ frame.Call f → Fits parts.objects.works (reverse parts.waiting.items) → IsConsistent (record { innermost = frame.Call f; below = below_in parts; pool = parts.objects.pool }) → Stands f now parts
stands_at now f parts e fit h =
    let n = caller-now now f e in
    let whole : IsConsistent (host_view (active.Caller n.0) parts) = subst (λ (g : CallFrame). IsConsistent (record { innermost = frame.Call g; below = below_in parts; pool = parts.objects.pool })) (sym n.2) h in
    let stands : Stands (frame_of n.0) (active.Caller n.0) parts = record {
      along = stays (host_view (active.Caller n.0) parts) whole;
      ready = record { whole = whole; fit = fit; ready = tt; places = tt };
      speaks = caller_speaking n.0 (below_in parts) parts.objects.pool;
    } in
    subst (λ (z : Active). Stands f z parts) (sym n.1) (subst (λ (g : CallFrame). Stands g (active.Caller n.0) parts) n.2 stands)

-- where a question is open it is marked where the open frees wait
pub asked-fit : (now : Active) (parts : Parts) (q : Ask) → asked_now now ≡ Some q → IsBetweenSteps now parts → Fits parts.objects.works (reverse parts.waiting.items)
asked-fit (active.Caller c) parts q e b = b.fit
asked-fit (active.Turning t) parts q e b = b.fit
asked-fit (active.Reaching r) parts q e b = b.fit
asked-fit _ parts q e b = cc

-- who asks has no use for the memory before the answer
pub asked-ready : (now : Active) (o new : Objects) (q : Ask) → asked_now now ≡ Some q → PartsReady now o → PartsReady now new
asked-ready (active.Caller c) o new q e r = tt
asked-ready (active.Turning t) o new q e r = record { question = r.question; frame = each t.frame (sym r.question ∙ e) }
  where
    each : (f : TurnFrame) → turn_asks f ≡ Some q → FrameReady f new
    each (Timing again) e = tt
    each (Polling limit) e = tt
    each _ e = cc
asked-ready (active.Reaching r) o new q e k = k
asked-ready _ o new q e r = cc

-- ---- bytes that were read

-- they were asked of the outside
pub bytes-asked : (now : Active) (parts : Parts) (i : Input) → is_bytes i ≡ true → is_none (misfit (asked_now now) i) ≡ true → IsBetweenSteps now parts → IsConsistent (given_view now i parts) → (q : Ask) × (now ≡ active.Reaching q)
bytes-asked (active.Reaching q) parts i bytes fits b h = (q, refl)
bytes-asked (active.Caller c) parts (input.Got octets) bytes fits b h = absurd (caller-acts c.stage c.ask (input.Got octets) (below_in parts) fits h.seated)
bytes-asked (active.Turning t) parts (input.Got octets) bytes fits b h = absurd (never t.frame (ap (λ (z : Option Ask). is_none (misfit z (input.Got octets))) (sym b.ready.question) ∙ fits))
  where
    never : (f : TurnFrame) → is_none (misfit (turn_asks f) (input.Got octets)) ≡ true → ⊥
    never (Timing again) fits = cc
    never (Polling limit) fits = cc
    never _ fits = cc
bytes-asked _ parts (input.Got octets) bytes fits b h = cc
bytes-asked _ parts _ bytes fits b h = cc

-- a call waits for them
pub calls-outside : (q : Ask) (parts : Parts) → IsBetweenSteps (active.Reaching q) parts → CallsOutside parts.waiting.items
calls-outside q parts b =
    let a = turned-call (frame.Outside (Reaching q)) (Turned 0) parts.objects (λ z. z) (λ z. z) (λ z. z) (λ z. z) (λ q. tt) parts.objects.works (reverse parts.waiting.items) b.fit b.whole.sound.waiting b.whole.seated b.whole.calm.1 in
    each a.first a.others a.are a.answers
  where
    each : (first : Waiting) (others : List Waiting) → reverse parts.waiting.items ≡ first ∷ others → AnswersTo (Turned 0) first parts.objects → CallsOutside parts.waiting.items
    each (Turning asked) others are answers =
        let turned : reverse (reverse others ++ Turning asked ∷ []) ≡ Turning asked ∷ others = pushed (reverse others) (reverse others ++ Turning asked ∷ []) (Turning asked) refl ∙ ap (λ (l : List Waiting). Turning asked ∷ l) (reverse-reverse others) in
        record { question = asked; others = reverse others; are = sym (reverse-reverse parts.waiting.items) ∙ ap reverse (are ∙ sym turned) ∙ reverse-reverse (reverse others ++ Turning asked ∷ []) }
    each _ others are answers = absurd answers

-- the outside has answered with them, and the call that waits is told them
pub record Heard (asked : Ask) (i : Input) (old : Parts) (now : Active) (new : Parts) : Type 0 where
  pub along : TellsSameStory (given_view (active.Reaching asked) i old) (host_view now new)
  pub ready : IsBetweenSteps now new
  pub speaks : speaking_view (host_view now new) ≡ true

module _ (asked q : Ask) (i : Input) (now : Active) (old new : Parts) (fits : is_none (misfit (Some asked) i) ≡ true) (h : IsConsistent (given_view (active.Reaching asked) i old)) (fit : Fits old.objects.works (reverse old.waiting.items)) (r : Reads q i now old new) where
  abbrev after : Parts
  after = record { waiting = new.waiting; objects = old.objects }

  abbrev told : CallFrame
  told = Telling (later q (reply.Bytes r.bytes)) (reply.Bytes r.bytes)

  turned : reverse old.waiting.items ≡ Turning q ∷ reverse new.waiting.items
  turned = pushed new.waiting.items old.waiting.items (Turning q) r.waited

  over : outside_step (outside_given asked i) old.objects.pool ≡ Do.Done (answered.Heard (reply.Bytes r.bytes)) old.objects.pool
  over =
      ap (λ (z : Input). outside_step (outside_given asked z) old.objects.pool) r.were
      ∙ read-step asked r.bytes old.objects.pool (no-reason (misfit (Some asked) (input.Got r.bytes)) (ap (λ (z : Input). is_none (misfit (Some asked) z)) (sym r.were) ∙ fits))

  below : below_in old ≡ frame.Call (call_frame.Turning q) ∷ below_in after
  below = ap (standing old.objects.works) turned ∙ (below-waiter old.objects.works (Turning q) (reverse new.waiting.items) tt).0

  leads : (next_of (given_view (active.Reaching asked) i old)).1 ≡ record { innermost = frame.Call told; below = below_in after; pool = old.objects.pool }
  leads =
      ap (λ (m : Move Frame Answer Pool Item). (moved m (below_in old)).1) over
      ∙ ap (λ (l : List Frame). (moved (Do.Done (answered.Heard (reply.Bytes r.bytes)) old.objects.pool) l).1) below

  there : Heard asked i old now after
  there =
      let on = (onward (given_view (active.Reaching asked) i old) _ h (ap speaks over) leads).along in
      let tells : active_frame now ≡ frame.Call told = r.tells ∙ ap (λ (z : Ask). frame.Call (Telling z (reply.Bytes r.bytes))) (kept q (reply.Bytes r.bytes)) in
      let fit' : Fits old.objects.works (reverse new.waiting.items) = (below-waiter old.objects.works (Turning q) (reverse new.waiting.items) tt).2 (subst (Fits old.objects.works) turned fit) in
      let s = stands_at now told after tells fit' on.whole in
      record { along = along-then _ _ _ on s.along; ready = s.ready; speaks = s.speaks }

  pub read_along : Heard asked i old now new
  read_along = subst (λ (o : Objects). Heard asked i old now (record { waiting = new.waiting; objects = o })) (sym r.same) there

-- ---- a host begins

abbrev first_caller : Active
first_caller = active.Caller (record { ask = Quiet; stage = stage.Asking })

begun : (first : ℕ) (parts : Parts) → parts.waiting.items ≡ [] → parts.objects ≡ record { pool = empty first; works = []; ready = false } → host_view first_caller parts ≡ begin first
begun first parts none objects = rw (none, objects) refl

pub begins_ready : (first : ℕ) (parts : Parts) → 1 ≤ first → parts.waiting.items ≡ [] → parts.objects ≡ record { pool = empty first; works = []; ready = false } → IsBetweenSteps first_caller parts × (speaking_view (host_view first_caller parts) ≡ true)
begins_ready first parts h none objects = (record { whole = subst IsConsistent (sym (begun first parts none objects)) (begin-whole first h); fit = rw (none, objects) refl; ready = tt; places = tt }, refl)
