-- What is given to whoever has asked, and what it leads to, by the parts of a host.
use Rattle.std.proofs.Common.{◌≡◌, inl, ℕ, ◌≤◌, Bool, List, reverse, Option, Some, None, true, false, refl, sym, ◌∙◌, ap, subst, arith}
use Rattle.std.specs.Prelude.{is_none}
use Rattle.tree_specs.specs.declared.call.Call.{Call}
use Rattle.tree_specs.specs.declared.frame.CallFrame.TheVariants.{Doing, Returning}
use Rattle.step_machine.specs.Machine.{Move}
use Rattle.step_machine.specs.Machine.{Move as Do}
use Rattle.tree_specs.specs.declared.frame.Answer.{Answer as Answered}
use Rattle.tree_specs.specs.declared.frame.Frame.{Frame}
use Rattle.tree_specs.specs.declared.frame.Frame.TheVariants as frame
use Rattle.tree_specs.specs.Machine.View.{View}
use Rattle.tree_specs.specs.Rules.Items.{Item}
use Rattle.tree_specs.specs.declared.frame.FreeFrame.{FreeFrame}
use Rattle.tree_specs.specs.declared.frame.TurnFrame.{TurnFrame}
use Rattle.tree_specs.specs.declared.frame.TurnFrame.TheVariants.{Timing, Polling}
use Rattle.tree_specs.specs.declared.question.Ask.{Ask}
use Rattle.tree_specs.specs.declared.question.Input.{Input}
use Rattle.tree_specs.specs.declared.question.Input.TheVariants as input
use Rattle.tree_specs.specs.Calls.Plans.{planned_at}
use Rattle.tree_specs.specs.Calls.Refusals.{refusals_at}
use Rattle.tree_specs.specs.Events.Coming.{looks_again}
use Rattle.tree_specs.specs.Events.Rotation.{Ready, first_ready}
use Rattle.tree_specs.specs.Invariants.Consistent.{IsConsistent}
use Rattle.tree_specs.specs.Machine.Table.{call_step, outside_step}
use Rattle.tree_specs.specs.Texts.Schedule.{misfit}
use Rattle.tree_specs.specs.Tree.Pool.{Pool, ring_here}
use Rattle.tree_specs.proofs.Calls.Plans.{may-planned-at}
use Rattle.object_pool.specs.Objects.{Objects, RefsMayGo}
use Rattle.host_core.specs.declared.active.Active.{Active}
use Rattle.host_core.specs.declared.active.Active.TheVariants as active
use Rattle.host_core.specs.declared.answer.Answer.TheVariants.{Returned, Heard}
use Rattle.host_core.specs.declared.caller.Caller.{Caller}
use Rattle.host_core.specs.declared.motion.Motion.{Motion}
use Rattle.host_core.specs.declared.motion.Motion.TheVariants.{Replies}
use Rattle.host_core.specs.declared.parts.Parts.{Parts}
use Rattle.host_core.specs.declared.short_reply.ShortReply.{ShortReply}
use Rattle.host_core.specs.declared.step.Step.{Step}
use Rattle.host_core.specs.declared.step.Step.TheVariants.{Goes, Ends}
use Rattle.host_core.specs.declared.turn.Turn.{Turn}
use Rattle.host_core.specs.Places.{owed, turn_places, HasPlacesFor}
use Rattle.host_core.specs.Going.{with_objects, ended_view, stepped_view, step_places, BeginsWith, LeadsOn, LeadsToEnd, StepAnswers, StepReady}
use Rattle.host_core.specs.Moves.{move_of, telling}
use Rattle.host_core.specs.Requests.{QueuesAreKept}
use Rattle.host_core.specs.Reaches.{is_bytes, IsShortAnswer, short_answer, pool_heard, outside_given}
use Rattle.host_core.specs.Stacks.{Fits, active_frame, other_view}
use Rattle.host_core.specs.Steps.{step_of, IsBusy}
use Rattle.host_core.specs.Turns.{turn_asks, turn_given, frame_looked}
use Rattle.host_core.specs.Hosts.{host_view, below_in, speaking_view, given_view, called_view, returning_view, speaks, asked_now, caller_asked, FrameReady, PartsReady, HasRoom, IsActing, IsBetweenSteps, MayTake, TellsSameStory, StepsSilently}
use Rattle.host_core.proofs.Allowed.{refs-go}
use Rattle.host_core.proofs.Answering.{caller-acts, short-answer}
use Rattle.host_core.proofs.Calling.{plan-steps, call-room}
use Rattle.host_core.proofs.Ending.{returned-answers, heard-answers}
use Rattle.host_core.proofs.Reaching.{heard-step, no-reason}
use Rattle.host_core.proofs.Stepping.{step_onward, step_leads}
use Rattle.host_core.proofs.StepsSilently.{along-then}
use Rattle.host_core.proofs.Telling.{Stands, stands_at}

-- ---- a call

module _ (q : Ask) (c : Call) (old : Parts) (whole : IsConsistent (called_view q (input.Call c) old)) where
  pub call_refs : RefsMayGo old.objects.pool.rows
  call_refs = refs-go _ _ old.objects.pool whole.sound

  pub call_queues : QueuesAreKept old.objects.pool
  call_queues = whole.queued.pool.queues

  module _ (step : Step) (motion : Motion) (o : Objects) (steps : step_of step o.pool ≡ move_of q motion o.pool) (moved : move_of q motion o.pool ≡ call_step (refusals_at q old.objects.pool c) q c old.objects.pool) (works : o.works ≡ old.objects.works) where
    pub call_onward : StepsSilently (called_view q (input.Call c) old) (stepped_view step (record { waiting = old.waiting; objects = o }))
    call_onward = step_onward (frame.Call (Doing q c)) step old o whole (steps ∙ moved) works (plan-steps q (planned_at q old.objects.pool c) old.objects.pool).0

    pub call_fit : Fits old.objects.works (reverse old.waiting.items) → Fits o.works (reverse old.waiting.items)
    call_fit fit = subst (λ (fs : List FreeFrame). Fits fs (reverse old.waiting.items)) (sym works) fit

    pub call_places : IsBusy step → step_places step ≤ 4 → HasRoom old → HasPlacesFor (step_places step) (record { waiting = old.waiting; objects = o })
    call_places busy most room =
        let few = call-room q step (planned_at q old.objects.pool c) old.objects.pool o.pool (may-planned-at (frame.Call (Doing q c)) _ old.objects.pool whole.sound q c) room.order busy most (steps ∙ moved) in
        let places = room.places in
        omega (arith, few, places)

  -- a call that is replied to at once leaves its caller at the reply
  module _ (motion : Motion) (o : Objects) (moved : move_of q motion o.pool ≡ call_step (refusals_at q old.objects.pool c) q c old.objects.pool) (works : o.works ≡ old.objects.works) (b : ShortReply) (is : motion ≡ Replies b)
      (next : Active) (tells : active_frame next ≡ frame.Call (telling q b)) (fit : Fits old.objects.works (reverse old.waiting.items)) where
    abbrev after : Parts
    after = record { waiting = old.waiting; objects = o }

    abbrev with_frame : Frame → View
    with_frame g = record { innermost = g; below = below_in after; pool = o.pool }

    steps : step_of (Goes next) o.pool ≡ move_of q motion o.pool
    steps = ap (λ (g : Frame). let m : Move Frame Answered Pool Item = Do.Go g o.pool in m) tells ∙ ap (λ (m : Motion). move_of q m o.pool) (sym is)

    goes : StepsSilently (called_view q (input.Call c) old) (with_frame (active_frame next))
    goes = call_onward (Goes next) motion o steps moved works

    stands : Stands (telling q b) next after
    stands = stands_at next (telling q b) after tells (call_fit (Goes next) motion o steps moved works fit) (subst (λ (g : Frame). IsConsistent (with_frame g)) tells goes.along.whole)

    pub replied_along : TellsSameStory (called_view q (input.Call c) old) (host_view next after)
    replied_along = along-then _ _ _ (subst (λ (g : Frame). TellsSameStory (called_view q (input.Call c) old) (with_frame g)) tells goes.along) stands.along

    pub replied_ready : IsBetweenSteps next after
    replied_ready = stands.ready

    pub replied_speaks : speaking_view (host_view next after) ≡ true
    replied_speaks = stands.speaks

-- a call was done for the caller that was asked
pub moved_for : (now : Active) (asked q : Ask) (c : Call) (motion : Motion) (old new : Pool) → caller_asked now ≡ Some asked → caller_asked now ≡ Some q
    → move_of asked motion new ≡ call_step (refusals_at asked old c) asked c old → move_of q motion new ≡ call_step (refusals_at q old c) q c old
moved_for now asked q c motion old new a e moved =
    let both : Some asked ≡ Some q = sym a ∙ e in
    let same : asked ≡ q = cc in
    subst (λ (z : Ask). move_of z motion new ≡ call_step (refusals_at z old c) z c old) same moved

-- what a call does first leads on
pub call_leads : (q : Ask) (c : Call) (o : Objects) (motion : Motion) (parts : Parts) (step : Step) → BeginsWith q c o motion parts → step_of step parts.objects.pool ≡ move_of q motion parts.objects.pool → IsBusy step → step_places step ≤ 4
    → StepReady step parts.objects → StepAnswers step (reverse parts.waiting.items) parts.objects → LeadsOn (called_view q (input.Call c) (with_objects o parts)) step parts
call_leads q c o motion parts step b steps busy most ready answers =
    step_leads (frame.Call (Doing q c)) step (with_objects o parts) parts.objects b.whole (steps ∙ b.moved) b.works (plan-steps q (planned_at q o.pool c) o.pool).0 b.fit 4 (record { busy = busy; ready = ready; places = most }) answers
    (call_places q c (with_objects o parts) b.whole step motion parts.objects steps b.moved b.works busy most b.room)

-- a caller is answered with a call, or with what a routine does
pub caller_acting : (now : Active) (c : Caller) (i : Input) (parts : Parts) → now ≡ active.Caller c → is_none (misfit (asked_now now) i) ≡ true → IsConsistent (given_view now i parts) → IsActing i
caller_acting now c i parts is fits h =
    let h' : IsConsistent (given_view (active.Caller c) i parts) = subst (λ (z : Active). IsConsistent (given_view z i parts)) is h in
    caller-acts c.stage c.ask i _ (subst (λ (z : Active). is_none (misfit (asked_now z) i) ≡ true) is fits) h'.seated

-- ---- a routine has returned

module _ (v : ℕ) (old : Parts) (whole : IsConsistent (other_view (frame.Call (Returning v)) old.objects.works (reverse old.waiting.items) old.objects.pool)) where
  pub return_leads : Fits old.objects.works (reverse old.waiting.items) → HasRoom old → LeadsToEnd (returning_view v old) (Returned v) old
  return_leads fit room =
      let onward = step_onward (frame.Call (Returning v)) (Ends (Returned v)) old old.objects whole refl refl refl in
      record {
        onward = onward;
        may = record {
          answers = returned-answers v (reverse old.waiting.items) old.objects room.ready fit whole;
          whole = onward.along.whole;
          fit = fit;
          places = room.places;
        };
      }

-- ---- a turn was told the time, or what is ready

module _ (now : Active) (t : Turn) (i : Input) (old : Parts) (is : now ≡ active.Turning t) (fits : is_none (misfit (asked_now now) i) ≡ true) (ready : PartsReady now old.objects) where
  pub given_fits : is_none (misfit (turn_asks t.frame) i) ≡ true
  given_fits =
      let ready' : PartsReady (active.Turning t) old.objects = subst (λ (z : Active). PartsReady z old.objects) is ready in
      let fits' : is_none (misfit t.question i) ≡ true = subst (λ (z : Active). is_none (misfit (asked_now z) i) ≡ true) is fits in
      ap (λ (z : Option Ask). is_none (misfit z i)) (sym ready'.question) ∙ fits'

-- what is still to do then has what it may want
given-frame : (f : TurnFrame) (i : Input) (p : Pool) (o : Objects) → is_none (misfit (turn_asks f) i) ≡ true → o.ready ≡ true → FrameReady (turn_given f i p) o × (turn_places (turn_given f i p) ≤ 4)
given-frame (Timing again) i p o fits ready = clock i
  where
    clock : (i : Input) → FrameReady (turn_given (Timing again) i p) o × (turn_places (turn_given (Timing again) i p) ≤ 4)
    clock (input.Clock now) = (ready, omega arith)
    clock _ = (tt, omega arith)
given-frame (Polling limit) i p o fits ready = looks i
  where
    looked : (b : Bool) (r : Option Ready) → FrameReady (frame_looked b r) o × (turn_places (frame_looked b r) ≤ 4)
    looked true r = (tt, omega arith)
    looked false None = (inl ready, omega arith)
    looked false (Some r) = (ready, omega arith)

    looks : (i : Input) → FrameReady (turn_given (Polling limit) i p) o × (turn_places (turn_given (Polling limit) i p) ≤ 4)
    looks (input.Ready wants) = looked (looks_again p wants) (first_ready (ring_here p) wants)
    looks _ = (tt, omega arith)
given-frame _ i p o fits ready = cc

pub given_ready : (now : Active) (t : Turn) (i : Input) (parts : Parts) (f : TurnFrame) (next : Turn) → now ≡ active.Turning t → MayTake now i parts → f ≡ turn_given t.frame i parts.objects.pool → next ≡ record { frame = f; question = turn_asks f } → IsBetweenSteps (active.Turning next) parts
given_ready now t i parts f next is m goes new =
    let there : MayTake (active.Turning t) i parts = subst (λ (z : Active). MayTake z i parts) is m in
    let fits = given_fits now t i parts is m.fits m.ready in
    let frame = given-frame t.frame i parts.objects.pool parts.objects fits m.room.ready in
    let most = frame.1 in
    let room = m.room.places in
    rw (new, goes) (record { whole = there.whole; fit = there.fit; ready = record { question = refl; frame = frame.0 }; places = omega (arith, most, room) })

-- ---- the outside has answered

heard-owed : (i : Input) (p : Pool) → owed (pool_heard i p) ≡ owed p
heard-owed (input.Took fd) p = refl
heard-owed _ p = refl

module _ (now : Active) (q : Ask) (i : Input) (old : Parts) (is : now ≡ active.Reaching q) (fits : is_none (misfit (asked_now now) i) ≡ true) (ready : PartsReady now old.objects) (no_bytes : is_bytes i ≡ false) where
  fits-here : is_none (misfit (Some q) i) ≡ true
  fits-here = subst (λ (z : Active). is_none (misfit (asked_now z) i) ≡ true) is fits

  pub heard_short : IsShortAnswer i
  heard_short = short-answer q i (subst (λ (z : Active). PartsReady z old.objects) is ready) fits-here no_bytes

  module _ (b : ShortReply) (o : Objects) (reply : b ≡ short_answer i) (pool : o ≡ record old.objects { pool = pool_heard i old.objects.pool; ready = o.ready }) (h : IsConsistent (given_view now i old)) where
    here : IsConsistent (given_view (active.Reaching q) i old)
    here = subst (λ (z : Active). IsConsistent (given_view z i old)) is h

    over : step_of (Ends (Heard b)) o.pool ≡ outside_step (outside_given q i) old.objects.pool
    over = rw (reply, ap (λ (z : Objects). z.pool) pool) (sym (heard-step q i old.objects.pool heard_short (no-reason (misfit (Some q) i) fits-here)))

    works : o.works ≡ old.objects.works
    works = ap (λ (z : Objects). z.works) pool

    onward : StepsSilently (given_view now i old) (ended_view (Heard b) (record { waiting = old.waiting; objects = o }))
    onward =
        subst (λ (z : Active). StepsSilently (given_view z i old) (ended_view (Heard b) (record { waiting = old.waiting; objects = o }))) (sym is)
        (step_onward (frame.Outside (outside_given q i)) (Ends (Heard b)) old o here over works (ap speaks (heard-step q i old.objects.pool heard_short (no-reason (misfit (Some q) i) fits-here))))

    pub heard_leads : Fits old.objects.works (reverse old.waiting.items) → HasRoom old → LeadsToEnd (given_view now i old) (Heard b) (record { waiting = old.waiting; objects = o })
    heard_leads fit room =
        let places = room.places in
        let counts = ap (λ (z : Objects). owed z.pool) pool ∙ heard-owed i old.objects.pool in
        record {
          onward = onward;
          may = record {
            answers = heard-answers (outside_given q i) b old.objects.works (reverse old.waiting.items) o fit here.sound.waiting here.seated here.calm.1;
            whole = onward.along.whole;
            fit = subst (λ (fs : List FreeFrame). Fits fs (reverse old.waiting.items)) (sym works) fit;
            places = omega (arith, places, counts);
          };
        }
