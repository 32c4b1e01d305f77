-- Whether what is at work tells or asks something with its next step, and what it asks.
use Rattle.std.proofs.Common.{◌≡◌, true, List, [], ◌∷◌, reverse, Option, Some, None, is_some, refl, sym, ◌∙◌}
use Rattle.step_machine.specs.Machine.{Move}
use Rattle.step_machine.specs.Machine.{Move as Do}
use Rattle.tree_specs.specs.declared.event.Event.{Event}
use Rattle.tree_specs.specs.declared.frame.Frame.{Frame}
use Rattle.tree_specs.specs.declared.frame.Frame.TheVariants as frame
use Rattle.tree_specs.specs.declared.frame.FreeFrame.{FreeFrame}
use Rattle.tree_specs.specs.declared.frame.TurnFrame.{TurnFrame}
use Rattle.tree_specs.specs.declared.frame.TurnFrame.TheVariants.{Timing, Polling, Firing}
use Rattle.tree_specs.specs.declared.free_step.FreeReply.{FreeReply}
use Rattle.tree_specs.specs.declared.free_step.FreeStep.{FreeStep}
use Rattle.tree_specs.specs.declared.watch.Watch.{Watch}
use Rattle.tree_specs.specs.Machine.FreeTable.{free_step}
use Rattle.tree_specs.specs.Machine.Table.{triggering_step, lifted, announced, event_of}
use Rattle.tree_specs.specs.Machine.View.{question_in, question_of}
use Rattle.tree_specs.specs.Events.Queues.{Head, next_of}
use Rattle.tree_specs.specs.Tree.Pool.{Pool}
use Rattle.destructors.specs.Frees.{moves, is_event}
use Rattle.object_pool.specs.Objects.{Objects}
use Rattle.host_core.specs.declared.active.Active.{Active}
use Rattle.host_core.specs.declared.active.Active.TheVariants as active
use Rattle.host_core.specs.declared.caller.Caller.{Caller}
use Rattle.host_core.specs.declared.caller.Stage.{Stage}
use Rattle.host_core.specs.declared.caller.Stage.TheVariants as stage
use Rattle.host_core.specs.declared.waiting.Waiting.{Waiting}
use Rattle.host_core.specs.declared.work.Work.{Work}
use Rattle.host_core.specs.declared.work.Work.TheVariants as work
use Rattle.host_core.specs.Callers.{staged, open_at}
use Rattle.host_core.specs.Requests.{work_speaks}
use Rattle.host_core.specs.Stacks.{standing, other_view, freeing_view, seen, work_frame}
use Rattle.host_core.specs.Turns.{turn_asks, turn_speaks}
use Rattle.host_core.specs.Hosts.{view_of, speaking_view, asked_now, IsSettled, PartsReady}
use Rattle.host_core.proofs.FreeSteps.{speaks-events}
use Rattle.host_core.proofs.StepPools.{turn_speaking, work_keeps}

-- ---- the open frees

pub frees_speaking : (fs : List FreeFrame) (ws : List Waiting) (p : Pool) → speaking_view (freeing_view fs ws p) ≡ is_event p.ring (moves fs p).0
frees_speaking [] ws p = refl
frees_speaking (f ∷ fs) ws p = speaks-events f fs ws p

-- ---- a caller

pub caller_speaking : (c : Caller) (below : List Frame) (p : Pool) → speaking_view (record { innermost = frame.Call (staged c.ask c.stage); below = below; pool = p }) ≡ true
caller_speaking c below p = each c.stage
  where
    each : (s : Stage) → speaking_view (record { innermost = frame.Call (staged c.ask s); below = below; pool = p }) ≡ true
    each stage.Asking = refl
    each (stage.Telling r) = refl
    each (stage.Announcing notice r) = refl

-- ---- by what is at work

-- the innermost free is at hand
pub ready-settled : (now : Active) (o : Objects) → PartsReady now o → IsSettled now o
ready-settled active.Freeing o r = r
ready-settled _ o r = tt

pub speaks_frees : (now : Active) (waiting : List Waiting) (o : Objects) → now ≡ active.Freeing → is_event o.pool.ring (moves o.works o.pool).0 ≡ speaking_view (view_of now waiting o)
speaks_frees now waiting o is = rw is (sym (frees_speaking o.works (reverse waiting) o.pool))

-- ---- the open question

free-asks-nothing : (ring : List Watch) (m : Move FreeFrame FreeReply Pool FreeStep) → question_in (lifted ring m) ≡ None
free-asks-nothing ring (Do.Done a p) = refl
free-asks-nothing ring (Do.Go f p) = refl
free-asks-nothing ring (Do.Emit t f p) = each (event_of ring t)
  where
    each : (o : Option Event) → question_in (announced o f p) ≡ None
    each None = refl
    each (Some e) = refl
free-asks-nothing ring (Do.Wait t f p) = refl
free-asks-nothing ring (Do.Call f h p) = refl

turn-question : (f : TurnFrame) (below : List Frame) (p : Pool) → turn_speaks f ≡ true → question_of (record { innermost = frame.Turn f; below = below; pool = p }) ≡ turn_asks f
turn-question (Timing again) below p s = refl
turn-question (Polling limit) below p s = refl
turn-question (Firing what x handler occasion) below p s = refl
turn-question _ below p s = cc

work-question : (w : Work) (below : List Frame) (p : Pool) → work_speaks w p ≡ true → question_of (record { innermost = frame.Request (work_frame w); below = below; pool = p }) ≡ None
work-question (work.Finishing x state) below p s = refl
work-question (work.Calling what x handler errand) below p s = refl
work-question (work.Receiving x) below p s = rw s refl
work-question (work.Triggering queue) below p s = each (next_of p.queues queue) s
  where
    each : (o : Option Head) → is_some o ≡ true → question_in (triggering_step o p) ≡ None
    each None s = cc
    each (Some h) s = refl
work-question _ below p s = cc

-- what is asked is known of what is at work
pub question_seen : (now : Active) (ws : List Waiting) (o : Objects) → PartsReady now o → speaking_view (seen now o.works ws o.pool) ≡ true → question_of (seen now o.works ws o.pool) ≡ asked_now now
question_seen (active.Caller c) ws o r s = each c.stage
  where
    each : (s : Stage) → question_of (other_view (frame.Call (staged c.ask s)) o.works ws o.pool) ≡ open_at s c.ask
    each stage.Asking = refl
    each (stage.Telling r) = refl
    each (stage.Announcing notice r) = refl
question_seen active.Freeing ws o r s = each o.works
  where
    each : (works : List FreeFrame) → question_of (freeing_view works ws o.pool) ≡ None
    each [] = refl
    each (f ∷ fs) = free-asks-nothing o.pool.ring (free_step f o.pool)
question_seen (active.Turning t) ws o r s = turn-question t.frame (standing o.works ws) o.pool (sym (turn_speaking t.frame o.pool) ∙ s) ∙ sym r.question
question_seen (active.Reaching q) ws o r s = refl
question_seen (active.Requesting w) ws o r s = work-question w (standing o.works ws) o.pool (sym (work_keeps w o.pool).0 ∙ s)
