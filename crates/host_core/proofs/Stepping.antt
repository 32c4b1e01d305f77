-- A step that tells nothing, by the parts of a host.
use Rattle.std.proofs.Common.{◌≡◌, ℕ, ◌≤◌, List, reverse, Option, Some, None, is_some, true, false, refl, sym, ◌∙◌, ap, subst, arith}
use Rattle.step_machine.specs.Machine.{Move}
use Rattle.tree_specs.specs.declared.frame.Answer.{Answer as Answered}
use Rattle.tree_specs.specs.declared.frame.Frame.{Frame}
use Rattle.tree_specs.specs.declared.frame.Frame.TheVariants as frame
use Rattle.tree_specs.specs.declared.frame.FreeFrame.{FreeFrame}
use Rattle.tree_specs.specs.declared.frame.TurnFrame.{TurnFrame}
use Rattle.tree_specs.specs.declared.question.Ask.{Ask}
use Rattle.tree_specs.specs.Events.Queues.{Head}
use Rattle.tree_specs.specs.Events.Queues.{next_of as next_of_queue}
use Rattle.tree_specs.specs.Events.Requests.{note_of, is_unreceived}
use Rattle.tree_specs.specs.Invariants.Consistent.{IsConsistent}
use Rattle.tree_specs.specs.Machine.Table.{step as machine_step, turn_step, request_step}
use Rattle.tree_specs.specs.Machine.View.{View}
use Rattle.tree_specs.specs.Rules.Items.{Item}
use Rattle.tree_specs.specs.Tree.Pool.{Pool}
use Rattle.tree_specs.proofs.Tree.Numbered.{by_test}
use Rattle.object_pool.specs.Objects.{Objects}
use Rattle.object_pool.specs.Requests.{count_unreceived}
use Rattle.host_core.specs.declared.active.Active.{Active}
use Rattle.host_core.specs.declared.active.Active.TheVariants as active
use Rattle.host_core.specs.declared.answer.Answer.TheVariants.{Freed, Returned, Turned, Heard}
use Rattle.host_core.specs.declared.parts.Parts.{Parts}
use Rattle.host_core.specs.declared.step.Step.{Step}
use Rattle.host_core.specs.declared.step.Step.TheVariants.{Ends}
use Rattle.host_core.specs.declared.turn.Turn.{Turn}
use Rattle.host_core.specs.declared.waiting.Waiting.{Waiting}
use Rattle.host_core.specs.declared.work.Work.{Work}
use Rattle.host_core.specs.declared.work.Work.TheVariants as work
use Rattle.host_core.specs.Moves.{reply_of}
use Rattle.host_core.specs.Stacks.{standing, Fits, other_view, work_frame}
use Rattle.host_core.specs.Steps.{step_of}
use Rattle.host_core.specs.Turns.{MayTurn}
use Rattle.host_core.specs.Places.{count_undrained, turn_takes, work_places, HasPlacesFor}
use Rattle.host_core.specs.Hosts.{host_view, below_in, moved, next_of, speaking_view, IsBetweenSteps, PartsReady, StepsSilently}
use Rattle.host_core.specs.Going.{stepped_view, turning, IsTurnStep, IsWorkStep, StepAnswers, GoesWell, LeadsOn, step_places}
use Rattle.host_core.specs.Requests.{MayWork, WorkReady}
use Rattle.host_core.proofs.StepPools.{pool_in, pool-left, turn_speaking, turn-room, work_keeps}
use Rattle.host_core.proofs.StepsSilently.{onward}
use Rattle.host_core.proofs.Ending.{turned-answers, worked-answers}
use Rattle.host_core.proofs.Turning.{may_turn}

-- the code's step is that of the machine
module _ (f : Frame) (step : Step) (old : Parts) (o : Objects) (whole : IsConsistent (other_view f old.objects.works (reverse old.waiting.items) old.objects.pool))
    (same : step_of step o.pool ≡ machine_step f old.objects.pool) (works : o.works ≡ old.objects.works) where
  abbrev before : View
  before = other_view f old.objects.works (reverse old.waiting.items) old.objects.pool

  abbrev after : Parts
  after = record { waiting = old.waiting; objects = o }

  leads : (next_of before).1 ≡ stepped_view step after
  leads =
      ap (λ (m : Move Frame Answered Pool Item). (moved m (standing old.objects.works (reverse old.waiting.items))).1) (sym same)
      ∙ ap (λ (fs : List FreeFrame). (moved (step_of step o.pool) (standing fs (reverse old.waiting.items))).1) (sym works)

  pub step_onward : speaking_view before ≡ false → StepsSilently before (stepped_view step after)
  step_onward quiet = onward before (stepped_view step after) whole quiet leads

  pub step_leads : speaking_view before ≡ false → Fits old.objects.works (reverse old.waiting.items) → (most : ℕ) → GoesWell most step o → StepAnswers step (reverse old.waiting.items) o → HasPlacesFor (step_places step) after → LeadsOn before step after
  step_leads quiet fit most goes answers places = record {
    onward = step_onward quiet;
    may = record {
      busy = goes.busy;
      whole = (step_onward quiet).along.whole;
      fit = subst (λ (fs : List FreeFrame). Fits fs (reverse old.waiting.items)) (sym works) fit;
      ready = goes.ready;
      answers = answers;
      places = places;
    };
  }

-- ---- whoever waits for a turn, or for the work of a request

pub turn_answers : (step : Step) (t : TurnFrame) (fs : List FreeFrame) (ws : List Waiting) (p : Pool) (o : Objects) → IsTurnStep step → Fits fs ws → IsConsistent (other_view (frame.Turn t) fs ws p) → StepAnswers step ws o
turn_answers (Ends (Turned v)) t fs ws p o s fit h = turned-answers t v fs ws o fit h.sound.waiting h.seated h.calm.1
turn_answers (Ends (Freed a)) t fs ws p o s fit h = absurd s
turn_answers (Ends (Returned v)) t fs ws p o s fit h = absurd s
turn_answers (Ends (Heard r)) t fs ws p o s fit h = absurd s
turn_answers _ t fs ws p o s fit h = tt

pub work_answers : (step : Step) (w : Work) (fs : List FreeFrame) (ws : List Waiting) (p : Pool) (o : Objects) → IsWorkStep w step → Fits fs ws → o.works ≡ fs → step_of step o.pool ≡ request_step (work_frame w) p → IsConsistent (other_view (frame.Request (work_frame w)) fs ws p)
    → StepAnswers step ws o
work_answers (Ends (Heard b)) (work.Over reply) fs ws p o s fit works same h =
    let pool : o.pool ≡ p = ap pool_in same in
    worked-answers (reply_of reply) b ws o (subst (λ (l : List FreeFrame). Fits l ws) (sym works) fit) (rw (works, pool) h)
work_answers (Ends (Heard b)) _ fs ws p o s fit works same h = absurd s
work_answers (Ends a) w fs ws p o s fit works same h = absurd s
work_answers _ w fs ws p o s fit works same h = tt

-- ---- what the work of a request may do that tells nothing

pub may_work : (w : Work) (fs : List FreeFrame) (ws : List Waiting) (o : Objects) → speaking_view (other_view (frame.Request (work_frame w)) fs ws o.pool) ≡ false → WorkReady w o → MayWork w o
may_work (work.Receiving x) fs ws o quiet r = by_test (is_unreceived (note_of o.pool.requests x))
    (λ t. let bad : true ≡ false = rw t at quiet in cc)
    (λ t. t)
may_work (work.Releasing child) fs ws o quiet r = absurd r
may_work (work.Dropping queue entry) fs ws o quiet r = absurd r
may_work (work.Triggering queue) fs ws o quiet r = each (next_of_queue o.pool.queues queue) (sym (work_keeps (work.Triggering queue) o.pool).0 ∙ quiet)
  where
    each : (h : Option Head) → is_some h ≡ false → h ≡ None
    each None q = refl
    each (Some h) q = cc
may_work (work.Notifying x errand) fs ws o quiet r = r
may_work (work.Finishing x state) fs ws o quiet r = cc
may_work (work.Calling what x handler errand) fs ws o quiet r = cc
may_work _ fs ws o quiet r = tt

-- ---- what a quiet step leads to

-- a turn at work that tells and asks nothing
module _ (now : Active) (t : Turn) (old : Parts) (at_work : now ≡ active.Turning t) (had : IsBetweenSteps now old) (silent : speaking_view (host_view now old) ≡ false) where
  abbrev f : TurnFrame
  f = t.frame

  is : now ≡ turning f
  is = at_work ∙ ap (λ (q : Option Ask). active.Turning (record { frame = f; question = q })) (subst (λ (z : Active). PartsReady z old.objects) at_work had.ready).question

  turn-between : IsBetweenSteps (turning f) old
  turn-between = subst (λ (z : Active). IsBetweenSteps z old) is had

  turn-quiet : speaking_view (host_view (turning f) old) ≡ false
  turn-quiet = subst (λ (z : Active). speaking_view (host_view z old) ≡ false) is silent

  pub turn_may : MayTurn f old.objects.pool
  turn_may = may_turn f (below_in old) old.objects.pool turn-between.whole (sym (turn_speaking f old.objects.pool) ∙ turn-quiet)

  pub turn_leads : (step : Step) (o : Objects) → step_of step o.pool ≡ turn_step f old.objects.pool → GoesWell (turn_takes f) step o → IsTurnStep step → o ≡ record old.objects { pool = o.pool } → o.pool.requests ≡ old.objects.pool.requests
      → LeadsOn (host_view now old) step (record { waiting = old.waiting; objects = o })
  turn_leads step o same goes ends rest requests =
      let works : o.works ≡ old.objects.works = ap (λ (z : Objects). z.works) rest in
      let room = turn-between.places in
      let few = goes.places in
      let counts = ap count_unreceived requests in
      let pool : o.pool ≡ pool_in (turn_step f old.objects.pool) = sym (pool-left step o.pool) ∙ ap pool_in same in
      let same-rows = ap (λ (z : Pool). count_undrained z.rows) pool in
      let kept = turn-room f old.objects.pool turn_may in
      subst (λ (z : Active). LeadsOn (host_view z old) step (record { waiting = old.waiting; objects = o })) (sym is)
      (step_leads (frame.Turn f) step old o turn-between.whole same works turn-quiet turn-between.fit (turn_takes f) goes (turn_answers step f old.objects.works (reverse old.waiting.items) old.objects.pool o ends turn-between.fit turn-between.whole) (omega (arith, room, few, counts, same-rows, kept)))

-- the work of a request
module _ (now : Active) (w : Work) (old : Parts) (is : now ≡ active.Requesting w) (had : IsBetweenSteps now old) (silent : speaking_view (host_view now old) ≡ false) where
  work-between : IsBetweenSteps (active.Requesting w) old
  work-between = subst (λ (z : Active). IsBetweenSteps z old) is had

  work-quiet : speaking_view (host_view (active.Requesting w) old) ≡ false
  work-quiet = subst (λ (z : Active). speaking_view (host_view z old) ≡ false) is silent

  pub work_may : MayWork w old.objects
  work_may = may_work w old.objects.works (reverse old.waiting.items) old.objects work-quiet work-between.ready

  pub work_leads : (step : Step) (o : Objects) → step_of step o.pool ≡ request_step (work_frame w) old.objects.pool → GoesWell (work_places w) step o → IsWorkStep w step → o ≡ record old.objects { pool = o.pool; ready = o.ready }
      → count_unreceived o.pool.requests ≤ count_unreceived old.objects.pool.requests → LeadsOn (host_view now old) step (record { waiting = old.waiting; objects = o })
  work_leads step o same goes ends rest requests =
      let works : o.works ≡ old.objects.works = ap (λ (z : Objects). z.works) rest in
      let room = work-between.places in
      let few = goes.places in
      let pool : o.pool ≡ pool_in (request_step (work_frame w) old.objects.pool) = sym (pool-left step o.pool) ∙ ap pool_in same in
      let same-rows = ap count_undrained (ap (λ (z : Pool). z.rows) pool ∙ (work_keeps w old.objects.pool).1) in
      subst (λ (z : Active). LeadsOn (host_view z old) step (record { waiting = old.waiting; objects = o })) (sym is)
      (step_leads (frame.Request (work_frame w)) step old o work-between.whole same works work-quiet work-between.fit (work_places w) goes (work_answers step w old.objects.works (reverse old.waiting.items) old.objects.pool o ends work-between.fit works same work-between.whole) (omega (arith, room, few, requests, same-rows)))
