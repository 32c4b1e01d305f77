-- The laws of the story still to come.
use Rattle.std.proofs.Common.{◌≡◌, ℕ, suc, zero, ◌+◌, ◌*◌, ◌<◌, ◌≤◌, List, [], ◌∷◌, length, Bool, true, false, Option, Some, None, refl, sym, ◌∙◌, ap, subst, arith}
use Rattle.step_machine.specs.Machine.{Move, Outcome, State, silent, tell, given, asks, leads, rest, walk, items as told_by, Move as Do}
use Rattle.step_machine.specs.Machine.Outcome.{Ended, Waits, Stray, Short}
use Rattle.step_machine.specs.Open.{LastIs}
use Rattle.step_machine.proofs.Ends.{NotShort, Leads, enough, rest-walk, rest-any, rest-step, rest-event, rest-question, rest-silent, rest-open, silent-leads}
use Rattle.step_machine.proofs.Open.{Asks, Asks-items, Stays, walk-asks, items-tell}
use Rattle.tree_specs.specs.declared.question.Input.{Input}
use Rattle.tree_specs.specs.declared.frame.Frame.{Frame}
use Rattle.tree_specs.specs.declared.frame.Frame.TheVariants as frame
use Rattle.tree_specs.specs.declared.frame.CallFrame.TheVariants.{Asking, Doing, Awaiting, Turning, Requesting, Announcing, Telling, Returning}
use Rattle.tree_specs.specs.declared.frame.TurnFrame.{TurnFrame}
use Rattle.tree_specs.specs.declared.frame.TurnFrame.TheVariants.{Closing, Taking, Timing, Timed, Polling, Starting, Handled}
use Rattle.tree_specs.specs.declared.handler.Handler.{Handler}
use Rattle.tree_specs.specs.declared.question.Ask.TheVariants.{Quiet, Clock, Wait}
use Rattle.tree_specs.specs.Events.Coming.{handler_for, goes_after}
use Rattle.tree_specs.proofs.Invariants.Turning.{Passes, Pass, Serve, look-passes, Trigger}
use Rattle.tree_specs.specs.declared.call.Call.TheVariants as call
use Rattle.tree_specs.specs.declared.request.Note.{Note}
use Rattle.tree_specs.specs.declared.frame.Errand.{Errand}
use Rattle.tree_specs.specs.declared.frame.Errand.TheVariants.{Receive}
use Rattle.tree_specs.specs.declared.frame.RequestFrame.{RequestFrame}
use Rattle.tree_specs.specs.declared.frame.RequestFrame.TheVariants as request
use Rattle.tree_specs.specs.Events.Requests.{note_of, is_unreceived, cleanup_in, cancel_in}
use Rattle.tree_specs.specs.declared.frame.OutsideFrame.{OutsideFrame}
use Rattle.tree_specs.specs.declared.frame.OutsideFrame.TheVariants.{Reaching}
use Rattle.tree_specs.specs.declared.watch.Watch.{Watch}
use Rattle.tree_specs.specs.declared.frame.FreeFrame.{FreeFrame}
use Rattle.tree_specs.specs.declared.frame.Answer.{Answer}
use Rattle.tree_specs.specs.declared.free_step.FreeReply.{FreeReply}
use Rattle.tree_specs.specs.declared.free_step.FreeStep.{FreeStep}
use Rattle.tree_specs.specs.declared.event.Event.{Event}
use Rattle.tree_specs.specs.declared.call.Call.{Call}
use Rattle.tree_specs.specs.declared.question.Ask.{Ask}
use Rattle.tree_specs.specs.declared.object.Obj.{Obj}
use Rattle.tree_specs.specs.Tree.Pool.{Pool, run_queue}
use Rattle.tree_specs.specs.Rules.Items.{Item, IsQuestion}
use Rattle.tree_specs.specs.Rules.Items.Item.{Asked}
use Rattle.tree_specs.specs.Calls.Plans.{Plan, planned, plan, unless_refused, planned_at}
use Rattle.tree_specs.specs.Calls.Plans.Plan.{Does, Frees, Unlinks, Empties, Asks as AsksOutside, Turns, Works}
use Rattle.tree_specs.specs.Rules.Story.{turns}
use Rattle.tree_specs.specs.Calls.Refusals.{is_doomed, Check}
use Rattle.tree_specs.specs.Machine.FreeTable.{free_step}
use Rattle.tree_specs.specs.Machine.Table.{closing_step, parting_step, deferred_step, Step, call_step, turning_step, starting_step, handled_step, turn_step, outside_step, cancelling_step, cleaning_step, release_object, cleaned_step, callback_step, notifying_step, receiving_step, request_step, table, step, event_of, announced, plan_step, lifted, taken, vacating_step, triggering_step}
use Rattle.tree_specs.specs.Invariants.Sound.{Sound, Rests}
use Rattle.tree_specs.specs.Invariants.Noted.{Noted}
use Rattle.tree_specs.specs.Invariants.Measure.{cost}
use Rattle.tree_specs.specs.Machine.View.{View, outcome_of, rest_of}
use Rattle.tree_specs.specs.Invariants.Awaiting.{Awaits, pool_after}
use Rattle.tree_specs.proofs.Events.AwaitingSteps.{step-awaits}
use Rattle.tree_specs.specs.Invariants.Consistent.{IsCaller, IsStacked, IsPaidFor, IsConsistent}
use Rattle.tree_specs.proofs.Invariants.Keeps.{sound-kept}
use Rattle.tree_specs.proofs.Invariants.KeptNotes.{noted-kept}
use Rattle.tree_specs.proofs.Invariants.FreeNotes.{NotedBy}
use Rattle.tree_specs.proofs.Invariants.KeptCalm.{CalmBy, calm-kept}
use Rattle.tree_specs.proofs.Turns.Falls.{Well, falls}
use Rattle.tree_specs.proofs.Turns.Load.{placed-kept}
use Rattle.tree_specs.proofs.Turns.Seats.{Placed}
use Rattle.tree_specs.proofs.Turns.Bound.{cost-turns, pending-most}
use Rattle.tree_specs.specs.Events.Queues.{Head, head_of, next_of}
use Rattle.tree_specs.proofs.Invariants.FreeQueues.{QueuedBy}
use Rattle.tree_specs.proofs.Invariants.KeptQueues.{queued-kept}
use Rattle.tree_specs.specs.Invariants.Queued.{Queued}

-- a bound on the rows that there can be, with k inputs left
abbrev pub most : View → ℕ → ℕ
most v k = length v.pool.rows + 2 * k + 2

pub well-of : (v : View) (k : ℕ) → Sound v.innermost v.below v.pool → Noted v.innermost v.pool → Queued v.innermost v.below v.pool → IsStacked v.innermost v.below → IsPaidFor v.innermost v.below v.pool
    → Well (most v k) v.innermost v.below v.pool k
well-of v k s n u seated l = record { sound = s; noted = n; queued = u; seated = seated; light = l; room = omega (arith, pending-most v.innermost) }

pub well : (v : View) (k : ℕ) → IsConsistent v → Well (most v k) v.innermost v.below v.pool k
well v k h = well-of v k h.sound h.noted h.queued h.seated h.light

-- any number of turns above the measure gives the rest
pub rest-enough : (R m : ℕ) (v : View) (is : List Input) → IsConsistent v → Well R v.innermost v.below v.pool (length is) → cost R v.innermost v.below v.pool (length is) < m
    → rest table m v.innermost v.below v.pool is ≡ outcome_of v is
rest-enough R m v is h w less =
    let n : ℕ = turns (length v.pool.rows) (length is) in
    let c = cost-turns v (length is) h.light in
    rest-any table (Well R) (cost R) (falls R) m (m + n) v.innermost v.below v.pool is w less (omega arith)
    ∙ rest-any table (Well (most v (length is))) (cost (most v (length is))) (falls (most v (length is))) (m + n) n v.innermost v.below v.pool is (well v (length is) h) (omega (arith, c)) c

-- as many steps as the stated turns are enough
pub walk-whole : (v : View) (is : List Input) → IsConsistent v → NotShort (walk table (turns (length v.pool.rows) (length is)) v.innermost v.below v.pool is)
walk-whole v is h =
    let R : ℕ = most v (length is) in
    enough table (Well R) (cost R) (falls R) (turns (length v.pool.rows) (length is)) v.innermost v.below v.pool is (well v (length is) h) (cost-turns v (length is) h.light)

-- and so are more
pub walk-long : (n : ℕ) (v : View) (is : List Input) → IsConsistent v → turns (length v.pool.rows) (length is) ≤ n → NotShort (walk table n v.innermost v.below v.pool is)
walk-long n v is h big =
    let R : ℕ = most v (length is) in
    let c = cost-turns v (length is) h.light in
    enough table (Well R) (cost R) (falls R) n v.innermost v.below v.pool is (well v (length is) h) (omega (arith, c))

-- as many steps are as good as so many turns
pub rest-is-walk : (v : View) (is : List Input) → IsConsistent v → walk table (turns (length v.pool.rows) (length is)) v.innermost v.below v.pool is ≡ outcome_of v is
rest-is-walk v is h =
    let R : ℕ = most v (length is) in
    rest-walk table (Well R) (cost R) (falls R) (turns (length v.pool.rows) (length is)) v.innermost v.below v.pool is (well v (length is) h) (cost-turns v (length is) h.light)

-- whatever else holds, the stated turns are enough for works that the rows pay for
pub paid-enough : (v : View) (is : List Input) → Sound v.innermost v.below v.pool → Noted v.innermost v.pool → Queued v.innermost v.below v.pool → IsStacked v.innermost v.below → IsPaidFor v.innermost v.below v.pool
    → NotShort (outcome_of v is)
paid-enough v is s n u seated l =
    let R : ℕ = most v (length is) in
    let k : ℕ = turns (length v.pool.rows) (length is) in
    let w = well-of v (length is) s n u seated l in
    let c = cost-turns v (length is) l in
    subst NotShort (rest-walk table (Well R) (cost R) (falls R) k v.innermost v.below v.pool is w c) (enough table (Well R) (cost R) (falls R) k v.innermost v.below v.pool is w c)

pub not-short : (v : View) (is : List Input) → IsConsistent v → NotShort (outcome_of v is)
not-short v is h = paid-enough v is h.sound h.noted h.queued h.seated h.light

-- ---- what a step keeps

Leads-whole : (m : Move Frame Answer Pool Item) (fs : List Frame) (k : ℕ)
    → Leads table (λ g gs q j. Sound g gs q) m fs k → NotedBy m fs k → QueuedBy m fs k → CalmBy m fs k → Placed m fs k → Awaits (pool_after m) → Leads table (λ g gs q j. IsConsistent (record { innermost = g; below = gs; pool = q })) m fs k
Leads-whole (Do.Done a p) [] k s n u c l w = tt
Leads-whole (Do.Done a p) (g ∷ gs) k s n u c l w = record { sound = s; seated = l.0; light = l.1; noted = n; queued = u; calm = c; awaits = w }
Leads-whole (Do.Go f p) fs k s n u c l w = record { sound = s; seated = l.0; light = l.1; noted = n; queued = u; calm = c; awaits = w }
Leads-whole (Do.Emit e f p) fs k s n u c l w = record { sound = s; seated = l.0; light = l.1; noted = n; queued = u; calm = c; awaits = w }
Leads-whole (Do.Wait q f p) fs zero s n u c l w = tt
Leads-whole (Do.Wait q f p) fs (suc k) s n u c l w = λ i g e. record { sound = s i g e; seated = (l i g e).0; light = (l i g e).1; noted = n i g e; queued = u i g e; calm = c i g e; awaits = w }
Leads-whole (Do.Call g f p) fs k s n u c l w = record { sound = s; seated = l.0; light = l.1; noted = n; queued = u; calm = c; awaits = w }

pub whole-kept : (v : View) (k : ℕ) → IsConsistent v → Leads table (λ g gs q j. IsConsistent (record { innermost = g; below = gs; pool = q })) (step v.innermost v.pool) v.below k
whole-kept v k h =
    Leads-whole (step v.innermost v.pool) v.below k (sound-kept v.innermost v.below v.pool k h.sound h.queued.pool.waiting) (noted-kept v.innermost v.below v.pool k h.sound h.noted) (queued-kept v.innermost v.below v.pool k h.sound h.seated h.queued) (calm-kept v.innermost v.below v.pool k h.sound h.noted h.queued.pool.waiting h.calm) (placed-kept v.innermost v.below v.pool k h.sound h.seated h.light) (step-awaits v.innermost v.below v.pool h.sound h.noted h.queued.pool h.calm.0 h.awaits)

stays : (v : View) (k : ℕ) → IsConsistent v
    → Leads table (λ g gs q j. Well (most v k) g gs q j × (cost (most v k) g gs q j < cost (most v k) v.innermost v.below v.pool k)) (step v.innermost v.pool) v.below k
stays v k h = (falls (most v k)).keeps v.innermost v.below v.pool k (well v k h)

-- ---- an event, a question, and a step that tells nothing

pub event-whole : (v : View) (e : Item) (f : Frame) (p : Pool) → IsConsistent v → step v.innermost v.pool ≡ Do.Emit e f p → IsConsistent (record { innermost = f; below = v.below; pool = p })
event-whole v e f p h is-emit = rw is-emit at (whole-kept v 0 h)

pub event-law : (v : View) (e : Item) (f : Frame) (p : Pool) (is : List Input) → IsConsistent v → step v.innermost v.pool ≡ Do.Emit e f p
    → outcome_of v is ≡ tell e (outcome_of (record { innermost = f; below = v.below; pool = p }) is)
event-law v e f p is h is-emit =
    let R : ℕ = most v (length is) in
    let n : ℕ = turns (length v.pool.rows) (length is) in
    let c = cost-turns v (length is) h.light in
    let k : Well R f v.below p (length is) × (cost R f v.below p (length is) < cost R v.innermost v.below v.pool (length is)) = rw is-emit at (stays v (length is) h) in
    rest-event table (Well R) (cost R) (falls R) n n v.innermost f v.below v.pool p e is (well v (length is) h) c is-emit (omega (arith, k.1, c))
    ∙ ap (tell e) (rest-enough R n (record { innermost = f; below = v.below; pool = p }) is (event-whole v e f p h is-emit) k.0 (omega (arith, k.1, c)))

pub question-whole : (v : View) (q : Item) (f g : Frame) (p : Pool) (i : Input) → IsConsistent v → step v.innermost v.pool ≡ Do.Wait q f p → taken f p i ≡ Some g
    → IsConsistent (record { innermost = g; below = v.below; pool = p })
question-whole v q f g p i h is-wait fits =
    let k : (i : Input) (g : Frame) → taken f p i ≡ Some g → IsConsistent (record { innermost = g; below = v.below; pool = p }) = rw is-wait at (whole-kept v 1 h) in
    k i g fits

pub question-law : (v : View) (q : Item) (f g : Frame) (p : Pool) (i : Input) (is : List Input) → IsConsistent v → step v.innermost v.pool ≡ Do.Wait q f p → taken f p i ≡ Some g
    → outcome_of v (i ∷ is) ≡ tell q (outcome_of (record { innermost = g; below = v.below; pool = p }) is)
question-law v q f g p i is h is-wait fits =
    let R : ℕ = most v (length (i ∷ is)) in
    let n : ℕ = turns (length v.pool.rows) (length (i ∷ is)) in
    let c = cost-turns v (length (i ∷ is)) h.light in
    let k : (i : Input) (g : Frame) → taken f p i ≡ Some g → Well R g v.below p (length is) × (cost R g v.below p (length is) < cost R v.innermost v.below v.pool (length (i ∷ is))) =
    rw is-wait at (stays v (length (i ∷ is)) h) in
    let l : Well R g v.below p (length is) × (cost R g v.below p (length is) < cost R v.innermost v.below v.pool (length (i ∷ is))) = k i g fits in
    rest-question table (Well R) (cost R) (falls R) n n v.innermost f g v.below v.pool p q i is (well v (length (i ∷ is)) h) c is-wait fits (omega (arith, l.1, c))
    ∙ ap (tell q) (rest-enough R n (record { innermost = g; below = v.below; pool = p }) is (question-whole v q f g p i h is-wait fits) l.0 (omega (arith, l.1, c)))

pub open-law : (v : View) (q : Item) (f : Frame) (p : Pool) → IsConsistent v → step v.innermost v.pool ≡ Do.Wait q f p → outcome_of v [] ≡ Waits (q ∷ [])
open-law v q f p h is-wait =
    let R : ℕ = most v 0 in
    rest-open table (Well R) (cost R) (falls R) (turns (length v.pool.rows) 0) v.innermost f v.below v.pool p q (well v 0 h) (cost-turns v 0 h.light) is-wait

abbrev pub view_of_state : State Frame Pool → View
view_of_state s = record { innermost = s.now; below = s.below; pool = s.pool }

pub silent-whole : (v : View) (s : State Frame Pool) → IsConsistent v → silent table (step v.innermost v.pool) v.below ≡ Some s → IsConsistent (view_of_state s)
silent-whole v s h e = silent-leads table (λ g gs q j. IsConsistent (record { innermost = g; below = gs; pool = q })) (step v.innermost v.pool) v.below 0 s (whole-kept v 0 h) e

pub silent-law : (v : View) (s : State Frame Pool) (is : List Input) → IsConsistent v → silent table (step v.innermost v.pool) v.below ≡ Some s
    → outcome_of v is ≡ outcome_of (view_of_state s) is
silent-law v s is h e =
    let R : ℕ = most v (length is) in
    let n : ℕ = turns (length v.pool.rows) (length is) in
    let c = cost-turns v (length is) h.light in
    let k : Well R s.now s.below s.pool (length is) × (cost R s.now s.below s.pool (length is) < cost R v.innermost v.below v.pool (length is)) =
    silent-leads table (λ g gs q j. Well (most v (length is)) g gs q j × (cost (most v (length is)) g gs q j < cost (most v (length is)) v.innermost v.below v.pool (length is))) (step v.innermost v.pool) v.below (length is) s (stays v (length is) h) e in
    rest-silent table (Well R) (cost R) (falls R) n n v.innermost v.below v.pool s is (well v (length is) h) c e (omega (arith, k.1, c))
    ∙ rest-enough R n (view_of_state s) is (silent-whole v s h e) k.0 (omega (arith, k.1, c))

-- ---- the same of the items

pub event-items : (v : View) (e : Item) (f : Frame) (p : Pool) (is : List Input) → IsConsistent v → step v.innermost v.pool ≡ Do.Emit e f p
    → rest_of v is ≡ e ∷ rest_of (record { innermost = f; below = v.below; pool = p }) is
event-items v e f p is h is-emit =
    ap told_by (event-law v e f p is h is-emit) ∙ items-tell e _ (not-short (record { innermost = f; below = v.below; pool = p }) is (event-whole v e f p h is-emit))

pub question-items : (v : View) (q : Item) (f g : Frame) (p : Pool) (i : Input) (is : List Input) → IsConsistent v → step v.innermost v.pool ≡ Do.Wait q f p → taken f p i ≡ Some g
    → rest_of v (i ∷ is) ≡ q ∷ rest_of (record { innermost = g; below = v.below; pool = p }) is
question-items v q f g p i is h is-wait fits =
    ap told_by (question-law v q f g p i is h is-wait fits)
    ∙ items-tell q _ (not-short (record { innermost = g; below = v.below; pool = p }) is (question-whole v q f g p i h is-wait fits))

pub open-items : (v : View) (q : Item) (f : Frame) (p : Pool) → IsConsistent v → step v.innermost v.pool ≡ Do.Wait q f p → rest_of v [] ≡ q ∷ []
open-items v q f p h is-wait = ap told_by (open-law v q f p h is-wait)

-- ---- the last item is a question

-- ---- what kinds of steps there are

-- the reply of a call is to be told
abbrev pub IsTelling : Frame → Type 0
IsTelling (frame.Call (Announcing q notice r)) = Unit {0}
IsTelling (frame.Call (Telling q r)) = Unit {0}
IsTelling _ = ⊥

-- the step tells and asks nothing, and ends no work: it comes to a reply, or begins a work
abbrev pub GoesOn : Move Frame Answer Pool Item → Type 0
GoesOn (Do.Go f p) = IsTelling f
GoesOn (Do.Call g f p) = Unit {0}
GoesOn _ = ⊥

turning-goes_on : (q : Ask) (x : Obj) (p : Pool) → GoesOn (turning_step q x p)
turning-goes_on Quiet x p = tt
turning-goes_on _ x p = tt

pub plan-goes_on : (q : Ask) (plan : Plan) (p : Pool) → GoesOn (plan_step q plan p)
plan-goes_on q (Does change None r) p = tt
plan-goes_on q (Does change (Some notice) r) p = tt
plan-goes_on q (Frees x) p = tt
plan-goes_on q (Unlinks o x) p = tt
plan-goes_on q (Empties x) p = tt
plan-goes_on q (AsksOutside outside) p = tt
plan-goes_on q (Turns x) p = turning-goes_on q x p
plan-goes_on q (Works change errand x) p = tt

pub call-goes_on : (check : Check) (q : Ask) (c : Call) (p : Pool) → GoesOn (call_step check q c p)
call-goes_on check q c p = plan-goes_on q (unless_refused check (plan p c)) p

-- a free by itself asks the host for nothing but runs
free-waits : (ring : List Watch) (m : Move FreeFrame FreeReply Pool FreeStep) (p : Pool) (i : Item) (g : Frame) → lifted ring m ≡ Do.Wait i g p → ⊥
free-waits ring (Do.Emit t f q) p i g e = announced-waits (event_of ring t) e
  where
    announced-waits : (o : Option Event) → announced o f q ≡ Do.Wait i g p → ⊥
    announced-waits None e = cc
    announced-waits (Some t) e = cc
free-waits ring _ p i g e = cc

-- the host's own work doesn't end
pub no-end : (f : Frame) (p q : Pool) (a : Answer) → IsCaller f → Rests f [] p → step f p ≡ Do.Done a q → ⊥
no-end (frame.Call (Awaiting ask x)) p q a h r e = r
no-end (frame.Call (Turning ask)) p q a h r e = r
no-end (frame.Call (Requesting ask)) p q a h r e = r
no-end (frame.Call (Returning v)) p q a h r e = h
no-end (frame.Call (Doing ask c)) p q a h r e = subst GoesOn e (plan-goes_on ask (planned_at ask p c) p)
no-end (frame.Call _) p q a h r e = cc
no-end _ p q a h r e = h

-- a turn asks for the time, and for what is ready
turn-asks : (f : TurnFrame) (p q : Pool) (i : Item) (g : Frame) → turn_step f p ≡ Do.Wait i g q → (ask : Ask) × (i ≡ Asked ask)
turn-asks (Timing again) p q i g e = (Clock, cc)
turn-asks (Polling limit) p q i g e = (Wait limit, cc)
turn-asks Taking p q i g e = absurd (passes (turn_step Taking p) (look-passes Taking p tt) e)
  where
    passes : (m : Step) → Passes p m → m ≡ Do.Wait i g q → ⊥
    passes _ (Pass t r rows next notes queues turning times plain) e = cc
    passes _ (Trigger x r rows next notes queues turning times queue) e = cc
    passes _ (Serve errand x r rows next notes queues turning times served noted) e = cc
turn-asks (Timed again now) p q i g e = absurd (passes (turn_step (Timed again now) p) (look-passes (Timed again now) p tt) e)
  where
    passes : (m : Step) → Passes p m → m ≡ Do.Wait i g q → ⊥
    passes _ (Pass t r rows next notes queues turning times plain) e = cc
    passes _ (Trigger x r rows next notes queues turning times queue) e = cc
    passes _ (Serve errand x r rows next notes queues turning times served noted) e = cc
turn-asks (Starting what x occasion) p q i g e = absurd (each (handler_for p what x) e)
  where
    each : (o : Option Handler) → starting_step what x occasion o p ≡ Do.Wait i g q → ⊥
    each None e = cc
    each (Some h) e = cc
turn-asks (Handled what x) p q i g e = absurd (each (goes_after p what x) e)
  where
    each : (b : Bool) → handled_step x b p ≡ Do.Wait i g q → ⊥
    each true e = cc
    each false e = cc
turn-asks (Closing v) p q i g e = absurd (each p.turning e)
  where
    each : (o : Option Obj) → closing_step v o p ≡ Do.Wait i g q → ⊥
    each None e = cc
    each (Some c) e = parts (is_doomed p c) e
      where
        parts : (b : Bool) → parting_step c v b p ≡ Do.Wait i g q → ⊥
        parts true e = cc
        parts false e = cc
turn-asks _ p q i g e = cc

-- a question to the outside is asked
outside-asks : (f : OutsideFrame) (p q : Pool) (i : Item) (g : Frame) → outside_step f p ≡ Do.Wait i g q → (ask : Ask) × (i ≡ Asked ask)
outside-asks (Reaching ask) p q i g e = (ask, cc)
outside-asks _ p q i g e = cc

-- the work of a request asks nothing by itself
work-asks : (f : RequestFrame) (p q : Pool) (i : Item) (g : Frame) → request_step f p ≡ Do.Wait i g q → ⊥
work-asks (request.Receiving x) p q i g e = each (is_unreceived (note_of p.requests x)) e
  where
    each : (b : Bool) → receiving_step x b p ≡ Do.Wait i g q → ⊥
    each true e = cc
    each false e = cc
work-asks (request.Cancelling x) p q i g e = each (cancel_in (note_of p.requests x)) e
  where
    each : (o : Option Handler) → cancelling_step x o p ≡ Do.Wait i g q → ⊥
    each None e = cc
    each (Some handler) e = cc
work-asks (request.Cleaning x errand) p q i g e = each (cleanup_in (note_of p.requests x)) e
  where
    each : (o : Option Handler) → cleaning_step x errand o p ≡ Do.Wait i g q → ⊥
    each None e = cc
    each (Some handler) e = cc
work-asks (request.Cleaned x errand) p q i g e = each errand (note_of p.requests x) e
  where
    releases : (plan : Plan) → release_object plan Receive p ≡ Do.Wait i g q → ⊥
    releases (Frees c) e = cc
    releases (Unlinks o c) e = cc
    releases _ e = cc

    each : (errand : Errand) (o : Option Note) → cleaned_step x errand o p ≡ Do.Wait i g q → ⊥
    each errand None e = cc
    each Receive (Some n) e = releases (planned p (call.Free n.child)) e
    each _ (Some n) e = cc
work-asks (request.Notifying x errand) p q i g e = each (note_of p.requests x) e
  where
    back : (o : Option Handler) → callback_step x errand o p ≡ Do.Wait i g q → ⊥
    back None e = cc
    back (Some handler) e = cc

    deferred : (o : Option Obj) (callback : Option Handler) → deferred_step x errand o callback p ≡ Do.Wait i g q → ⊥
    deferred None callback e = back callback e
    deferred (Some c) callback e = cc

    each : (o : Option Note) → notifying_step x errand o p ≡ Do.Wait i g q → ⊥
    each None e = cc
    each (Some n) e = deferred n.deferred n.callback e
work-asks (request.Vacating x) p q i g e = each (head_of p.queues x) e
  where
    each : (o : Option Head) → vacating_step x o (run_queue p x false) ≡ Do.Wait i g q → ⊥
    each None e = cc
    each (Some h) e = cc
work-asks (request.Triggering x) p q i g e = each (next_of p.queues x) e
  where
    each : (o : Option Head) → triggering_step o p ≡ Do.Wait i g q → ⊥
    each None e = cc
    each (Some h) e = cc
work-asks _ p q i g e = cc

-- callers, turns and questions to the outside ask
pub waits-asking : (f : Frame) (p q : Pool) (i : Item) (g : Frame) → step f p ≡ Do.Wait i g q → (ask : Ask) × (i ≡ Asked ask)
waits-asking (frame.Call (Asking ask)) p q i g e = (ask, cc)
waits-asking (frame.Turn f) p q i g e = turn-asks f p q i g e
waits-asking (frame.Outside f) p q i g e = outside-asks f p q i g e
waits-asking (frame.Call (Doing ask c)) p q i g e = absurd (subst GoesOn e (plan-goes_on ask (planned_at ask p c) p))
waits-asking (frame.Request f) p q i g e = absurd (work-asks f p q i g e)
waits-asking (frame.Free f) p q i g e = absurd (free-waits p.ring (free_step f p) q i g e)
waits-asking _ p q i g e = cc

-- what a step asks is a question
only-asks : (f : Frame) (p q : Pool) (i : Item) (g : Frame) → step f p ≡ Do.Wait i g q → IsQuestion i
only-asks f p q i g e =
    let w = waits-asking f p q i g e in
    subst IsQuestion (sym w.1) tt

abbrev WholeAt : Frame → List Frame → Pool → Type 0
WholeAt f fs p = IsConsistent (record { innermost = f; below = fs; pool = p })

asks-kept : (f : Frame) (fs : List Frame) (p : Pool) → WholeAt f fs p → Stays table WholeAt IsQuestion (step f p) fs
asks-kept f fs p h = each (step f p) fs refl refl (whole-kept (record { innermost = f; below = fs; pool = p }) 1 h)
  where
    each : (m : Move Frame Answer Pool Item) (gs : List Frame) → step f p ≡ m → fs ≡ gs → Leads table (λ g gs q j. WholeAt g gs q) m gs 1 → Stays table WholeAt IsQuestion m gs
    each (Do.Done a q) [] e d l =
        let b : IsStacked f [] = subst (λ (z : List Frame). IsStacked f z) d h.seated in
        let r : Rests f [] p = subst (λ (z : List Frame). Rests f z p) d h.sound.rests in
        no-end f p q a b r e
    each (Do.Done a q) (g ∷ gs) e d l = l
    each (Do.Go g q) gs e d l = l
    each (Do.Emit i g q) gs e d l = l
    each (Do.Wait i g q) gs e d l = (only-asks f p q i g e, l)
    each (Do.Call g g' q) gs e d l = l

-- the story still to come ends with its question
pub ends-asked : (v : View) (is : List Input) → IsConsistent v → LastIs IsQuestion (rest_of v is)
ends-asked v is h =
    let R : ℕ = most v (length is) in
    let n : ℕ = turns (length v.pool.rows) (length is) in
    let w : Asks IsQuestion (walk table n v.innermost v.below v.pool is) = walk-asks table WholeAt IsQuestion asks-kept n v.innermost v.below v.pool is h in
    Asks-items IsQuestion _ (not-short v is h)
    (subst (λ (o : Outcome Answer Pool Input Item). Asks IsQuestion o) (rest-walk table (Well R) (cost R) (falls R) n v.innermost v.below v.pool is (well v (length is) h) (cost-turns v (length is) h.light)) w)

-- ---- where a question is open the story still to come begins with it

begins-tell : (q : Item) (o : Outcome Answer Pool Input Item) → NotShort (tell q o) → (more : List Item) × (told_by (tell q o) ≡ q ∷ more)
begins-tell q (Ended a p ts is) n = (ts, refl)
begins-tell q (Waits ts) n = (ts, refl)
begins-tell q (Stray ts) n = (ts, refl)
begins-tell q Short n = absurd n

pub begins-items : (v : View) (q : Item) (f : Frame) (p : Pool) (is : List Input) → IsConsistent v → step v.innermost v.pool ≡ Do.Wait q f p → (more : List Item) × (rest_of v is ≡ q ∷ more)
begins-items v q f p is h is-wait = each is e (not-short v is h)
  where
    n : ℕ
    n = turns (length v.pool.rows) (length is)

    e : outcome_of v is ≡ asks table.taken (λ g p' left. walk table n g v.below p' left) q f p is
    e = rest-step table (Well (most v (length is))) (cost (most v (length is))) (falls (most v (length is))) n v.innermost v.below v.pool is (well v (length is) h) (cost-turns v (length is) h.light)
        ∙ ap (λ (m : Move Frame Answer Pool Item). leads table (walk table n) m v.below is) is-wait

    fits : (i : Input) (js : List Input) (o : Option Frame) → NotShort (given (λ g p' left. walk table n g v.below p' left) q p js o)
        → (more : List Item) × (told_by (given (λ g p' left. walk table n g v.below p' left) q p js o) ≡ q ∷ more)
    fits i js None s = ([], refl)
    fits i js (Some g) s = begins-tell q (walk table n g v.below p js) s

    each : (js : List Input) → outcome_of v is ≡ asks table.taken (λ g p' left. walk table n g v.below p' left) q f p js → NotShort (outcome_of v is) → (more : List Item) × (rest_of v is ≡ q ∷ more)
    each [] e s = ([], ap told_by e)
    each (i ∷ js) e s =
        let w = fits i js (table.taken f p i) (subst NotShort e s) in
        (w.0, ap told_by e ∙ w.1)
