-- The steps of turns and works, one by one: whether each tells or asks something, and the objects that it leaves.
use Rattle.std.proofs.Common.{◌≡◌, ℕ, ◌+◌, ◌*◌, ◌≤◌, Bool, true, false, nat_eq, nat_le, List, Option, Some, None, is_some, refl, arith}
use Rattle.step_machine.specs.Machine.{Move}
use Rattle.step_machine.specs.Machine.{Move as Do}
use Rattle.tree_specs.specs.declared.coming.Coming.{Coming}
use Rattle.tree_specs.specs.declared.due.Due.{Due}
use Rattle.tree_specs.specs.declared.kind.Kind.{Kind}
use Rattle.tree_specs.specs.declared.kind.Kind.TheVariants.{Context}
use Rattle.tree_specs.specs.declared.row.Row.{Row}
use Rattle.tree_specs.specs.declared.frame.Answer.{Answer}
use Rattle.tree_specs.specs.declared.frame.Errand.{Errand}
use Rattle.tree_specs.specs.declared.frame.Errand.TheVariants.{Finish}
use Rattle.tree_specs.specs.declared.frame.Frame.{Frame}
use Rattle.tree_specs.specs.declared.frame.TurnFrame.{TurnFrame}
use Rattle.tree_specs.specs.declared.frame.TurnFrame.TheVariants.{Taking, Timed, Starting, Handled, Closing}
use Rattle.tree_specs.specs.declared.handler.Handler.{Handler}
use Rattle.tree_specs.specs.declared.moment.What.{What}
use Rattle.tree_specs.specs.declared.moment.What.TheVariants.{Timer as ForTimer}
use Rattle.tree_specs.specs.declared.object.Obj.{Obj}
use Rattle.tree_specs.specs.declared.occasion.Occasion.{Occasion}
use Rattle.tree_specs.specs.declared.request.Note.{Note}
use Rattle.tree_specs.specs.declared.request.State.TheVariants.{TimedOut}
use Rattle.tree_specs.specs.declared.row.Mark.TheVariants.{Quiet, Busy}
use Rattle.tree_specs.specs.declared.call.Call.TheVariants as call
use Rattle.tree_specs.specs.Calls.Plans.{Plan, planned}
use Rattle.tree_specs.specs.Calls.Plans.Plan.{Frees as FreesOf, Unlinks as UnlinksOf}
use Rattle.tree_specs.specs.Events.Coming.{at_time, handler_for, goes_after}
use Rattle.tree_specs.specs.Events.Pending.{first}
use Rattle.tree_specs.specs.Events.Queues.{Head, has_queue, head_of, next_of}
use Rattle.tree_specs.specs.Events.Requests.{note_of, is_noted, is_unreceived, cleanup_in, cancel_in}
use Rattle.tree_specs.specs.Machine.Table.{come_step, soon_step, due_now, due_step, taking_step, early_step, timed_step, starting_step, handled_step, closing_step, turn_step, cancelling_step, cleaning_step, release_object, cleaned_step, callback_step, deferred_step, notifying_step, receiving_step, vacating_step, triggering_step, request_step}
use Rattle.tree_specs.specs.Rules.Errands.{is_receive}
use Rattle.tree_specs.specs.Rules.Items.{Item}
use Rattle.tree_specs.specs.Tree.Pool.{Pool, row_of, changed, marked_row, soon_here, times_here, is_usable, disarm, unschedule, run_queue}
use Rattle.tree_specs.specs.Tree.Targets.{is_context}
use Rattle.tree_specs.specs.Calls.Refusals.{is_doomed, is_queue}
use Rattle.tree_specs.specs.Invariants.Sound.{IsTurning, TurnedAt}
use Rattle.tree_specs.proofs.Turns.Lowering.{total-kept}
use Rattle.tree_specs.proofs.Invariants.Turning.{rotated-rows}
use Rattle.tree_specs.proofs.Tree.Numbered.{by_test}
use Rattle.host_core.specs.declared.step.Step.{Step}
use Rattle.host_core.specs.declared.step.Step.TheVariants.{Goes, Calls, Frees, Unlinks, Empties, Ends}
use Rattle.host_core.specs.declared.work.Work.{Work}
use Rattle.host_core.specs.declared.work.Work.TheVariants as work
use Rattle.host_core.specs.Hosts.{speaks}
use Rattle.host_core.specs.Places.{count_undrained, undrained, turn_takes, turn_places}
use Rattle.host_core.specs.Requests.{work_speaks}
use Rattle.host_core.specs.Stacks.{work_frame}
use Rattle.host_core.specs.Steps.{step_of}
use Rattle.host_core.specs.Turns.{MayTurn, turn_speaks}
use Rattle.host_core.proofs.Draining.{changed-most, marked-fewer}

abbrev pub pool_in : Move Frame Answer Pool Item → Pool
pool_in (Do.Done a p) = p
pool_in (Do.Go f p) = p
pool_in (Do.Emit e f p) = p
pool_in (Do.Wait q f p) = p
pool_in (Do.Call f g p) = p

pub pool-left : (step : Step) (p : Pool) → pool_in (step_of step p) ≡ p
pool-left (Goes next) p = refl
pool-left (Calls first second) p = refl
pool-left (Frees x second) p = refl
pool-left (Unlinks owner x second) p = refl
pool-left (Empties x second) p = refl
pool-left (Ends a) p = refl

-- whether a step tells or asks something, and that all rows stay
abbrev Keeps : Move Frame Answer Pool Item → Bool → Pool → Type 0
Keeps m tells p = (speaks m ≡ tells) × ((pool_in m).rows ≡ p.rows)

-- ---- a turn

come : (b : Bool) (errand : Errand) (what : What) (x : Obj) (occasion : Occasion) (p : Pool) → Keeps (come_step b errand what x occasion p) false p
come true errand what x occasion p = (refl, refl)
come false errand what x occasion p = (refl, refl)

soon : (noted queued : Bool) (x : Obj) (p : Pool) → has_queue p.queues x ≡ queued → Keeps (soon_step noted x p) false p
soon true queued x p e = (refl, refl)
soon false true x p e = rw e (refl, refl)
soon false false x p e = rw e (refl, refl)

due-at : (x : Obj) (now : ℕ) (p : Pool) → Keeps (due_now x now p) false p
due-at x now p = come (is_noted p.requests x) (Finish TimedOut) ForTimer x (at_time now) (disarm p x)

due : (o : Option Due) (p : Pool) → Keeps (due_step o p) false p
due None p = (refl, refl)
due (Some d) p = by_test (nat_eq d.time 0) (λ t. rw t (due-at d.object 0 p)) (λ t. rw t (refl, refl))

taking : (o : Option Coming) (p : Pool) → Keeps (taking_step o p) false p
taking None p = due (first (times_here p)) p
taking (Some y) p = soon (is_noted p.requests y.object) (has_queue p.queues y.object) y.object (unschedule p y.object) refl

early : (again : Bool) (d : Due) (now : ℕ) (p : Pool) → Keeps (early_step again d now p) false p
early true d now p = (refl, refl)
early false d now p = (refl, refl)

timed : (again : Bool) (now : ℕ) (o : Option Due) (p : Pool) → Keeps (timed_step again now o p) false p
timed again now None p = (refl, refl)
timed again now (Some d) p = by_test (nat_le d.time now)
    (λ t. rw t (due-at d.object now p))
    (λ t. rw t (early again d now p))

starting : (what : What) (x : Obj) (occasion : Occasion) (o : Option Handler) (p : Pool) → (speaks (starting_step what x occasion o p) ≡ false) × (count_undrained (pool_in (starting_step what x occasion o p)).rows ≤ count_undrained p.rows)
starting what x occasion None p = (refl, omega arith)
starting what x occasion (Some handler) p = let n = marked-fewer Busy p.rows x refl in (refl, rw (rotated-rows what x p).0 n)

handled : (x : Obj) (b : Bool) (p : Pool) → (speaks (handled_step x b p) ≡ false) × (count_undrained (pool_in (handled_step x b p)).rows ≤ count_undrained p.rows + 1)
handled x true p = (refl, changed-most (marked_row Quiet) p.rows x)
handled x false p = (refl, changed-most (marked_row Quiet) p.rows x)

-- a context is no queue
context-marked : (rs : List Row) (c : Obj) → IsTurning (row_of rs c) → count_undrained (changed (marked_row Quiet) rs c) ≡ count_undrained rs
context-marked rs c turning = each (row_of rs c) refl turning
  where
    no_queue : (k : Kind) → is_context k ≡ true → is_queue k ≡ false
    no_queue Context e = refl
    no_queue _ e = cc

    each : (o : Option Row) → row_of rs c ≡ o → IsTurning o → count_undrained (changed (marked_row Quiet) rs c) ≡ count_undrained rs
    each None e t = absurd t
    each (Some r) e t = let n = no_queue r.kind t.0 in total-kept undrained (marked_row Quiet) rs c r e (rw n refl)

-- the context of a turn that is over is quiet again
closing : (v : ℕ) (o : Option Obj) (p : Pool) → (speaks (closing_step v o p) ≡ false) × (TurnedAt o p.rows → count_undrained (pool_in (closing_step v o p)).rows ≡ count_undrained p.rows)
closing v None p = (refl, λ t. refl)
closing v (Some c) p = by_test (is_doomed p c)
    (λ d. rw d (refl, context-marked p.rows c))
    (λ d. rw d (refl, context-marked p.rows c))

pub turn_speaking : (f : TurnFrame) (p : Pool) → speaks (turn_step f p) ≡ turn_speaks f
turn_speaking Taking p = (taking (first (soon_here p)) p).0
turn_speaking (Timed again now) p = (timed again now (first (times_here p)) p).0
turn_speaking (Starting what x occasion) p = (starting what x occasion (handler_for p what x) p).0
turn_speaking (Handled what x) p = (handled x (goes_after p what x) p).0
turn_speaking (Closing v) p = (closing v p.turning p).0
turn_speaking _ p = refl

-- what a turn takes, and what there is for frees to come to then, was kept for it
pub turn-room : (f : TurnFrame) (p : Pool) → MayTurn f p → turn_takes f + 2 * count_undrained (pool_in (turn_step f p)).rows ≤ turn_places f + 2 * count_undrained p.rows
turn-room Taking p may = let e = (taking (first (soon_here p)) p).1 in rw e (omega arith)
turn-room (Timed again now) p may = let e = (timed again now (first (times_here p)) p).1 in rw e (omega arith)
turn-room (Starting what x occasion) p may = let n = (starting what x occasion (handler_for p what x) p).1 in omega (arith, n)
turn-room (Handled what x) p may = let n = (handled x (goes_after p what x) p).1 in omega (arith, n)
turn-room (Closing v) p may = let n = (closing v p.turning p).1 may in omega (arith, n)
turn-room _ p may = omega arith

-- ---- the work of a request, or of a queue

cancelling : (x : Obj) (o : Option Handler) (p : Pool) → Keeps (cancelling_step x o p) false p
cancelling x None p = (refl, refl)
cancelling x (Some handler) p = (refl, refl)

cleaning : (x : Obj) (errand : Errand) (o : Option Handler) (p : Pool) → Keeps (cleaning_step x errand o p) false p
cleaning x errand None p = (refl, refl)
cleaning x errand (Some handler) p = (refl, refl)

release : (plan : Plan) (errand : Errand) (p : Pool) → Keeps (release_object plan errand p) false p
release (FreesOf c) errand p = (refl, refl)
release (UnlinksOf o c) errand p = (refl, refl)
release _ errand p = (refl, refl)

cleaned : (x : Obj) (errand : Errand) (o : Option Note) (p : Pool) → Keeps (cleaned_step x errand o p) false p
cleaned x errand None p = (refl, refl)
cleaned x errand (Some n) p = by_test (is_receive errand) (λ t. rw t (release (planned p (call.Free n.child)) errand p)) (λ t. rw t (refl, refl))

callback : (x : Obj) (errand : Errand) (o : Option Handler) (p : Pool) → Keeps (callback_step x errand o p) false p
callback x errand None p = (refl, refl)
callback x errand (Some handler) p = (refl, refl)

notifying : (x : Obj) (errand : Errand) (o : Option Note) (p : Pool) → Keeps (notifying_step x errand o p) false p
notifying x errand None p = (refl, refl)
notifying x errand (Some n) p = deferred n.deferred
  where
    deferred : (o : Option Obj) → Keeps (deferred_step x errand o n.callback p) false p
    deferred None = callback x errand n.callback p
    deferred (Some c) = by_test (is_usable p.rows c) (λ t. rw t (refl, refl)) (λ t. rw t (refl, refl))

receiving : (x : Obj) (b : Bool) (p : Pool) → Keeps (receiving_step x b p) b p
receiving x true p = (refl, refl)
receiving x false p = (refl, refl)

vacating : (q : Obj) (o : Option Head) (p : Pool) → Keeps (vacating_step q o p) false p
vacating q None p = (refl, refl)
vacating q (Some h) p = (refl, refl)

triggering : (o : Option Head) (p : Pool) → Keeps (triggering_step o p) (is_some o) p
triggering None p = (refl, refl)
triggering (Some h) p = (refl, refl)

-- all rows stay
pub work_keeps : (w : Work) (p : Pool) → Keeps (request_step (work_frame w) p) (work_speaks w p) p
work_keeps (work.Receiving x) p = receiving x (is_unreceived (note_of p.requests x)) p
work_keeps (work.Cancelling x) p = cancelling x (cancel_in (note_of p.requests x)) p
work_keeps (work.Cleaning x errand) p = cleaning x errand (cleanup_in (note_of p.requests x)) p
work_keeps (work.Cleaned x errand) p = cleaned x errand (note_of p.requests x) p
work_keeps (work.Notifying x errand) p = notifying x errand (note_of p.requests x) p
work_keeps (work.Vacating queue) p = vacating queue (head_of p.queues queue) (run_queue p queue false)
work_keeps (work.Triggering queue) p = triggering (next_of p.queues queue) p
work_keeps _ p = (refl, refl)
