-- A call is refused as running only where the object ran when the call began.
use Rattle.std.proofs.Common.{◌≡◌, ℕ, nat_eq, List, [], ◌∷◌, Option, Some, None, true, subst}
use Rattle.tree_specs.specs.declared.request.Note.{Note}
use Rattle.tree_specs.specs.declared.request.State.{State}
use Rattle.tree_specs.specs.declared.request.State.TheVariants as state
use Rattle.tree_specs.specs.Events.Requests.{note_of, is_in_progress}
use Rattle.tree_specs.specs.Events.Queues.{runs}
use Rattle.tree_specs.proofs.Tree.Numbered.{by_test}
use Rattle.tree_specs.proofs.Rules.RequestLaws.{work-said}
use Rattle.tree_specs.proofs.Rules.TextLaws.{all-lawful}
use Rattle.step_machine.specs.Machine.Outcome.{Ended}
use Rattle.step_machine.proofs.Uses.{ended-followed}
use Rattle.tree_specs.specs.declared.object.Obj.{Obj}
use Rattle.tree_specs.specs.declared.call.Call.{Call}
use Rattle.tree_specs.specs.declared.call.Call.TheVariants as call
use Rattle.tree_specs.specs.declared.question.Input.{Input}
use Rattle.tree_specs.specs.declared.reply.Reply.{Reply}
use Rattle.tree_specs.specs.declared.reply.Reply.TheVariants as reply
use Rattle.tree_specs.specs.declared.reply.Refusal.TheVariants as refusal
use Rattle.tree_specs.specs.declared.free_step.FreeReply.{FreeReply}
use Rattle.tree_specs.specs.declared.free_step.FreeReply.TheVariants as free_reply
use Rattle.tree_specs.specs.Tree.Pool.{enter, Pool}
use Rattle.tree_specs.specs.Tree.Targets.{newest_ref}
use Rattle.tree_specs.specs.Tree.Forest.{Distinct}
use Rattle.tree_specs.specs.Calls.Refusals.{Check, refusals, tests, is_running}
use Rattle.tree_specs.specs.Calls.Plans.{Plan, plan, planned, frees, unless_refused, changed_by, failure_in, failure_reply, progress_reply}
use Rattle.tree_specs.specs.Calls.Plans.Plan.{Does, Frees, Unlinks, Empties, Asks, Turns, Works}
use Rattle.tree_specs.specs.Rules.Sequence.{Scene}
use Rattle.tree_specs.specs.Rules.Answers.{freed_reply}
use Rattle.tree_specs.specs.Rules.Story.{free, unlink, children, taking, reaching, finishing, receiving, cancelling, notifying}
use Rattle.tree_specs.specs.Rules.Pieces.{effect, turned, work_by}
use Rattle.tree_specs.specs.declared.question.Ask.TheVariants.{Quiet as AtRest}
use Rattle.tree_specs.proofs.Calls.OwnRefusals.{IsOwn, AllOwn, own-refused}
use Rattle.tree_specs.proofs.Promises.Answering.{reaching-answers}
use Rattle.tree_specs.proofs.Promises.Leaving.{never-refused}
use Rattle.tree_specs.proofs.Rules.FreeCauses.{FreeCause, RunsFrom, free-cause, unlink-cause}

-- a call's own refusal says the truth
abbrev OwnReply : Pool → Reply → Type 0
OwnReply p (reply.No why) = IsOwn p why
OwnReply p r = Unit {0}

abbrev OwnPlan : Pool → Plan → Type 0
OwnPlan p (Does change notice r) = OwnReply p r
OwnPlan p plan = Unit {0}

plan-own : (p : Pool) (c : Call) → OwnPlan p (plan p c)
plan-own p (call.Free x) = each (newest_ref p.rows x)
  where
    each : (o : Option Obj) → OwnPlan p (frees o x)
    each None = tt
    each (Some r) = tt
plan-own p (call.Error x error) = by_test (nat_eq error 0) (λ t. rw t tt) (λ t. rw t tt)
plan-own p (call.Start q) = by_test (runs p.queues q) (λ t. rw t tt) (λ t. rw t tt)
plan-own p (call.Iserror x) = each (note_of p.requests x)
  where
    states : (s : State) (error : ℕ) → OwnReply p (failure_in s error)
    states state.Done error = tt
    states _ error = tt

    each : (o : Option Note) → OwnReply p (failure_reply o)
    each None = tt
    each (Some n) = states n.state n.error
plan-own p (call.Progress x) = each (note_of p.requests x)
  where
    each : (o : Option Note) → OwnReply p (progress_reply o)
    each None = tt
    each (Some n) = by_test (is_in_progress n.state) (λ t. rw t tt) (λ t. rw t tt)
plan-own p c = tt

planned-own : (p : Pool) (c : Call) → OwnPlan p (planned p c)
planned-own p c = each (refusals p c) (own-refused p (tests c))
  where
    each : (check : Check) → AllOwn p check → OwnPlan p (unless_refused check (plan p c))
    each [] own = plan-own p c
    each (why ∷ later) own = own.0

-- a free that a call answers as running
by-free : (p q : Pool) (x y : Obj) (told : List Scene) (a : FreeReply) → Distinct p.rows → FreeCause (RunsFrom p y q) y told a → freed_reply y a ≡ reply.No (refusal.Running x) → is_running p x ≡ true
by-free p q x y told free_reply.Running d h e = let same : y ≡ x = cc in subst (λ (z : Obj). is_running p z ≡ true) same (h.1 d)
by-free p q x y told _ d h e = cc

plan-runs : (n : ℕ) (plan : Plan) (x : Obj) (p q : Pool) (is left : List Input) (told : List Scene) → Distinct p.rows → OwnPlan p plan
    → effect (free n) (unlink n) (children n) (reaching n) (turned AtRest (taking n)) (work_by (finishing n) (notifying n) (receiving n) (cancelling n)) plan p is ≡ Ended (reply.No (refusal.Running x)) q told left → is_running p x ≡ true
plan-runs n (Does change notice r) x p q is left told d own e =
    let e' : Ended r (changed_by change p) [] is ≡ Ended (reply.No (refusal.Running x)) q told left = e in
    let same : r ≡ reply.No (refusal.Running x) = cc in
    let own' : OwnReply p (reply.No (refusal.Running x)) = subst (OwnReply p) same own in own'
plan-runs n (Frees y) x p q is left told d own e =
    let w = ended-followed (free n y p is) (λ a r mid. Ended (freed_reply y a) r [] mid) (reply.No (refusal.Running x)) q told left e in
    let e' : Ended (freed_reply y w.0) w.1 [] w.4 ≡ Ended (reply.No (refusal.Running x)) q w.3 left = w.6 in
    by-free p w.1 x y w.2 w.0 d (free-cause n y p is w.0 w.1 w.2 w.4 w.5) cc
plan-runs n (Unlinks o y) x p q is left told d own e =
    let w = ended-followed (unlink n o y p is) (λ a r mid. Ended (freed_reply y a) r [] mid) (reply.No (refusal.Running x)) q told left e in
    let e' : Ended (freed_reply y w.0) w.1 [] w.4 ≡ Ended (reply.No (refusal.Running x)) q w.3 left = w.6 in
    by-free p w.1 x y w.2 w.0 d (unlink-cause n o y p is w.0 w.1 w.2 w.4 w.5) cc
plan-runs n (Empties y) x p q is left told d own e =
    let w = ended-followed (children n y p is) (λ u r mid. Ended reply.Ok r [] mid) (reply.No (refusal.Running x)) q told left e in
    let e' : Ended reply.Ok w.1 [] w.4 ≡ Ended (reply.No (refusal.Running x)) q w.3 left = w.6 in
    cc
plan-runs n (Asks outside) x p q is left told d own e = absurd (reaching-answers n outside (reply.No (refusal.Running x)) p q is left told e)
plan-runs n (Works change errand y) x p q is left told d own e = absurd (work-said n (all-lawful n) errand y (refusal.Running x) (changed_by change p) q is left told e)
plan-runs n (Turns c) x p q is left told d own e = absurd (never-refused (taking n) (refusal.Running x) (enter p c) q is left told e)

pub call-runs : (n : ℕ) (c : Call) (x : Obj) (p q : Pool) (is left : List Input) (told : List Scene) → Distinct p.rows
    → effect (free n) (unlink n) (children n) (reaching n) (turned AtRest (taking n)) (work_by (finishing n) (notifying n) (receiving n) (cancelling n)) (planned p c) p is ≡ Ended (reply.No (refusal.Running x)) q told left → is_running p x ≡ true
call-runs n c x p q is left told d e = plan-runs n (planned p c) x p q is left told d (planned-own p c) e
