-- What a refused call leaves.
use Rattle.std.proofs.Common.{◌≡◌, ℕ, suc, zero, nat_eq, List, [], ◌∷◌, ◌++◌, Option, Some, None, refl, sym, ◌∙◌, ap, subst, inl, inr, append-nil, true}
use Rattle.step_machine.specs.Machine.{tell}
use Rattle.step_machine.specs.Machine.Outcome.{Ended}
use Rattle.step_machine.proofs.Uses.{ended-tell, ended-followed}
use Rattle.tree_specs.specs.declared.object.Obj.{Obj}
use Rattle.tree_specs.specs.declared.object.Owner.{Owner}
use Rattle.tree_specs.specs.declared.object.Owner.TheVariants.{Root}
use Rattle.tree_specs.specs.declared.row.Mark.TheVariants as mark
use Rattle.tree_specs.specs.declared.call.Call.{Call}
use Rattle.tree_specs.specs.declared.call.Call.TheVariants as call
use Rattle.tree_specs.specs.declared.reply.Reply.{Reply}
use Rattle.tree_specs.specs.declared.reply.Reply.TheVariants as reply
use Rattle.tree_specs.specs.declared.reply.Refusal.{Refusal}
use Rattle.tree_specs.specs.declared.event.Event.TheVariants.{Accepted}
use Rattle.tree_specs.specs.declared.question.Ask.TheVariants as ask
use Rattle.tree_specs.specs.declared.question.Input.{Input}
use Rattle.tree_specs.specs.declared.free_step.FreeReply.{FreeReply}
use Rattle.tree_specs.specs.declared.free_step.FreeReply.TheVariants as free_reply
use Rattle.tree_specs.specs.Tree.Targets.{newest_ref}
use Rattle.tree_specs.specs.Tree.Pool.{enter, Pool, row_of, remove, set_mark, set_hook}
use Rattle.tree_specs.specs.Calls.Refusals.{Check, refusals}
use Rattle.tree_specs.specs.declared.request.Note.{Note}
use Rattle.tree_specs.specs.declared.request.State.{State}
use Rattle.tree_specs.specs.declared.request.State.TheVariants as state
use Rattle.tree_specs.specs.declared.frame.Errand.TheVariants.{Finish}
use Rattle.tree_specs.specs.Events.Requests.{note_of, is_in_progress, failed_with}
use Rattle.tree_specs.proofs.Rules.RequestLaws.{work-said}
use Rattle.tree_specs.proofs.Rules.TextLaws.{all-lawful}
use Rattle.tree_specs.specs.Calls.Plans.Change.{Renotes, Runs, LooksAt, Then}
use Rattle.tree_specs.specs.Calls.Plans.{Plan, plan, frees, changed_by, replies, failure_in, failure_reply, progress_reply}
use Rattle.tree_specs.specs.Calls.Plans.Plan.{Does, Frees, Unlinks, Empties, Asks, Turns, Works}
use Rattle.tree_specs.specs.Rules.Items.Item.{Told}
use Rattle.tree_specs.specs.Rules.Sequence.{Work, Scene}
use Rattle.tree_specs.specs.Rules.Answers.{hook_moment, freed_reply}
use Rattle.tree_specs.specs.Rules.Story.{unlink, free, judged, leave, children, asked, taking, reaching, finishing, receiving, cancelling, notifying}
use Rattle.tree_specs.specs.Rules.Pieces.{effect, numbered, turned, work_by}
use Rattle.tree_specs.specs.declared.question.Ask.TheVariants.{Quiet as AtRest}
use Rattle.tree_specs.specs.Promises.Refused.{called, Untouched, OnlyDropped, closed_at, told_refusal, LeftByFree, LeftByItsFree, LeftByRefused}
use Rattle.tree_specs.specs.Events.Queues.{runs}
use Rattle.tree_specs.proofs.Tree.Numbered.{by_test}
use Rattle.tree_specs.proofs.Promises.Answering.{IsNoRefusal, reaching-answers}
use Rattle.tree_specs.proofs.Rules.FreeCauses.{leave-ok, received-ok, drained-ok, unlinked, dropped_scene, FreeGoes, free-goes}
use Rattle.tree_specs.proofs.Rules.FreeCauses.FreeGoes.{IsOver, ByLeaving, ByReceiving, ByDraining, ByAsking, AsRunning, Again, AsHeld}

-- what a free leaves, with the inputs that it took
abbrev Leaves : Obj → Pool → List Input → FreeReply → Pool → List Scene → List Input → Type 0
Leaves x p is a q ts left = LeftByFree x a p q is left ts

none-dropped : (x : Obj) (p : Pool) → OnlyDropped x p p []
none-dropped x p = record { drops = tt; pool = refl }

-- one more reference was dropped before
drop-more : (x r : Obj) (p q : Pool) (ts : List Scene) → OnlyDropped x (remove p r) q ts → OnlyDropped x p q (dropped_scene p x r ∷ ts)
drop-more x r p q ts h = record { drops = (refl, h.drops); pool = h.pool }

left-more : (x r : Obj) (p q : Pool) (is left : List Input) (ts : List Scene) (a : FreeReply) → Leaves x (remove p r) is a q ts left
    → Leaves x p is a q (dropped_scene p x r ∷ ts) left
left-more x r p q is left ts free_reply.Ok h = tt
left-more x r p q is left ts free_reply.Held h = (drop-more x r p q ts h.0, h.1)
left-more x r p q is left ts free_reply.Running h =
    let s : Scene = dropped_scene p x r in
    let d = h.0 in (
      record { dropped = s ∷ d.dropped; over = d.over; drops = drop-more x r p d.over d.dropped d.drops; told_is = ap (λ (l : List Scene). s ∷ l) d.told_is; pool = d.pool },
      h.1,
    )
left-more x r p q is left ts (free_reply.Refused v) h =
    let s : Scene = dropped_scene p x r in
    record {
      dropped = s ∷ h.dropped;
      ran = h.ran;
      start = h.start;
      over = h.over;
      turns = h.turns;
      hook = h.hook;
      drops = drop-more x r p h.start h.dropped h.drops;
      run = h.run;
      pool = h.pool;
      told_is = ap (λ (l : List Scene). s ∷ l) h.told_is;
    }

-- an object that was freed leaves whatever it leaves
ok-leaves : (x : Obj) (p : Pool) (is : List Input) (a : FreeReply) (q : Pool) (ts : List Scene) (left : List Input) → a ≡ free_reply.Ok → Leaves x p is a q ts left
ok-leaves x p is free_reply.Ok q ts left e = tt
ok-leaves x p is _ q ts left e = cc

-- a destructor that was asked
judged-leaves : (m n : ℕ) (x : Obj) (h v : ℕ) (p r q : Pool) (is mid left : List Input) (us ts : List Scene) (a : FreeReply)
    → asked m (ask.Routine (hook_moment x h)) (set_mark p x mark.Asked) is ≡ Ended v r us mid → judged n x h v r mid ≡ Ended a q ts left → Leaves x p is a q (us ++ ts) left
judged-leaves m zero x h v p r q is mid left us ts a run e = cc
judged-leaves m (suc n) x h v p r q is mid left us ts a run e = by_test (nat_eq v 0)
    (λ t.
    let e' : tell (record { item = Told (Accepted x); before = r; about = None }) (leave n x h (set_hook r x 0) mid) ≡ Ended a q ts left = rw t at e in
    let w = ended-tell _ (leave n x h (set_hook r x 0) mid) a q ts left e' in
    ok-leaves x p is a q (us ++ ts) left (leave-ok n x h (set_hook r x 0) mid a q w.0 left w.1))
    (λ t.
    let e' : Ended (free_reply.Refused v) (set_mark r x mark.Quiet) (told_refusal x v r ∷ []) mid ≡ Ended a q ts left = rw t at e in
    let e1 : free_reply.Refused v ≡ a = cc in
    let e2 : set_mark r x mark.Quiet ≡ q = cc in
    let e3 : told_refusal x v r ∷ [] ≡ ts = cc in
    let e4 : mid ≡ left = cc in
    let l : Leaves x p is (free_reply.Refused v) q (us ++ ts) left =
    record {
      dropped = [];
      ran = us;
      start = p;
      over = r;
      turns = m;
      hook = h;
      drops = none-dropped x p;
      run = run ∙ ap (λ (z : List Input). Ended v r us z) e4;
      pool = sym e2;
      told_is = ap (λ (z : List Scene). us ++ z) (sym e3);
    } in
    subst (λ (z : FreeReply). Leaves x p is z q (us ++ ts) left) e1 l)

free-leaves-more : (n : ℕ) (x : Obj) → ((p : Pool) (is : List Input) (a : FreeReply) (q : Pool) (ts : List Scene) (left : List Input) → free n x p is ≡ Ended a q ts left → Leaves x p is a q ts left)
    → (p : Pool) (is : List Input) (a : FreeReply) (q : Pool) (ts : List Scene) (left : List Input) → FreeGoes n x p is a q ts left → Leaves x p is a q ts left
free-leaves-more n x ih p is a q ts left (IsOver k) = let ok : a ≡ free_reply.Ok = cc in ok-leaves x p is a q ts left ok
free-leaves-more n x ih p is a q ts left (ByLeaving k) = ok-leaves x p is a q ts left (leave-ok n x 0 p is a q ts left k)
free-leaves-more n x ih p is a q ts left (ByReceiving k) = ok-leaves x p is a q ts left (received-ok n x (set_mark p x mark.Asked) is a q ts left k)
free-leaves-more n x ih p is a q ts left (ByDraining k) = ok-leaves x p is a q ts left (drained-ok n x (set_mark p x mark.Asked) is a q ts left k)
free-leaves-more n x ih p is a q ts left (ByAsking m h v r us vs mid run judge told) =
    subst (λ (l : List Scene). Leaves x p is a q l left) told (judged-leaves m m x h v p r q is mid left us vs a run judge)
free-leaves-more n x ih p is a q ts left (AsRunning r ran run is_doomed k) =
    let e1 : free_reply.Running ≡ a = cc in
    let e2 : r ≡ q = cc in
    let e3 : closed_at (row_of p.rows x) x p ≡ ts = cc in
    let e4 : is ≡ left = cc in
    subst (λ (z : FreeReply). Leaves x p is z q ts left) e1
    (record { dropped = []; over = p; drops = none-dropped x p; told_is = sym e3; pool = sym e2 ∙ is_doomed }, sym e4)
free-leaves-more n x ih p is a q ts left (Again r us k told) =
    subst (λ (l : List Scene). Leaves x p is a q l left) told (left-more x r p q is left us a (ih (remove p r) is a q us left k))
free-leaves-more n x ih p is a q ts left (AsHeld r z t k) =
    let e1 : free_reply.Held ≡ a = cc in
    let e2 : remove p r ≡ q = cc in
    let e3 : dropped_scene p x r ∷ [] ≡ ts = cc in
    let e4 : is ≡ left = cc in
    let one : OnlyDropped x p q (dropped_scene p x r ∷ []) = record { drops = (refl, tt); pool = sym e2 } in
    subst (λ (z : FreeReply). Leaves x p is z q ts left) e1 (subst (OnlyDropped x p q) e3 one, sym e4)

pub free-leaves : (n : ℕ) (x : Obj) (p : Pool) (is : List Input) (a : FreeReply) (q : Pool) (ts : List Scene) (left : List Input) → free n x p is ≡ Ended a q ts left → LeftByFree x a p q is left ts
free-leaves zero x p is a q ts left e = cc
free-leaves (suc n) x p is a q ts left e = free-leaves-more n x (free-leaves n x) p is a q ts left (free-goes n x p is a q ts left e)

pub unlink-leaves : (n : ℕ) (o : Owner) (x : Obj) (p : Pool) (is : List Input) (a : FreeReply) (q : Pool) (ts : List Scene) (left : List Input) → unlink n o x p is ≡ Ended a q ts left → LeftByFree x a p q is left ts
unlink-leaves n o x p is a q ts left e = unlinked x (Leaves x) (ok-leaves x) (λ p r is a q us left h. left-more x r p q is left us a h) (λ n. free-leaves n x) n o p is a q ts left e

-- ---- calls

-- what a plan leaves where it is refused: only a free is refused then
abbrev LeftByPlan : Plan → Refusal → Pool → Pool → List Input → List Input → List Scene → Type 0
LeftByPlan (Frees x) why p q is left told = LeftByItsFree x why p q is left told
LeftByPlan (Unlinks o x) why p q is left told = LeftByItsFree x why p q is left told
LeftByPlan plan why p q is left told = ⊥

AnswersDone : Plan → Type 0
AnswersDone (Does change notice r) = IsNoRefusal r
AnswersDone plan = Unit {0}

not-refused : (r : Reply) (why : Refusal) → IsNoRefusal r → r ≡ reply.No why → ⊥
not-refused (reply.No w) why h e = h
not-refused _ why h e = cc

-- the call's free is all that it does
itself : (x : Obj) (why : Refusal) (p q : Pool) (is left : List Input) (told : List Scene) (a : FreeReply) (r : Pool) (us vs : List Scene) (mid : List Input)
    → Ended (freed_reply x a) r [] mid ≡ Ended (reply.No why) q vs left → us ++ vs ≡ told → Leaves x p is a r us mid → LeftByItsFree x why p q is left told
itself x why p q is left told a r us vs mid e s l =
    let e1 : freed_reply x a ≡ reply.No why = cc in
    let e2 : r ≡ q = cc in
    let e3 : [] ≡ vs = cc in
    let e4 : mid ≡ left = cc in
    let same : us ≡ told = sym (append-nil us) ∙ ap (λ (z : List Scene). us ++ z) e3 ∙ s in
    (a, e1, subst (λ (z : List Scene). Leaves x p is a q z left) same (subst (λ (z : List Input). Leaves x p is a q us z) e4 (subst (λ (z : Pool). Leaves x p is a z us mid) e2 l)))

-- a number is no refusal
pub never-refused : (w : Work ℕ) (why : Refusal) (p q : Pool) (is left : List Input) (told : List Scene) → numbered w p is ≡ Ended (reply.No why) q told left → ⊥
never-refused w why p q is left told e =
    let w = ended-followed (w p is) (λ v r mid. Ended (reply.Number v) r [] mid) (reply.No why) q told left e in
    let e' : Ended (reply.Number w.0) w.1 [] w.4 ≡ Ended (reply.No why) q w.3 left = w.6 in
    cc

plan-leaves : (n : ℕ) (plan : Plan) (why : Refusal) (p q : Pool) (is left : List Input) (told : List Scene) → AnswersDone plan
    → effect (free n) (unlink n) (children n) (reaching n) (turned AtRest (taking n)) (work_by (finishing n) (notifying n) (receiving n) (cancelling n)) plan p is ≡ Ended (reply.No why) q told left
    → LeftByPlan plan why p q is left told
unfolding AnswersDone
plan-leaves n (Does change notice r) why p q is left told done e =
    let e' : Ended r (changed_by change p) [] is ≡ Ended (reply.No why) q told left = e in
    let same : r ≡ reply.No why = cc in
    not-refused r why done same
plan-leaves n (Frees x) why p q is left told done e =
    let w = ended-followed (free n x p is) (λ a r mid. Ended (freed_reply x a) r [] mid) (reply.No why) q told left e in
    itself x why p q is left told w.0 w.1 w.2 w.3 w.4 w.6 w.7 (free-leaves n x p is w.0 w.1 w.2 w.4 w.5)
plan-leaves n (Unlinks o x) why p q is left told done e =
    let w = ended-followed (unlink n o x p is) (λ a r mid. Ended (freed_reply x a) r [] mid) (reply.No why) q told left e in
    itself x why p q is left told w.0 w.1 w.2 w.3 w.4 w.6 w.7 (unlink-leaves n o x p is w.0 w.1 w.2 w.4 w.5)
plan-leaves n (Empties x) why p q is left told done e =
    let w = ended-followed (children n x p is) (λ u r mid. Ended reply.Ok r [] mid) (reply.No why) q told left e in
    let e' : Ended reply.Ok w.1 [] w.4 ≡ Ended (reply.No why) q w.3 left = w.6 in
    cc
plan-leaves n (Asks outside) why p q is left told done e = reaching-answers n outside (reply.No why) p q is left told e
plan-leaves n (Turns c) why p q is left told done e = never-refused (taking n) why (enter p c) q is left told e
plan-leaves n (Works change errand x) why p q is left told done e = work-said n (all-lawful n) errand x why (changed_by change p) q is left told e

refused-leaves : (c : Call) (why : Refusal) (p q : Pool) (is left : List Input) (told : List Scene) → Untouched p q is left told → LeftByRefused c why p q is left told
refused-leaves (call.Free x) why p q is left told u = inl u
refused-leaves (call.Unlink o x) why p q is left told u = inl u
refused-leaves c why p q is left told u = u

-- what is told of a request is no refusal
told-failure : (o : Option Note) → IsNoRefusal (failure_reply o)
told-failure None = tt
told-failure (Some n) = each n.state
  where
    each : (s : State) → IsNoRefusal (failure_in s n.error)
    each state.Done = tt
    each _ = tt

told-progress : (o : Option Note) → IsNoRefusal (progress_reply o)
told-progress None = tt
told-progress (Some n) = by_test (is_in_progress n.state) (λ t. rw t tt) (λ t. rw t tt)

passed-leaves : (n : ℕ) (c : Call) (why : Refusal) (p q : Pool) (is left : List Input) (told : List Scene)
    → effect (free n) (unlink n) (children n) (reaching n) (turned AtRest (taking n)) (work_by (finishing n) (notifying n) (receiving n) (cancelling n)) (plan p c) p is ≡ Ended (reply.No why) q told left
    → LeftByRefused c why p q is left told
unfolding AnswersDone
passed-leaves n (call.Free x) why p q is left told e = inr (each (newest_ref p.rows x) e)
  where
    each : (o : Option Obj) → effect (free n) (unlink n) (children n) (reaching n) (turned AtRest (taking n)) (work_by (finishing n) (notifying n) (receiving n) (cancelling n)) (frees o x) p is ≡ Ended (reply.No why) q told left
        → LeftByItsFree x why p q is left told
    each None k = plan-leaves n (Frees x) why p q is left told tt k
    each (Some r) k = plan-leaves n (Unlinks Root x) why p q is left told tt k
passed-leaves n (call.Unlink o x) why p q is left told e = inr (plan-leaves n (Unlinks o x) why p q is left told tt e)
passed-leaves n (call.Error x error) why p q is left told e = by_test (nat_eq error 0)
    (λ t. absurd (plan-leaves n (replies (reply.Number 0)) why p q is left told tt (rw t at e)))
    (λ t. absurd (plan-leaves n (Works (Renotes x (failed_with error)) (Finish state.UserError) x) why p q is left told tt (rw t at e)))
passed-leaves n (call.Iserror x) why p q is left told e = absurd (plan-leaves n (replies (failure_reply (note_of p.requests x))) why p q is left told (told-failure (note_of p.requests x)) e)
passed-leaves n (call.Progress x) why p q is left told e = absurd (plan-leaves n (replies (progress_reply (note_of p.requests x))) why p q is left told (told-progress (note_of p.requests x)) e)
passed-leaves n (call.Start x) why p q is left told e = by_test (runs p.queues x)
    (λ t. absurd (plan-leaves n (replies reply.Ok) why p q is left told tt (rw t at e)))
    (λ t. absurd (plan-leaves n (Does (Then (Runs x true) (LooksAt x)) None reply.Ok) why p q is left told tt (rw t at e)))
passed-leaves n c why p q is left told e = absurd (plan-leaves n (plan p c) why p q is left told tt e)

pub call-leaves : (n : ℕ) (c : Call) (why : Refusal) (p q : Pool) (is left : List Input) (told : List Scene) → called n c p is ≡ Ended (reply.No why) q told left → LeftByRefused c why p q is left told
call-leaves n c why p q is left told e = each (refusals p c) refl
  where
    each : (check : Check) → refusals p c ≡ check → LeftByRefused c why p q is left told
    each [] k = passed-leaves n c why p q is left told (rw k at e)
    each (w ∷ later) k =
        let e' : Ended (reply.No w) p [] is ≡ Ended (reply.No why) q told left = rw k at e in
        let e1 : q ≡ p = cc in
        let e2 : told ≡ [] = cc in
        let e3 : left ≡ is = cc in
        refused-leaves c why p q is left told (record { pool = e1; told_none = e2; asked_none = e3 })
