-- The objects that requests were made with have numbers that were given, at every moment of a host.
use Rattle.std.proofs.Common.{◌≡◌, ◌+◌, ◌<◌, ◌≤◌, [], ◌∷◌, Option, Some, None, refl, sym, ◌∙◌, ap, inl, inr, arith}
use Rattle.std.specs.Prelude.{nat_eq}
use Rattle.step_machine.specs.Machine.{Move as Do}
use Rattle.tree_specs.specs.declared.object.Obj.{Obj}
use Rattle.tree_specs.specs.declared.request.Note.{Note}
use Rattle.tree_specs.specs.declared.call.Call.{Call}
use Rattle.tree_specs.specs.declared.call.Call.TheVariants as call
use Rattle.tree_specs.specs.declared.question.Ask.{Ask}
use Rattle.tree_specs.specs.declared.question.Ask.TheVariants as ask
use Rattle.tree_specs.specs.declared.frame.Frame.{Frame}
use Rattle.tree_specs.specs.declared.frame.Frame.TheVariants as frame
use Rattle.tree_specs.specs.declared.frame.CallFrame.TheVariants.{Doing}
use Rattle.tree_specs.specs.declared.frame.OutsideFrame.TheVariants.{Reaching, Opening, Hearing}
use Rattle.tree_specs.specs.Words.Objects.{same, first_context}
use Rattle.tree_specs.specs.Tree.Targets.{newest_ref}
use Rattle.tree_specs.specs.Tree.Pool.{Pool, enter}
use Rattle.tree_specs.specs.Events.Queues.{runs as runs_queue}
use Rattle.tree_specs.specs.Events.Requests.{note_of, with_note, new_note}
use Rattle.tree_specs.specs.Calls.Refusals.{Check, refusals_at}
use Rattle.tree_specs.specs.Calls.Plans.{Change, Plan, plan, planned_at, unless_refused, changed_by, frees, handed, gift}
use Rattle.tree_specs.specs.Calls.Plans.Change.{Renotes, AddRequest, Then, Nothing, Edit, Add, Place, Handle, Schedule, Unschedule, Arm, Watches, Rewatch, Close, TakeNumber, Runs, AddQueue, AddEntry, LooksAt, Enter}
use Rattle.tree_specs.specs.Calls.Plans.Plan.{Does, Frees, Unlinks, Empties, Asks, Turns, Works}
use Rattle.tree_specs.specs.Invariants.Awaiting.{pool_after}
use Rattle.tree_specs.specs.Machine.Table.{Step, step, plan_step}
use Rattle.tree_specs.proofs.Tree.Numbered.{by_test, same_or_not}
use Rattle.tree_specs.proofs.Events.NoteLaws.{noted-same, noted-other}
use Rattle.service_rules.proofs.Calling.{next-rises}
use Rattle.service_rules.proofs.Works.{LeadsWork, works}
use Rattle.service_rules.proofs.Kids.{Kids, changed-note, work-kids}

abbrev pub KidsBelow : Pool → Type 0
KidsBelow p = (x : Obj) (n : Note) → note_of p.requests x ≡ Some n → n.child.0 < p.next

kids-on : (p q : Pool) → Kids p q → p.next ≤ q.next → KidsBelow p → KidsBelow q
kids-on p q kids rises below x n h =
    let m = kids x n h in
    let l : m.0.child.0 < p.next = below x m.0 m.1 in
    let s : n.child.0 ≡ m.0.child.0 = ap (λ (z : Obj). z.0) m.2 in
    omega (arith, l, s, rises)

kids-same : (p q : Pool) → q.requests ≡ p.requests → p.next ≤ q.next → KidsBelow p → KidsBelow q
kids-same p q is rises below = kids-on p q (λ x n h. (n, sym (ap (λ ns. note_of ns x) is) ∙ h, refl)) rises below

-- ---- calls

abbrev KeepsKids : Change → Type 0
KeepsKids (Renotes x g) = (n : Note) → (g n).child ≡ n.child
KeepsKids (Then first second) = KeepsKids first × KeepsKids second
KeepsKids c = Unit {0}

-- a turn of a context begins
entered-kids : (p : Pool) (c : Obj) → KidsBelow p → KidsBelow (enter p c)
entered-kids p c below = by_test (same c first_context) (λ t. rw t below) (λ t. rw t below)

change-kids : (c : Change) (p : Pool) → KeepsKids c → KidsBelow p → KidsBelow (changed_by c p)
change-kids (Renotes x g) p k below = kids-on p (changed_by (Renotes x g) p) (changed-note g p (changed_by (Renotes x g) p) x refl k) (next-rises (Renotes x g) p) below
change-kids (Then first second) p k below = change-kids second (changed_by first p) k.1 (change-kids first p k.0 below)
change-kids (AddRequest o size name) p k below = λ x n h. elim (same_or_not (record { 0 = p.next }) x) [
  | inl s ↦
      let h' : note_of (with_note p.requests x (new_note (record { 0 = p.next + 1 }))) x ≡ Some n = ap (λ (z : Obj). note_of (with_note p.requests z (new_note (record { 0 = p.next + 1 }))) x) (sym s) ∙ h in
      let i : Some (new_note (record { 0 = p.next + 1 })) ≡ Some n = sym (noted-same p.requests x (new_note (record { 0 = p.next + 1 }))) ∙ h' in
      let j : new_note (record { 0 = p.next + 1 }) ≡ n = cc in
      let c : p.next + 1 ≡ n.child.0 = ap (λ (z : Note). z.child.0) j in omega (arith, c)
  | inr other ↦ let l : n.child.0 < p.next = below x n (sym (noted-other p.requests (record { 0 = p.next }) x (new_note (record { 0 = p.next + 1 })) other) ∙ h) in omega (arith, l)
]
change-kids Nothing p k below = below
change-kids (Edit x g) p k below = below
change-kids (Add sort o size name) p k below = kids-same p (changed_by (Add sort o size name) p) refl (next-rises (Add sort o size name) p) below
change-kids (Place o x) p k below = below
change-kids (Handle x handler) p k below = below
change-kids (Schedule x c) p k below = below
change-kids (Unschedule x) p k below = below
change-kids (Arm x time number c) p k below = below
change-kids (Watches x n flags c) p k below = below
change-kids (Rewatch x g) p k below = below
change-kids (Close n) p k below = below
change-kids TakeNumber p k below = kids-same p (changed_by TakeNumber p) refl (next-rises TakeNumber p) below
change-kids (Runs q running) p k below = below
change-kids (AddQueue o name) p k below = kids-same p (changed_by (AddQueue o name) p) refl (next-rises (AddQueue o name) p) below
change-kids (AddEntry q x trigger) p k below = kids-same p (changed_by (AddEntry q x trigger) p) refl (next-rises (AddEntry q x trigger) p) below
change-kids (LooksAt q) p k below = below
change-kids (Enter c) p k below = entered-kids p c below

abbrev PlanKids : Plan → Type 0
PlanKids (Does c notice r) = KeepsKids c
PlanKids (Works c errand x) = KeepsKids c
PlanKids plan = Unit {0}

frees-kids : (o : Option Obj) (x : Obj) → PlanKids (frees o x)
frees-kids None x = tt
frees-kids (Some r) x = tt

handed-kids : (p : Pool) (c : Call) → PlanKids (plan p c)
handed-kids p (call.Free x) = frees-kids (newest_ref p.rows x) x
handed-kids p (call.Reparent from to x) = each (gift p from x)
  where
    each : (o : Option Obj) → KeepsKids (handed to o)
    each None = tt
    each (Some r) = tt
handed-kids p (call.Schedule x routine user c) = by_test (nat_eq routine 0) (λ b. rw b tt) (λ b. rw b (tt, tt))
handed-kids p (call.Timer o time routine user c) = (tt, (tt, tt))
handed-kids p (call.Fd o n flags routine user c) = (tt, (tt, tt))
handed-kids p (call.Callback x routine user) = λ n. refl
handed-kids p (call.Defer x c) = λ n. refl
handed-kids p (call.Cleanup x routine) = λ n. refl
handed-kids p (call.Setcancel x routine) = λ n. refl
handed-kids p (call.Error x error) = by_test (nat_eq error 0) (λ b. rw b tt) (λ b. rw b (λ n. refl))
handed-kids p (call.Endtime x time c) = (tt, tt)
handed-kids p (call.Start q) = by_test (runs_queue p.queues q) (λ b. rw b tt) (λ b. rw b (tt, tt))
handed-kids p _ = tt

planned-kids : (q : Ask) (p : Pool) (c : Call) → PlanKids (planned_at q p c)
planned-kids q p c = each (refusals_at q p c)
  where
    each : (check : Check) → PlanKids (unless_refused check (plan p c))
    each [] = handed-kids p c
    each (why ∷ more) = tt

call-kids : (q : Ask) (plan : Plan) (p : Pool) → PlanKids plan → KidsBelow p → KidsBelow (pool_after (plan_step q plan p))
call-kids q (Does c None r) p k below = change-kids c p k below
call-kids q (Does c (Some notice) r) p k below = change-kids c p k below
call-kids q (Frees x) p k below = below
call-kids q (Unlinks o x) p k below = below
call-kids q (Empties x) p k below = below
call-kids q (Asks o) p k below = below
call-kids ask.Quiet (Turns c) p k below = entered-kids p c below
call-kids _ (Turns c) p k below = below
call-kids q (Works c errand x) p k below = change-kids c p k below

-- ---- all works

pub work-next : (p : Pool) (m : Step) → LeadsWork p m → p.next ≤ (pool_after m).next
work-next p (Do.Done a q) l = let i : q.next ≡ p.next = l.0 in omega (arith, i)
work-next p (Do.Go g q) l = let i : q.next ≡ p.next = l.1 in omega (arith, i)
work-next p (Do.Emit e g q) l = let i : q.next ≡ p.next = l.2 in omega (arith, i)
work-next p (Do.Wait e g q) l = let i : q.next ≡ p.next = l.1 in omega (arith, i)
work-next p (Do.Call h g q) l = let i : q.next ≡ p.next = l.2 in omega (arith, i)

pub step-kids : (f : Frame) (p : Pool) → KidsBelow p → KidsBelow (pool_after (step f p))
step-kids (frame.Free f) p below = kids-on p (pool_after (step (frame.Free f) p)) (work-kids (frame.Free f) p tt) (work-next p (step (frame.Free f) p) (works (frame.Free f) p tt)) below
step-kids (frame.Turn f) p below = kids-on p (pool_after (step (frame.Turn f) p)) (work-kids (frame.Turn f) p tt) (work-next p (step (frame.Turn f) p) (works (frame.Turn f) p tt)) below
step-kids (frame.Request f) p below = kids-on p (pool_after (step (frame.Request f) p)) (work-kids (frame.Request f) p tt) (work-next p (step (frame.Request f) p) (works (frame.Request f) p tt)) below
step-kids (frame.Outside (Reaching q)) p below = below
step-kids (frame.Outside (Opening n)) p below = below
step-kids (frame.Outside (Hearing r)) p below = below
step-kids (frame.Call (Doing q c)) p below = call-kids q (planned_at q p c) p (planned-kids q p c) below
step-kids (frame.Call _) p below = below
