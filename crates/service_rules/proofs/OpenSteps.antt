-- With each step of a host what is open in it is known outside.
use Rattle.std.proofs.Common.{ℕ, nat_eq, Bool, List, [], ◌∷◌, Option, Some, None, sym, subst}
use Rattle.step_machine.specs.Machine.{Move as Do}
use Rattle.tree_specs.specs.declared.object.Obj.{Obj}
use Rattle.tree_specs.specs.declared.object.Owner.{Owner}
use Rattle.tree_specs.specs.declared.call.Call.{Call}
use Rattle.tree_specs.specs.declared.call.Call.TheVariants as call
use Rattle.tree_specs.specs.declared.notice.Notice.{Notice}
use Rattle.tree_specs.specs.declared.notice.Notice.TheVariants as notice
use Rattle.tree_specs.specs.declared.reply.Reply.{Reply}
use Rattle.tree_specs.specs.declared.question.Ask.{Ask}
use Rattle.tree_specs.specs.declared.question.Ask.TheVariants as ask
use Rattle.tree_specs.specs.declared.question.Input.{Input}
use Rattle.tree_specs.specs.declared.frame.Frame.{Frame}
use Rattle.tree_specs.specs.declared.frame.Frame.TheVariants as frame
use Rattle.tree_specs.specs.declared.frame.CallFrame.TheVariants.{Asking, Doing, Awaiting, Turning, Requesting, Announcing, Telling, Returning}
use Rattle.tree_specs.specs.declared.frame.TurnFrame.TheVariants.{Timing, Polling}
use Rattle.tree_specs.specs.declared.frame.OutsideFrame.TheVariants.{Reaching, Opening, Hearing}
use Rattle.tree_specs.specs.declared.frame.Answer.{Answer}
use Rattle.tree_specs.specs.Words.Objects.{same, first_context}
use Rattle.tree_specs.specs.Tree.Pool.{Pool, open_descriptor}
use Rattle.tree_specs.specs.Tree.Targets.{newest_ref}
use Rattle.tree_specs.specs.Rules.Items.Item.{Told, Asked}
use Rattle.tree_specs.specs.Rules.Pieces.{notice_event}
use Rattle.tree_specs.specs.Calls.Plans.{Change, Plan, changed_by, plan, planned_at, frees, places, warns}
use Rattle.tree_specs.specs.Calls.Plans.Change.{Close, Enter, Then}
use Rattle.tree_specs.specs.Calls.Plans.Plan.{Does, Frees, Unlinks, Empties, Asks, Turns, Works}
use Rattle.tree_specs.specs.Events.Queues.{runs}
use Rattle.tree_specs.specs.Machine.Table.{Step, step, resume, work_of, plan_step}
use Rattle.tree_specs.specs.Invariants.Sound.{AllWait}
use Rattle.tree_specs.specs.Invariants.Consistent.{IsConsistent}
use Rattle.tree_specs.proofs.Tree.Numbered.{by_test}
use Rattle.tree_specs.proofs.Calls.Checks.{planned-by, planned-at-by}
use Rattle.tree_specs.proofs.Invariants.Waiters.{waiter}
use Rattle.tree_stories.proofs.Outsides.{AsksOutside}
use Rattle.service_rules.specs.Exchanges.{Suits}
use Rattle.service_rules.proofs.Works.{LeadsWork, resumed-carries, work-carries, start-carries, errand-starts, works}
use Rattle.service_rules.proofs.OpenDescriptors.{AllKnown, known_after, IsClosed, Expects, Follows, carries-expects, opened-known, closed-known, closed-same, told-known, event-known}
use Rattle.service_rules.proofs.SuitingTaken.{IsNew, Taken, asking-takes, timing-takes, polling-takes, reaching-takes}

-- what a move leads to; an answer that suits is taken
abbrev pub LeadsFollowing : (ℕ → Bool) → Step → List Frame → Type 0
LeadsFollowing known (Do.Done a q) [] = Unit {0}
LeadsFollowing known (Do.Done a q) (g ∷ gs) = Follows known (resume g a) q
LeadsFollowing known (Do.Go f q) fs = Follows known f q
LeadsFollowing known (Do.Emit (Told e) f q) fs = Follows (known_after known e) f q
LeadsFollowing known (Do.Emit (Asked x) f q) fs = Unit {0}
LeadsFollowing known (Do.Wait (Told e) f q) fs = Unit {0}
LeadsFollowing known (Do.Wait (Asked x) f q) fs = AllKnown known q.descriptors × ((i : Input) → Suits x i → IsNew known i → Taken known f q i)
LeadsFollowing known (Do.Call g f q) fs = Follows known g q

-- ---- what is changed by a call

changed-known : (known : ℕ → Bool) (c : Change) (p : Pool) → AllKnown known p.descriptors → AllKnown known (changed_by c p).descriptors
changed-known known (Close fd) p all = closed-known known p.descriptors all fd
changed-known known (Then c d) p all = changed-known known d (changed_by c p) (changed-known known c p all)
changed-known known (Enter c) p all = by_test (same c first_context) (λ t. rw t all) (λ t. rw t all)
changed-known known _ p all = all

-- what is announced to be closed is closed by then
abbrev ClosesFirst : Pool → Plan → Type 0
ClosesFirst p (Does c (Some n) r) = IsClosed (changed_by c p) n
ClosesFirst p plan = Unit {0}

closes-first : (q : Ask) (p : Pool) (c : Call) → ClosesFirst p (planned_at q p c)
closes-first q p c = planned-at-by (ClosesFirst p) q p c (planned-by (ClosesFirst p) p c (λ passed. each c) (λ r. tt)) (λ nested. tt)
  where
    freed : (x : Obj) (o : Option Obj) → ClosesFirst p (frees o x)
    freed x None = tt
    freed x (Some r) = tt

    placed : (o : Owner) (x : Obj) (r : Reply) → ClosesFirst p (places p o x r)
    placed o x r = by_test (warns p o x) (λ t. rw t tt) (λ t. rw t tt)

    each : (c : Call) → ClosesFirst p (plan p c)
    each (call.Close fd) = closed-same p.descriptors fd
    each (call.Free x) = freed x (newest_ref p.rows x)
    each (call.Steal o x) = placed o x _
    each (call.Move o x) = placed o x _
    each (call.Error x error) = by_test (nat_eq error 0) (λ t. rw t tt) (λ t. rw t tt)
    each (call.Start q) = by_test (runs p.queues q) (λ t. rw t tt) (λ t. rw t tt)
    each _ = tt

module _ (known : ℕ → Bool) (fs : List Frame) (p : Pool) (all : AllKnown known p.descriptors) where
  -- ---- works that are no caller's

  -- what waits expects nothing
  done-follows : (a : Answer) (q : Pool) → AllKnown known q.descriptors → AllWait fs → LeadsFollowing known (Do.Done a q) fs
  done-follows a q still w = each fs w
    where
      each : (gs : List Frame) → AllWait gs → LeadsFollowing known (Do.Done a q) gs
      each [] w = tt
      each (g ∷ gs) w = record { all = still; expects = carries-expects known q (resume g a) (resumed-carries a g (waiter g gs w.0)) }

  works-follow : (m : Step) → LeadsWork p m → AllWait fs → LeadsFollowing known m fs
  works-follow (Do.Done a q) leads w = done-follows a q (subst (AllKnown known) (sym leads.1) all) w
  works-follow (Do.Go g q) leads w = record { all = subst (AllKnown known) (sym leads.2) all; expects = carries-expects known q g (work-carries g leads.0) }
  works-follow (Do.Emit (Told e) g q) leads w = record { all = subst (AllKnown (known_after known e)) (sym leads.3) (event-known known p.descriptors e all); expects = carries-expects (known_after known e) q g (work-carries g leads.1) }
  works-follow (Do.Emit (Asked x) g q) leads w = tt
  works-follow (Do.Wait (Told e) g q) leads w = tt
  works-follow (Do.Wait (Asked ask.Clock) (frame.Turn (Timing again)) q) leads w = (subst (AllKnown known) (sym leads.3) all, λ i s new. timing-takes known q again i s)
  works-follow (Do.Wait (Asked (ask.Wait limit)) (frame.Turn (Polling most)) q) leads w = (subst (AllKnown known) (sym leads.3) all, λ i s new. polling-takes known q limit most leads.2 i s)
  works-follow (Do.Wait (Asked _) _ q) leads w = absurd leads.0
  works-follow (Do.Call h g q) leads w = record { all = subst (AllKnown known) (sym leads.3) all; expects = carries-expects known q h (start-carries h leads.0) }

  -- ---- calls

  plan-follows : (q : Ask) (plan : Plan) → ClosesFirst p plan → LeadsFollowing known (plan_step q plan p) fs
  plan-follows q (Does change None r) first = record { all = changed-known known change p all; expects = tt }
  plan-follows q (Does change (Some n) r) first = record { all = changed-known known change p all; expects = first }
  plan-follows q (Frees x) first = record { all = all; expects = tt }
  plan-follows q (Unlinks o x) first = record { all = all; expects = tt }
  plan-follows q (Empties x) first = record { all = all; expects = tt }
  plan-follows q (Asks outside) first = record { all = all; expects = tt }
  plan-follows ask.Quiet (Turns c) first = record { all = changed-known known (Enter c) p all; expects = tt }
  plan-follows _ (Turns c) first = record { all = all; expects = tt }
  plan-follows q (Works change errand x) first = record { all = changed-known known change p all; expects = carries-expects known (changed_by change p) (work_of errand x) (start-carries (work_of errand x) (errand-starts errand x)) }

  announced-follows : (q : Ask) (n : Notice) (r : Reply) → IsClosed p n → Follows (known_after known (notice_event n)) (frame.Call (Telling q r)) p
  announced-follows q (notice.Warned x) r closed = record { all = all; expects = tt }
  announced-follows q (notice.Closed fd) r closed = record { all = told-known known p.descriptors all fd closed; expects = tt }

  -- ---- all works

  follows-by : (f : Frame) → IsConsistent (record { innermost = f; below = fs; pool = p }) → AsksOutside f → Expects known p f → LeadsFollowing known (step f p) fs
  follows-by (frame.Free f) h a e = works-follow (step (frame.Free f) p) (works (frame.Free f) p tt) h.sound.waiting
  follows-by (frame.Turn f) h a e = works-follow (step (frame.Turn f) p) (works (frame.Turn f) p tt) h.sound.waiting
  follows-by (frame.Request f) h a e = works-follow (step (frame.Request f) p) (works (frame.Request f) p tt) h.sound.waiting
  follows-by (frame.Outside (Reaching q)) h a e = (all, reaching-takes known p all q a)
  follows-by (frame.Outside (Opening fd)) h a e = done-follows _ (open_descriptor p fd) (opened-known known p.descriptors all fd e) h.sound.waiting
  follows-by (frame.Outside (Hearing r)) h a e = done-follows _ p all h.sound.waiting
  follows-by (frame.Call (Asking q)) h a e = (all, λ i s new. asking-takes known p q fs h.seated i s)
  follows-by (frame.Call (Doing q c)) h a e = plan-follows q (planned_at q p c) (closes-first q p c)
  follows-by (frame.Call (Announcing q n r)) h a e = announced-follows q n r e
  follows-by (frame.Call (Telling q r)) h a e = record { all = all; expects = tt }
  follows-by (frame.Call (Awaiting q x)) h a e = done-follows _ p all h.sound.waiting
  follows-by (frame.Call (Turning q)) h a e = done-follows _ p all h.sound.waiting
  follows-by (frame.Call (Requesting q)) h a e = done-follows _ p all h.sound.waiting
  follows-by (frame.Call (Returning v)) h a e = done-follows _ p all h.sound.waiting

pub step-follows : (known : ℕ → Bool) (f : Frame) (fs : List Frame) (p : Pool) → IsConsistent (record { innermost = f; below = fs; pool = p }) → AsksOutside f → Follows known f p → LeadsFollowing known (step f p) fs
step-follows known f fs p h a k = follows-by known fs p k.all f h a k.expects
