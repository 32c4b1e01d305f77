-- At every moment each kept connection's event watches its descriptor, or the session is being removed: the steps that ask nothing.
use Rattle.std.proofs.Common.{◌≡◌, ℕ, ◌<◌, ◌≤◌, true, List, [], ◌∷◌, Option, Some, None, sym, ap, subst}
use Rattle.step_machine.specs.Machine.{Move as Do}
use Rattle.tree_specs.specs.declared.object.Obj.{Obj}
use Rattle.tree_specs.specs.declared.call.Call.{Call}
use Rattle.tree_specs.specs.declared.reply.Reply.{Reply}
use Rattle.tree_specs.specs.declared.reply.Reply.TheVariants as reply
use Rattle.tree_specs.specs.declared.reply.Refusal.TheVariants as refusal
use Rattle.tree_specs.specs.declared.notice.Notice.{Notice}
use Rattle.tree_specs.specs.declared.notice.Notice.TheVariants as notice
use Rattle.tree_specs.specs.declared.moment.Moment.{Moment}
use Rattle.tree_specs.specs.declared.event.Event.{Event}
use Rattle.tree_specs.specs.declared.event.Event.TheVariants as event
use Rattle.tree_specs.specs.declared.question.Ask.{Ask}
use Rattle.tree_specs.specs.declared.question.Ask.TheVariants as ask
use Rattle.tree_specs.specs.declared.question.Input.{Input}
use Rattle.tree_specs.specs.declared.frame.Frame.{Frame}
use Rattle.tree_specs.specs.declared.frame.Frame.TheVariants as frame
use Rattle.tree_specs.specs.declared.frame.CallFrame.TheVariants.{Asking, Doing, Awaiting, Turning, Requesting, Announcing, Telling, Returning}
use Rattle.tree_specs.specs.declared.frame.OutsideFrame.TheVariants.{Opening, Hearing}
use Rattle.tree_specs.specs.declared.frame.Errand.{Errand}
use Rattle.tree_specs.specs.declared.frame.Answer.{Answer}
use Rattle.tree_specs.specs.declared.frame.Answer.TheVariants.{Heard}
use Rattle.tree_specs.specs.Rules.Answers.{freed_reply}
use Rattle.tree_specs.specs.Rules.Items.Item.{Told, Asked}
use Rattle.tree_specs.specs.Rules.Pieces.{notice_event}
use Rattle.tree_specs.specs.Tree.Pool.{Pool, row_of}
use Rattle.tree_specs.specs.Calls.Plans.{Plan, planned_at, changed_by}
use Rattle.tree_specs.specs.Calls.Plans.Plan.{Does, Frees, Unlinks, Empties, Asks, Turns, Works}
use Rattle.tree_specs.specs.Invariants.Awaiting.{Awaits, pool_after}
use Rattle.tree_specs.specs.Invariants.Sound.{ValidAt}
use Rattle.tree_specs.specs.Machine.Table.{Step, resume, taken, reply_in, heard_in, work_of, plan_step}
use Rattle.service_rules.specs.declared.task.Accepting.TheVariants as accepting
use Rattle.service_rules.specs.declared.task.Run.{Run}
use Rattle.service_rules.specs.declared.task.Run.TheVariants.{Own, Outside}
use Rattle.service_rules.specs.declared.task.Task.{Task}
use Rattle.service_rules.specs.declared.task.Task.TheVariants as task
use Rattle.service_rules.specs.Knowledge.{Connection, Knowledge, rest_of}
use Rattle.service_rules.specs.Tasks.{object}
use Rattle.service_rules.specs.Service.{told, own, heard}
use Rattle.service_rules.specs.Sent.{Ledger, answered, says, is_no_act}
use Rattle.service_rules.specs.Fair.{is_fair}
use Rattle.service_rules.proofs.Entries.{found-without, found-gone}
use Rattle.service_rules.proofs.Owing.{IsKnown, Before, IsCallOf, IsCalm, Top, Below, Rest, Does as DoesCall, Outer, Fine}
use Rattle.service_rules.proofs.Works.{IsWork, IsStart, LeadsWork, errand-starts}
use Rattle.service_rules.proofs.Leading.{LeadsFine}
use Rattle.service_rules.proofs.Seating.{Seats, LeadsSeats}
use Rattle.service_rules.proofs.Sparing.{Tends, LeadsTends, Unless}
use Rattle.service_rules.proofs.KidsBelow.{KidsBelow}
use Rattle.service_rules.proofs.Clean.{AllRuns, FreesClean, Clean, clean-later, clean-told}
use Rattle.service_rules.proofs.Claiming.{IsAccepting, RunsFor, Ready, Replied, Plainly, OfTop, OuterClaims, AskedClaims, ToldClaims, Claims}
use Rattle.service_rules.proofs.Answering.{rest-runs}
use Rattle.service_rules.proofs.ReplyClaims.{calm-settled, settled-holds, settled-replies, RepliesWell, call-well}

-- ---- what holds

abbrev pub AllTend : Knowledge → Frame → List Frame → Pool → Type 0
AllTend d f fs p = (k : ℕ) (c : Connection) → IsKnown d k c → Tends c.event (object k) c.descriptor f fs p

pub record Attended (d : Knowledge) (l : Ledger) (f : Frame) (fs : List Frame) (p : Pool) : Type 0 where
  pub fine : Fine d l f fs p.next
  pub seats : Seats (f ∷ fs)
  pub kids : KidsBelow p
  pub clean : Clean d p.next
  pub claims : Claims d p f fs
  pub tends : AllTend d f fs p

-- a question: the outside gives an answer that is no act and is taken, or the service answers itself
pub record AskedAttended (d : Knowledge) (l : Ledger) (p : Pool) (q : Ask) (g : Frame) (fs : List Frame) (r : Pool) : Type 0 where
  pub outside : own d (record { ask = q; pool = p }) ≡ None → (i : Input) (h : Frame) → taken g r i ≡ Some h → is_no_act i ≡ true → (is_fair d q i ≡ true) × Attended (heard d q i) (answered l q i) h fs r
  pub itself : (a : Input × Knowledge) → own d (record { ask = q; pool = p }) ≡ Some a → (h : Frame) → taken g r a.0 ≡ Some h → Attended a.1 (says l d (Some a)) h fs r

module _ (d : Knowledge) (l : Ledger) (p : Pool) where
  abbrev pub LeadsAttended : Step → List Frame → Type 0
  LeadsAttended (Do.Done a q) [] = Unit {0}
  LeadsAttended (Do.Done a q) (g ∷ gs) = Attended d l (resume g a) gs q
  LeadsAttended (Do.Go g q) fs = Attended d l g fs q
  LeadsAttended (Do.Emit (Told e) g q) fs = Attended (told d e) l g fs q
  LeadsAttended (Do.Emit (Asked a) g q) fs = Unit {0}
  LeadsAttended (Do.Wait (Asked q) g r) fs = AskedAttended d l p q g fs r
  LeadsAttended (Do.Wait (Told e) g r) fs = Unit {0}
  LeadsAttended (Do.Call h g q) fs = Attended d l h (g ∷ fs) q

-- what is claimed after a step that asks nothing
abbrev pub LeadsClaims : Knowledge → Step → List Frame → Type 0
LeadsClaims d (Do.Done a q) [] = Unit {0}
LeadsClaims d (Do.Done a q) (g ∷ gs) = Claims d q (resume g a) gs
LeadsClaims d (Do.Go g q) fs = Claims d q g fs
LeadsClaims d (Do.Emit (Told e) g q) fs = Claims (told d e) q g fs
LeadsClaims d (Do.Emit (Asked a) g q) fs = Unit {0}
LeadsClaims d (Do.Wait i g r) fs = Unit {0}
LeadsClaims d (Do.Call h g q) fs = Claims d q h (g ∷ fs)

abbrev pub AsksNothing : Step → Type 0
AsksNothing (Do.Wait i g r) = ⊥
AsksNothing m = Unit {0}

-- ---- put together

-- where less is known
told-tends : (d : Knowledge) (ev : Event) (g : Frame) (fs : List Frame) (q : Pool) → ((k : ℕ) (c : Connection) → IsKnown d k c → Unless c.event (object k) ev (Tends c.event (object k) c.descriptor g fs q)) → AllTend (told d ev) g fs q
told-tends d (event.Freed x hook) g fs q h k c i = h k c (found-without k x d.connections c i) (λ is. found-gone k x d.connections c (ap (λ (z : Obj). z.0) is) i)
told-tends d _ g fs q h k c i = h k c i

module _ (d : Knowledge) (l : Ledger) (p : Pool) (clean : Clean d p.next) where
  pub gather : (m : Step) (fs : List Frame) → AsksNothing m → LeadsFine d l p m fs → LeadsSeats m fs → KidsBelow (pool_after m) → p.next ≤ (pool_after m).next → LeadsClaims d m fs
      → ((k : ℕ) (c : Connection) → IsKnown d k c → LeadsTends c.event (object k) c.descriptor m fs) → LeadsAttended d l p m fs
  gather (Do.Done a q) [] asks fine seats kids rises claims tends = tt
  gather (Do.Done a q) (g ∷ gs) asks fine seats kids rises claims tends = record { fine = fine; seats = seats; kids = kids; clean = clean-later d p.next q.next rises clean; claims = claims; tends = tends }
  gather (Do.Go g q) fs asks fine seats kids rises claims tends = record { fine = fine; seats = seats; kids = kids; clean = clean-later d p.next q.next rises clean; claims = claims; tends = tends }
  gather (Do.Emit (Told ev) g q) fs asks fine seats kids rises claims tends =
      record { fine = fine; seats = seats; kids = kids; clean = clean-told d q.next ev (clean-later d p.next q.next rises clean); claims = claims; tends = told-tends d ev g fs q tends }
  gather (Do.Emit (Asked a) g q) fs asks fine seats kids rises claims tends = tt
  gather (Do.Wait i g r) fs asks fine seats kids rises claims tends = absurd asks
  gather (Do.Call h g q) fs asks fine seats kids rises claims tends = record { fine = fine; seats = seats; kids = kids; clean = clean-later d p.next q.next rises clean; claims = claims; tends = tends }

-- ---- works that are no caller's

pub work-claims : (d : Knowledge) (p : Pool) (g : Frame) (fs : List Frame) → IsWork g → Claims d p g fs
work-claims d p (frame.Call f) fs i = absurd i
work-claims d p (frame.Outside f) fs i = absurd i
work-claims d p (frame.Free f) fs i = tt
work-claims d p (frame.Turn f) fs i = tt
work-claims d p (frame.Request f) fs i = tt

start-claims : (d : Knowledge) (p : Pool) (h : Frame) (fs : List Frame) → IsStart h → Claims d p h fs
start-claims d p (frame.Free f) fs i = tt
start-claims d p (frame.Turn f) fs i = tt
start-claims d p (frame.Request f) fs i = tt
start-claims d p (frame.Outside f) fs i = absurd i
start-claims d p (frame.Call (Asking (ask.Routine m))) fs i = subst (λ (o : Option Reply). AskedClaims d p m o) (sym i.0) tt
start-claims d p (frame.Call _) fs i = absurd i

calm-accepts : (t : Task) → IsCalm t → IsAccepting t → ⊥
calm-accepts (task.Accept accepting.Accept) c a = c
calm-accepts (task.Accept (accepting.Session fd)) c a = c
calm-accepts (task.Accept (accepting.Event fd s)) c a = c
calm-accepts (task.Accept (accepting.Autoclose fd s e)) c a = c
calm-accepts (task.Accept (accepting.Queue fd s e)) c a = c
calm-accepts _ c a = a

module _ (d : Knowledge) (l : Ledger) (next : ℕ) (q : Pool) where
  calm-top : (m : Moment) (r : Reply) (more : List Run → Type 0) (runs : List Run) → Top IsCalm more runs → OfTop (Replied d q (rest_of d.runs) m r) runs
  calm-top m r more (Own t ∷ runs) top =
      ((λ a. absurd (calm-accepts t top.0 a)), settled-holds d (rest_of d.runs) q t r (calm-settled t top.0), λ x f. absurd (settled-replies t r x (calm-settled t top.0) f))
  calm-top m r more [] top = tt
  calm-top m r more (Outside ∷ runs) top = tt

  -- a caller that waited below goes on
  ends-claims : (g : Frame) (gs : List Frame) (a : Answer) → Rest d l next (g ∷ gs) → Claims d q (resume g a) gs
  ends-claims (frame.Free f) gs a r = tt
  ends-claims (frame.Turn f) gs a r = tt
  ends-claims (frame.Request f) gs a r = tt
  ends-claims (frame.Outside f) gs a r = absurd r.1
  ends-claims (frame.Call (Awaiting ask.Quiet x)) gs a r = tt
  ends-claims (frame.Call (Awaiting (ask.Routine m) x)) gs a r = calm-top m (freed_reply x (reply_in a)) (Below gs) d.runs r.1.1
  ends-claims (frame.Call (Awaiting _ x)) gs a r = absurd r.1
  ends-claims (frame.Call (Requesting ask.Quiet)) gs a r = tt
  ends-claims (frame.Call (Requesting (ask.Routine m))) gs a r = calm-top m (heard_in a) (Below gs) d.runs r.1.1
  ends-claims (frame.Call (Requesting _)) gs a r = absurd r.1
  ends-claims (frame.Call (Turning ask.Quiet)) gs a r = tt
  ends-claims (frame.Call (Turning _)) gs a r = absurd r.1
  ends-claims (frame.Call (Asking x)) gs a r = absurd r.1
  ends-claims (frame.Call (Doing x c)) gs a r = absurd r.1
  ends-claims (frame.Call (Announcing x n b)) gs a r = absurd r.1
  ends-claims (frame.Call (Telling x b)) gs a r = absurd r.1
  ends-claims (frame.Call (Returning v)) gs a r = absurd r.1

pub done-claims : (d : Knowledge) (l : Ledger) (next : ℕ) (a : Answer) (q : Pool) (fs : List Frame) → Rest d l next fs → LeadsClaims d (Do.Done a q) fs
done-claims d l next a q [] r = tt
done-claims d l next a q (g ∷ gs) r = ends-claims d l next q g gs a r

pub works-claims : (d : Knowledge) (l : Ledger) (p : Pool) (m : Step) (fs : List Frame) → LeadsWork p m → Rest d l p.next fs → LeadsClaims d m fs
works-claims d l p (Do.Done a q) fs leads r = done-claims d l p.next a q fs r
works-claims d l p (Do.Go g q) fs leads r = work-claims d q g fs leads.0
works-claims d l p (Do.Emit (Told ev) g q) fs leads r = work-claims (told d ev) q g fs leads.1
works-claims d l p (Do.Emit (Asked a) g q) fs leads r = tt
works-claims d l p (Do.Wait i g q) fs leads r = tt
works-claims d l p (Do.Call h g q) fs leads r = start-claims d q h (g ∷ fs) leads.0

-- ---- calls

errand-claims : (d : Knowledge) (p : Pool) (errand : Errand) (x : Obj) (fs : List Frame) → Claims d p (work_of errand x) fs
errand-claims d p errand x fs = start-claims d p (work_of errand x) fs (errand-starts errand x)

-- the host's own caller claims nothing
pub rest-claims : (d : Knowledge) (p : Pool) (plan : Plan) (fs : List Frame) → LeadsClaims d (plan_step ask.Quiet plan p) fs
rest-claims d p (Does change None r) fs = tt
rest-claims d p (Does change (Some n) r) fs = tt
rest-claims d p (Frees x) fs = tt
rest-claims d p (Unlinks o x) fs = tt
rest-claims d p (Empties x) fs = tt
rest-claims d p (Asks q) fs = tt
rest-claims d p (Turns c) fs = tt
rest-claims d p (Works change errand x) fs = errand-claims d (changed_by change p) errand x (frame.Call (Requesting ask.Quiet) ∷ fs)

top-each : (P Q : Task → Type 0) → ((t : Task) → P t → Q t) → (runs : List Run) → OfTop P runs → OfTop Q runs
top-each P Q h (Own t ∷ runs) w = h t w
top-each P Q h [] w = tt
top-each P Q h (Outside ∷ runs) w = tt

module _ (d : Knowledge) (p : Pool) (started : 0 < p.next) (awaits : Awaits p) (valid : (x : Obj) → ValidAt p.next (row_of p.rows x) x) (kids : KidsBelow p) (clean : Clean d p.next) where
  abbrev Well : Task → Plan → Type 0
  Well t plan = RepliesWell d p started awaits valid kids clean (rest-runs (FreesClean d p.next) d.runs clean.runs) t plan

  -- a run with the plan of its call
  run-claims : (m : Moment) (plan : Plan) (fs : List Frame) → OfTop (λ t. RunsFor m t × Well t plan) d.runs → LeadsClaims d (plan_step (ask.Routine m) plan p) fs
  run-claims m (Does change None r) fs w = top-each (λ t. RunsFor m t × Well t (Does change None r)) (Replied d (changed_by change p) (rest_of d.runs) m r) (λ t v. (v.0, v.1.0, v.1.1)) d.runs w
  run-claims m (Does change (Some n) r) fs w = top-each (λ t. RunsFor m t × Well t (Does change (Some n) r)) (Replied d (changed_by change p) (rest_of d.runs) m r) (λ t v. (v.0, v.1.0, v.1.1)) d.runs w
  run-claims m (Frees x) fs w = tt
  run-claims m (Unlinks o x) fs w = tt
  run-claims m (Empties x) fs w = tt
  run-claims m (Asks q) fs w = top-each (λ t. RunsFor m t × Well t (Asks q)) (RunsFor m) (λ t v. v.0) d.runs w
  run-claims m (Turns c) fs w = top-each (λ t. RunsFor m t × Well t (Turns c)) (Replied d p (rest_of d.runs) m (reply.No refusal.Nested)) (λ t v. (v.0, v.1.0, v.1.1)) d.runs w
  run-claims m (Works change errand x) fs w = errand-claims d (changed_by change p) errand x (frame.Call (Requesting (ask.Routine m)) ∷ fs)

  pub does-claims : (l : Ledger) (m : Moment) (c : Call) (fs : List Frame) → DoesCall d l p.next (ask.Routine m) c fs → OfTop (Ready d p (rest_of d.runs) m) d.runs → LeadsClaims d (plan_step (ask.Routine m) (planned_at (ask.Routine m) p c) p) fs
  does-claims l m c fs does claims = run-claims m (planned_at (ask.Routine m) p c) fs (each d.runs clean.runs does.2 claims)
    where
      each : (runs : List Run) → AllRuns (FreesClean d p.next) runs → Top (λ t. Before d l p.next t × IsCallOf d c t) (Below fs) runs → OfTop (Ready d p (rest_of d.runs) m) runs → OfTop (λ t. RunsFor m t × Well t (planned_at (ask.Routine m) p c)) runs
      each (Own t ∷ runs) frees top w = (w.0, call-well d p started awaits valid kids clean (rest-runs (FreesClean d p.next) d.runs clean.runs) (ask.Routine m) t c w.1 frees.0 top.0.1)
      each [] frees top w = tt
      each (Outside ∷ runs) frees top w = tt

-- ---- a reply is on its way

-- what is told of a call is no end of an object
pub announced-claims : (d : Knowledge) (p : Pool) (q : Ask) (n : Notice) (r : Reply) (fs : List Frame) → ToldClaims d p q r → Claims (told d (notice_event n)) p (frame.Call (Telling q r)) fs
announced-claims d p q (notice.Warned x) r fs w = w
announced-claims d p q (notice.Closed fd) r fs w = w

plainly-replied : (d : Knowledge) (q : Pool) (m : Moment) (r : Reply) → OfTop (Plainly d (rest_of d.runs) m r) d.runs → OfTop (Replied d q (rest_of d.runs) m r) d.runs
plainly-replied d q m r w = top-each (Plainly d (rest_of d.runs) m r) (Replied d q (rest_of d.runs) m r) (λ t v. (v.0, v.1 q, λ x f. absurd (v.2 x f))) d.runs w

pub opened-claims : (d : Knowledge) (l : Ledger) (next fd : ℕ) (q : Pool) (fs : List Frame) → Outer d l next (Opening fd) fs → OuterClaims d (Opening fd) fs → LeadsClaims d (Do.Done (Heard (reply.Number fd)) q) fs
opened-claims d l next fd q (frame.Call (Turning (ask.Routine m)) ∷ fs) w c = plainly-replied d q m (reply.Number fd) c
opened-claims d l next fd q _ w c = absurd w

pub heard-claims : (d : Knowledge) (l : Ledger) (next : ℕ) (r : Reply) (q : Pool) (fs : List Frame) → Outer d l next (Hearing r) fs → OuterClaims d (Hearing r) fs → LeadsClaims d (Do.Done (Heard r) q) fs
heard-claims d l next r q (frame.Call (Turning (ask.Routine m)) ∷ fs) w c = plainly-replied d q m r c
heard-claims d l next r q _ w c = absurd w
