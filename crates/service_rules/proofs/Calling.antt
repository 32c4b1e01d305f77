-- What goes out still does while a call of a caller's is done.
use Rattle.std.proofs.Common.{ℕ, ◌+◌, ◌≤◌, List, [], ◌∷◌, Option, Some, None, refl, sym, subst, arith}
use Rattle.std.specs.Prelude.{nat_eq}
use Rattle.tree_specs.specs.declared.object.Obj.{Obj}
use Rattle.tree_specs.specs.declared.call.Call.{Call}
use Rattle.tree_specs.specs.declared.call.Call.TheVariants as call
use Rattle.tree_specs.specs.declared.reply.Reply.{Reply}
use Rattle.tree_specs.specs.declared.reply.Reply.TheVariants as reply
use Rattle.tree_specs.specs.declared.reply.Refusal.{Refusal}
use Rattle.tree_specs.specs.declared.reply.Refusal.TheVariants as refusal
use Rattle.tree_specs.specs.declared.moment.Moment.{Moment}
use Rattle.tree_specs.specs.declared.question.Ask.{Ask}
use Rattle.tree_specs.specs.declared.question.Ask.TheVariants as ask
use Rattle.tree_specs.specs.declared.frame.Frame.{Frame}
use Rattle.tree_specs.specs.declared.frame.Frame.TheVariants as frame
use Rattle.tree_specs.specs.declared.frame.CallFrame.TheVariants.{Doing, Requesting}
use Rattle.tree_specs.specs.declared.frame.Errand.{Errand}
use Rattle.tree_specs.specs.declared.frame.Errand.TheVariants.{Finish, Notify, Receive, Cancel}
use Rattle.tree_specs.specs.Tree.Pool.{Pool}
use Rattle.tree_specs.specs.Words.Objects.{same, first_context}
use Rattle.tree_specs.specs.Tree.Targets.{newest_ref}
use Rattle.tree_specs.specs.Events.Queues.{runs as runs_queue}
use Rattle.tree_specs.specs.Calls.Refusals.{Check, refusals_at}
use Rattle.tree_specs.specs.Calls.Plans.{Change, Plan, plan, planned_at, unless_refused, changed_by, frees}
use Rattle.tree_specs.specs.Calls.Plans.Change.{Then, Enter}
use Rattle.tree_specs.specs.Calls.Plans.Plan.{Does as DoesPlan, Frees, Unlinks, Empties, Asks, Turns, Works}
use Rattle.tree_specs.specs.Machine.Table.{plan_step, work_of, step}
use Rattle.tree_specs.proofs.Tree.Numbered.{by_test}
use Rattle.service_rules.specs.declared.task.Accepting.{Accepting}
use Rattle.service_rules.specs.declared.task.Accepting.TheVariants as accepting
use Rattle.service_rules.specs.declared.task.Fulfilling.TheVariants as fulfilling
use Rattle.service_rules.specs.declared.task.Run.{Run}
use Rattle.service_rules.specs.declared.task.Run.TheVariants.{Own, Outside}
use Rattle.service_rules.specs.declared.task.Serving.TheVariants as serving
use Rattle.service_rules.specs.declared.task.Task.{Task}
use Rattle.service_rules.specs.declared.task.Task.TheVariants as task
use Rattle.service_rules.specs.Knowledge.{Knowledge}
use Rattle.service_rules.specs.Tasks.{accepting_call}
use Rattle.service_rules.specs.Sent.{Ledger}
use Rattle.service_rules.proofs.Owing.{Goes, whole, Keeps, Before, After, IsCallOf, IsAskOf, IsNoWrite, IsNoWriting, IsReq, IsCalm, IsOwn, Top, Below, Rest, IsResting, Does, Stands}
use Rattle.service_rules.proofs.Leading.{LeadsFine}
use Rattle.service_rules.proofs.Standing.{keeps-later, session-later, calm-after}

-- a change takes numbers upwards
pub next-rises : (c : Change) (p : Pool) → p.next ≤ (changed_by c p).next
next-rises (Then first second) p = let a = next-rises first p in let b = next-rises second (changed_by first p) in omega (arith, a, b)
next-rises (Enter c) p = by_test (same c first_context) (λ t. rw t (omega arith)) (λ t. rw t (omega arith))
next-rises _ p = omega arith

-- no plan for a call that isn't a write asks for one
abbrev AsksNoWriting : Plan → Type 0
AsksNoWriting (Asks q) = IsNoWriting q
AsksNoWriting plan = Unit {0}

frees-no-writing : (o : Option Obj) (x : Obj) → AsksNoWriting (frees o x)
frees-no-writing None x = tt
frees-no-writing (Some r) x = tt

plan-no-writing : (p : Pool) (c : Call) → IsNoWrite c → AsksNoWriting (plan p c)
plan-no-writing p (call.Free x) h = frees-no-writing (newest_ref p.rows x) x
plan-no-writing p (call.Error x error) h = by_test (nat_eq error 0) (λ t. rw t tt) (λ t. rw t tt)
plan-no-writing p (call.Start q) h = by_test (runs_queue p.queues q) (λ t. rw t tt) (λ t. rw t tt)
plan-no-writing p (call.Write fd bytes) h = absurd h
plan-no-writing p (call.Accept fd) h = absurd h
plan-no-writing p _ h = tt

module _ (d : Knowledge) (l : Ledger) (fs : List Frame) (p : Pool) where
  -- ---- the service's own tasks

  -- what a plan leads to is what its task knows of
  abbrev Fits : Task → Plan → Type 0
  Fits t (DoesPlan change notice r) = After d l (changed_by change p).next r t
  Fits t (Asks q) = IsAskOf d q t
  Fits t (Turns context) = After d l p.next (reply.No refusal.Nested) t
  Fits t plan = IsCalm t

  refused-after : (why : Refusal) (t : Task) → Before d l p.next t → Goes d l whole → After d l p.next (reply.No why) t
  refused-after why (task.Accept accepting.Accept) b g = (tt, g)
  refused-after why (task.Accept (accepting.Session fd)) b g = (tt, g)
  refused-after why (task.Accept (accepting.Event fd s)) b g = (tt, g)
  refused-after why (task.Accept (accepting.Autoclose fd s x)) b g = (b, g)
  refused-after why (task.Accept (accepting.Queue fd s x)) b g = (tt, g)
  refused-after why (task.Accept (accepting.Abandon fd s)) b g = (tt, g)
  refused-after why (task.Accept (accepting.Close fd)) b g = (tt, g)
  refused-after why (task.Accept (accepting.Free s)) b g = (tt, g)
  refused-after why (task.Serve s serving.Write) b g = (tt, g)
  refused-after why (task.Serve s serving.Read) b g = (tt, g)
  refused-after why (task.Serve s serving.Lines) b g = (tt, g)
  refused-after why (task.Serve s (serving.Order tag at)) b g = (tt, g)
  refused-after why (task.Serve s serving.Flags) b g = (tt, g)
  refused-after why (task.Serve s serving.Leave) b g = (tt, g)
  refused-after why (task.Notify n at) b g = (tt, g)
  refused-after why (task.Trigger s at) b g = (tt, g)
  refused-after why task.Return b g = (tt, g)

  calm-fits : (t : Task) (plan : Plan) → IsCalm t → Goes d l whole → ((q : Ask) → IsNoWriting q → IsAskOf d q t) → AsksNoWriting plan → Fits t plan
  calm-fits t (DoesPlan change notice r) c g asks n = calm-after d l (changed_by change p).next r t c g
  calm-fits t (Frees x) c g asks n = c
  calm-fits t (Unlinks o x) c g asks n = c
  calm-fits t (Empties x) c g asks n = c
  calm-fits t (Asks q) c g asks n = asks q n
  calm-fits t (Turns context) c g asks n = calm-after d l p.next (reply.No refusal.Nested) t c g
  calm-fits t (Works change errand x) c g asks n = c

  frees-fits : (t : Task) (o : Option Obj) (x : Obj) → IsCalm t → Fits t (frees o x)
  frees-fits t None x c = c
  frees-fits t (Some r) x c = c

  accepting-fits : (at : Accepting) → Keeps d l p.next → Before d l p.next (task.Accept at) → Goes d l whole → Fits (task.Accept at) (plan p (accepting_call at))
  accepting-fits accepting.Accept k b g = (refl, refl)
  accepting-fits (accepting.Session fd) k b g = let h : p.next ≤ p.next = omega arith in ((b, (omega arith, k.young p.next h, k.unsaid p.next h)), g)
  accepting-fits (accepting.Event fd s) k b g = ((b.0, session-later d l p.next (p.next + 1) s.0 (omega arith) b.1), g)
  accepting-fits (accepting.Autoclose fd s x) k b g = (b, g)
  accepting-fits (accepting.Queue fd s x) k b g = ((b.0, session-later d l p.next (p.next + 1) s.0 (omega arith) b.1), g)
  accepting-fits (accepting.Abandon fd s) k b g = frees-fits (task.Accept (accepting.Abandon fd s)) (newest_ref p.rows s) s tt
  accepting-fits (accepting.Close fd) k b g = (tt, g)
  accepting-fits (accepting.Free s) k b g = frees-fits (task.Accept (accepting.Free s)) (newest_ref p.rows s) s tt

  req-fits : (t : Task) (c : Call) → IsReq c → ((r : Reply) (next : ℕ) → After d l next r t) → Fits t (plan p c)
  req-fits t (call.Req owner size name) is after = after (reply.Number p.next) (p.next + 1 + 1)
  req-fits t _ is after = absurd is

  plan-fits : (t : Task) (c : Call) → Keeps d l p.next → Before d l p.next t → Goes d l whole → IsCallOf d c t → Fits t (plan p c)
  plan-fits (task.Accept at) c k b g is = subst (λ (z : Call). Fits (task.Accept at) (plan p z)) (sym is) (accepting-fits at k b g)
  plan-fits (task.Serve s serving.Write) c k b g is = subst (λ (z : Call). Fits (task.Serve s serving.Write) (plan p z)) (sym is.2) (is.0, is.1, refl)
  plan-fits (task.Serve s serving.Read) c k b g is = calm-fits (task.Serve s serving.Read) (plan p c) tt g (λ q n. n) (plan-no-writing p c is)
  plan-fits (task.Serve s serving.Lines) c k b g is = calm-fits (task.Serve s serving.Lines) (plan p c) tt g (λ q n. n) (plan-no-writing p c is)
  plan-fits (task.Serve s (serving.Order tag (fulfilling.Sleep delay))) c k b g is = req-fits (task.Serve s (serving.Order tag (fulfilling.Sleep delay))) c is (λ r next. (tt, g))
  plan-fits (task.Serve s (serving.Order tag (fulfilling.Job delay))) c k b g is = req-fits (task.Serve s (serving.Order tag (fulfilling.Job delay))) c is (λ r next. (tt, g))
  plan-fits (task.Serve s (serving.Order tag at)) c k b g is = calm-fits (task.Serve s (serving.Order tag at)) (plan p c) tt g (λ q n. n) (plan-no-writing p c is)
  plan-fits (task.Serve s serving.Flags) c k b g is = calm-fits (task.Serve s serving.Flags) (plan p c) tt g (λ q n. n) (plan-no-writing p c is)
  plan-fits (task.Serve s serving.Leave) c k b g is = calm-fits (task.Serve s serving.Leave) (plan p c) tt g (λ q n. n) (plan-no-writing p c is)
  plan-fits (task.Notify x at) c k b g is = calm-fits (task.Notify x at) (plan p c) tt g (λ q n. n) (plan-no-writing p c is)
  plan-fits (task.Trigger s at) c k b g is = calm-fits (task.Trigger s at) (plan p c) tt g (λ q n. n) (plan-no-writing p c is)
  plan-fits task.Return c k b g is = calm-fits task.Return (plan p c) tt g (λ q n. n) (plan-no-writing p c is)

  planned-fits : (q : Ask) (t : Task) (c : Call) → Keeps d l p.next → Before d l p.next t → Goes d l whole → IsCallOf d c t → Fits t (planned_at q p c)
  planned-fits q t c k b g is = each (refusals_at q p c)
    where
      each : (check : Check) → Fits t (unless_refused check (plan p c))
      each [] = plan-fits t c k b g is
      each (why ∷ more) = refused-after why t b g

  errand-stands : (errand : Errand) (x : Obj) (next : ℕ) (gs : List Frame) → Rest d l next gs → Stands d l next (work_of errand x) gs
  errand-stands (Finish s) x next gs r = r
  errand-stands Notify x next gs r = r
  errand-stands Receive x next gs r = r
  errand-stands Cancel x next gs r = r

  -- the run of a task with the plan of its call
  run-leads : (m : Moment) (plan : Plan) → IsOwn m → Keeps d l p.next → Goes d l whole → Top (λ t. Fits t plan) (Below fs) d.runs → LeadsFine d l p (plan_step (ask.Routine m) plan p) fs
  run-leads m (DoesPlan change None r) own k g top = record { keeps = keeps-later d l p.next (changed_by change p).next (next-rises change p) k; stands = (refl, (own, top)) }
  run-leads m (DoesPlan change (Some notice) r) own k g top = record { keeps = keeps-later d l p.next (changed_by change p).next (next-rises change p) k; stands = (refl, (own, top)) }
  run-leads m (Frees x) own k g top = record { keeps = k; stands = (g, (own, top)) }
  run-leads m (Unlinks o x) own k g top = record { keeps = k; stands = (g, (own, top)) }
  run-leads m (Empties x) own k g top = record { keeps = k; stands = (g, (own, top)) }
  run-leads m (Asks q) own k g top = record { keeps = k; stands = (own, g, top) }
  run-leads m (Turns context) own k g top = record { keeps = k; stands = (refl, (own, top)) }
  run-leads m (Works change errand x) own k g top = record {
    keeps = keeps-later d l p.next (changed_by change p).next (next-rises change p) k;
    stands = errand-stands errand x (changed_by change p).next (frame.Call (Requesting (ask.Routine m)) ∷ fs) (g, (own, top));
  }

  pub run-does : (m : Moment) (c : Call) → Keeps d l p.next → Does d l p.next (ask.Routine m) c fs → LeadsFine d l p (step (frame.Call (Doing (ask.Routine m) c)) p) fs
  run-does m c k w = run-leads m (planned_at (ask.Routine m) p c) w.0 k w.1 (each d.runs w.2)
    where
      each : (runs : List Run) → Top (λ t. Before d l p.next t × IsCallOf d c t) (Below fs) runs → Top (λ t. Fits t (planned_at (ask.Routine m) p c)) (Below fs) runs
      each (Own t ∷ runs) top = (planned-fits (ask.Routine m) t c k top.0.0 w.1 top.0.1, top.1)
      each [] top = absurd top
      each (Outside ∷ runs) top = absurd top

  -- ---- the service at rest

  abbrev AsksNothing : Plan → Type 0
  AsksNothing (Asks q) = ⊥
  AsksNothing plan = Unit {0}

  resting-plan : (c : Call) → IsResting d l p.next c → AsksNothing (planned_at ask.Quiet p c)
  resting-plan c h = each (refusals_at ask.Quiet p c)
    where
      plain : (c : Call) → IsResting d l p.next c → AsksNothing (plan p c)
      plain (call.New owner size name) i = tt
      plain (call.Fd owner fd flags routine user context) i = tt
      plain (call.Turn context) i = tt
      plain _ i = absurd i

      each : (check : Check) → AsksNothing (unless_refused check (plan p c))
      each [] = plain c h
      each (why ∷ more) = tt

  rest-leads : (plan : Plan) → AsksNothing plan → Keeps d l p.next → Rest d l p.next fs → LeadsFine d l p (plan_step ask.Quiet plan p) fs
  rest-leads (DoesPlan change None r) n k w = record { keeps = keeps-later d l p.next (changed_by change p).next (next-rises change p) k; stands = w }
  rest-leads (DoesPlan change (Some notice) r) n k w = record { keeps = keeps-later d l p.next (changed_by change p).next (next-rises change p) k; stands = w }
  rest-leads (Frees x) n k w = record { keeps = k; stands = w }
  rest-leads (Unlinks o x) n k w = record { keeps = k; stands = w }
  rest-leads (Empties x) n k w = record { keeps = k; stands = w }
  rest-leads (Asks q) n k w = absurd n
  rest-leads (Turns context) n k w = let e = next-rises (Enter context) p in record { keeps = keeps-later d l p.next (changed_by (Enter context) p).next e k; stands = w }
  rest-leads (Works change errand x) n k w = record {
    keeps = keeps-later d l p.next (changed_by change p).next (next-rises change p) k;
    stands = errand-stands errand x (changed_by change p).next (frame.Call (Requesting ask.Quiet) ∷ fs) w;
  }

  pub rest-does : (c : Call) → Keeps d l p.next → Does d l p.next ask.Quiet c fs → LeadsFine d l p (step (frame.Call (Doing ask.Quiet c)) p) fs
  rest-does c k w = rest-leads (planned_at ask.Quiet p c) (resting-plan c w.0) k w.1
