-- Kept connections stay attended after each step of a host.
use Rattle.std.proofs.Common.{ℕ, ◌≤◌, List, ◌∷◌, Option, Some, None, refl, sym, subst, arith}
use Rattle.step_machine.specs.Machine.{Move as Do}
use Rattle.tree_specs.specs.declared.object.Obj.{Obj}
use Rattle.tree_specs.specs.declared.call.Call.{Call}
use Rattle.tree_specs.specs.declared.call.Call.TheVariants as call
use Rattle.tree_specs.specs.declared.reply.Reply.{Reply}
use Rattle.tree_specs.specs.declared.question.Ask.{Ask}
use Rattle.tree_specs.specs.declared.question.Ask.TheVariants as ask
use Rattle.tree_specs.specs.declared.frame.Frame.{Frame}
use Rattle.tree_specs.specs.declared.frame.Frame.TheVariants as frame
use Rattle.tree_specs.specs.declared.frame.CallFrame.TheVariants.{Asking, Doing, Awaiting, Turning, Requesting, Announcing, Telling, Returning}
use Rattle.tree_specs.specs.declared.frame.OutsideFrame.TheVariants.{Reaching, Opening, Hearing}
use Rattle.tree_specs.specs.declared.frame.Answer.TheVariants.{Returned}
use Rattle.tree_specs.specs.Rules.Items.Item.{Told, Asked}
use Rattle.tree_specs.specs.Tree.Pool.{Pool, open_descriptor}
use Rattle.tree_specs.specs.Calls.Plans.{Plan, planned_at}
use Rattle.tree_specs.specs.Calls.Plans.Change.{Enter}
use Rattle.tree_specs.specs.Calls.Plans.Plan.{Does, Frees, Unlinks, Empties, Asks, Turns, Works}
use Rattle.tree_specs.specs.Invariants.Awaiting.{pool_after}
use Rattle.tree_specs.specs.Invariants.Consistent.{IsConsistent}
use Rattle.tree_specs.specs.Machine.Table.{Step, step, plan_step}
use Rattle.tree_stories.proofs.Outsides.{AsksOutside}
use Rattle.service_rules.specs.Knowledge.{Connection, Knowledge}
use Rattle.service_rules.specs.Tasks.{object}
use Rattle.service_rules.specs.Sent.{Ledger}
use Rattle.service_rules.proofs.Owing.{IsKnown, Rest, IsResting, Stands}
use Rattle.service_rules.proofs.Calling.{next-rises}
use Rattle.service_rules.proofs.Works.{LeadsWork, works}
use Rattle.service_rules.proofs.Leading.{AskedFine, LeadsFine}
use Rattle.service_rules.proofs.Stepping.{step-fine}
use Rattle.service_rules.proofs.Seating.{LeadsSeats, step-seats}
use Rattle.service_rules.proofs.Sparing.{LeadsTends}
use Rattle.service_rules.proofs.SparingCalls.{SparesCall}
use Rattle.service_rules.proofs.SparingSteps.{SparedBy, step-tends}
use Rattle.service_rules.proofs.KidsBelow.{KidsBelow, work-next, step-kids}
use Rattle.service_rules.proofs.Clean.{Clean, clean-later}
use Rattle.service_rules.proofs.Claiming.{AskedClaims, Claims}
use Rattle.service_rules.proofs.Attending.{Attended, AskedAttended, LeadsAttended, AsksNothing, gather, done-claims, works-claims, rest-claims, does-claims, announced-claims, opened-claims, heard-claims}
use Rattle.service_rules.proofs.AttendingAsked.{AllLead, clock-attended, wait-attended, rest-attended, routine-attended}
use Rattle.service_rules.proofs.AttendingOutside.{reaching-attended}

-- ---- calls

plan-asks : (q : Ask) (plan : Plan) (p : Pool) → AsksNothing (plan_step q plan p)
plan-asks q (Does change None r) p = tt
plan-asks q (Does change (Some notice) r) p = tt
plan-asks q (Frees x) p = tt
plan-asks q (Unlinks o x) p = tt
plan-asks q (Empties x) p = tt
plan-asks q (Asks o) p = tt
plan-asks ask.Quiet (Turns c) p = tt
plan-asks _ (Turns c) p = tt
plan-asks q (Works change errand x) p = tt

plan-rises : (q : Ask) (plan : Plan) (p : Pool) → p.next ≤ (pool_after (plan_step q plan p)).next
plan-rises q (Does change None r) p = next-rises change p
plan-rises q (Does change (Some notice) r) p = next-rises change p
plan-rises q (Frees x) p = omega arith
plan-rises q (Unlinks o x) p = omega arith
plan-rises q (Empties x) p = omega arith
plan-rises q (Asks o) p = omega arith
plan-rises ask.Quiet (Turns c) p = next-rises (Enter c) p
plan-rises _ (Turns c) p = omega arith
plan-rises q (Works change errand x) p = next-rises change p

module _ (d : Knowledge) (l : Ledger) (fs : List Frame) (p : Pool) where
  abbrev Leads : Step → Type 0
  Leads m = (k : ℕ) (c : Connection) → IsKnown d k c → LeadsTends c.event (object k) c.descriptor m fs

  -- ---- works that are no caller's

  work-attended : (m : Step) → LeadsWork p m → Clean d p.next → Rest d l p.next fs → LeadsFine d l p m fs → LeadsSeats m fs → KidsBelow (pool_after m) → Leads m → LeadsAttended d l p m fs
  work-attended (Do.Wait (Asked ask.Clock) g q) leads clean rest fine seats kids tends = clock-attended d l fs p g q fine seats kids (clean-later d p.next q.next (work-next p (Do.Wait (Asked ask.Clock) g q) leads) clean) tends leads.2
  work-attended (Do.Wait (Asked (ask.Wait limit)) g q) leads clean rest fine seats kids tends = wait-attended d l fs p limit g q fine seats kids (clean-later d p.next q.next (work-next p (Do.Wait (Asked (ask.Wait limit)) g q) leads) clean) tends leads.2
  work-attended (Do.Wait (Asked _) g q) leads clean rest fine seats kids tends = absurd leads.0
  work-attended (Do.Wait (Told e) g q) leads clean rest fine seats kids tends = absurd leads.0
  work-attended (Do.Done a q) leads clean rest fine seats kids tends = gather d l p clean (Do.Done a q) fs tt fine seats kids (work-next p (Do.Done a q) leads) (works-claims d l p (Do.Done a q) fs leads rest) tends
  work-attended (Do.Go g q) leads clean rest fine seats kids tends = gather d l p clean (Do.Go g q) fs tt fine seats kids (work-next p (Do.Go g q) leads) (works-claims d l p (Do.Go g q) fs leads rest) tends
  work-attended (Do.Emit e g q) leads clean rest fine seats kids tends = gather d l p clean (Do.Emit e g q) fs tt fine seats kids (work-next p (Do.Emit e g q) leads) (works-claims d l p (Do.Emit e g q) fs leads rest) tends
  work-attended (Do.Call h g q) leads clean rest fine seats kids tends = gather d l p clean (Do.Call h g q) fs tt fine seats kids (work-next p (Do.Call h g q) leads) (works-claims d l p (Do.Call h g q) fs leads rest) tends

  -- ---- the calls that are done spare the events

  resting-spares : (e k : Obj) (fd : ℕ) (c : Call) → IsResting d l p.next c → SparesCall e k fd c
  resting-spares e k fd (call.New owner size name) i = tt
  resting-spares e k fd (call.Fd owner n flags routine user context) i = tt
  resting-spares e k fd (call.Turn context) i = tt
  resting-spares e k fd _ i = absurd i

  spared : (f : Frame) → Stands d l p.next f fs → Claims d p f fs → (k : ℕ) (b : Connection) → IsKnown d k b → SparedBy b.event (object k) b.descriptor fs p f
  spared (frame.Call (Doing ask.Quiet c)) s claims k b known = λ t. resting-spares b.event (object k) b.descriptor c s.0
  spared (frame.Call (Doing (ask.Routine m) c)) s claims k b known = claims.1 k b known
  spared (frame.Call (Doing _ c)) s claims k b known = absurd s
  spared _ s claims k b known = tt

  step-leads : (f : Frame) → IsConsistent (record { innermost = f; below = fs; pool = p }) → Attended d l f fs p → Leads (step f p)
  step-leads f whole a k b known = step-tends b.event (object k) b.descriptor fs p f whole (a.clean.events b.event.0 (k, b, known, refl)) (spared f a.fine.stands a.claims k b known) (a.tends k b known)

-- ---- the outside is asked for a routine

reached : (d : Knowledge) (l : Ledger) (p : Pool) (q : Ask) (fs : List Frame) → IsConsistent (record { innermost = frame.Outside (Reaching q); below = fs; pool = p }) → AsksOutside (frame.Outside (Reaching q)) → Attended d l (frame.Outside (Reaching q)) fs p
    → AskedFine d l p q (frame.Outside (Reaching q)) fs p → LeadsSeats (Do.Wait (Asked q) (frame.Outside (Reaching q)) p) fs → AllLead d l fs p q (frame.Outside (Reaching q)) p → AskedAttended d l p q (frame.Outside (Reaching q)) fs p
reached d l p q (frame.Call (Turning (ask.Routine m)) ∷ gs) whole o a fine seats leads = reaching-attended d l q m gs p whole a o fine seats leads
reached d l p q _ whole o a fine seats leads = absurd a.fine.stands

-- ---- all works

pub step-attended : (d : Knowledge) (l : Ledger) (p : Pool) (f : Frame) (fs : List Frame) → IsConsistent (record { innermost = f; below = fs; pool = p }) → AsksOutside f → Attended d l f fs p → LeadsAttended d l p (step f p) fs
step-attended d l p f fs whole o a = each f whole o a (step-fine d l p f fs o a.fine.keeps a.fine.stands) (step-seats fs p a.seats.1 f a.seats.0) (step-kids f p a.kids) (step-leads d l fs p f whole a)
  where
    each : (f : Frame) → IsConsistent (record { innermost = f; below = fs; pool = p }) → AsksOutside f → Attended d l f fs p → LeadsFine d l p (step f p) fs → LeadsSeats (step f p) fs → KidsBelow (pool_after (step f p)) → Leads d l fs p (step f p) → LeadsAttended d l p (step f p) fs
    each (frame.Free f) whole o a fine seats kids leads = work-attended d l fs p (step (frame.Free f) p) (works (frame.Free f) p tt) a.clean a.fine.stands fine seats kids leads
    each (frame.Turn f) whole o a fine seats kids leads = work-attended d l fs p (step (frame.Turn f) p) (works (frame.Turn f) p tt) a.clean a.fine.stands fine seats kids leads
    each (frame.Request f) whole o a fine seats kids leads = work-attended d l fs p (step (frame.Request f) p) (works (frame.Request f) p tt) a.clean a.fine.stands fine seats kids leads
    each (frame.Outside (Reaching q)) whole o a fine seats kids leads = reached d l p q fs whole o a fine seats leads
    each (frame.Outside (Opening fd)) whole o a fine seats kids leads =
        gather d l p a.clean (step (frame.Outside (Opening fd)) p) fs tt fine seats kids (omega arith) (opened-claims d l p.next fd (open_descriptor p fd) fs a.fine.stands a.claims) leads
    each (frame.Outside (Hearing r)) whole o a fine seats kids leads = gather d l p a.clean (step (frame.Outside (Hearing r)) p) fs tt fine seats kids (omega arith) (heard-claims d l p.next r p fs a.fine.stands a.claims) leads
    each (frame.Call (Asking ask.Quiet)) whole o a fine seats kids leads = rest-attended d l fs p fine seats kids a.clean leads
    each (frame.Call (Asking (ask.Routine m))) whole o a fine seats kids leads = routine-attended d l fs p m whole a fine seats leads
    each (frame.Call (Asking _)) whole o a fine seats kids leads = absurd a.fine.stands
    each (frame.Call (Doing ask.Quiet c)) whole o a fine seats kids leads =
        gather d l p a.clean (plan_step ask.Quiet (planned_at ask.Quiet p c) p) fs (plan-asks ask.Quiet (planned_at ask.Quiet p c) p) fine seats kids (plan-rises ask.Quiet (planned_at ask.Quiet p c) p) (rest-claims d p (planned_at ask.Quiet p c) fs) leads
    each (frame.Call (Doing (ask.Routine m) c)) whole o a fine seats kids leads =
        gather d l p a.clean (plan_step (ask.Routine m) (planned_at (ask.Routine m) p c) p) fs (plan-asks (ask.Routine m) (planned_at (ask.Routine m) p c) p) fine seats kids (plan-rises (ask.Routine m) (planned_at (ask.Routine m) p c) p)
        (does-claims d p whole.sound.started whole.awaits whole.sound.valid a.kids a.clean l m c fs a.fine.stands a.claims.0) leads
    each (frame.Call (Doing _ c)) whole o a fine seats kids leads = absurd a.fine.stands
    each (frame.Call (Announcing q notice r)) whole o a fine seats kids leads =
        gather d l p a.clean (step (frame.Call (Announcing q notice r)) p) fs tt fine seats kids (omega arith) (announced-claims d p q notice r fs a.claims) leads
    each (frame.Call (Telling ask.Quiet r)) whole o a fine seats kids leads = gather d l p a.clean (step (frame.Call (Telling ask.Quiet r)) p) fs tt fine seats kids (omega arith) tt leads
    each (frame.Call (Telling (ask.Routine m) r)) whole o a fine seats kids leads =
        gather d l p a.clean (step (frame.Call (Telling (ask.Routine m) r)) p) fs tt fine seats kids (omega arith) (subst (λ (z : Option Reply). AskedClaims d p m z) (sym a.fine.stands.0) a.claims) leads
    each (frame.Call (Telling _ r)) whole o a fine seats kids leads = absurd a.fine.stands
    each (frame.Call (Returning v)) whole o a fine seats kids leads = gather d l p a.clean (step (frame.Call (Returning v)) p) fs tt fine seats kids (omega arith) (done-claims d l p.next (Returned v) p fs a.fine.stands) leads
    each (frame.Call (Awaiting q x)) whole o a fine seats kids leads = absurd a.fine.stands
    each (frame.Call (Turning q)) whole o a fine seats kids leads = absurd a.fine.stands
    each (frame.Call (Requesting q)) whole o a fine seats kids leads = absurd a.fine.stands
