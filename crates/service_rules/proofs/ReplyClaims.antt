-- What a run claims after the reply to its call: the event that is made for a descriptor is its own.
use Rattle.std.proofs.Common.{◌≡◌, ◌≢◌, ℕ, ◌+◌, ◌<◌, List, [], ◌∷◌, refl, sym, subst, arith}
use Rattle.std.specs.Prelude.{codes}
use Rattle.tree_specs.specs.declared.object.Obj.{Obj}
use Rattle.tree_specs.specs.declared.call.Call.{Call}
use Rattle.tree_specs.specs.declared.call.Call.TheVariants as call
use Rattle.tree_specs.specs.declared.reply.Reply.{Reply}
use Rattle.tree_specs.specs.declared.reply.Reply.TheVariants as reply
use Rattle.tree_specs.specs.declared.reply.Refusal.TheVariants as refusal
use Rattle.tree_specs.specs.declared.question.Ask.{Ask}
use Rattle.tree_specs.specs.Words.Objects.{numbered_owner, first_context}
use Rattle.tree_specs.specs.Events.Rotation.{closing}
use Rattle.tree_specs.specs.Tree.Pool.{Pool, row_of}
use Rattle.tree_specs.specs.Calls.Refusals.{Check, refusals_at}
use Rattle.tree_specs.specs.Calls.Plans.{Change, Plan, plan, planned_at, unless_refused, changed_by}
use Rattle.tree_specs.specs.Calls.Plans.Change.{Rewatch, AddQueue}
use Rattle.tree_specs.specs.Calls.Plans.Plan.{Does, Frees as FreesPlan, Unlinks, Empties, Asks, Turns, Works}
use Rattle.tree_specs.specs.Invariants.Awaiting.{Awaits}
use Rattle.tree_specs.specs.Invariants.Sound.{ValidAt}
use Rattle.service_rules.specs.declared.task.Accepting.{Accepting}
use Rattle.service_rules.specs.declared.task.Accepting.TheVariants as accepting
use Rattle.service_rules.specs.declared.task.Fulfilling.TheVariants as fulfilling
use Rattle.service_rules.specs.declared.task.Run.{Run}
use Rattle.service_rules.specs.declared.task.Serving.TheVariants as serving
use Rattle.service_rules.specs.declared.task.Task.{Task}
use Rattle.service_rules.specs.declared.task.Task.TheVariants as task
use Rattle.service_rules.specs.Knowledge.{Knowledge, rest_of}
use Rattle.service_rules.specs.Tasks.{accepting_call, object}
use Rattle.service_rules.proofs.Owing.{IsCallOf, IsAskOf, IsReq, IsCalm}
use Rattle.service_rules.proofs.Calling.{next-rises}
use Rattle.service_rules.proofs.Tending.{Tended}
use Rattle.service_rules.proofs.SparingCalls.{SparesChange, change-tended}
use Rattle.service_rules.proofs.KidsBelow.{KidsBelow}
use Rattle.service_rules.proofs.NewEvents.{new-tended}
use Rattle.service_rules.proofs.Numbers.{Frees}
use Rattle.service_rules.proofs.NumbersHeard.{FromReply}
use Rattle.service_rules.proofs.Clean.{AllRuns, IsFree, FreesClean, Clean, all-runs}
use Rattle.service_rules.proofs.Claiming.{Has, Holds, HoldsAfter}

-- ---- tasks of which nothing is claimed after a reply

abbrev pub IsSettled : Task → Type 0
IsSettled (task.Accept (accepting.Session fd)) = ⊥
IsSettled (task.Accept (accepting.Event fd s)) = ⊥
IsSettled (task.Accept (accepting.Autoclose fd s e)) = ⊥
IsSettled (task.Accept (accepting.Queue fd s e)) = ⊥
IsSettled (task.Serve s (serving.Order tag (fulfilling.Sleep delay))) = ⊥
IsSettled (task.Serve s (serving.Order tag (fulfilling.Job delay))) = ⊥
IsSettled t = Unit {0}

pub calm-settled : (t : Task) → IsCalm t → IsSettled t
calm-settled (task.Accept accepting.Accept) c = absurd c
calm-settled (task.Accept (accepting.Session fd)) c = absurd c
calm-settled (task.Accept (accepting.Event fd s)) c = absurd c
calm-settled (task.Accept (accepting.Autoclose fd s e)) c = absurd c
calm-settled (task.Accept (accepting.Queue fd s e)) c = absurd c
calm-settled (task.Serve s (serving.Order tag (fulfilling.Sleep delay))) c = absurd c
calm-settled (task.Serve s (serving.Order tag (fulfilling.Job delay))) c = absurd c
calm-settled _ c = tt

-- those that ask the outside are
pub asked-settled : (d : Knowledge) (q : Ask) (t : Task) → IsAskOf d q t → IsSettled t
asked-settled d q (task.Accept at) a = subst (λ (z : Accepting). IsSettled (task.Accept z)) (sym a.0) tt
asked-settled d q (task.Serve s (serving.Order tag (fulfilling.Sleep delay))) a = absurd a
asked-settled d q (task.Serve s (serving.Order tag (fulfilling.Job delay))) a = absurd a
asked-settled d q _ a = tt

module _ (d : Knowledge) (runs : List Run) where
  pub settled-holds : (p : Pool) (t : Task) (r : Reply) → IsSettled t → HoldsAfter d p runs t r
  settled-holds p (task.Accept accepting.Accept) r h = tt
  settled-holds p (task.Accept (accepting.Session fd)) r h = absurd h
  settled-holds p (task.Accept (accepting.Event fd s)) r h = absurd h
  settled-holds p (task.Accept (accepting.Autoclose fd s e)) r h = absurd h
  settled-holds p (task.Accept (accepting.Queue fd s e)) r h = absurd h
  settled-holds p (task.Accept (accepting.Abandon fd s)) r h = tt
  settled-holds p (task.Accept (accepting.Close fd)) r h = tt
  settled-holds p (task.Accept (accepting.Free s)) r h = tt
  settled-holds p (task.Serve s at) r h = tt
  settled-holds p (task.Notify n at) r h = tt
  settled-holds p (task.Trigger s at) r h = tt
  settled-holds p task.Return r h = tt

pub settled-replies : (t : Task) (r : Reply) (x : ℕ) → IsSettled t → FromReply t r x → ⊥
settled-replies (task.Accept (accepting.Session fd)) r x h f = h
settled-replies (task.Accept _) r x h f = f
settled-replies (task.Serve s (serving.Order tag (fulfilling.Sleep delay))) r x h f = h
settled-replies (task.Serve s (serving.Order tag (fulfilling.Job delay))) r x h f = h
settled-replies (task.Serve s (serving.Order tag at)) r x h f = f
settled-replies (task.Serve s _) r x h f = f
settled-replies (task.Notify n at) r x h f = f
settled-replies (task.Trigger s at) r x h f = f
settled-replies task.Return r x h f = f

-- ---- the reply to a call

module _ (d : Knowledge) (p : Pool) (started : 0 < p.next) (awaits : Awaits p) (valid : (x : Obj) → ValidAt p.next (row_of p.rows x) x) (kids : KidsBelow p) (clean : Clean d p.next) (below : AllRuns (FreesClean d p.next) (rest_of d.runs)) where
  abbrev After : Pool → Task → Reply → Type 0
  After q t r = HoldsAfter d q (rest_of d.runs) t r × ((x : ℕ) → FromReply t r x → IsFree d q.next x)

  abbrev pub RepliesWell : Task → Plan → Type 0
  RepliesWell t (Does change notice r) = After (changed_by change p) t r
  RepliesWell t (Turns c) = After p t (reply.No refusal.Nested)
  RepliesWell t plan = Unit {0}

  settled-after : (q : Pool) (t : Task) (r : Reply) → IsSettled t → After q t r
  settled-after q t r h = (settled-holds d (rest_of d.runs) q t r h, λ x f. absurd (settled-replies t r x h f))

  settled-well : (t : Task) (plan : Plan) → IsSettled t → RepliesWell t plan
  settled-well t (Does change notice r) h = settled-after (changed_by change p) t r h
  settled-well t (Turns c) h = settled-after p t (reply.No refusal.Nested) h
  settled-well t (FreesPlan x) h = tt
  settled-well t (Unlinks o x) h = tt
  settled-well t (Empties x) h = tt
  settled-well t (Asks q) h = tt
  settled-well t (Works change errand x) h = tt

  -- a number that is taken now
  new-free : (n : ℕ) → p.next < n → (x : ℕ) → p.next ≡ x → IsFree d n x
  new-free n h x is = ((omega (arith, h, is)), λ ev. let l : x < p.next = clean.events x ev in absurd (omega (arith, l, is)))

  has-changed : (fd : ℕ) (s e : Obj) (change : Change) → SparesChange e s fd change → Has d p (rest_of d.runs) fd s e → Has d (changed_by change p) (rest_of d.runs) fd s e
  has-changed fd s e change spares h =
      let r = next-rises change p in let y : e.0 < p.next = h.0 in
      ((omega (arith, r, y)), h.1, h.2, h.3, change-tended e s fd change p h.0 spares h.4)

  -- its own event
  has-new : (fd : ℕ) (s : Obj) (q : Pool) → p.next < q.next → s.0 < p.next → Tended (object p.next) s fd q → Has d q (rest_of d.runs) fd s (object p.next)
  has-new fd s q rises young t = (
    rises,
    λ y b is. let l : y < p.next = (clean.base y b).0 in absurd (omega (arith, l, is)),
    λ is. absurd (omega (arith, young, is)),
    all-runs (FreesClean d p.next) (λ u. (y : ℕ) → Frees u y → y ≢ p.next) (λ u f y w is. let l : y < p.next = (f y w).0 in absurd (omega (arith, l, is))) (rest_of d.runs) below,
    t,
  )

  accepting-well : (at : Accepting) → Holds d p (rest_of d.runs) (task.Accept at) → FreesClean d p.next (task.Accept at) → (check : Check) → RepliesWell (task.Accept at) (unless_refused check (plan p (accepting_call at)))
  accepting-well accepting.Accept h f [] = tt
  accepting-well accepting.Accept h f (why ∷ more) = (tt, λ x u. absurd u)
  accepting-well (accepting.Session fd) h f [] = (started, new-free (p.next + 1) (omega arith))
  accepting-well (accepting.Session fd) h f (why ∷ more) = (tt, λ x u. absurd u)
  accepting-well (accepting.Event fd s) h f [] =
      let young : s.0 < p.next = (f s.0 refl).0 in
      (has-new fd s _ (omega arith) young (new-tended p s fd 1 (record { routine = 2; user = s.0; context = first_context }) h awaits valid kids), λ x u. absurd u)
  accepting-well (accepting.Event fd s) h f (why ∷ more) = (tt, λ x u. absurd u)
  accepting-well (accepting.Autoclose fd s e) h f [] = (has-changed fd s e (Rewatch e closing) ((λ w. refl), (λ w. refl)) h, λ x u. absurd u)
  accepting-well (accepting.Autoclose fd s e) h f (why ∷ more) = (h, λ x u. absurd u)
  accepting-well (accepting.Queue fd s e) h f [] = (has-changed fd s e (AddQueue (numbered_owner s.0) (codes "jobs")) tt h, λ x u. absurd u)
  accepting-well (accepting.Queue fd s e) h f (why ∷ more) = (tt, λ x u. absurd u)
  accepting-well (accepting.Abandon fd s) h f check = settled-well (task.Accept (accepting.Abandon fd s)) (unless_refused check (plan p (call.Free s))) tt
  accepting-well (accepting.Close fd) h f check = settled-well (task.Accept (accepting.Close fd)) (unless_refused check (plan p (call.Close fd))) tt
  accepting-well (accepting.Free s) h f check = settled-well (task.Accept (accepting.Free s)) (unless_refused check (plan p (call.Free s))) tt

  -- a request's number is its own
  req-well : (q : Ask) (t : Task) (c : Call) → IsReq c → ((p' : Pool) (r : Reply) → HoldsAfter d p' (rest_of d.runs) t r) → ((n : ℕ) (x : ℕ) → FromReply t (reply.Number n) x → n ≡ x) → ((why : _) (x : ℕ) → FromReply t (reply.No why) x → ⊥)
      → RepliesWell t (planned_at q p c)
  req-well q t (call.Req owner size name) is holds number refused = each (refusals_at q p (call.Req owner size name))
    where
      each : (check : Check) → RepliesWell t (unless_refused check (plan p (call.Req owner size name)))
      each [] = (holds _ (reply.Number p.next), λ x u. new-free (p.next + 1 + 1) (omega arith) x (number p.next x u))
      each (why ∷ more) = (holds p (reply.No why), λ x u. absurd (refused why x u))
  req-well q t _ is holds number refused = absurd is

  pub call-well : (q : Ask) (t : Task) (c : Call) → Holds d p (rest_of d.runs) t → FreesClean d p.next t → IsCallOf d c t → RepliesWell t (planned_at q p c)
  call-well q (task.Accept at) c h f is = subst (λ (z : Call). RepliesWell (task.Accept at) (planned_at q p z)) (sym is) (accepting-well at h f (refusals_at q p (accepting_call at)))
  call-well q (task.Serve s (serving.Order tag (fulfilling.Sleep delay))) c h f is = req-well q (task.Serve s (serving.Order tag (fulfilling.Sleep delay))) c is (λ r' r. tt) (λ n x u. u) (λ why x u. u)
  call-well q (task.Serve s (serving.Order tag (fulfilling.Job delay))) c h f is = req-well q (task.Serve s (serving.Order tag (fulfilling.Job delay))) c is (λ r' r. tt) (λ n x u. u) (λ why x u. u)
  call-well q (task.Serve s (serving.Order tag at)) c h f is = settled-well (task.Serve s (serving.Order tag at)) (planned_at q p c) tt
  call-well q (task.Serve s at) c h f is = settled-well (task.Serve s at) (planned_at q p c) tt
  call-well q (task.Notify n at) c h f is = settled-well (task.Notify n at) (planned_at q p c) tt
  call-well q (task.Trigger s at) c h f is = settled-well (task.Trigger s at) (planned_at q p c) tt
  call-well q task.Return c h f is = settled-well task.Return (planned_at q p c) tt
