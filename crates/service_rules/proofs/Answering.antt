-- An answer of the service's own keeps what is claimed, and the events of its connections are those that there were, or were claimed.
use Rattle.std.proofs.Common.{◌≡◌, ◌≢◌, ℕ, ◌<◌, List, [], ◌∷◌, Option, Some, None, refl, sym, ◌∙◌, ap, subst, ◌⊎◌, inl, inr}
use Rattle.tree_specs.specs.declared.object.Obj.{Obj}
use Rattle.tree_specs.specs.declared.call.Call.{Call}
use Rattle.tree_specs.specs.declared.reply.Reply.{Reply}
use Rattle.tree_specs.specs.declared.reply.Reply.TheVariants as reply
use Rattle.tree_specs.specs.declared.moment.Moment.{Moment}
use Rattle.tree_specs.specs.declared.moment.What.TheVariants as what
use Rattle.tree_specs.specs.Tree.Pool.{Pool}
use Rattle.service_rules.specs.declared.task.Accepting.TheVariants as accepting
use Rattle.service_rules.specs.declared.task.Run.{Run}
use Rattle.service_rules.specs.declared.task.Run.TheVariants.{Own, Outside}
use Rattle.service_rules.specs.declared.task.Task.{Task}
use Rattle.service_rules.specs.declared.task.Task.TheVariants as task
use Rattle.service_rules.specs.Knowledge.{Connection, Knowledge, with_run, without_run, rest_of}
use Rattle.service_rules.specs.Tasks.{object}
use Rattle.service_rules.specs.Routines.{Next, Heard, does, hears, begins, resumes, comes_to, does_next}
use Rattle.service_rules.specs.Routines.Next.{Does, Returns}
use Rattle.service_rules.proofs.Owing.{IsKnown}
use Rattle.service_rules.proofs.Tending.{Tended}
use Rattle.service_rules.proofs.Numbers.{Frees, Base, IsEvent, Was, Passes, EventIn, events-pass, No, NoneNew, CallSpares, Mine, DoesWell, does-well}
use Rattle.service_rules.proofs.NumbersHeard.{NewKnown, HearsWell, hears-well, begins-base}
use Rattle.service_rules.proofs.Clean.{AllRuns, IsFree, FreesClean, Clean, clean-passed}
use Rattle.service_rules.proofs.Claiming.{RunsFor, Ready, Replied, HoldsAfter, OfTop, AskedClaims, SparesKnown, PlainNext, plain-ready, does-plain, hears-ready, begins-ready, begins-may}

-- ---- the events of connections

-- each watches as one did, or is one that was claimed, by a run for an event on a descriptor
abbrev pub Known : Knowledge → Pool → Moment → Knowledge → Type 0
Known d p m f = (k : ℕ) (b : Connection) → IsKnown f k b → Was d k b ⊎ (Tended b.event (object k) b.descriptor p × (m.what ≡ what.Descriptor))

pub tended-as : (p : Pool) (k : Obj) (b c : Connection) → b.event ≡ c.event → b.descriptor ≡ c.descriptor → Tended c.event k c.descriptor p → Tended b.event k b.descriptor p
tended-as p k b c event descriptor t = subst (λ (z : Obj). Tended z k b.descriptor p) (sym event) (subst (λ (n : ℕ). Tended c.event k n p) (sym descriptor) t)

known-then : (d : Knowledge) (p : Pool) (m : Moment) (e f : Knowledge) → Known d p m e → Passes e f No NoneNew → Known d p m f
known-then d p m e f a ps k b h = elim (ps.known k b h) [
  | inl v ↦ elim (a k v.0 v.1) [
    | inl u ↦ inl (u.0, u.1, v.2 ∙ u.2, v.3 ∙ u.3)
    | inr t ↦ inr (tended-as p (object k) b v.0 v.2 v.3 t.0, t.1)
  ]
  | inr v ↦ absurd v
]

-- a new one's was claimed
pub new-known : (d : Knowledge) (p : Pool) (runs : List Run) (m : Moment) (t : Task) (r : Reply) → RunsFor m t → HoldsAfter d p runs t r → (k : ℕ) (b : Connection) → NewKnown t r k b
    → Tended b.event (object k) b.descriptor p × (m.what ≡ what.Descriptor)
new-known d p runs m (task.Accept (accepting.Queue fd s e)) (reply.Number n) for has k b new = (
  subst (λ (z : ℕ). Tended b.event (object z) b.descriptor p) new.0
      (subst (λ (z : Obj). Tended z s b.descriptor p) (sym new.1) (subst (λ (z : ℕ). Tended e s z p) (sym new.2) has.4)),
  for tt,
)
new-known d p runs m _ r for has k b new = absurd new

-- ---- what is done next

-- what is known of a task before it does its next call
pub record Stage (e : Knowledge) (p : Pool) (m : Moment) (t : Task) : Type 0 where
  pub clean : Clean e p.next
  pub frees : FreesClean e p.next t
  pub claims : Ready e p e.runs m t

abbrev NextReady : Pool → Moment → Next → Type 0
NextReady p m (Does c u f) = Ready f p f.runs m u
NextReady p m (Returns f) = Unit {0}

plain-next : (p : Pool) (m : Moment) (n : Next) → PlainNext n → NextReady p m n
plain-next p m (Does c u f) h = plain-ready f p f.runs m u h
plain-next p m (Returns f) h = tt

next-ready : (e : Knowledge) (p : Pool) (m : Moment) (t : Task) → Ready e p e.runs m t → NextReady p m (does e p t)
next-ready e p m (task.Accept at) h = h
next-ready e p m (task.Serve s at) h = plain-next p m (does e p (task.Serve s at)) (does-plain e p (task.Serve s at) tt)
next-ready e p m (task.Notify n at) h = plain-next p m (does e p (task.Notify n at)) (does-plain e p (task.Notify n at) tt)
next-ready e p m (task.Trigger s at) h = plain-next p m (does e p (task.Trigger s at)) (does-plain e p (task.Trigger s at) tt)
next-ready e p m task.Return h = tt

abbrev pub ActsWell : Knowledge → Pool → Moment → Next → Type 0
ActsWell d p m (Does c u f) = Known d p m f × Clean f p.next × Clean (with_run (Own u) f) p.next × Ready f p f.runs m u × SparesKnown f p c
ActsWell d p m (Returns f) = Known d p m f × Clean f p.next

module _ (d e : Knowledge) (p : Pool) (m : Moment) (t : Task) (s : Stage e p m t) (known : Known d p m e) where
  did-clean : (f : Knowledge) → Passes e f No NoneNew → f.runs ≡ e.runs → Clean f p.next
  did-clean f ps is = clean-passed e f p.next No NoneNew e.runs s.clean ps (λ x h. absurd h) (λ x u. absurd u.2) s.clean.runs is

  not-event : (f : Knowledge) → Passes e f No NoneNew → (x : ℕ) → IsFree e p.next x → IsEvent f x → ⊥
  not-event f ps x w ev = elim (events-pass e f No NoneNew ps x ev) [ inl i ↦ w.1 i | inr i ↦ absurd i.2 ]

  run-clean : (f : Knowledge) (u : Task) → Passes e f No NoneNew → f.runs ≡ e.runs → ((x : ℕ) → Frees u x → Frees t x) → Clean (with_run (Own u) f) p.next
  run-clean f u ps is frees =
      let c = did-clean f ps is in record {
        base = c.base;
        events = c.events;
        runs = ((λ x w. let v = s.frees x (frees x w) in (v.0, not-event f ps x v)), c.runs);
      }

  spares : (f : Knowledge) (c : Call) → Passes e f No NoneNew → CallSpares p (Mine e t) c → SparesKnown f p c
  spares f c ps calls k b h tended = calls b.event (object k) b.descriptor tended (λ x mine same. elim mine [
    | inl base ↦ not-event f ps x (s.clean.base x base) (k, b, h, sym same)
    | inr frees ↦ not-event f ps x (s.frees x frees) (k, b, h, sym same)
  ])

  pub stage-acts : ActsWell d p m (does e p t)
  stage-acts = each (does e p t) (does-well e p t) (next-ready e p m t s.claims)
    where
      each : (n : Next) → DoesWell e p t n → NextReady p m n → ActsWell d p m n
      each (Does c u f) w r = (known-then d p m e f known w.0, did-clean f w.0 w.2, run-clean f u w.0 w.2 w.1, r, spares f c w.0 w.3)
      each (Returns f) w r = (known-then d p m e f known w.0, did-clean f w.0 w.1)

-- ---- after a reply

pub rest-runs : (P : Task → Type 0) (runs : List Run) → AllRuns P runs → AllRuns P (rest_of runs)
rest-runs P [] a = tt
rest-runs P (Own t ∷ runs) a = a.1
rest-runs P (Outside ∷ runs) a = a

-- without the innermost run
clean-rest : (d : Knowledge) (next : ℕ) → Clean d next → Clean (without_run d) next
clean-rest d next c = record { base = c.base; events = c.events; runs = rest-runs (FreesClean d next) d.runs c.runs }

new-none : (e : Knowledge) (t : Task) (r : Reply) (k : ℕ) (b : Connection) (x : ℕ) → NewKnown t r k b → Frees (hears e t r).task x → ⊥
new-none e (task.Accept (accepting.Queue fd s q)) (reply.Number n) k b x new f = f
new-none e _ r k b x new f = absurd new

module _ (d : Knowledge) (p : Pool) (m : Moment) (t : Task) (r : Reply) (clean : Clean d p.next) (frees : FreesClean d p.next t) (claims : Replied d p (rest_of d.runs) m r t) where
  abbrev pub e : Knowledge
  e = without_run d

  abbrev pub h : Heard
  h = hears e t r

  w : HearsWell e t r h
  w = hears-well e t r

  fresh-event : (t : Task) (r : Reply) → HoldsAfter d p (rest_of d.runs) t r → (x : ℕ) → EventIn (NewKnown t r) x
      → (x < p.next) × ((y : ℕ) → Base e y ⊎ Frees t y → y ≢ x) × AllRuns (λ u. (y : ℕ) → Frees u y → y ≢ x) (rest_of d.runs)
  fresh-event (task.Accept (accepting.Queue fd s q)) (reply.Number n) has x u =
      let is : q.0 ≡ x = ap (λ (z : Obj). z.0) (sym u.2.1) ∙ u.3 in
      subst (λ (z : ℕ). (z < p.next) × ((y : ℕ) → Base e y ⊎ (s.0 ≡ y) → y ≢ z) × AllRuns (λ v. (y : ℕ) → Frees v y → y ≢ z) (rest_of d.runs)) is
      (has.0, (λ y v same. elim v [ inl b ↦ has.1 y b same | inr f ↦ has.2 (f ∙ same) ]), has.3)
  fresh-event _ r has x u = absurd u.2

  heard-clean : Clean h.knowledge p.next
  heard-clean = clean-passed e h.knowledge p.next (Frees t) (NewKnown t r) (rest_of d.runs) (clean-rest d p.next clean) w.passes frees (fresh-event t r claims.1) (rest-runs (FreesClean d p.next) d.runs clean.runs) w.runs

  heard-frees : FreesClean h.knowledge p.next h.task
  heard-frees x f = (
    free.0,
    λ ev. elim (events-pass e h.knowledge (Frees t) (NewKnown t r) w.passes x ev) [
      | inl i ↦ free.1 i
      | inr i ↦ new-none e t r i.0 i.1 x i.2 f
    ],
  )
    where
      free : IsFree d p.next x
      free = elim (w.frees x f) [ inl v ↦ frees x v | inr v ↦ claims.2 x v ]

  heard-stage : Stage h.knowledge p m h.task
  heard-stage = record {
    clean = heard-clean;
    frees = heard-frees;
    claims = subst (λ (runs : List Run). Ready h.knowledge p runs m h.task) (sym w.runs) (hears-ready d p m t r claims);
  }

  heard-known : Known d p m h.knowledge
  heard-known k b i = elim (w.passes.known k b i) [ inl v ↦ inl v | inr new ↦ inr (new-known d p (rest_of d.runs) m t r claims.0 claims.1 k b new) ]

  pub heard-acts : ActsWell d p m (does_next p h)
  heard-acts = stage-acts d h.knowledge p m h.task heard-stage heard-known

-- ---- at a moment

module _ (d : Knowledge) (p : Pool) (m : Moment) (clean : Clean d p.next) where
  still : Known d p m d
  still k b h = inl (b, h, refl, refl)

  begins-acts : ActsWell d p m (does d p (begins d m))
  begins-acts = stage-acts d d p m (begins d m) (record {
    clean = clean;
    frees = λ x w. clean.base x (begins-base d m.routine m x w);
    claims = begins-ready d p d.runs m (begins d m) (begins-may m.routine d m);
  }) still

  returns-acts : ActsWell d p m (does d p task.Return)
  returns-acts = (still, clean)

  pub next-claims : (o : Option Reply) → AskedClaims d p m o → ActsWell d p m (does_next p (comes_to d m o))
  next-claims None c = begins-acts
  next-claims (Some r) c = each d.runs refl c
    where
      each : (runs : List Run) → d.runs ≡ runs → OfTop (Replied d p (rest_of d.runs) m r) runs → ActsWell d p m (does_next p (resumes d r runs))
      each (Own t ∷ runs) is c = heard-acts d p m t r clean (subst (AllRuns (FreesClean d p.next)) is clean.runs).0 c
      each [] is c = returns-acts
      each (Outside ∷ runs) is c = returns-acts
