-- The numbers that the service frees are sessions and requests of its own, and none of its events.
use Rattle.std.proofs.Common.{◌≡◌, ◌≢◌, ℕ, List, [], ◌∷◌, Option, Some, None, refl, sym, ◌∙◌, ap, ◌⊎◌, inl, inr}
use Rattle.std.specs.Ordering.{nat_cmp, eq_by_cmp}
use Rattle.std.specs.FinMap.Entries.{find}
use Rattle.tree_specs.specs.declared.object.Obj.{Obj}
use Rattle.tree_specs.specs.declared.call.Call.{Call}
use Rattle.tree_specs.specs.declared.call.Call.TheVariants as call
use Rattle.tree_specs.specs.Tree.Pool.{Pool}
use Rattle.tree_specs.proofs.Tree.Numbered.{by_test}
use Rattle.service_rules.specs.declared.order.Order.{Order}
use Rattle.service_rules.specs.declared.order.Order.TheVariants as order
use Rattle.service_rules.specs.declared.task.Accepting.{Accepting}
use Rattle.service_rules.specs.declared.task.Accepting.TheVariants as accepting
use Rattle.service_rules.specs.declared.task.Fulfilling.{Fulfilling}
use Rattle.service_rules.specs.declared.task.Fulfilling.TheVariants as fulfilling
use Rattle.service_rules.specs.declared.task.Kept.{Kept}
use Rattle.service_rules.specs.declared.task.Notifying.{Notifying}
use Rattle.service_rules.specs.declared.task.Notifying.TheVariants as notifying
use Rattle.service_rules.specs.declared.task.Serving.{Serving}
use Rattle.service_rules.specs.declared.task.Serving.TheVariants as serving
use Rattle.service_rules.specs.declared.task.Task.{Task}
use Rattle.service_rules.specs.declared.task.Task.TheVariants as task
use Rattle.service_rules.specs.declared.task.Triggering.{Triggering}
use Rattle.service_rules.specs.declared.task.Triggering.TheVariants as triggering
use Rattle.service_rules.specs.Knowledge.{Connection, Knowledge, connection_of, with_connection, keeping}
use Rattle.service_rules.specs.Tasks.{flags_to_set, flagging, unless_empty, after_reading, serving_call, write_call, fulfilling_call, notifying_call, triggering_call, accepting_call}
use Rattle.service_rules.specs.Routines.{Next, Progress, does, doing, serves, serving_on, goes_on, notifies, order_call, fulfilling_for, progress_of, progressed}
use Rattle.service_rules.specs.Routines.Next.{Does, Returns}
use Rattle.service_rules.proofs.Entries.{same-number, found-other}
use Rattle.service_rules.proofs.Owing.{IsKnown}
use Rattle.service_rules.proofs.Growing.{put-each}
use Rattle.service_rules.proofs.Served.{IfWanted, progress-served}
use Rattle.service_rules.proofs.Strangers.{IfHome, progress-home, line-spares}
use Rattle.service_rules.proofs.Tending.{Tended}
use Rattle.service_rules.proofs.SparingCalls.{SparesCall}

-- ---- the numbers

-- what a task may free
abbrev pub FreesAt : Fulfilling → ℕ → Type 0
FreesAt (fulfilling.Now request delay) x = request.0 ≡ x
FreesAt (fulfilling.EndTime request now delay) x = request.0 ≡ x
FreesAt (fulfilling.Enqueue request delay) x = request.0 ≡ x
FreesAt (fulfilling.Callback request) x = request.0 ≡ x
FreesAt (fulfilling.Undo request why) x = request.0 ≡ x
FreesAt at x = ⊥

abbrev pub Frees : Task → ℕ → Type 0
Frees (task.Accept (accepting.Event fd s)) x = s.0 ≡ x
Frees (task.Accept (accepting.Autoclose fd s e)) x = s.0 ≡ x
Frees (task.Accept (accepting.Queue fd s e)) x = s.0 ≡ x
Frees (task.Accept (accepting.Abandon fd s)) x = s.0 ≡ x
Frees (task.Accept (accepting.Free s)) x = s.0 ≡ x
Frees (task.Serve s (serving.Order tag at)) x = FreesAt at x
Frees (task.Notify n at) x = n.request.0 ≡ x
Frees t x = ⊥

-- sessions, and requests whose replies are to come
abbrev pub Base : Knowledge → ℕ → Type 0
Base d x = ((c : Connection) × IsKnown d x c) ⊎ ((k : Kept) × (find nat_cmp x d.kept ≡ Some k))

abbrev pub IsEvent : Knowledge → ℕ → Type 0
IsEvent d x = (k : ℕ) × (c : Connection) × IsKnown d k c × (c.event.0 ≡ x)

-- a connection that was known, with its event and its descriptor
abbrev pub Was : Knowledge → ℕ → Connection → Type 0
Was d k b = (c : Connection) × IsKnown d k c × (b.event ≡ c.event) × (b.descriptor ≡ c.descriptor)

-- what is known then was known, but for these
pub record Passes (d f : Knowledge) (New : ℕ → Type 0) (NewKnown : ℕ → Connection → Type 0) : Type 0 where
  pub base : (x : ℕ) → Base f x → Base d x ⊎ New x
  pub known : (k : ℕ) (b : Connection) → IsKnown f k b → Was d k b ⊎ NewKnown k b

abbrev pub No : ℕ → Type 0
No x = ⊥

abbrev pub NoneNew : ℕ → Connection → Type 0
NoneNew k b = ⊥

-- the event of a new one
abbrev pub EventIn : (ℕ → Connection → Type 0) → ℕ → Type 0
EventIn NewKnown x = (k : ℕ) × (b : Connection) × NewKnown k b × (b.event.0 ≡ x)

pub events-pass : (d f : Knowledge) (New : ℕ → Type 0) (NewKnown : ℕ → Connection → Type 0) → Passes d f New NewKnown → (x : ℕ) → IsEvent f x → IsEvent d x ⊎ EventIn NewKnown x
events-pass d f New NewKnown ps x w = elim (ps.known w.0 w.1 w.2) [
  | inl v ↦ inl (w.0, v.0, v.1, ap (λ (z : Obj). z.0) (sym v.2) ∙ w.3)
  | inr u ↦ inr (w.0, w.1, u, w.3)
]

module _ (d : Knowledge) (New : ℕ → Type 0) (NewKnown : ℕ → Connection → Type 0) where
  pub passes-same : (f : Knowledge) → f.connections ≡ d.connections → f.kept ≡ d.kept → Passes d f New NewKnown
  passes-same f c k = record {
    base = λ x b. elim b [ inl w ↦ inl (inl (w.0, sym (ap (find nat_cmp x) c) ∙ w.1)) | inr w ↦ inl (inr (w.0, sym (ap (find nat_cmp x) k) ∙ w.1)) ];
    known = λ j b h. inl (b, sym (ap (find nat_cmp j) c) ∙ h, refl, refl);
  }

  put-base : (s : Obj) (c : Connection) (P : ℕ → Type 0) → P s.0 → ((k : ℕ) (b : Connection) → IsKnown d k b → P k) → (k : ℕ) (b : Connection) → IsKnown (with_connection s c d) k b → P k
  put-base s c P here others k b h = put-each d (λ k b. P k) s c here (λ k b t i. others k b i) k b h

  pub passes-put : (s : Obj) (c b : Connection) → IsKnown d s.0 b → c.event ≡ b.event → c.descriptor ≡ b.descriptor → Passes d (with_connection s c d) New NewKnown
  passes-put s c b known same_event same_descriptor = record {
    base = λ x w. elim w [
      | inl v ↦ put-base s c (λ k. Base d k ⊎ New k) (inl (inl (b, known))) (λ k o h. inl (inl (o, h))) x v.0 v.1
      | inr v ↦ inl (inr v)
    ];
    known = λ j a h. inl (put-each d (Was d) s c (b, known, same_event, same_descriptor) (λ k o t i. (o, i, refl, refl)) j a h);
  }

abbrev pub IsNew : Obj → Connection → ℕ → Connection → Type 0
IsNew s c k b = (s.0 ≡ k) × (b.event ≡ c.event) × (b.descriptor ≡ c.descriptor)

pub passes-new : (d : Knowledge) (s : Obj) (c : Connection) → Passes d (with_connection s c d) (λ x. s.0 ≡ x) (IsNew s c)
passes-new d s c = record {
  base = λ x w. elim w [
    | inl v ↦ put-each d (λ k b. Base d k ⊎ (s.0 ≡ k)) s c (inr refl) (λ k o t h. inl (inl (o, h))) x v.0 v.1
    | inr v ↦ inl (inr v)
  ];
  known = λ j a h. put-each d (λ k b. Was d k b ⊎ IsNew s c k b) s c (inr (refl, refl, refl)) (λ k o t i. inl (o, i, refl, refl)) j a h;
}

pub passes-keep : (d : Knowledge) (x : Obj) (k : Kept) (NewKnown : ℕ → Connection → Type 0) → Passes d (keeping x k d) (λ y. x.0 ≡ y) NewKnown
passes-keep d x k NewKnown = record {
  base = λ y w. elim w [
    | inl v ↦ inl (inl v)
    | inr v ↦ by_test (eq_by_cmp nat_cmp y x.0)
        (λ t. inr (sym (same-number y x.0 t)))
        (λ t. inl (inr (v.0, sym (found-other y x.0 k d.kept t) ∙ v.1)))
  ];
  known = λ j b h. inl (b, h, refl, refl);
}

-- ---- what is done next

-- no event is freed by a call, where none of these numbers is an event's
abbrev pub CallSpares : Pool → (ℕ → Type 0) → Call → Type 0
CallSpares p Mine c = (e k : Obj) (fd : ℕ) → Tended e k fd p → ((x : ℕ) → Mine x → x ≢ e.0) → SparesCall e k fd c

abbrev pub Mine : Knowledge → Task → ℕ → Type 0
Mine e t x = Base e x ⊎ Frees t x

abbrev pub DoesWell : Knowledge → Pool → Task → Next → Type 0
DoesWell e p t (Does c u f) = Passes e f No NoneNew × ((x : ℕ) → Frees u x → Frees t x) × (f.runs ≡ e.runs) × CallSpares p (Mine e t) c
DoesWell e p t (Returns f) = Passes e f No NoneNew × (f.runs ≡ e.runs)

apart : (x e : Obj) → x.0 ≢ e.0 → x ≢ e
apart x e n s = n (ap (λ (z : Obj). z.0) s)

module _ (e : Knowledge) (p : Pool) where
  still : Passes e e No NoneNew
  still = passes-same e No NoneNew e refl refl

  abbrev IfSpares : (ℕ → Type 0) → Option Call → Type 0
  IfSpares Own None = Unit {0}
  IfSpares Own (Some c) = CallSpares p Own c

  doing-well : (t u : Task) (f : Knowledge) (o : Option Call) → Passes e f No NoneNew → f.runs ≡ e.runs → ((x : ℕ) → Frees u x → Frees t x) → IfSpares (Mine e t) o → DoesWell e p t (doing f u o)
  doing-well t u f None s r frees calls = (s, r)
  doing-well t u f (Some c) s r frees calls = (s, frees, r, calls)

  fulfilling-spares : (s queue : Obj) (at : Fulfilling) (Own : ℕ → Type 0) → ((x : ℕ) → FreesAt at x → Own x) → IfSpares Own (fulfilling_call s queue at)
  fulfilling-spares s queue (fulfilling.Undo request why) Own own = λ ev k fd t h. apart request ev (h request.0 (own request.0 refl))
  fulfilling-spares s queue fulfilling.Call Own own = tt
  fulfilling-spares s queue fulfilling.Parent Own own = tt
  fulfilling-spares s queue (fulfilling.Sleep delay) Own own = λ ev k fd t h. tt
  fulfilling-spares s queue (fulfilling.Now request delay) Own own = λ ev k fd t h. tt
  fulfilling-spares s queue (fulfilling.EndTime request now delay) Own own = λ ev k fd t h. tt
  fulfilling-spares s queue (fulfilling.Job delay) Own own = λ ev k fd t h. tt
  fulfilling-spares s queue (fulfilling.Enqueue request delay) Own own = λ ev k fd t h. tt
  fulfilling-spares s queue (fulfilling.Callback request) Own own = λ ev k fd t h. tt

  -- a connection that is known is served
  serving-well : (t : Task) (f : Knowledge) (s : Obj) (c : Connection) (at : Serving) → Passes e f No NoneNew → f.runs ≡ e.runs → ((x : ℕ) → Frees (task.Serve s at) x → Frees t x) → Base e s.0 → DoesWell e p t (doing f (task.Serve s at) (serving_call s c at))
  serving-well t f s c serving.Read ps r frees known = (ps, frees, r, λ ev k fd x h. tt)
  serving-well t f s c serving.Lines ps r frees known = (ps, r)
  serving-well t f s c (serving.Order tag at) ps r frees known = doing-well t (task.Serve s (serving.Order tag at)) f (fulfilling_call s c.queue at) ps r frees (fulfilling-spares s c.queue at (Mine e t) (λ x h. inr (frees x h)))
  serving-well t f s c serving.Write ps r frees known = each c.unsent
    where
      each : (u : List ℕ) → DoesWell e p t (doing f (task.Serve s serving.Write) (write_call c.descriptor u))
      each [] = (ps, r)
      each (b ∷ bs) = (ps, frees, r, λ ev k fd x h. tt)
  serving-well t f s c serving.Flags ps r frees known = (ps, frees, r, λ ev k fd x h. tt)
  serving-well t f s c serving.Leave ps r frees known = (ps, frees, r, λ ev k fd x h. apart s ev (h s.0 (inl known)))

  lines-well : (s : Obj) (c : Connection) → IsKnown e s.0 c → DoesWell e p (task.Serve s serving.Lines) (serves e p s serving.Lines (Some c))
  lines-well s c known = each w.wanted (progress-served p s c) (progress-home p s c)
    where
      w : Progress
      w = progress_of p s c

      c' : Connection
      c' = progressed w c

      e' : Knowledge
      e' = with_connection s c' e

      ps : Passes e e' No NoneNew
      ps = passes-put e No NoneNew s c' c known refl refl

      on : (o : Option Serving) → ((at : Serving) → o ≡ Some at → (x : ℕ) → Frees (task.Serve s at) x → ⊥) → DoesWell e p (task.Serve s serving.Lines) (serving_on e' s c' o)
      on None h = (ps, refl)
      on (Some at) h = serving-well (task.Serve s serving.Lines) e' s c' at ps refl (h at refl) (inl (c, known))

      after : (o : Option Serving) → o ≡ after_reading c' → (at : Serving) → o ≡ Some at → (x : ℕ) → Frees (task.Serve s at) x → ⊥
      after o is serving.Read i x h = h
      after o is serving.Lines i x h = h
      after o is serving.Write i x h = h
      after o is serving.Flags i x h = h
      after o is serving.Leave i x h = h
      after o is (serving.Order tag at) i x h = no-order c'.unsent (flags_to_set c') (sym is ∙ i)
        where
          flags : (o : Option ℕ) → flagging o ≡ Some (serving.Order tag at) → ⊥
          flags None j = cc
          flags (Some n) j = cc

          no-order : (u : List ℕ) (o : Option ℕ) → unless_empty u (flagging o) ≡ Some (serving.Order tag at) → ⊥
          no-order [] o j = flags o j
          no-order (b ∷ bs) o j = cc

      ordered : (tag : ℕ) (o : Order) (served : IfWanted (Some (tag, o))) → IfHome p s (Some (tag, o)) → IfSpares (Mine e (task.Serve s serving.Lines)) (order_call s c' o)
      ordered tag (order.Call call) served home = λ ev k fd t h. line-spares p s ev k fd t call served home
      ordered tag (order.Sleep n) served home = λ ev k fd t h. tt
      ordered tag (order.Job n) served home = λ ev k fd t h. tt

      at-first : (o : Order) (x : ℕ) → FreesAt (fulfilling_for o) x → ⊥
      at-first (order.Call (call.Parent y)) x h = h
      at-first (order.Call _) x h = h
      at-first (order.Sleep n) x h = h
      at-first (order.Job n) x h = h

      each : (o : Option (ℕ × Order)) → IfWanted o → IfHome p s o → DoesWell e p (task.Serve s serving.Lines) (goes_on e' s c' o)
      each None served home = on (after_reading c') (after (after_reading c') refl)
      each (Some (tag, o)) served home = doing-well (task.Serve s serving.Lines) (task.Serve s (serving.Order tag (fulfilling_for o))) e' (order_call s c' o) ps refl (at-first o) (ordered tag o served home)

  pub does-well : (t : Task) → DoesWell e p t (does e p t)
  does-well (task.Accept at) = (still, (λ x h. h), refl, accepting-spares at)
    where
      accepting-spares : (at : Accepting) → CallSpares p (Mine e (task.Accept at)) (accepting_call at)
      accepting-spares (accepting.Abandon fd s) = λ ev k n t h. apart s ev (h s.0 (inr refl))
      accepting-spares (accepting.Free s) = λ ev k n t h. apart s ev (h s.0 (inr refl))
      accepting-spares accepting.Accept = λ ev k n t h. tt
      accepting-spares (accepting.Session fd) = λ ev k n t h. tt
      accepting-spares (accepting.Event fd s) = λ ev k n t h. tt
      accepting-spares (accepting.Autoclose fd s x) = λ ev k n t h. tt
      accepting-spares (accepting.Queue fd s x) = λ ev k n t h. tt
      accepting-spares (accepting.Close fd) = λ ev k n t h. tt
  does-well (task.Serve s at) = each at (connection_of e s) refl
    where
      each : (at : Serving) (o : Option Connection) → connection_of e s ≡ o → DoesWell e p (task.Serve s at) (serves e p s at o)
      each at None known = (still, refl)
      each serving.Lines (Some c) known = lines-well s c known
      each serving.Read (Some c) known = serving-well (task.Serve s serving.Read) e s c serving.Read still refl (λ x h. h) (inl (c, known))
      each (serving.Order tag at) (Some c) known = serving-well (task.Serve s (serving.Order tag at)) e s c (serving.Order tag at) still refl (λ x h. h) (inl (c, known))
      each serving.Write (Some c) known = serving-well (task.Serve s serving.Write) e s c serving.Write still refl (λ x h. h) (inl (c, known))
      each serving.Flags (Some c) known = serving-well (task.Serve s serving.Flags) e s c serving.Flags still refl (λ x h. h) (inl (c, known))
      each serving.Leave (Some c) known = serving-well (task.Serve s serving.Leave) e s c serving.Leave still refl (λ x h. h) (inl (c, known))
  does-well (task.Notify n at) = each (connection_of e n.session)
    where
      notifying-spares : (c : Connection) (at : Notifying) → CallSpares p (Mine e (task.Notify n at)) (notifying_call n c at)
      notifying-spares c (notifying.Free a) = λ ev k fd t h. apart n.request ev (h n.request.0 (inr refl))
      notifying-spares c notifying.Look = λ ev k fd t h. tt
      notifying-spares c (notifying.Receive a) = λ ev k fd t h. tt
      notifying-spares c notifying.Flags = λ ev k fd t h. tt

      each : (o : Option Connection) → DoesWell e p (task.Notify n at) (notifies e n at o)
      each None = (still, refl)
      each (Some c) = (still, (λ x h. h), refl, notifying-spares c at)
  does-well (task.Trigger s at) = (still, (λ x h. h), refl, triggering-spares at)
    where
      triggering-spares : (at : Triggering) → CallSpares p (Mine e (task.Trigger s at)) (triggering_call at)
      triggering-spares (triggering.Now x delay) = λ ev k fd t h. tt
      triggering-spares (triggering.EndTime x now delay) = λ ev k fd t h. tt
      triggering-spares (triggering.Oom x) = λ ev k fd t h. tt
  does-well task.Return = (still, refl)
