-- After a reply the service frees no other numbers, but for those that the reply tells.
use Rattle.std.proofs.Common.{◌≡◌, ℕ, zero, suc, Bool, true, false, List, [], ◌∷◌, Option, Some, None, refl, subst, ◌⊎◌, inl, inr}
use Rattle.std.specs.Prelude.{nat_eq, bit_and}
use Rattle.tree_specs.specs.declared.object.Obj.{Obj}
use Rattle.tree_specs.specs.declared.moment.Moment.{Moment}
use Rattle.tree_specs.specs.declared.moment.What.{What}
use Rattle.tree_specs.specs.declared.moment.What.TheVariants as what
use Rattle.tree_specs.specs.declared.reply.Reply.{Reply}
use Rattle.tree_specs.specs.declared.reply.Reply.TheVariants as reply
use Rattle.tree_specs.specs.Words.Objects.{same}
use Rattle.tree_specs.specs.Words.Ranges.{is_return}
use Rattle.service_rules.specs.declared.task.Accepting.{Accepting}
use Rattle.service_rules.specs.declared.task.Accepting.TheVariants as accepting
use Rattle.service_rules.specs.declared.task.Fulfilled.{Fulfilled}
use Rattle.service_rules.specs.declared.task.Fulfilled.TheVariants as fulfilled
use Rattle.service_rules.specs.declared.task.Fulfilling.{Fulfilling}
use Rattle.service_rules.specs.declared.task.Fulfilling.TheVariants as fulfilling
use Rattle.service_rules.specs.declared.task.Kept.{Kept}
use Rattle.service_rules.specs.declared.task.Notice.{Notice}
use Rattle.service_rules.specs.declared.task.Notifying.{Notifying}
use Rattle.service_rules.specs.declared.task.Notifying.TheVariants as notifying
use Rattle.service_rules.specs.declared.task.Serving.{Serving}
use Rattle.service_rules.specs.declared.task.Serving.TheVariants as serving
use Rattle.service_rules.specs.declared.task.Task.{Task}
use Rattle.service_rules.specs.declared.task.Task.TheVariants as task
use Rattle.service_rules.specs.declared.task.Triggering.{Triggering}
use Rattle.service_rules.specs.Answers.{answer_line, ended}
use Rattle.service_rules.specs.Knowledge.{Connection, Knowledge, connection_of, kept_of, with_connection, new_connection, saying}
use Rattle.service_rules.specs.Tasks.{accepts, object, after_fulfilling, after_triggering, after_reading, after_writing, flags_to_set, flagging, unless_empty, session_for}
use Rattle.service_rules.specs.Routines.{Heard, sent, more_came, flagged, hears, serving_hears, notifying_hears, triggering_hears, ordered, served, notified, triggered, if_listener, if_its_event, ready, begins_serving, begins_notice, begins_notifying, begins_trigger, begins_first, begins_second, begins_third, begins_fourth, begins_with}
use Rattle.service_rules.proofs.Numbers.{FreesAt, Frees, Base, Passes, passes-same, passes-put, passes-new, passes-keep}

-- the number of a reply, where there is no refusal
abbrev pub RepliedAt : Reply → ℕ → Type 0
RepliedAt (reply.No why) x = ⊥
RepliedAt (reply.Number n) x = n ≡ x
RepliedAt r x = 0 ≡ x

abbrev pub FromAt : Fulfilling → Reply → ℕ → Type 0
FromAt (fulfilling.Sleep delay) r x = RepliedAt r x
FromAt (fulfilling.Job delay) r x = RepliedAt r x
FromAt at r x = ⊥

-- the number that a task takes from the reply to its call
abbrev pub FromReply : Task → Reply → ℕ → Type 0
FromReply (task.Accept (accepting.Session fd)) (reply.Number n) x = n ≡ x
FromReply (task.Serve s (serving.Order tag at)) r x = FromAt at r x
FromReply t r x = ⊥

-- a connection is whole, with its event and its descriptor
abbrev pub NewKnown : Task → Reply → ℕ → Connection → Type 0
NewKnown (task.Accept (accepting.Queue fd s e)) (reply.Number n) k b = (s.0 ≡ k) × (b.event ≡ e) × (b.descriptor ≡ fd)
NewKnown t r k b = ⊥

pub record HearsWell (e : Knowledge) (t : Task) (r : Reply) (h : Heard) : Type 0 where
  pub passes : Passes e h.knowledge (Frees t) (NewKnown t r)
  pub frees : (x : ℕ) → Frees h.task x → Frees t x ⊎ FromReply t r x
  pub runs : h.knowledge.runs ≡ e.runs

module _ (e : Knowledge) where
  still-well : (t u : Task) (r : Reply) → ((x : ℕ) → Frees u x → Frees t x ⊎ FromReply t r x) → HearsWell e t r (record { knowledge = e; task = u })
  still-well t u r f = record { passes = passes-same e (Frees t) (NewKnown t r) e refl refl; frees = f; runs = refl }

  put-well : (t u : Task) (r : Reply) (s : Obj) (c b : Connection) → connection_of e s ≡ Some b → c.event ≡ b.event → c.descriptor ≡ b.descriptor → ((x : ℕ) → Frees u x → Frees t x ⊎ FromReply t r x) → HearsWell e t r (record { knowledge = with_connection s c e; task = u })
  put-well t u r s c b known same_event same_descriptor f = record { passes = passes-put e (Frees t) (NewKnown t r) s c b known same_event same_descriptor; frees = f; runs = refl }

  session-frees : (fd : ℕ) (x : ℕ) → Frees (session_for fd) x → ⊥
  session-frees fd x = each (is_return fd)
    where
      each : (b : Bool) → Frees (elim b [ true ↦ accepts (accepting.Session fd) | false ↦ task.Return ]) x → ⊥
      each true h = h
      each false h = h

  accept-well : (at : Accepting) (r : Reply) → HearsWell e (task.Accept at) r (hears e (task.Accept at) r)
  accept-well (accepting.Queue fd s q) (reply.Number n) = record { passes = passes-new e s (new_connection fd q (object n)); frees = λ x h. absurd h; runs = refl }
  accept-well (accepting.Queue fd s q) (reply.No why) = still-well (task.Accept (accepting.Queue fd s q)) (accepts (accepting.Free s)) (reply.No why) (λ x h. inl h)
  accept-well (accepting.Queue fd s q) r = still-well (task.Accept (accepting.Queue fd s q)) task.Return r (λ x h. absurd h)
  accept-well accepting.Accept (reply.Number fd) = still-well (task.Accept accepting.Accept) (session_for fd) (reply.Number fd) (λ x h. absurd (session-frees fd x h))
  accept-well accepting.Accept r = still-well (task.Accept accepting.Accept) task.Return r (λ x h. absurd h)
  accept-well (accepting.Session fd) (reply.Number n) = still-well (task.Accept (accepting.Session fd)) (accepts (accepting.Event fd (object n))) (reply.Number n) (λ x h. inr h)
  accept-well (accepting.Session fd) r = still-well (task.Accept (accepting.Session fd)) (accepts (accepting.Close fd)) r (λ x h. absurd h)
  accept-well (accepting.Event fd s) (reply.Number n) = still-well (task.Accept (accepting.Event fd s)) (accepts (accepting.Autoclose fd s (object n))) (reply.Number n) (λ x h. inl h)
  accept-well (accepting.Event fd s) r = still-well (task.Accept (accepting.Event fd s)) (accepts (accepting.Abandon fd s)) r (λ x h. inl h)
  accept-well (accepting.Autoclose fd s q) r = still-well (task.Accept (accepting.Autoclose fd s q)) (accepts (accepting.Queue fd s q)) r (λ x h. inl h)
  accept-well (accepting.Abandon fd s) r = still-well (task.Accept (accepting.Abandon fd s)) (accepts (accepting.Close fd)) r (λ x h. absurd h)
  accept-well (accepting.Close fd) r = still-well (task.Accept (accepting.Close fd)) task.Return r (λ x h. absurd h)
  accept-well (accepting.Free s) r = still-well (task.Accept (accepting.Free s)) task.Return r (λ x h. absurd h)

  served-frees : (s : Obj) (o : Option Serving) → ((at : Serving) → o ≡ Some at → (x : ℕ) → Frees (task.Serve s at) x → ⊥) → (x : ℕ) → Frees (served s o) x → ⊥
  served-frees s None h x f = f
  served-frees s (Some at) h x f = h at refl x f

  -- ---- a line's order

  abbrev FulfilledWell : Fulfilling → Reply → Fulfilled → Type 0
  FulfilledWell at r (fulfilled.Next u) = (x : ℕ) → FreesAt u x → FreesAt at x ⊎ FromAt at r x
  FulfilledWell at r (fulfilled.Kept request) = FreesAt at request.0
  FulfilledWell at r (fulfilled.Answered a) = Unit {0}

  fulfilled-well : (at : Fulfilling) (r : Reply) (s : Obj) → FulfilledWell at r (after_fulfilling at r s)
  fulfilled-well fulfilling.Call r s = tt
  fulfilled-well fulfilling.Parent r s = tt
  fulfilled-well (fulfilling.Sleep delay) (reply.No why) s = tt
  fulfilled-well (fulfilling.Sleep delay) (reply.Number n) s = λ x h. inr h
  fulfilled-well (fulfilling.Sleep delay) _ s = λ x h. inr h
  fulfilled-well (fulfilling.Now request delay) (reply.No why) s = λ x h. inl h
  fulfilled-well (fulfilling.Now request delay) (reply.Number n) s = λ x h. inl h
  fulfilled-well (fulfilling.Now request delay) _ s = λ x h. inl h
  fulfilled-well (fulfilling.EndTime request now delay) (reply.No why) s = λ x h. inl h
  fulfilled-well (fulfilling.EndTime request now delay) (reply.Number n) s = λ x h. inl h
  fulfilled-well (fulfilling.EndTime request now delay) _ s = λ x h. inl h
  fulfilled-well (fulfilling.Job delay) (reply.No why) s = tt
  fulfilled-well (fulfilling.Job delay) (reply.Number n) s = λ x h. inr h
  fulfilled-well (fulfilling.Job delay) _ s = λ x h. inr h
  fulfilled-well (fulfilling.Enqueue request delay) (reply.No why) s = λ x h. inl h
  fulfilled-well (fulfilling.Enqueue request delay) (reply.Number n) s = λ x h. inl h
  fulfilled-well (fulfilling.Enqueue request delay) _ s = λ x h. inl h
  fulfilled-well (fulfilling.Callback request) (reply.No why) s = λ x h. inl h
  fulfilled-well (fulfilling.Callback request) (reply.Number n) s = refl
  fulfilled-well (fulfilling.Callback request) _ s = refl
  fulfilled-well (fulfilling.Undo request why) (reply.No other) s = tt
  fulfilled-well (fulfilling.Undo request why) (reply.Number n) s = tt
  fulfilled-well (fulfilling.Undo request why) _ s = tt

  order-well : (s : Obj) (c : Connection) (tag : ℕ) (at : Fulfilling) (r : Reply) (o : Fulfilled) → connection_of e s ≡ Some c → FulfilledWell at r o → HearsWell e (task.Serve s (serving.Order tag at)) r (ordered e s c tag o)
  order-well s c tag at r (fulfilled.Next u) known w = still-well (task.Serve s (serving.Order tag at)) (task.Serve s (serving.Order tag u)) r w
  order-well s c tag at r (fulfilled.Answered a) known w = put-well (task.Serve s (serving.Order tag at)) (task.Serve s serving.Lines) r s (saying (answer_line tag a) c) c known refl refl (λ x h. absurd h)
  order-well s c tag at r (fulfilled.Kept request) known w = record {
    passes = let k = passes-keep e request (record { session = s; tag = tag }) (NewKnown (task.Serve s (serving.Order tag at)) r) in record {
      base = λ x b. elim (k.base x b) [ inl v ↦ inl v | inr v ↦ inr (subst (FreesAt at) v w) ];
      known = k.known;
    };
    frees = λ x h. absurd h;
    runs = refl;
  }

  -- ---- all tasks

  reading-frees : (s : Obj) (c : Connection) (x : ℕ) → Frees (served s (after_reading c)) x → ⊥
  reading-frees s c x = each c.unsent
    where
      flags : (o : Option ℕ) → Frees (served s (flagging o)) x → ⊥
      flags None h = h
      flags (Some n) h = h

      each : (u : List ℕ) → Frees (served s (unless_empty u (flagging (flags_to_set c)))) x → ⊥
      each [] h = flags (flags_to_set c) h
      each (b ∷ bs) h = h

  writing-frees : (s : Obj) (c : Connection) (x : ℕ) → Frees (served s (after_writing c)) x → ⊥
  writing-frees s c x = flags (flags_to_set c)
    where
      flags : (o : Option ℕ) → Frees (served s (flagging o)) x → ⊥
      flags None h = h
      flags (Some n) h = h

  serve-well : (s : Obj) (at : Serving) (r : Reply) (o : Option Connection) → connection_of e s ≡ o → HearsWell e (task.Serve s at) r (serving_hears e s at r o)
  serve-well s at r None known = still-well (task.Serve s at) task.Return r (λ x h. absurd h)
  serve-well s serving.Read (reply.Bytes bytes) (Some c) known = put-well (task.Serve s serving.Read) (task.Serve s serving.Lines) (reply.Bytes bytes) s (more_came bytes c) c known refl refl (λ x h. absurd h)
  serve-well s serving.Read reply.End (Some c) known = still-well (task.Serve s serving.Read) (task.Serve s serving.Leave) reply.End (λ x h. absurd h)
  serve-well s serving.Read reply.Fault (Some c) known = still-well (task.Serve s serving.Read) (task.Serve s serving.Leave) reply.Fault (λ x h. absurd h)
  serve-well s serving.Read r (Some c) known = still-well (task.Serve s serving.Read) (served s (after_reading c)) r (λ x h. absurd (reading-frees s c x h))
  serve-well s serving.Lines r (Some c) known = still-well (task.Serve s serving.Lines) task.Return r (λ x h. absurd h)
  serve-well s (serving.Order tag at) r (Some c) known = order-well s c tag at r (after_fulfilling at r s) known (fulfilled-well at r s)
  serve-well s serving.Write (reply.Number n) (Some c) known = put-well (task.Serve s serving.Write) (served s (after_writing (sent n c))) (reply.Number n) s (sent n c) c known refl refl (λ x h. absurd (writing-frees s (sent n c) x h))
  serve-well s serving.Write reply.Fault (Some c) known = still-well (task.Serve s serving.Write) (task.Serve s serving.Leave) reply.Fault (λ x h. absurd h)
  serve-well s serving.Write r (Some c) known = still-well (task.Serve s serving.Write) (served s (after_writing c)) r (λ x h. absurd (writing-frees s c x h))
  serve-well s serving.Flags r (Some c) known = put-well (task.Serve s serving.Flags) task.Return r s (flagged c) c known refl refl (λ x h. absurd h)
  serve-well s serving.Leave r (Some c) known = still-well (task.Serve s serving.Leave) task.Return r (λ x h. absurd h)

  notify-well : (n : Notice) (at : Notifying) (r : Reply) (o : Option Connection) → connection_of e n.session ≡ o → HearsWell e (task.Notify n at) r (notifying_hears e n at r o)
  notify-well n at r None known = still-well (task.Notify n at) task.Return r (λ x h. absurd h)
  notify-well n notifying.Look r (Some c) known = still-well (task.Notify n notifying.Look) (task.Notify n (notifying.Receive (ended r))) r (λ x h. inl h)
  notify-well n (notifying.Receive a) r (Some c) known = still-well (task.Notify n (notifying.Receive a)) (task.Notify n (notifying.Free a)) r (λ x h. inl h)
  notify-well n (notifying.Free a) r (Some c) known = put-well (task.Notify n (notifying.Free a)) (notified n (flags_to_set (saying (answer_line n.tag a) c))) r n.session (saying (answer_line n.tag a) c) c known refl refl (λ x h. inl (each (flags_to_set (saying (answer_line n.tag a) c)) x h))
    where
      each : (o : Option ℕ) (x : ℕ) → Frees (notified n o) x → n.request.0 ≡ x
      each None x h = absurd h
      each (Some flags) x h = h
  notify-well n notifying.Flags r (Some c) known = put-well (task.Notify n notifying.Flags) task.Return r n.session (flagged c) c known refl refl (λ x h. absurd h)

  trigger-well : (s : Obj) (at : Triggering) (r : Reply) (o : Option Connection) → HearsWell e (task.Trigger s at) r (triggering_hears e s at r o)
  trigger-well s at r None = still-well (task.Trigger s at) task.Return r (λ x h. absurd h)
  trigger-well s at r (Some c) = still-well (task.Trigger s at) (triggered s (after_triggering at r)) r (λ x h. absurd (each (after_triggering at r) x h))
    where
      each : (o : Option Triggering) (x : ℕ) → Frees (triggered s o) x → ⊥
      each None x h = h
      each (Some at) x h = h

  pub hears-well : (t : Task) (r : Reply) → HearsWell e t r (hears e t r)
  hears-well (task.Accept at) r = accept-well at r
  hears-well (task.Serve s at) r = serve-well s at r (connection_of e s) refl
  hears-well (task.Notify n at) r = notify-well n at r (connection_of e n.session) refl
  hears-well (task.Trigger s at) r = trigger-well s at r (connection_of e s)
  hears-well task.Return r = still-well task.Return task.Return r (λ x h. absurd h)

  -- ---- where a routine begins

  served-none : (s : Obj) (flags : ℕ) (c : Connection) (x : ℕ) → Frees (served s (ready flags c)) x → ⊥
  served-none s flags c x = each (nat_eq (bit_and flags 1) 0)
    where
      each : (b : Bool) → Frees (served s (elim b [ true ↦ after_reading c | false ↦ Some serving.Read ])) x → ⊥
      each true h = reading-frees s c x h
      each false h = h

  pub begins-base : (n : ℕ) (m : Moment) (x : ℕ) → Frees (begins_with n e m) x → Base e x
  begins-base zero m x h = absurd h
  begins-base (suc zero) m x h = first m.what h
    where
      listener-frees : (b : Bool) → Frees (if_listener b) x → ⊥
      listener-frees true h = h
      listener-frees false h = h

      first : (w : What) → Frees (begins_first m w) x → Base e x
      first what.Descriptor h = absurd (listener-frees (same m.object _) h)
      first _ h = absurd h
  begins-base (suc (suc zero)) m x h = second m.what h
    where
      its-event : (c : Connection) (b : Bool) → Frees (if_its_event b (object m.user) (ready m.flags c)) x → ⊥
      its-event c true h = served-none (object m.user) m.flags c x h
      its-event c false h = h

      found : (o : Option Connection) → Frees (begins_serving m o) x → Base e x
      found None h = absurd h
      found (Some c) h = absurd (its-event c (same c.event m.object) h)

      second : (w : What) → Frees (begins_second e m w) x → Base e x
      second what.Descriptor h = found (connection_of e (object m.user)) h
      second _ h = absurd h
  begins-base (suc (suc (suc zero))) m x h = third m.what h
    where
      notice : (k : Kept) (o : Option Connection) → kept_of e m.object ≡ Some k → Frees (begins_notice m.object k o) x → Base e x
      notice k None is h = absurd h
      notice k (Some c) is h = subst (Base e) h (inr (k, is))

      found : (o : Option Kept) → kept_of e m.object ≡ o → Frees (begins_notifying e m.object o) x → Base e x
      found None is h = absurd h
      found (Some k) is h = notice k (connection_of e k.session) is h

      third : (w : What) → Frees (begins_third e m w) x → Base e x
      third what.Callback h = found (kept_of e m.object) refl h
      third _ h = absurd h
  begins-base (suc (suc (suc (suc zero)))) m x h = fourth m.what h
    where
      found : (o : Option Kept) → Frees (begins_trigger m o) x → Base e x
      found None h = absurd h
      found (Some k) h = absurd h

      fourth : (w : What) → Frees (begins_fourth e m w) x → Base e x
      fourth what.Trigger h = found (kept_of e m.object) h
      fourth _ h = absurd h
  begins-base (suc (suc (suc (suc (suc n))))) m x h = absurd h
