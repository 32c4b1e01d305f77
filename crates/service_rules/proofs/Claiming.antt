-- What a run that accepts claims: the event that it made for the descriptor is its own, and nobody frees it.
use Rattle.std.proofs.Common.{◌≡◌, ◌≢◌, ℕ, zero, suc, ◌<◌, Bool, true, false, List, ◌∷◌, Option, Some, None, refl}
use Rattle.tree_specs.specs.declared.object.Obj.{Obj}
use Rattle.tree_specs.specs.declared.call.Call.{Call}
use Rattle.tree_specs.specs.declared.reply.Reply.{Reply}
use Rattle.tree_specs.specs.declared.reply.Reply.TheVariants as reply
use Rattle.tree_specs.specs.declared.moment.Moment.{Moment}
use Rattle.tree_specs.specs.declared.moment.What.{What}
use Rattle.tree_specs.specs.declared.moment.What.TheVariants as what
use Rattle.tree_specs.specs.declared.question.Ask.{Ask}
use Rattle.tree_specs.specs.declared.question.Ask.TheVariants as ask
use Rattle.tree_specs.specs.declared.frame.Frame.{Frame}
use Rattle.tree_specs.specs.declared.frame.Frame.TheVariants as frame
use Rattle.tree_specs.specs.declared.frame.CallFrame.{CallFrame}
use Rattle.tree_specs.specs.declared.frame.CallFrame.TheVariants.{Asking, Doing, Turning, Announcing, Telling}
use Rattle.tree_specs.specs.declared.frame.OutsideFrame.{OutsideFrame}
use Rattle.tree_specs.specs.declared.frame.OutsideFrame.TheVariants.{Reaching, Opening, Hearing}
use Rattle.tree_specs.specs.Words.Objects.{same}
use Rattle.tree_specs.specs.Words.Ranges.{is_return}
use Rattle.tree_specs.specs.Tree.Pool.{Pool}
use Rattle.service_rules.specs.declared.order.Order.{Order}
use Rattle.service_rules.specs.declared.task.Accepting.{Accepting}
use Rattle.service_rules.specs.declared.task.Accepting.TheVariants as accepting
use Rattle.service_rules.specs.declared.task.Fulfilled.{Fulfilled}
use Rattle.service_rules.specs.declared.task.Fulfilled.TheVariants as fulfilled
use Rattle.service_rules.specs.declared.task.Kept.{Kept}
use Rattle.service_rules.specs.declared.task.Notifying.{Notifying}
use Rattle.service_rules.specs.declared.task.Notifying.TheVariants as notifying
use Rattle.service_rules.specs.declared.task.Run.{Run}
use Rattle.service_rules.specs.declared.task.Run.TheVariants.{Own}
use Rattle.service_rules.specs.declared.task.Serving.{Serving}
use Rattle.service_rules.specs.declared.task.Serving.TheVariants as serving
use Rattle.service_rules.specs.declared.task.Task.{Task}
use Rattle.service_rules.specs.declared.task.Task.TheVariants as task
use Rattle.service_rules.specs.declared.task.Triggering.{Triggering}
use Rattle.service_rules.specs.Knowledge.{Connection, Knowledge, connection_of, kept_of, with_connection, without_run, rest_of, saying}
use Rattle.service_rules.specs.Answers.{answer_line}
use Rattle.service_rules.specs.Tasks.{accepts, object, after_accepting, after_reading, after_writing, after_fulfilling, after_triggering, flags_to_set, serving_call, fulfilling_call}
use Rattle.service_rules.specs.Routines.{Next, does, doing, serves, serving_on, goes_on, order_call, notifies, progress_of, progressed, hears, serving_hears, notifying_hears, triggering_hears, ordered, served, notified, triggered, sent, if_listener, if_its_event, ready, begins_serving, begins_notice, begins_notifying, begins_trigger, begins_first, begins_second, begins_third, begins_fourth, begins_with}
use Rattle.service_rules.specs.Routines.Next.{Does, Returns}
use Rattle.service_rules.proofs.Owing.{IsKnown}
use Rattle.service_rules.proofs.Tending.{Tended}
use Rattle.service_rules.proofs.SparingCalls.{SparesCall}
use Rattle.service_rules.proofs.Numbers.{Frees, Base}
use Rattle.service_rules.proofs.NumbersHeard.{FromReply}
use Rattle.service_rules.proofs.Clean.{AllRuns, IsFree}

-- ---- what is claimed

-- a connection is on its way
abbrev pub IsAccepting : Task → Type 0
IsAccepting (task.Accept accepting.Accept) = Unit {0}
IsAccepting (task.Accept (accepting.Session fd)) = Unit {0}
IsAccepting (task.Accept (accepting.Event fd s)) = Unit {0}
IsAccepting (task.Accept (accepting.Autoclose fd s e)) = Unit {0}
IsAccepting (task.Accept (accepting.Queue fd s e)) = Unit {0}
IsAccepting t = ⊥

-- its run is one for an event on a descriptor
abbrev pub RunsFor : Moment → Task → Type 0
RunsFor m t = IsAccepting t → m.what ≡ what.Descriptor

-- above these runs
module _ (d : Knowledge) (p : Pool) (runs : List Run) where
  -- the event watches the descriptor, and no task frees it
  abbrev pub Has : ℕ → Obj → Obj → Type 0
  Has fd s e = (e.0 < p.next) × ((y : ℕ) → Base d y → y ≢ e.0) × (s.0 ≢ e.0) × AllRuns (λ t. (y : ℕ) → Frees t y → y ≢ e.0) runs × Tended e s fd p

  -- before the call of a task
  abbrev pub Holds : Task → Type 0
  Holds (task.Accept (accepting.Event fd s)) = 0 < s.0
  Holds (task.Accept (accepting.Autoclose fd s e)) = Has fd s e
  Holds (task.Accept (accepting.Queue fd s e)) = Has fd s e
  Holds t = Unit {0}

  -- and after the reply
  abbrev pub HoldsAfter : Task → Reply → Type 0
  HoldsAfter (task.Accept (accepting.Session fd)) (reply.Number n) = 0 < n
  HoldsAfter (task.Accept (accepting.Event fd s)) (reply.Number n) = Has fd s (object n)
  HoldsAfter (task.Accept (accepting.Autoclose fd s e)) r = Has fd s e
  HoldsAfter (task.Accept (accepting.Queue fd s e)) (reply.Number n) = Has fd s e
  HoldsAfter t r = Unit {0}

  abbrev pub Ready : Moment → Task → Type 0
  Ready m t = RunsFor m t × Holds t

  abbrev pub Replied : Moment → Reply → Task → Type 0
  Replied m r t = RunsFor m t × HoldsAfter t r × ((x : ℕ) → FromReply t r x → IsFree d p.next x)

-- nothing has to be known of what was replied
abbrev pub Plainly : Knowledge → List Run → Moment → Reply → Task → Type 0
Plainly d runs m r t = RunsFor m t × ((p : Pool) → HoldsAfter d p runs t r) × ((x : ℕ) → FromReply t r x → ⊥)

-- of the innermost run, where it is the service's
abbrev pub OfTop : (Task → Type 0) → List Run → Type 0
OfTop P (Own t ∷ runs) = P t
OfTop P runs = Unit {0}

abbrev pub ReachedBy : Knowledge → Moment → OutsideFrame → Task → Type 0
ReachedBy d m (Reaching q) t = RunsFor m t
ReachedBy d m (Opening fd) t = Plainly d (rest_of d.runs) m (reply.Number fd) t
ReachedBy d m (Hearing r) t = Plainly d (rest_of d.runs) m r t

abbrev pub OuterClaims : Knowledge → OutsideFrame → List Frame → Type 0
OuterClaims d f (frame.Call (Turning (ask.Routine m)) ∷ fs) = OfTop (ReachedBy d m f) d.runs
OuterClaims d f fs = Unit {0}

module _ (d : Knowledge) (p : Pool) where
  -- the events of all connections are spared
  abbrev pub SparesKnown : Call → Type 0
  SparesKnown c = (k : ℕ) (b : Connection) → IsKnown d k b → Tended b.event (object k) b.descriptor p → SparesCall b.event (object k) b.descriptor c

  abbrev pub AskedClaims : Moment → Option Reply → Type 0
  AskedClaims m None = Unit {0}
  AskedClaims m (Some r) = OfTop (Replied d p (rest_of d.runs) m r) d.runs

  abbrev pub ToldClaims : Ask → Reply → Type 0
  ToldClaims (ask.Routine m) r = OfTop (Replied d p (rest_of d.runs) m r) d.runs
  ToldClaims q r = Unit {0}

  abbrev pub DoesClaims : Ask → Call → Type 0
  DoesClaims (ask.Routine m) c = OfTop (Ready d p (rest_of d.runs) m) d.runs × SparesKnown c
  DoesClaims q c = Unit {0}

  abbrev pub CallerClaims : CallFrame → Type 0
  CallerClaims (Asking (ask.Routine m)) = AskedClaims m m.last
  CallerClaims (Doing q c) = DoesClaims q c
  CallerClaims (Announcing q notice r) = ToldClaims q r
  CallerClaims (Telling q r) = ToldClaims q r
  CallerClaims f = Unit {0}

  -- of the innermost work
  abbrev pub Claims : Frame → List Frame → Type 0
  Claims (frame.Call f) fs = CallerClaims f
  Claims (frame.Outside f) fs = OuterClaims d f fs
  Claims f fs = Unit {0}

-- ---- a task that accepts nothing

abbrev pub IsPlain : Task → Type 0
IsPlain (task.Accept at) = ⊥
IsPlain t = Unit {0}

pub plain-ready : (d : Knowledge) (p : Pool) (runs : List Run) (m : Moment) (t : Task) → IsPlain t → Ready d p runs m t
plain-ready d p runs m (task.Accept at) h = absurd h
plain-ready d p runs m (task.Serve s at) h = ((λ a. absurd a), tt)
plain-ready d p runs m (task.Notify n at) h = ((λ a. absurd a), tt)
plain-ready d p runs m (task.Trigger s at) h = ((λ a. absurd a), tt)
plain-ready d p runs m task.Return h = ((λ a. absurd a), tt)

abbrev pub PlainNext : Next → Type 0
PlainNext (Does c t e) = IsPlain t
PlainNext (Returns e) = Unit {0}

doing-plain : (e : Knowledge) (t : Task) (o : Option Call) → IsPlain t → PlainNext (doing e t o)
doing-plain e t None h = tt
doing-plain e t (Some c) h = h

-- goes on so
pub does-plain : (e : Knowledge) (p : Pool) (t : Task) → IsPlain t → PlainNext (does e p t)
does-plain e p (task.Accept at) h = absurd h
does-plain e p (task.Serve s at) h = each at (connection_of e s)
  where
    on : (f : Knowledge) (c : Connection) (o : Option Serving) → PlainNext (serving_on f s c o)
    on f c None = tt
    on f c (Some at) = doing-plain f (task.Serve s at) (serving_call s c at) tt

    wanted : (f : Knowledge) (c : Connection) (o : Option (ℕ × Order)) → PlainNext (goes_on f s c o)
    wanted f c None = on f c (after_reading c)
    wanted f c (Some (tag, o)) = doing-plain f _ (order_call s c o) tt

    each : (at : Serving) (o : Option Connection) → PlainNext (serves e p s at o)
    each at None = tt
    each serving.Lines (Some c) = wanted (with_connection s (progressed (progress_of p s c) c) e) (progressed (progress_of p s c) c) (progress_of p s c).wanted
    each serving.Read (Some c) = doing-plain e (task.Serve s serving.Read) (serving_call s c serving.Read) tt
    each (serving.Order tag at) (Some c) = doing-plain e (task.Serve s (serving.Order tag at)) (fulfilling_call s c.queue at) tt
    each serving.Write (Some c) = doing-plain e (task.Serve s serving.Write) (serving_call s c serving.Write) tt
    each serving.Flags (Some c) = doing-plain e (task.Serve s serving.Flags) (serving_call s c serving.Flags) tt
    each serving.Leave (Some c) = doing-plain e (task.Serve s serving.Leave) (serving_call s c serving.Leave) tt
does-plain e p (task.Notify n at) h = each (connection_of e n.session)
  where
    each : (o : Option Connection) → PlainNext (notifies e n at o)
    each None = tt
    each (Some c) = tt
does-plain e p (task.Trigger s at) h = tt
does-plain e p task.Return h = tt

served-plain : (s : Obj) (o : Option Serving) → IsPlain (served s o)
served-plain s None = tt
served-plain s (Some at) = tt

pub hears-plain : (e : Knowledge) (t : Task) (r : Reply) → IsPlain t → IsPlain (hears e t r).task
hears-plain e (task.Accept at) r h = absurd h
hears-plain e (task.Serve s at) r h = each at r (connection_of e s)
  where
    order : (c : Connection) (tag : ℕ) (o : Fulfilled) → IsPlain (ordered e s c tag o).task
    order c tag (fulfilled.Next u) = tt
    order c tag (fulfilled.Answered a) = tt
    order c tag (fulfilled.Kept request) = tt

    each : (at : Serving) (r : Reply) (o : Option Connection) → IsPlain (serving_hears e s at r o).task
    each at r None = tt
    each serving.Read (reply.Bytes bytes) (Some c) = tt
    each serving.Read reply.End (Some c) = tt
    each serving.Read reply.Fault (Some c) = tt
    each serving.Read _ (Some c) = served-plain s (after_reading c)
    each (serving.Order tag at) r (Some c) = order c tag (after_fulfilling at r s)
    each serving.Write (reply.Number n) (Some c) = served-plain s (after_writing (sent n c))
    each serving.Write reply.Fault (Some c) = tt
    each serving.Write _ (Some c) = served-plain s (after_writing c)
    each serving.Lines r (Some c) = tt
    each serving.Flags r (Some c) = tt
    each serving.Leave r (Some c) = tt
hears-plain e (task.Notify n at) r h = each at (connection_of e n.session)
  where
    flags : (o : Option ℕ) → IsPlain (notified n o)
    flags None = tt
    flags (Some k) = tt

    each : (at : Notifying) (o : Option Connection) → IsPlain (notifying_hears e n at r o).task
    each at None = tt
    each notifying.Look (Some c) = tt
    each (notifying.Receive a) (Some c) = tt
    each (notifying.Free a) (Some c) = flags (flags_to_set (saying (answer_line n.tag a) c))
    each notifying.Flags (Some c) = tt
hears-plain e (task.Trigger s at) r h = each (connection_of e s)
  where
    on : (o : Option Triggering) → IsPlain (triggered s o)
    on None = tt
    on (Some at) = tt

    each : (o : Option Connection) → IsPlain (triggering_hears e s at r o).task
    each None = tt
    each (Some c) = on (after_triggering at r)
hears-plain e task.Return r h = tt

-- ---- where a routine begins

-- it is to accept, where it is that of an event on a descriptor, or accepts nothing
abbrev pub MayBegin : Moment → Task → Type 0
MayBegin m (task.Accept accepting.Accept) = m.what ≡ what.Descriptor
MayBegin m (task.Accept at) = ⊥
MayBegin m t = Unit {0}

pub begins-ready : (d : Knowledge) (p : Pool) (runs : List Run) (m : Moment) (t : Task) → MayBegin m t → Ready d p runs m t
begins-ready d p runs m (task.Accept accepting.Accept) h = ((λ a. h), tt)
begins-ready d p runs m (task.Accept _) h = absurd h
begins-ready d p runs m (task.Serve s at) h = ((λ a. absurd a), tt)
begins-ready d p runs m (task.Notify n at) h = ((λ a. absurd a), tt)
begins-ready d p runs m (task.Trigger s at) h = ((λ a. absurd a), tt)
begins-ready d p runs m task.Return h = ((λ a. absurd a), tt)

served-begins : (m : Moment) (s : Obj) (o : Option Serving) → MayBegin m (served s o)
served-begins m s None = tt
served-begins m s (Some at) = tt

pub begins-may : (n : ℕ) (d : Knowledge) (m : Moment) → MayBegin m (begins_with n d m)
begins-may zero d m = tt
begins-may (suc zero) d m = each m.what refl
  where
    listens : m.what ≡ what.Descriptor → (b : Bool) → MayBegin m (if_listener b)
    listens is true = is
    listens is false = tt

    each : (w : What) → m.what ≡ w → MayBegin m (begins_first m w)
    each what.Descriptor is = listens is (same m.object _)
    each _ is = tt
begins-may (suc (suc zero)) d m = each m.what
  where
    its-event : (c : Connection) (b : Bool) → MayBegin m (if_its_event b (object m.user) (ready m.flags c))
    its-event c true = served-begins m (object m.user) (ready m.flags c)
    its-event c false = tt

    found : (o : Option Connection) → MayBegin m (begins_serving m o)
    found None = tt
    found (Some c) = its-event c (same c.event m.object)

    each : (w : What) → MayBegin m (begins_second d m w)
    each what.Descriptor = found (connection_of d (object m.user))
    each _ = tt
begins-may (suc (suc (suc zero))) d m = each m.what
  where
    notice : (k : Kept) (o : Option Connection) → MayBegin m (begins_notice m.object k o)
    notice k None = tt
    notice k (Some c) = tt

    found : (o : Option Kept) → MayBegin m (begins_notifying d m.object o)
    found None = tt
    found (Some k) = notice k (connection_of d k.session)

    each : (w : What) → MayBegin m (begins_third d m w)
    each what.Callback = found (kept_of d m.object)
    each _ = tt
begins-may (suc (suc (suc (suc zero)))) d m = each m.what
  where
    found : (o : Option Kept) → MayBegin m (begins_trigger m o)
    found None = tt
    found (Some k) = tt

    each : (w : What) → MayBegin m (begins_fourth d m w)
    each what.Trigger = found (kept_of d m.object)
    each _ = tt
begins-may (suc (suc (suc (suc (suc n))))) d m = tt

-- ---- what follows a reply

pub accept-ready : (d : Knowledge) (p : Pool) (m : Moment) (at : Accepting) (r : Reply) → Replied d p (rest_of d.runs) m r (task.Accept at)
    → Ready (hears (without_run d) (task.Accept at) r).knowledge p (rest_of d.runs) m (after_accepting at r)
accept-ready d p m accepting.Accept (reply.Number fd) w = each (is_return fd)
  where
    each : (b : Bool) → Ready (without_run d) p (rest_of d.runs) m (elim b [ true ↦ accepts (accepting.Session fd) | false ↦ task.Return ])
    each true = ((λ a. w.0 tt), tt)
    each false = ((λ a. absurd a), tt)
accept-ready d p m accepting.Accept _ w = ((λ a. absurd a), tt)
accept-ready d p m (accepting.Session fd) (reply.Number n) w = ((λ a. w.0 tt), w.1)
accept-ready d p m (accepting.Session fd) _ w = ((λ a. absurd a), tt)
accept-ready d p m (accepting.Event fd s) (reply.Number n) w = ((λ a. w.0 tt), w.1)
accept-ready d p m (accepting.Event fd s) _ w = ((λ a. absurd a), tt)
accept-ready d p m (accepting.Autoclose fd s e) r w = ((λ a. w.0 tt), w.1)
accept-ready d p m (accepting.Queue fd s e) (reply.Number n) w = ((λ a. absurd a), tt)
accept-ready d p m (accepting.Queue fd s e) (reply.No why) w = ((λ a. absurd a), tt)
accept-ready d p m (accepting.Queue fd s e) _ w = ((λ a. absurd a), tt)
accept-ready d p m (accepting.Abandon fd s) r w = ((λ a. absurd a), tt)
accept-ready d p m (accepting.Close fd) r w = ((λ a. absurd a), tt)
accept-ready d p m (accepting.Free s) r w = ((λ a. absurd a), tt)

pub hears-ready : (d : Knowledge) (p : Pool) (m : Moment) (t : Task) (r : Reply) → Replied d p (rest_of d.runs) m r t → let h = hears (without_run d) t r in Ready h.knowledge p (rest_of d.runs) m h.task
hears-ready d p m (task.Accept at) r w = accept-ready d p m at r w
hears-ready d p m (task.Serve s at) r w = let h = hears (without_run d) (task.Serve s at) r in plain-ready h.knowledge p (rest_of d.runs) m h.task (hears-plain (without_run d) (task.Serve s at) r tt)
hears-ready d p m (task.Notify n at) r w = let h = hears (without_run d) (task.Notify n at) r in plain-ready h.knowledge p (rest_of d.runs) m h.task (hears-plain (without_run d) (task.Notify n at) r tt)
hears-ready d p m (task.Trigger s at) r w = let h = hears (without_run d) (task.Trigger s at) r in plain-ready h.knowledge p (rest_of d.runs) m h.task (hears-plain (without_run d) (task.Trigger s at) r tt)
hears-ready d p m task.Return r w = ((λ a. absurd a), tt)
