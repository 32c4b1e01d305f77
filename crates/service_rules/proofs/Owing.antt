-- What is kept, at every moment, of what was taken, what is unsent and what was said.
use Rattle.std.proofs.Common.{◌≡◌, ◌≢◌, ℕ, ◌<◌, ◌≤◌, true, T, cond, List, [], ◌∷◌, ◌++◌, drop, take, Option, Some, None}
use Rattle.std.specs.Prelude.{nat_lt}
use Rattle.std.specs.Ordering.{nat_cmp, eq_by_cmp}
use Rattle.std.specs.FinMap.Entries.{find, is_sorted}
use Rattle.tree_specs.specs.declared.bounds.TheConstants.{OCTETS_LIMIT}
use Rattle.tree_specs.specs.declared.call.Call.{Call}
use Rattle.tree_specs.specs.declared.call.Call.TheVariants as call
use Rattle.tree_specs.specs.declared.reply.Reply.{Reply}
use Rattle.tree_specs.specs.declared.reply.Reply.TheVariants as reply
use Rattle.tree_specs.specs.declared.question.Ask.{Ask}
use Rattle.tree_specs.specs.declared.question.Ask.TheVariants as ask
use Rattle.tree_specs.specs.declared.moment.Moment.{Moment}
use Rattle.tree_specs.specs.declared.frame.Frame.{Frame}
use Rattle.tree_specs.specs.declared.frame.Frame.TheVariants as frame
use Rattle.tree_specs.specs.declared.frame.CallFrame.{CallFrame}
use Rattle.tree_specs.specs.declared.frame.CallFrame.TheVariants.{Asking, Doing, Awaiting, Turning, Requesting, Announcing, Telling, Returning}
use Rattle.tree_specs.specs.declared.frame.OutsideFrame.{OutsideFrame}
use Rattle.tree_specs.specs.declared.frame.OutsideFrame.TheVariants.{Reaching, Opening, Hearing}
use Rattle.service_rules.specs.declared.task.Accepting.TheVariants as accepting
use Rattle.service_rules.specs.declared.task.Fulfilling.TheVariants as fulfilling
use Rattle.service_rules.specs.declared.task.Run.{Run}
use Rattle.service_rules.specs.declared.task.Run.TheVariants.{Own}
use Rattle.service_rules.specs.declared.task.Serving.TheVariants as serving
use Rattle.service_rules.specs.declared.task.Task.{Task}
use Rattle.service_rules.specs.declared.task.Task.TheVariants as task
use Rattle.service_rules.specs.Knowledge.{Connection, Knowledge}
use Rattle.service_rules.specs.Tasks.{accepting_call, after_accepting}
use Rattle.service_rules.specs.Service.{first_of_outside}
use Rattle.service_rules.specs.Sent.{Bytes, Ledger, bytes_of}

-- ---- the lists

abbrev pub IsKnown : Knowledge → ℕ → Connection → Type 0
IsKnown d k c = find nat_cmp k d.connections ≡ Some c

-- of each connection; `rest` of the unsent bytes is still to go
abbrev pub Goes : Knowledge → Ledger → (ℕ → Bytes → Bytes) → Type 0
Goes d l rest = (k : ℕ) (c : Connection) → IsKnown d k c → bytes_of l.taken c.descriptor ++ rest k c.unsent ≡ bytes_of l.said k

abbrev pub whole : ℕ → Bytes → Bytes
whole k bytes = bytes

-- connections stand in order and have descriptors of their own, and nothing is known of an object that is to come
pub record Keeps (d : Knowledge) (l : Ledger) (next : ℕ) : Type 0 where
  pub sorted : T (is_sorted nat_cmp d.connections)
  pub distinct : (k j : ℕ) (c e : Connection) → IsKnown d k c → IsKnown d j e → c.descriptor ≡ e.descriptor → k ≡ j
  pub young : (k : ℕ) → next ≤ k → find nat_cmp k d.connections ≡ None
  pub unsaid : (k : ℕ) → next ≤ k → find nat_cmp k l.said ≡ None

-- no connection has this descriptor, of which nothing was taken
abbrev pub FreeFd : Knowledge → Ledger → ℕ → Type 0
FreeFd d l fd = ((k : ℕ) (c : Connection) → IsKnown d k c → c.descriptor ≢ fd) × (bytes_of l.taken fd ≡ [])

-- nothing was said to this session, which has no connection yet
abbrev pub FreeSession : Knowledge → Ledger → ℕ → ℕ → Type 0
FreeSession d l next n = (n < next) × (find nat_cmp n d.connections ≡ None) × (find nat_cmp n l.said ≡ None)

-- ---- tasks

-- what a task that accepts has to know before its call
abbrev pub Before : Knowledge → Ledger → ℕ → Task → Type 0
Before d l next (task.Accept (accepting.Session fd)) = FreeFd d l fd
Before d l next (task.Accept (accepting.Event fd s)) = FreeFd d l fd × FreeSession d l next s.0
Before d l next (task.Accept (accepting.Autoclose fd s e)) = FreeFd d l fd × FreeSession d l next s.0
Before d l next (task.Accept (accepting.Queue fd s e)) = FreeFd d l fd × FreeSession d l next s.0
Before d l next t = Unit {0}

-- the bytes of a written number don't go again
abbrev pub rest_by : Task → Reply → ℕ → Bytes → Bytes
rest_by (task.Serve s serving.Write) (reply.Number n) k bytes = cond (eq_by_cmp nat_cmp k s.0) (drop n bytes) bytes
rest_by t r k bytes = bytes

-- what it has to know after the reply
abbrev pub Accepted : Knowledge → Ledger → ℕ → Task → Reply → Type 0
Accepted d l next (task.Accept (accepting.Queue fd s e)) (reply.Number n) = FreeFd d l fd × FreeSession d l next s.0
Accepted d l next (task.Accept at) r = Before d l next (after_accepting at r)
Accepted d l next t r = Unit {0}

abbrev pub After : Knowledge → Ledger → ℕ → Reply → Task → Type 0
After d l next r t = Accepted d l next t r × Goes d l (rest_by t r)

-- no write, and nothing is accepted
abbrev pub IsNoWrite : Call → Type 0
IsNoWrite (call.Write fd bytes) = ⊥
IsNoWrite (call.Accept fd) = ⊥
IsNoWrite c = Unit {0}

abbrev pub IsNoWriting : Ask → Type 0
IsNoWriting (ask.Write fd bytes) = ⊥
IsNoWriting (ask.Accept fd) = ⊥
IsNoWriting q = Unit {0}

-- the unsent bytes of a connection, as many as one write takes
abbrev pub writes : Connection → Call
writes c = call.Write c.descriptor (take OCTETS_LIMIT c.unsent)

abbrev pub is_writing : Connection → Ask
is_writing c = ask.Write c.descriptor (take OCTETS_LIMIT c.unsent)

-- a request is made
abbrev pub IsReq : Call → Type 0
IsReq (call.Req owner size name) = Unit {0}
IsReq c = ⊥

-- a task's call
abbrev pub IsCallOf : Knowledge → Call → Task → Type 0
IsCallOf d c (task.Accept at) = c ≡ accepting_call at
IsCallOf d c (task.Serve s serving.Write) = (e : Connection) × IsKnown d s.0 e × (c ≡ writes e)
IsCallOf d c (task.Serve s (serving.Order tag (fulfilling.Sleep delay))) = IsReq c
IsCallOf d c (task.Serve s (serving.Order tag (fulfilling.Job delay))) = IsReq c
IsCallOf d c t = IsNoWrite c

-- and what the outside is asked for it
abbrev pub IsAskOf : Knowledge → Ask → Task → Type 0
IsAskOf d q (task.Accept at) = (at ≡ accepting.Accept) × (q ≡ ask.Accept 0)
IsAskOf d q (task.Serve s serving.Write) = (e : Connection) × IsKnown d s.0 e × (q ≡ is_writing e)
IsAskOf d q (task.Serve s (serving.Order tag (fulfilling.Sleep delay))) = ⊥
IsAskOf d q (task.Serve s (serving.Order tag (fulfilling.Job delay))) = ⊥
IsAskOf d q t = IsNoWriting q

-- it needs to know nothing after its reply
abbrev pub IsCalm : Task → Type 0
IsCalm (task.Accept accepting.Accept) = ⊥
IsCalm (task.Accept (accepting.Session fd)) = ⊥
IsCalm (task.Accept (accepting.Event fd s)) = ⊥
IsCalm (task.Accept (accepting.Autoclose fd s e)) = ⊥
IsCalm (task.Accept (accepting.Queue fd s e)) = ⊥
IsCalm (task.Serve s serving.Write) = ⊥
IsCalm (task.Serve s (serving.Order tag (fulfilling.Sleep delay))) = ⊥
IsCalm (task.Serve s (serving.Order tag (fulfilling.Job delay))) = ⊥
IsCalm t = Unit {0}

-- ---- runs and works

-- the innermost run is the service's, and of this task
abbrev pub Top : (Task → Type 0) → (List Run → Type 0) → List Run → Type 0
Top P more (Own t ∷ runs) = P t × more runs
Top P more runs = ⊥

abbrev pub IsOwn : Moment → Type 0
IsOwn m = nat_lt m.routine first_of_outside ≡ true

abbrev pub Called : (List Run → Type 0) → Ask → List Run → Type 0
Called more (ask.Routine m) runs = IsOwn m × Top IsCalm more runs
Called more ask.Quiet runs = more runs
Called more q runs = ⊥

-- the runs that wait below
abbrev pub Below : List Frame → List Run → Type 0
Below [] runs = Unit {0}
Below (frame.Call (Awaiting q x) ∷ fs) runs = Called (Below fs) q runs
Below (frame.Call (Requesting q) ∷ fs) runs = Called (Below fs) q runs
Below (frame.Call (Turning ask.Quiet) ∷ fs) runs = Below fs runs
Below (frame.Call f ∷ fs) runs = ⊥
Below (frame.Outside f ∷ fs) runs = ⊥
Below (f ∷ fs) runs = Below fs runs

module _ (d : Knowledge) (l : Ledger) (next : ℕ) where
  -- nothing is on its way
  abbrev pub Rest : List Frame → Type 0
  Rest fs = Goes d l whole × Below fs d.runs

  -- a reply is, to a run of the service's
  abbrev pub Told : Moment → Reply → List Frame → Type 0
  Told m r fs = IsOwn m × Top (After d l next r) (Below fs) d.runs

  abbrev pub AskedBy : Moment → Option Reply → List Frame → Type 0
  AskedBy m None fs = (m.step ≡ 0) × Rest fs
  AskedBy m (Some r) fs = Told m r fs

  abbrev pub ToldTo : Ask → Reply → List Frame → Type 0
  ToldTo ask.Quiet r fs = Rest fs
  ToldTo (ask.Routine m) r fs = (m.last ≡ Some r) × Told m r fs
  ToldTo q r fs = ⊥

  -- the service's own call at rest
  abbrev pub IsResting : Call → Type 0
  IsResting (call.New owner size name) = Unit {0}
  IsResting (call.Fd owner fd flags routine user c) = Unit {0}
  IsResting (call.Turn c) = Unit {0}
  IsResting c = ⊥

  abbrev pub Does : Ask → Call → List Frame → Type 0
  Does ask.Quiet c fs = IsResting c × Rest fs
  Does (ask.Routine m) c fs = IsOwn m × Goes d l whole × Top (λ t. Before d l next t × IsCallOf d c t) (Below fs) d.runs
  Does q c fs = ⊥

  abbrev pub Reached : OutsideFrame → Moment → List Frame → Type 0
  Reached (Reaching q) m fs = IsOwn m × Goes d l whole × Top (IsAskOf d q) (Below fs) d.runs
  Reached (Opening fd) m fs = Told m (reply.Number fd) fs
  Reached (Hearing r) m fs = Told m r fs

  abbrev pub Outer : OutsideFrame → List Frame → Type 0
  Outer f (frame.Call (Turning (ask.Routine m)) ∷ fs) = Reached f m fs
  Outer f fs = ⊥

  abbrev pub Caller : CallFrame → List Frame → Type 0
  Caller (Asking ask.Quiet) fs = Rest fs
  Caller (Asking (ask.Routine m)) fs = AskedBy m m.last fs
  Caller (Asking q) fs = ⊥
  Caller (Doing q c) fs = Does q c fs
  Caller (Announcing q notice r) fs = ToldTo q r fs
  Caller (Telling q r) fs = ToldTo q r fs
  Caller (Returning v) fs = Rest fs
  Caller f fs = ⊥

  -- the innermost work
  abbrev pub Stands : Frame → List Frame → Type 0
  Stands (frame.Call f) fs = Caller f fs
  Stands (frame.Outside f) fs = Outer f fs
  Stands f fs = Rest fs

-- at every moment
pub record Fine (d : Knowledge) (l : Ledger) (f : Frame) (fs : List Frame) (next : ℕ) : Type 0 where
  pub keeps : Keeps d l next
  pub stands : Stands d l next f fs
