-- What waits for its turn at every moment: live events of their kinds, each with a handler, and live requests; and what is watched.
use Rattle.std.specs.Prelude.{◌≡◌, ℕ, Bool, true, false, not, ◌&&◌, ◌||◌, is_some, List, [], ◌∷◌, Option, Some, None}
use Rattle.std.specs.List.{find}
use Rattle.step_machine.specs.Machine.{Move}
use Rattle.step_machine.specs.Machine.Move.{Done, Go, Emit, Wait, Call}
use Rattle.tree_specs.specs.declared.object.Obj.{Obj}
use Rattle.tree_specs.specs.declared.row.Row.{Row}
use Rattle.tree_specs.specs.declared.handler.Handler.{Handler}
use Rattle.tree_specs.specs.declared.moment.What.{What}
use Rattle.tree_specs.specs.declared.watch.Watch.{Watch}
use Rattle.tree_specs.specs.declared.moment.What.TheVariants.{Timer, Immediate, Descriptor}
use Rattle.tree_specs.specs.declared.kind.Kind.{Kind}
use Rattle.tree_specs.specs.declared.kind.Kind.TheVariants as kind
use Rattle.tree_specs.specs.declared.coming.Coming.{Coming}
use Rattle.tree_specs.specs.declared.due.Due.{Due}
use Rattle.tree_specs.specs.Tree.Pool.{Pool, row_of, passes}
use Rattle.tree_specs.specs.Tree.Targets.{is_context}
use Rattle.tree_specs.specs.Events.Handlers.{handler_of}
use Rattle.tree_specs.specs.Events.Pending.{is_scheduled, is_armed}
use Rattle.tree_specs.specs.Events.Rotation.{is_watching, is_watched}
use Rattle.tree_specs.specs.Events.Coming.{comes_as}
use Rattle.tree_specs.specs.Calls.Refusals.{is_doomed_mark, is_open}
use Rattle.tree_specs.specs.Rules.Sequence.{Scene}
use Rattle.tree_specs.specs.Words.Objects.{same, is_same, first_context}

-- an object is to come as this
abbrev pub waits : What → Pool → Obj → Bool
waits Immediate p x = is_scheduled p.soon x
waits Timer p x = is_armed p.times x
waits Descriptor p x = is_watching p.ring x
waits what p x = false

-- an event waits as its own kind; a request comes soon, and at its end time; a queue comes soon
abbrev pub waits_as : What → Kind → Bool
waits_as Immediate kind.Request = true
waits_as Timer kind.Request = true
waits_as Immediate kind.Queue = true
waits_as what k = comes_as what k

abbrev pub waits_as_row : What → Option Row → Bool
waits_as_row what o = passes (λ r. waits_as what r.kind) o

-- an event or a request of the kind, which neither is being freed nor will be once its handler is over
abbrev pub MayCome : What → Option Row → Type 0
MayCome what None = ⊥
MayCome what (Some r) = (waits_as what r.kind ≡ true) × (is_doomed_mark r.mark ≡ false)

abbrev pub is_event : Kind → Bool
is_event k = comes_as Immediate k || (comes_as Timer k || comes_as Descriptor k)

abbrev pub is_event_row : Option Row → Bool
is_event_row None = false
is_event_row (Some r) = is_event r.kind

-- an event has a handler
abbrev pub IsHandled : Option Row → Option Handler → Type 0
IsHandled o h = is_event_row o ≡ true → is_some h ≡ true

-- each event once, and each descriptor once
abbrev pub AreDistinct : List Watch → Type 0
AreDistinct [] = Unit {0}
AreDistinct (w ∷ ws) = (is_watching ws w.object ≡ false) × (is_watched ws w.fd ≡ false) × AreDistinct ws

-- something comes soon in a context, or has its time in it, or is watched in it
abbrev pub has_soon : List Coming → Obj → Bool
has_soon xs c = is_some (find (λ y. same y.context c) xs)

abbrev pub has_times : List Due → Obj → Bool
has_times ds c = is_some (find (λ d. same d.context c) ds)

abbrev pub has_watches : List Watch → Obj → Bool
has_watches ws c = is_some (find (λ w. is_same w.context c) ws)

-- a context that neither is being freed nor will be after its turn
abbrev pub is_live_context_row : Option Row → Bool
is_live_context_row o = passes (λ r. is_context r.kind && not (is_doomed_mark r.mark)) o

-- the first context, or such a one
abbrev pub is_live_context : List Row → Obj → Bool
is_live_context rs c = same c first_context || is_live_context_row (row_of rs c)

-- each context in which something waits is live
pub record InLiveContexts (p : Pool) : Type 0 where
  pub soon : (c : Obj) → has_soon p.soon c ≡ true → is_live_context p.rows c ≡ true
  pub times : (c : Obj) → has_times p.times c ≡ true → is_live_context p.rows c ≡ true
  pub ring : (c : Obj) → has_watches p.ring c ≡ true → is_live_context p.rows c ≡ true

pub record Awaits (p : Pool) : Type 0 where
  pub events : (what : What) (x : Obj) → waits what p x ≡ true → MayCome what (row_of p.rows x) × IsHandled (row_of p.rows x) (handler_of p.handlers x)
  -- only events have handlers
  pub handlers : (x : Obj) → is_event_row (row_of p.rows x) ≡ false → handler_of p.handlers x ≡ None
  pub distinct : AreDistinct p.ring
  -- what is watched is open
  pub watched : (fd : ℕ) → is_watched p.ring fd ≡ true → is_open p fd ≡ true
  pub contexts : InLiveContexts p

-- so it is just before an item
abbrev pub AwaitsBefore : List Scene → Scene → Type 0
AwaitsBefore before s = Awaits s.before

-- the pool after a step
abbrev pub pool_after : {F A T : Type 0} → Move F A Pool T → Pool
pool_after (Done a p) = p
pool_after (Go f p) = p
pool_after (Emit e f p) = p
pool_after (Wait q f p) = p
pool_after (Call g f p) = p
