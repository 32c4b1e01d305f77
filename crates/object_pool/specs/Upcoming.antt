-- What is to come beside the objects, and what a free or a turn leaves of it.
use Rattle.std.specs.Prelude.{ℕ, ◌≡◌, ◌+◌, ◌≤◌, ◌<◌, Bool, true, false, not, ◌&&◌, List, [], ◌∷◌, length, Option, Some, None, unwrap_or, if◌then◌else◌}
use Rattle.tree_specs.specs.declared.coming.Coming.{Coming}
use Rattle.tree_specs.specs.declared.due.Due.{Due}
use Rattle.tree_specs.specs.declared.handler.Handler.{Handler}
use Rattle.tree_specs.specs.declared.moment.What.{What}
use Rattle.tree_specs.specs.declared.row.Row.{Row}
use Rattle.tree_specs.specs.declared.watch.Watch.{Watch}
use Rattle.tree_specs.specs.declared.object.Obj.{Obj}
use Rattle.tree_specs.specs.declared.request.Note.{Note}
use Rattle.tree_specs.specs.declared.request.State.{State}
use Rattle.tree_specs.specs.declared.free_step.FreeStep.{FreeStep}
use Rattle.tree_specs.specs.declared.free_step.FreeStep.TheVariants.{Dropped, Gone}
use Rattle.tree_specs.specs.Events.Contexts.{has_context, without_context}
use Rattle.tree_specs.specs.Events.Pending.{scheduled, unscheduled, soon_in, soon_without, armed, disarmed, times_in, times_without}
use Rattle.tree_specs.specs.Events.Rotation.{watched, unwatched, rewatched, closes_with, ring_in, ring_without}
use Rattle.tree_specs.specs.Events.Descriptors.{Descriptors, listener_alone, opened, closed, shut}
use Rattle.tree_specs.specs.Events.Handlers.{Handlers, with_handler, without_handler}
use Rattle.tree_specs.specs.Events.Requests.{Notes, no_notes, without_note, with_note, new_note, renoted, in_state}
use Rattle.tree_specs.specs.Events.Queues.{Queues, no_queues, runs, has_entries, with_queue, run_as, without_queue, entry_of, with_entry, without_entry, new_entry}
use Rattle.tree_specs.specs.Events.Coming.{begun}
use Rattle.tree_specs.specs.Tree.Pool.{Pool, is_usable, unschedule, disarm, looked_at, looked_after}
use Rattle.tree_specs.specs.Words.Objects.{same, first_context}
use Rattle.loop_core.specs.declared.pick.Pick.{Pick}
use Rattle.loop_core.specs.declared.pick.Pick.TheVariants.{Soon, Time}
use Rattle.destructors.specs.Frees.{OpenFrees, let_go_by}

pub record Upcoming : Type 0 where
  -- objects that come soon, each in its context, the first in first
  pub soon : List Coming
  -- objects whose time comes, the earliest first
  pub times : List Due
  -- events on descriptors, in the order in which they are looked at
  pub ring : List Watch
  -- the descriptors that are open
  pub descriptors : Descriptors
  -- what runs when an event comes
  pub handlers : Handlers
  -- what is kept of the requests
  pub requests : Notes
  -- what is kept of queues, and of the entries in them
  pub queues : Queues
  -- the context whose turn is under way, where it is an object
  pub turning : Option Obj

abbrev pub nothing_comes : Upcoming
nothing_comes = record { soon = []; times = []; ring = []; descriptors = listener_alone; handlers = []; requests = no_notes; queues = no_queues; turning = None }

-- the same objects, with this to come
abbrev pub beside : Upcoming → Pool → Pool
beside u p = record p { soon = u.soon; times = u.times; ring = u.ring; descriptors = u.descriptors; handlers = u.handlers; requests = u.requests; queues = u.queues; turning = u.turning }

-- what is to come beside the objects of a pool
abbrev pub upcoming_in : Pool → Upcoming
upcoming_in p = record { soon = p.soon; times = p.times; ring = p.ring; descriptors = p.descriptors; handlers = p.handlers; requests = p.requests; queues = p.queues; turning = p.turning }

abbrev pub frees_beside : Upcoming → OpenFrees → OpenFrees
frees_beside u s = record s { pool = beside u s.pool }

-- the context whose turn is under way
abbrev pub here : Upcoming → Obj
here u = unwrap_or u.turning first_context

-- how many wait for their turn in a context
abbrev pub pending : Obj → Upcoming → ℕ
pending c u = length (soon_in u.soon c) + length (times_in u.times c) + length (ring_in u.ring c)

-- how many may wait before the next question, in all contexts: an entry may leave its queue, which comes soon then
abbrev pub pending_most : Upcoming → ℕ
pending_most u = length u.soon + length u.times + length u.ring + length u.queues.entries

-- ---- what is to come, and how many more may come without taking memory

pub record Agenda : Type 0 where
  pub upcoming : Upcoming
  pub soon_spare : ℕ
  pub times_spare : ℕ
  pub ring_spare : ℕ
  pub descriptors_spare : ℕ
  pub handlers_spare : ℕ
  pub requests_spare : ℕ
  pub queues_spare : ℕ
  -- the contexts in which something may come soon, have its time, or be watched, beside the first one
  pub soon_contexts : List Obj
  pub times_contexts : List Obj
  pub ring_contexts : List Obj
  -- so many contexts can be added without taking memory
  pub contexts_spare : ℕ

-- all may come in this context
abbrev pub holds_context : Agenda → Obj → Bool
holds_context a c = has_context a.soon_contexts c && (has_context a.times_contexts c && has_context a.ring_contexts c)

-- there is a place for all that may come in a context that is usable
abbrev pub HoldsUsable : List Row → Agenda → Type 0
HoldsUsable rs a = (c : Obj) → is_usable rs c ≡ true → holds_context a c ≡ true

-- no context is lost, and no fewer may come
pub record KeepsContexts (old new : Agenda) : Type 0 where
  pub held : (c : Obj) → holds_context old c ≡ true → holds_context new c ≡ true
  pub spare : old.contexts_spare ≤ new.contexts_spare

-- but for this one, where there is one
abbrev pub is_other : Option Obj → Obj → Bool
is_other None c = true
is_other (Some x) c = not (same x c)

pub record KeepsAllBut (gone : Option Obj) (old new : Agenda) : Type 0 where
  pub held : (c : Obj) → is_other gone c ≡ true → holds_context old c ≡ true → holds_context new c ≡ true
  pub spare : old.contexts_spare ≤ new.contexts_spare

-- One more may come. Besides, each entry has a place among what comes soon, and so will one more entry: the queue that an entry
-- leaves may come soon.
pub record HasPlace (a : Agenda) : Type 0 where
  pub soon : length a.upcoming.queues.entries + 1 < a.soon_spare
  pub time : 0 < a.times_spare
  pub watch : 0 < a.ring_spare
  pub descriptor : 0 < a.descriptors_spare
  pub handler : 0 < a.handlers_spare
  pub request : 0 < a.requests_spare
  pub queue : 0 < a.queues_spare

-- no fewer more may come, besides the places of the entries
pub record KeepsPlaces (old new : Agenda) : Type 0 where
  pub soon : old.soon_spare + length new.upcoming.queues.entries ≤ new.soon_spare + length old.upcoming.queues.entries
  pub times : old.times_spare ≤ new.times_spare
  pub ring : old.ring_spare ≤ new.ring_spare
  pub descriptors : old.descriptors_spare ≤ new.descriptors_spare
  pub handlers : old.handlers_spare ≤ new.handlers_spare
  pub requests : old.requests_spare ≤ new.requests_spare
  pub queues : old.queues_spare ≤ new.queues_spare

-- no fewer of all may come but of what comes soon, and no context is lost
pub record KeepsRest (old new : Agenda) : Type 0 where
  pub times : old.times_spare ≤ new.times_spare
  pub ring : old.ring_spare ≤ new.ring_spare
  pub descriptors : old.descriptors_spare ≤ new.descriptors_spare
  pub handlers : old.handlers_spare ≤ new.handlers_spare
  pub requests : old.requests_spare ≤ new.requests_spare
  pub queues : old.queues_spare ≤ new.queues_spare
  pub contexts : KeepsContexts old new

-- ---- what is told, and what it leaves

-- an object waits no more; a descriptor that is to be closed with it is closed
abbrev pub stilled : Obj → Upcoming → Upcoming
stilled x u = record u {
  soon = unscheduled u.soon x;
  times = disarmed u.times x;
  ring = unwatched u.ring x;
  descriptors = shut u.descriptors (closes_with u.ring x);
}

-- an entry leaves its queue, which comes soon where it runs and its first entry then waits for its trigger
abbrev pub out_of_queue : List Row → Obj → Upcoming → Upcoming
out_of_queue rs x u = record u { soon = looked_after rs (without_entry u.queues x) (entry_of u.queues x) u.soon; queues = without_entry u.queues x }

-- a queue comes soon in its context, and no more where this isn't usable
abbrev pub with_coming : List Row → Option Coming → Upcoming → Upcoming
with_coming rs None u = u
with_coming rs (Some y) u = record u { soon = if is_usable rs y.context then scheduled u.soon y.object y.context else unscheduled u.soon y.object }

abbrev pub count_of : Option Coming → ℕ
count_of None = 0
count_of (Some y) = 1

-- nothing comes in a context any more, and what it watched is lost
abbrev pub cleared : Obj → Upcoming → Upcoming
cleared c u = record u { soon = soon_without u.soon c; times = times_without u.times c; ring = ring_without u.ring c }

-- an object waits no more, stands in no queue, and nothing comes in it
abbrev pub without_event : List Row → Obj → Upcoming → Upcoming
without_event rs x u = cleared x (out_of_queue rs x (stilled x u))

-- nothing is kept of an object
abbrev pub forgotten : Obj → Upcoming → Upcoming
forgotten x u = record u { handlers = without_handler u.handlers x; requests = without_note u.requests x; queues = without_queue u.queues x }

-- an object is no queue that has entries, and nothing comes in it
pub record IsForgettable (x : Obj) (u : Upcoming) : Type 0 where
  pub entries : has_entries u.queues x ≡ false
  pub soon : soon_in u.soon x ≡ []
  pub times : times_in u.times x ≡ []
  pub ring : ring_in u.ring x ≡ []

-- what a step makes an end of can be forgotten
abbrev pub MayForget : Option FreeStep → Upcoming → Type 0
MayForget (Some (Gone x h)) u = IsForgettable x u
MayForget (Some (Dropped r target)) u = IsForgettable r u
MayForget told u = Unit {0}

-- by the rows before it: what a step lets go of waits no more
abbrev pub without_left : List Row → Option Obj → Upcoming → Upcoming
without_left rs None u = u
without_left rs (Some x) u = without_event rs x u

-- what a step makes an end of
abbrev pub gone_by : Option FreeStep → Option Obj
gone_by (Some (Gone x h)) = Some x
gone_by (Some (Dropped r target)) = Some r
gone_by told = None

-- nothing is kept of it
abbrev pub without_gone : Option Obj → Upcoming → Upcoming
without_gone None u = u
without_gone (Some x) u = forgotten x u

-- what is to come after a step, by the rows before it
abbrev pub after : List Row → Option FreeStep → Upcoming → Upcoming
after rs told u = without_gone (gone_by told) (without_left rs (let_go_by told) u)

-- the descriptor that a step closes, by what was watched before it
abbrev pub closed_of : List Watch → Option Obj → Option ℕ
closed_of ring None = None
closed_of ring (Some x) = closes_with ring x

-- with this handler an object comes soon, or at a time under its own number, in the handler's context
abbrev pub soon_with : Obj → Handler → Upcoming → Upcoming
soon_with x handler u = record u { soon = scheduled u.soon x handler.context; handlers = with_handler u.handlers x handler }

abbrev pub timed_with : Obj → ℕ → Handler → Upcoming → Upcoming
timed_with x time handler u = record u { times = armed u.times x time x.0 handler.context; handlers = with_handler u.handlers x handler }

-- with this handler an object watches a descriptor in the handler's context, for these flags
abbrev pub watching_with : Obj → ℕ → ℕ → Handler → Upcoming → Upcoming
watching_with x fd flags handler u = record u { ring = watched u.ring x fd flags handler.context; handlers = with_handler u.handlers x handler }

-- how an object watches is changed
abbrev pub with_watch : (Watch → Watch) → Obj → Upcoming → Upcoming
with_watch change x u = record u { ring = rewatched change u.ring x }

abbrev pub with_open : ℕ → Upcoming → Upcoming
with_open fd u = record u { descriptors = opened u.descriptors fd }

abbrev pub with_closed : ℕ → Upcoming → Upcoming
with_closed fd u = record u { descriptors = closed u.descriptors fd }

-- what is kept of a request is changed
abbrev pub with_request : (Note → Note) → Obj → Upcoming → Upcoming
with_request change x u = record u { requests = renoted change u.requests x }

-- a new request, with the object that it was made with
abbrev pub requested : Obj → Obj → Upcoming → Upcoming
requested x child u = record u { requests = with_note u.requests x (new_note child) }

-- an object comes soon in a context
abbrev pub posted : Obj → Obj → Upcoming → Upcoming
posted x c u = record u { soon = scheduled u.soon x c }

-- an object's time comes in a context, under this number
abbrev pub timed_under : Obj → ℕ → ℕ → Obj → Upcoming → Upcoming
timed_under x time number c u = record u { times = armed u.times x time number c }

-- a request goes to a state, and has no end time any more
abbrev pub finished : Obj → State → Upcoming → Upcoming
finished x state u = record u { times = disarmed u.times x; requests = renoted (in_state state) u.requests x }

-- a new queue, which runs
abbrev pub queued : Obj → Upcoming → Upcoming
queued q u = record u { queues = with_queue u.queues q true }

-- a new entry of a queue, for a request; the queue comes soon where it runs and its first entry waits for its trigger
abbrev pub entered : List Row → Obj → Obj → Obj → Handler → Upcoming → Upcoming
entered rs q e x trigger u = record u { queues = with_entry u.queues e (new_entry q x trigger); soon = looked_at rs (with_entry u.queues e (new_entry q x trigger)) q u.soon }

-- a queue that didn't run does, and comes soon where its first entry waits for its trigger
abbrev pub running : List Row → Obj → Upcoming → Upcoming
running rs q u = if runs u.queues q then u else record u { queues = run_as u.queues q true; soon = looked_at rs (run_as u.queues q true) q u.soon }

-- what is kept of queues is this
abbrev pub with_queues : Queues → Upcoming → Upcoming
with_queues qs u = record u { queues = qs }

-- what was picked in a turn waits no more
abbrev pub picked : Pick → Upcoming → Upcoming
picked (Soon x) u = record u { soon = unscheduled u.soon x }
picked (Time x now) u = record u { times = disarmed u.times x }
picked pick u = u

abbrev pub pool_picked : Pick → Pool → Pool
pool_picked (Soon x) p = unschedule p x
pool_picked (Time x now) p = disarm p x
pool_picked pick p = p

-- an object whose handler starts is busy, and one that watches a descriptor is looked at after all others the next time
abbrev pub started : Option Handler → What → Obj → Pool → Pool
started None what x p = p
started (Some handler) what x p = begun what x p

-- ---- turns

-- a turn of this context is under way, where it is an object
abbrev pub turned_to : Option Obj → Upcoming → Upcoming
turned_to c u = record u { turning = c }

-- ---- numbers

-- the numbers of all of these were given before this one
abbrev pub AllBefore : {A : Type 0} → (A → ℕ) → ℕ → List A → Type 0
AllBefore number next [] = Unit {0}
AllBefore number next (x ∷ xs) = (number x < next) × AllBefore number next xs

abbrev pub due_number : Due → ℕ
due_number d = d.number

abbrev pub watcher_number : Watch → ℕ
watcher_number w = w.object.0

-- what is kept under a number has this
abbrev pub key_number : {V : Type 0} → ℕ × V → ℕ
key_number e = e.0

-- the numbers that tell equal times apart, those of the events that watch, and those of requests, queues and entries were all given
-- before this one
pub record AreGiven (next : ℕ) (u : Upcoming) : Type 0 where
  pub times : AllBefore due_number next u.times
  pub ring : AllBefore watcher_number next u.ring
  pub requests : AllBefore key_number next u.requests
  pub queues : AllBefore key_number next u.queues.running
  pub entries : AllBefore key_number next u.queues.entries
