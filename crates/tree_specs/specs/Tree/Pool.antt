-- The pool: the rows of the objects, the most recently placed first, the next serial number, and what waits for its turn.
use Rattle.std.specs.Prelude.{ℕ, suc, zero, ◌+◌, Bool, true, false, not, ◌||◌, ◌&&◌, List, [], ◌∷◌, length, Option, Some, None, is_some, unwrap_or, codes, if◌then◌else◌}
use Rattle.tree_specs.specs.declared.due.Due.{Due}
use Rattle.tree_specs.specs.declared.handler.Handler.{Handler}
use Rattle.tree_specs.specs.declared.watch.Watch.{Watch}
use Rattle.tree_specs.specs.declared.request.Note.{Note}
use Rattle.tree_specs.specs.declared.request.State.{State}
use Rattle.tree_specs.specs.declared.request.State.TheVariants.{Received}
use Rattle.tree_specs.specs.declared.queue.QueueEntry.{QueueEntry}
use Rattle.tree_specs.specs.declared.object.Obj.{Obj}
use Rattle.tree_specs.specs.declared.object.Owner.{Owner}
use Rattle.tree_specs.specs.declared.object.Owner.TheVariants.{Root, Of}
use Rattle.tree_specs.specs.declared.row.Row.{Row}
use Rattle.tree_specs.specs.declared.row.Mark.{Mark}
use Rattle.tree_specs.specs.declared.row.Mark.TheVariants.{Quiet, Busy, Doomed, Dying}
use Rattle.tree_specs.specs.declared.kind.Kind.{Kind}
use Rattle.tree_specs.specs.declared.kind.Kind.TheVariants.{Plain, Request, Queue, Entry}
use Rattle.tree_specs.specs.declared.coming.Coming.{Coming}
use Rattle.tree_specs.specs.Words.Objects.{same, same_owner, first_context}
use Rattle.tree_specs.specs.Events.Pending.{scheduled, unscheduled, armed, disarmed, soon_in, soon_without, times_in, times_without}
use Rattle.tree_specs.specs.Events.Rotation.{watched, unwatched, rewatched, turned_back, closes_with, ring_in, ring_without}
use Rattle.tree_specs.specs.Events.Descriptors.{Descriptors, listener_alone, opened, closed, shut}
use Rattle.tree_specs.specs.Events.Handlers.{Handlers, with_handler, without_handler}
use Rattle.tree_specs.specs.Events.Requests.{Notes, no_notes, new_note, with_note, without_note, renoted, in_state, not_deferring}
use Rattle.tree_specs.specs.Events.Queues.{Queues, Head, no_queues, with_queue, run_as, without_queue, new_entry, entry_of, with_entry, without_entry, next_of, triggered}
use Rattle.tree_specs.specs.Tree.Targets.{target_of, is_target, is_reference, newest, newest_ref, is_context, is_usable_mark}

pub record Pool : Type 0 where
  pub rows : List Row
  pub next : ℕ
  -- objects that come soon, each in its context, first in first out
  pub soon : List Coming
  -- objects whose time comes, the earliest first
  pub times : List Due
  -- events on descriptors, in the order in which they are looked at
  pub ring : List Watch
  -- the descriptors that are open
  pub descriptors : Descriptors
  -- what runs when an event comes
  pub handlers : Handlers
  -- what is kept of requests
  pub requests : Notes
  -- what is kept of queues, and of the entries in them
  pub queues : Queues
  -- the context whose turn is under way, where it is an object
  pub turning : Option Obj

-- objects of which none waits for its turn
abbrev pub of_rows : List Row → ℕ → Pool
of_rows rows next = record { rows = rows; next = next; soon = []; times = []; ring = []; descriptors = listener_alone; handlers = []; requests = no_notes; queues = no_queues; turning = None }

abbrev pub empty : ℕ → Pool
empty first = of_rows [] first

-- ---- looking up

-- the row of an object
abbrev pub row_of : List Row → Obj → Option Row
row_of [] x = None
row_of (r ∷ rs) x = if same r.serial x then Some r else row_of rs x

abbrev pub is_row : List Row → Obj → Bool
is_row rs x = is_some (row_of rs x)

-- a row was found, and passes
abbrev pub passes : (Row → Bool) → Option Row → Bool
passes q None = false
passes q (Some r) = q r

-- a row that is no reference
abbrev pub is_object_row : Option Row → Bool
is_object_row o = passes (λ r. not (is_reference r.kind)) o

abbrev pub is_object : List Row → Obj → Bool
is_object rs x = is_object_row (row_of rs x)

abbrev pub is_context_row : Option Row → Bool
is_context_row o = passes (λ r. is_context r.kind) o

abbrev pub is_usable_row : Option Row → Bool
is_usable_row o = passes (λ r. is_usable_mark r.mark) o

-- the first context, or one that stays: something may come in it
abbrev pub is_usable : List Row → Obj → Bool
is_usable rs c = same c first_context || (is_context_row (row_of rs c) && is_usable_row (row_of rs c))

-- the root, or an object; a reference owns nothing
abbrev pub is_owner : List Row → Owner → Bool
is_owner rs Root = true
is_owner rs (Of x) = is_object rs x

-- this is the owner; a dying row has none
abbrev pub is_below : Option Owner → Owner → Bool
is_below None p = false
is_below (Some o) p = same_owner o p

-- the children, newest placed first
abbrev pub kids : List Row → Owner → List Obj
kids [] p = []
kids (r ∷ rs) p = if is_below r.owner p then r.serial ∷ kids rs p else kids rs p

-- the first child
abbrev pub first_kid : List Row → Owner → Option Obj
first_kid [] p = None
first_kid (r ∷ rs) p = if is_below r.owner p then Some r.serial else first_kid rs p

abbrev pub owner_in : Option Row → Option Owner
owner_in None = None
owner_in (Some r) = r.owner

abbrev pub owner_of : List Row → Obj → Option Owner
owner_of rs x = owner_in (row_of rs x)

abbrev pub target_in : Option Row → Option Obj
target_in None = None
target_in (Some r) = target_of r.kind

-- what an object refers to, where it is a reference
abbrev pub target_at : List Row → Obj → Option Obj
target_at rs x = target_in (row_of rs x)

-- the newest reference to an object that an owner has
abbrev pub newest_ref_of : List Row → Owner → Obj → Option Obj
newest_ref_of rs o x = newest (λ r. is_target (target_of r.kind) x && is_below r.owner o) rs

abbrev pub owner_at : List Row → Option Obj → Option Owner
owner_at rs None = None
owner_at rs (Some r) = owner_of rs r

-- the owner of the newest reference to an object
abbrev pub noted_owner : List Row → Obj → Option Owner
noted_owner rs x = owner_at rs (newest_ref rs x)

-- the rows behind that of an object
abbrev pub behind : List Row → Obj → List Row
behind [] x = []
behind (r ∷ rs) x = if same r.serial x then rs else behind rs x

abbrev pub kid_behind : List Row → Obj → Option Owner → Option Obj
kid_behind rs x None = None
kid_behind rs x (Some p) = first_kid (behind rs x) p

-- the next child of the same owner
abbrev pub next_kid : List Row → Obj → Option Obj
next_kid rs x = kid_behind rs x (owner_of rs x)

-- the object is being freed
abbrev pub is_dying_mark : Mark → Bool
is_dying_mark (Dying former) = true
is_dying_mark m = false

abbrev pub is_dying_row : Option Row → Bool
is_dying_row o = passes (λ r. is_dying_mark r.mark) o

abbrev pub is_dying : List Row → Obj → Bool
is_dying rs x = is_dying_row (row_of rs x)

-- the owner of an owner; the root has none
abbrev pub next_owner : List Row → Owner → Option Owner
next_owner rs Root = None
next_owner rs (Of x) = owner_of rs x

-- from owner to owner, in at most n steps, one comes to y
abbrev pub reaches : ℕ → List Row → Option Owner → Owner → Bool
reaches n rs None y = false
reaches zero rs (Some o) y = same_owner o y
reaches (suc n) rs (Some o) y = same_owner o y || reaches n rs (next_owner rs o) y

-- o is y, or inside it
abbrev pub is_inside : List Row → Owner → Owner → Bool
is_inside rs o y = reaches (length rs) rs (Some o) y

-- ---- changing

-- the row of an object is taken out
abbrev pub without : List Row → Obj → List Row
without [] x = []
without (r ∷ rs) x = if same r.serial x then rs else r ∷ without rs x

-- the row of an object is changed, and keeps its place
abbrev pub changed : (Row → Row) → List Row → Obj → List Row
changed f [] x = []
changed f (r ∷ rs) x = if same r.serial x then f r ∷ rs else r ∷ changed f rs x

abbrev pub new_row : Obj → Kind → Owner → ℕ → List ℕ → Row
new_row x kind owner size name = record { serial = x; owner = Some owner; name = name; size = size; kind = kind; mark = Quiet; hook = 0; limit = 0 }

-- a new object is placed at the front below its owner
abbrev pub add : Pool → Kind → Owner → ℕ → List ℕ → Pool
add p kind owner size name = record p { rows = new_row (record { 0 = p.next }) kind owner size name ∷ p.rows; next = p.next + 1 }

-- a number is taken, which no object gets
abbrev pub take_number : Pool → Pool
take_number p = record p { next = p.next + 1 }

abbrev pub left_row : Row → Row
left_row r = record r { owner = None; mark = Dying (unwrap_or r.owner Root) }

-- a queue comes in the context of the entry whose trigger it waits for, and in none where this isn't usable
abbrev pub put_soon : List Row → Obj → Option Head → List Coming → List Coming
put_soon rs q None soon = soon
put_soon rs q (Some h) soon = if is_usable rs h.entry.trigger.context then scheduled soon q h.entry.trigger.context else unscheduled soon q

-- a queue that runs comes soon, where its first entry waits for its trigger
abbrev pub looked_at : List Row → Queues → Obj → List Coming → List Coming
looked_at rs qs q soon = put_soon rs q (next_of qs q) soon

-- so it is with the queue that an entry has left
abbrev pub looked_after : List Row → Queues → Option QueueEntry → List Coming → List Coming
looked_after rs qs None soon = soon
looked_after rs qs (Some e) soon = looked_at rs qs e.queue soon

-- An object's row is changed, and it waits for nothing any more. A descriptor that is to be closed with it is closed, and an
-- entry leaves its queue. Nothing comes in a context any more, and what it watched is lost.
abbrev pub let_go : Pool → Obj → (Row → Row) → Pool
let_go p x change = record p {
  rows = changed change p.rows x;
  soon = soon_without (looked_after p.rows (without_entry p.queues x) (entry_of p.queues x) (unscheduled p.soon x)) x;
  times = times_without (disarmed p.times x) x;
  ring = ring_without (unwatched p.ring x) x;
  descriptors = shut p.descriptors (closes_with p.ring x);
  queues = without_entry p.queues x;
}

-- an object leaves its owner, and waits for nothing any more
abbrev pub detach : Pool → Obj → Pool
detach p x = let_go p x left_row

abbrev pub remove : Pool → Obj → Pool
remove p x = record p { rows = without p.rows x; handlers = without_handler p.handlers x; requests = without_note p.requests x; queues = without_queue p.queues x }

-- a row is put below an owner, in front of all others
abbrev pub in_front : Option Row → Owner → List Row → List Row
in_front None o rs = rs
in_front (Some r) o rs = record r { owner = Some o } ∷ rs

-- a row below this owner
abbrev pub owned_row : Owner → Row → Row
owned_row o r = record r { owner = Some o }

-- an object is put below an owner, as its newest child
abbrev pub place : Pool → Owner → Obj → Pool
place p o x = record p { rows = in_front (row_of p.rows x) o (without p.rows x) }

-- an object's row is changed, and nothing else
abbrev pub edited : Pool → Obj → (Row → Row) → Pool
edited p x change = record p { rows = changed change p.rows x }

abbrev pub named_row : List ℕ → Row → Row
named_row name r = record r { name = name }

abbrev pub rename : Pool → Obj → List ℕ → Pool
rename p x name = edited p x (named_row name)

abbrev pub marked_row : Mark → Row → Row
marked_row mark r = record r { mark = mark }

abbrev pub set_mark : Pool → Obj → Mark → Pool
set_mark p x mark = edited p x (marked_row mark)

-- an event whose handler runs is to be freed after it, and waits for nothing until then
abbrev pub doom : Pool → Obj → Pool
doom p x = let_go p x (marked_row Doomed)

-- a row with another destructor, size or limit
abbrev pub hooked_row : ℕ → Row → Row
hooked_row hook r = record r { hook = hook }

abbrev pub sized_row : ℕ → Row → Row
sized_row size r = record r { size = size }

abbrev pub limited_row : ℕ → Row → Row
limited_row limit r = record r { limit = limit }

abbrev pub set_hook : Pool → Obj → ℕ → Pool
set_hook p x hook = edited p x (hooked_row hook)

abbrev pub set_size : Pool → Obj → ℕ → Pool
set_size p x size = edited p x (sized_row size)

abbrev pub set_limit : Pool → Obj → ℕ → Pool
set_limit p x limit = edited p x (limited_row limit)

-- ---- waiting

-- an event gets a handler
abbrev pub set_handler : Pool → Obj → Handler → Pool
set_handler p x handler = record p { handlers = with_handler p.handlers x handler }

-- an object is to come soon, in a context
abbrev pub schedule : Pool → Obj → Obj → Pool
schedule p x c = record p { soon = scheduled p.soon x c }

abbrev pub unschedule : Pool → Obj → Pool
unschedule p x = record p { soon = unscheduled p.soon x }

abbrev pub disarm : Pool → Obj → Pool
disarm p x = record p { times = disarmed p.times x }

-- an object is to come at a time; at equal times the smaller number comes first
abbrev pub arm : Pool → Obj → ℕ → ℕ → Obj → Pool
arm p x time number c = record p { times = armed p.times x time number c }

-- ---- contexts

-- the context whose turn is under way
abbrev pub here : Pool → Obj
here p = unwrap_or p.turning first_context

-- what comes soon in it, its times, and its events
abbrev pub soon_here : Pool → List Coming
soon_here p = soon_in p.soon (here p)

abbrev pub times_here : Pool → List Due
times_here p = times_in p.times (here p)

abbrev pub ring_here : Pool → List Watch
ring_here p = ring_in p.ring (here p)

-- a turn of a context begins
abbrev pub enter : Pool → Obj → Pool
enter p c = if same c first_context then p else set_mark (record p { turning = Some c }) c Busy

-- it is over
abbrev pub exit : Pool → Obj → Pool
exit p c = set_mark (record p { turning = None }) c Quiet

-- ---- descriptors

-- an event watches a descriptor from now on, for these flags
abbrev pub watch : Pool → Obj → ℕ → ℕ → Obj → Pool
watch p x fd flags c = record p { ring = watched p.ring x fd flags c }

-- how an event watches is changed
abbrev pub rewatch : Pool → Obj → (Watch → Watch) → Pool
rewatch p x change = record p { ring = rewatched change p.ring x }

-- an event that has come is looked at after all others
abbrev pub turn_back : Pool → Obj → Pool
turn_back p x = record p { ring = turned_back p.ring x }

abbrev pub open_descriptor : Pool → ℕ → Pool
open_descriptor p fd = record p { descriptors = opened p.descriptors fd }

abbrev pub close_descriptor : Pool → ℕ → Pool
close_descriptor p fd = record p { descriptors = closed p.descriptors fd }

-- ---- requests

-- a request gets its note
abbrev pub note : Pool → Obj → Note → Pool
note p x n = record p { requests = with_note p.requests x n }

-- a new request below an owner, and below it a plain object of its own
abbrev pub add_request : Pool → Owner → ℕ → List ℕ → Pool
add_request p o size name = add (note (add p Request o 0 (codes "req")) (record { 0 = p.next }) (new_note (record { 0 = p.next + 1 }))) Plain (Of (record { 0 = p.next })) size name

-- what is kept of a request is changed
abbrev pub renote : Pool → Obj → (Note → Note) → Pool
renote p x change = record p { requests = renoted change p.requests x }

-- a request goes to a state, and its end time is dropped
abbrev pub finish : Pool → Obj → State → Pool
finish p x state = renote (disarm p x) x (in_state state)

-- it was received, and comes no more
abbrev pub receive : Pool → Obj → Pool
receive p x = finish (unschedule p x) x Received

-- A request whose callback is deferred comes soon, once. Where the context that was kept for this isn't usable, it stays
-- where it is.
abbrev pub schedule_deferred : Pool → Obj → Obj → Pool
schedule_deferred p x c = if is_usable p.rows c then schedule (renote p x not_deferring) x c else renote p x not_deferring

-- ---- queues

-- a queue runs from now on, or it doesn't
abbrev pub run_queue : Pool → Obj → Bool → Pool
run_queue p q running = record p { queues = run_as p.queues q running }

-- a queue comes soon, where it runs and its first entry waits for its trigger
abbrev pub look_at : Pool → Obj → Pool
look_at p q = record p { soon = looked_at p.rows p.queues q p.soon }

-- a new queue below an owner, which runs
abbrev pub add_queue : Pool → Owner → List ℕ → Pool
add_queue p o name = record (add p Queue o 0 name) { queues = with_queue p.queues (record { 0 = p.next }) true }

-- a new entry of a queue, behind all others; it is a child of its request
abbrev pub add_entry : Pool → Obj → Obj → Handler → Pool
add_entry p q x trigger = look_at (record (add p Entry (Of x) 0 (codes "entry")) { queues = with_entry p.queues (record { 0 = p.next }) (new_entry q x trigger) }) q

-- the trigger of an entry begins
abbrev pub trigger : Pool → Head → Pool
trigger p h = record p { queues = triggered p.queues h }
