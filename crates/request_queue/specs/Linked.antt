-- The queues and their entries, as the lines and the nodes tell them by their numbers.
use Rattle.std.specs.Prelude.{◌≡◌, ℕ, ◌+◌, ◌-◌, List, [], ◌∷◌, ◌++◌, length, map as each, Option, Some, None, Bool, if◌then◌else◌}
use Rattle.std.specs.Option.{option_map, option_or}
use Rattle.std.specs.Ordering.{nat_cmp}
use Rattle.std.specs.FinMap as map
use Rattle.tree_specs.specs.declared.object.Obj.{Obj}
use Rattle.tree_specs.specs.declared.queue.QueueEntry.{QueueEntry}
use Rattle.tree_specs.specs.Words.Objects.{same}
use Rattle.tree_specs.specs.Events.Queues.{Queues, triggered_entry}
use Rattle.linked_lanes.specs.declared.Sides.{Sides}
use Rattle.linked_lanes.specs.declared.Link.{Link}
use Rattle.linked_lanes.specs.Lane.{first, last}
use Rattle.linked_lanes.specs.Chain.{Chain, noted, head_left, last_left}
use Rattle.request_queue.specs.declared.line.Line.{Line}
use Rattle.request_queue.specs.declared.node.Node.{Node}
use Rattle.request_queue.specs.declared.queues.Turn.{Turn}

abbrev pub numbered : ℕ → Obj
numbered n = record { 0 = n }

-- ---- what the fields say

abbrev pub running_in : Line → Bool
running_in l = l.running

abbrev pub newest_in : Option Line → Option ℕ
newest_in None = None
newest_in (Some l) = l.newest

abbrev pub oldest_in : Option Line → Option ℕ
oldest_in None = None
oldest_in (Some l) = l.oldest

abbrev pub length_in : Option Line → ℕ
length_in None = 0
length_in (Some l) = l.length

abbrev pub entry_in : Node → QueueEntry
entry_in v = v.entry

abbrev pub queue_of : QueueEntry → Obj
queue_of e = e.queue

abbrev pub sides_of : Node → Sides
sides_of v = v.sides

abbrev pub turn_in : Node → Turn
turn_in v = record { request = v.entry.request; trigger = v.entry.trigger }

-- the queues and the entries, in the order of their numbers
abbrev pub listed : {V W : Type 0} → (V → W) → map.FinMap nat_cmp V → List (ℕ × W)
listed f m = each (λ e. (e.0, f e.1)) (map.entries m)

abbrev pub queues_in : map.FinMap nat_cmp Line → map.FinMap nat_cmp Node → Queues
queues_in lines nodes = record { running = listed running_in lines; entries = listed entry_in nodes }

-- the entries of a queue by their numbers, the newest in front
abbrev pub lane : List (ℕ × QueueEntry) → Obj → List ℕ
lane [] q = []
lane (e ∷ es) q = if same e.1.queue q then lane es q ++ e.0 ∷ [] else lane es q

-- ---- single changes

abbrev pub run_by : Bool → Line → Line
run_by running l = record l { running = running }

-- an entry has joined behind all others
abbrev pub joined : ℕ → Line → Line
joined x l = record { running = l.running; newest = Some x; oldest = option_or l.oldest (Some x); length = l.length + 1 }

-- one with these neighbours has left
abbrev pub left : Sides → Line → Line
left s l = record { running = l.running; newest = head_left l.newest s; oldest = last_left l.oldest s; length = l.length - 1 }

abbrev pub with_link : Link → Node → Node
with_link link v = record v { sides = noted link v.sides }

-- its trigger has begun
abbrev pub begun : Node → Node
begun v = record v { entry = triggered_entry v.entry }

-- ---- whose turn it is

abbrev pub waiting_at : ℕ → Option Node → Option ℕ
waiting_at x None = None
waiting_at x (Some v) = if v.entry.triggered then None else Some x

abbrev pub waiting_first : (ℕ → Option Node) → Option ℕ → Option ℕ
waiting_first N None = None
waiting_first N (Some x) = waiting_at x (N x)

abbrev pub next_in : (ℕ → Option Node) → Option Line → Option ℕ
next_in N None = None
next_in N (Some l) = if l.running then waiting_first N l.oldest else None

-- ---- what holds of the fields

-- the ends of a lane, and how long it is
pub record Ends : Type 0 where
  pub newest : Option ℕ
  pub oldest : Option ℕ
  pub length : ℕ

abbrev pub ends_in : Option Line → Ends
ends_in o = record { newest = newest_in o; oldest = oldest_in o; length = length_in o }

abbrev pub ends_of : List ℕ → Ends
ends_of xs = record { newest = first xs; oldest = last xs; length = length xs }

-- the lines and the nodes, as functions, keep the lanes of these entries
pub record AreLinked (L : ℕ → Option Line) (N : ℕ → Option Node) (es : List (ℕ × QueueEntry)) : Type 0 where
  pub chain : (q : Obj) → Chain (λ k. option_map sides_of (N k)) (first (lane es q)) (lane es q)
  pub ends : (q : Obj) → ends_in (L q.0) ≡ ends_of (lane es q)

abbrev pub IsLinked : map.FinMap nat_cmp Line → map.FinMap nat_cmp Node → Type 0
IsLinked lines nodes = AreLinked (map.get lines) (map.get nodes) (listed entry_in nodes)
