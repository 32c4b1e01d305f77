-- The rotation of each context, as the nodes and the ends tell it by the numbers of the events.
use Rattle.std.specs.Prelude.{◌≡◌, ℕ, ◌-◌, ◌^◌, ◌<◌, Bool, true, cond, nat_eq, List, [], ◌∷◌, ◌++◌, length, Option, Some, None, is_some, if◌then◌else◌}
use Rattle.std.specs.Option.{option_map, option_and_then}
use Rattle.std.specs.Ordering.{nat_cmp}
use Rattle.std.specs.FinMap as map
use Rattle.tree_specs.specs.declared.object.Obj.{Obj}
use Rattle.tree_specs.specs.declared.watch.Watch.{Watch}
use Rattle.tree_specs.specs.Words.Objects.{same}
use Rattle.tree_specs.specs.Events.Contexts.{has_context}
use Rattle.tree_specs.specs.Events.Rotation.{holder_of, watch_of, ring_in}
use Rattle.linked_lanes.specs.declared.Sides.{Sides}
use Rattle.linked_lanes.specs.declared.lane.Extent.{Extent}
use Rattle.linked_lanes.specs.Lane.{is_at, without}
use Rattle.linked_lanes.specs.Family.{Family, IsWhole, left_by}
use Rattle.lane_ends.specs.Lanes.{Lanes}
use Rattle.fd_events.specs.declared.node.Node.{Node}
use Rattle.fd_events.specs.declared.lane.Lane.{Lane}
use Rattle.fd_events.specs.declared.ring.Place.{Place}
use Rattle.fd_events.specs.Rotation.{AreEventsOnce, AreDescriptorsOnce}

abbrev pub numbered : ℕ → Obj
numbered n = record { 0 = n }

abbrev pub number_of : Obj → ℕ
number_of x = x.0

-- ---- what a node says

abbrev pub sides_of : Node → Sides
sides_of v = v.sides

abbrev pub stamp_of : Node → ℕ
stamp_of v = v.stamp

-- how the event of this number watches
abbrev pub watching : ℕ → Node → Watch
watching x v = record { object = numbered x; fd = v.fd; flags = v.flags; closes = v.closes; context = v.context }

abbrev pub sides_at : map.FinMap nat_cmp Node → ℕ → Option Sides
sides_at m q = option_map sides_of (map.get m q)

abbrev pub stamp_at : map.FinMap nat_cmp Node → ℕ → Option ℕ
stamp_at m q = option_map stamp_of (map.get m q)

abbrev pub watch_at : map.FinMap nat_cmp Node → ℕ → Option Watch
watch_at m q = option_map (watching q) (map.get m q)

-- something is noted under this number
abbrev pub is_there : Lane → ℕ → Bool
is_there l q = is_some (watch_at l.nodes.pairs q)

-- ---- single changes of a node

abbrev pub with_flags : ℕ → Node → Node
with_flags flags v = record v { flags = flags }

abbrev pub with_closing : Node → Node
with_closing v = record v { closes = true }

abbrev pub with_loss : Node → Node
with_loss v = record v { context = None }

-- ---- what the list says

-- the number of the context of an event; none where it is lost
abbrev pub context_of : Watch → Option ℕ
context_of w = option_map number_of w.context

abbrev pub context_in : List Watch → ℕ → Option ℕ
context_in ws q = option_and_then context_of (watch_of ws (numbered q))

-- the newest first
abbrev pub numbers_of : List Watch → List ℕ
numbers_of [] = []
numbers_of (w ∷ ws) = numbers_of ws ++ w.object.0 ∷ []

-- the lane of a context
abbrev pub lane_in : List Watch → ℕ → List ℕ
lane_in ws c = numbers_of (ring_in ws (numbered c))

abbrev pub listed_one : Option Watch → List Watch
listed_one None = []
listed_one (Some w) = w ∷ []

-- a lane has the newest first, and the oldest is looked at first
abbrev pub listed : (ℕ → Option Watch) → List ℕ → List Watch
listed W [] = []
listed W (x ∷ xs) = listed W xs ++ listed_one (W x)

-- ---- the stamps

-- not all stamps have been given
abbrev pub HasStampsLeft : Lane → Type 0
HasStampsLeft l = l.next_stamp < 2 ^ 64 - 1

-- the newest has a stamp below n, and each of the others has one below that of the next newer one
abbrev pub FallFrom : (ℕ → Option ℕ) → ℕ → List ℕ → Type 0
FallFrom S n [] = Unit {0}
FallFrom S n (x ∷ xs) = (s : ℕ) × (S x ≡ Some s) × (s < n) × FallFrom S s xs

-- ---- the lanes, one a context

-- the neighbours, the ends and the stamps keep these lanes, where K gives the number of the lane in which each event stands
pub record IsLane (l : Lane) (K : ℕ → Option ℕ) (lane : ℕ → List ℕ) : Type 0 where
  pub family : Family K (sides_at l.nodes.pairs) (map.get l.ends.lanes) lane
  pub stamps : HasStampsLeft l → (c : ℕ) → FallFrom (stamp_at l.nodes.pairs) l.next_stamp (lane c)

-- one more stands in a lane, or in none
abbrev pub placed : (ℕ → Option ℕ) → ℕ → Option ℕ → ℕ → Option ℕ
placed K x o q = cond (nat_eq x q) o (K q)

abbrev pub lanes_joined : (ℕ → List ℕ) → ℕ → Option ℕ → ℕ → List ℕ
lanes_joined F x o d = cond (is_at o d) (x ∷ F d) (F d)

abbrev pub lanes_left : (ℕ → List ℕ) → ℕ → ℕ → List ℕ
lanes_left F x d = without (F d) x

-- the ends of this lane are there, some stand in it, and whole ends are left once one with these neighbours has left
abbrev pub CanLeave : Lanes → Sides → ℕ → Type 0
CanLeave m sides c = (e : Extent) × (map.get m c ≡ Some e) × (0 < e.count) × IsWhole (left_by sides e)

-- the ends of this lane are there, and fewer than n stand in it
abbrev pub HasFewer : Lanes → ℕ → ℕ → Type 0
HasFewer m n c = (e : Extent) × (map.get m c ≡ Some e) × (e.count < n)

-- where there is a context, this holds of its number
abbrev pub OnContext : (ℕ → Type 0) → Option Obj → Type 0
OnContext P None = Unit {0}
OnContext P (Some c) = P c.0

-- ---- what holds of the fields

-- each descriptor is watched once, and its event is noted under it
pub record AreHolders (F : ℕ → Option ℕ) (ws : List Watch) : Type 0 where
  pub once : AreDescriptorsOnce ws
  pub holder : (fd : ℕ) → option_map numbered (F fd) ≡ holder_of ws fd

-- what holds of the fields, and of the list and the contexts that the history tells
pub record IsKept (l : Lane) (holders : map.FinMap nat_cmp ℕ) (ws : List Watch) (cs : List Obj) : Type 0 where
  pub once : AreEventsOnce ws
  pub held : (q : ℕ) → watch_at l.nodes.pairs q ≡ watch_of ws (numbered q)
  pub count : map.len l.nodes.pairs ≡ length ws
  pub noted : AreHolders (map.get holders) ws
  pub lane : IsLane l (context_in ws) (lane_in ws)
  pub open_ones : (c : ℕ) → is_some (map.get l.ends.lanes c) ≡ has_context cs (numbered c)

-- ---- a walk over the rotation

-- those from this one on
abbrev pub from_on : List Watch → Option Obj → List Watch
from_on ws None = []
from_on [] (Some x) = []
from_on (w ∷ ws) (Some x) = if same w.object x then w ∷ ws else from_on ws (Some x)

-- this is how an event watches, and the one behind it
abbrev pub IsPlace : List Watch → Obj → Option Place → Type 0
IsPlace ws x None = from_on ws (Some x) ≡ []
IsPlace ws x (Some p) = from_on ws (Some x) ≡ p.watch ∷ from_on ws p.next
