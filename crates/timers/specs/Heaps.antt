-- The heaps of all contexts, and where each time stands.
use Rattle.std.specs.Prelude.{◌≡◌, ◌≢◌, ℕ, ◌+◌, ◌-◌, ◌<◌, Bool, true, false, cond, nat_eq, List, [], ◌∷◌, length, slice_get, Option, Some, None, is_some, if◌then◌else◌, vec_len, vec_capacity}
use Rattle.std.specs.Global.{Vec}
use Rattle.std.specs.Option.{option_map, option_and_then}
use Rattle.std.specs.Ordering.{nat_cmp}
use Rattle.std.specs.FinMap as map
use Rattle.tree_specs.specs.declared.due.Due.{Due}
use Rattle.tree_specs.specs.declared.object.Obj.{Obj}
use Rattle.tree_specs.specs.Events.Pending.{is_numbered, put_in, times_in}
use Rattle.tree_specs.specs.Events.Contexts.{has_context}
use Rattle.timers.specs.declared.heap.Place.{Place}
use Rattle.timers.specs.declared.heaps.Heaps.{Heaps}
use Rattle.timers.specs.Timetable.{AreInOrder, AreOnce}
use Rattle.timers.specs.Heaped.{sorted, IsHeap, Places, PlacesBut, Removes, IsKept}

abbrev pub numbered : ℕ → Obj
numbered n = record { 0 = n }

-- ---- what the places say

abbrev pub context_of : Place → ℕ
context_of p = p.context

-- where it is in the heap of this context, if it is in that one
abbrev pub index_in : ℕ → Place → Option ℕ
index_in c p = if nat_eq p.context c then Some p.at else None

abbrev pub moved_to : ℕ → Place → Place
moved_to at p = record p { at = at }

-- the number of the context in which an object has its time
abbrev pub context_at : map.FinMap nat_cmp Place → ℕ → Option ℕ
context_at m q = option_map context_of (map.get m q)

-- where the time of an object is in the heap of this context
abbrev pub at_in : map.FinMap nat_cmp Place → ℕ → ℕ → Option ℕ
at_in m c q = option_and_then (index_in c) (map.get m q)

-- the time of one object, if it has one, is at this place of its heap
pub record IsNoted (m n : map.FinMap nat_cmp Place) (x at : ℕ) : Type 0 where
  pub places : (c q : ℕ) → at_in n c q ≡ cond (nat_eq x q) (option_map (λ _. at) (at_in m c q)) (at_in m c q)
  pub contexts : (q : ℕ) → context_at n q ≡ context_at m q
  pub count : map.len n ≡ map.len m

-- the places in the heaps of other contexts than this one are the same
pub record IsSameBeside (m n : map.FinMap nat_cmp Place) (c : ℕ) : Type 0 where
  pub places : (d q : ℕ) → nat_eq c d ≡ false → at_in n d q ≡ at_in m d q
  pub contexts : (q : ℕ) → context_at n q ≡ context_at m q
  pub count : map.len n ≡ map.len m

-- ---- what the heaps say

abbrev pub heap_of : Heaps → ℕ → Option (Vec Due)
heap_of h c = if nat_eq c 0 then Some h.first else map.get h.others.pairs c

abbrev pub items_of : Option (Vec Due) → List Due
items_of None = []
items_of (Some v) = v.items

abbrev pub room_of : Option (Vec Due) → ℕ
room_of None = 0
room_of (Some v) = vec_capacity v - vec_len v

-- the times of a context, as its heap has them
abbrev pub dues_in : Heaps → ℕ → List Due
dues_in h c = items_of (heap_of h c)

-- so many more fit in the heap of a context
abbrev pub room_in : Heaps → ℕ → ℕ
room_in h c = room_of (heap_of h c)

abbrev pub is_open : Heaps → ℕ → Bool
is_open h c = is_some (heap_of h c)

-- a heap with nothing in it is added
pub record IsAdded (h k : Heaps) (c : ℕ) : Type 0 where
  pub heap : Vec Due
  pub empty : heap.items ≡ []
  pub heaps : (d : ℕ) → heap_of k d ≡ cond (nat_eq c d) (Some heap) (heap_of h d)

-- ---- one time that enters a heap, or leaves it

-- a time may enter the heap of its context
pub record CanEnter (d : Due) (ds : List Due) (m : map.FinMap nat_cmp Place) : Type 0 where
  pub kept : IsKept ds (at_in m d.context.0)
  pub vacant : map.get m d.object.0 ≡ None
  pub number : is_numbered ds d.number ≡ false

-- a time has entered the heap of its context
pub record IsEntered (d : Due) (ds es : List Due) (m n : map.FinMap nat_cmp Place) : Type 0 where
  pub kept : IsKept es (at_in n d.context.0)
  pub dues : sorted es ≡ put_in d (sorted ds)
  pub places : (c q : ℕ) → nat_eq d.context.0 c ≡ false → at_in n c q ≡ at_in m c q
  pub contexts : (q : ℕ) → context_at n q ≡ cond (nat_eq d.object.0 q) (Some d.context.0) (context_at m q)
  pub count : map.len n ≡ map.len m + 1

-- the time at this place may leave the heap, where its place isn't noted any more
pub record CanLeave (p : Place) (ds : List Due) (m : map.FinMap nat_cmp Place) : Type 0 where
  pub within : p.at < length ds
  pub heap : IsHeap (slice_get ds)
  pub places : PlacesBut (slice_get ds) (at_in m p.context) p.at
  pub own : (i : ℕ) (d : Due) → slice_get ds i ≡ Some d → d.context.0 ≡ p.context

-- it has left
pub record IsLeft (p : Place) (ds es : List Due) (m n : map.FinMap nat_cmp Place) : Type 0 where
  pub heap : IsHeap (slice_get es)
  pub places : Places (slice_get es) (at_in n p.context)
  pub dues : Removes ds es p.at
  pub beside : IsSameBeside m n p.context

-- ---- what holds of the fields

-- the number of the context in which an object comes
abbrev pub context_in : List Due → ℕ → Option ℕ
context_in [] q = None
context_in (d ∷ ds) q = if nat_eq d.object.0 q then Some d.context.0 else context_in ds q

-- the heaps D of the contexts that are open, and the places, hold the times and the contexts that the history tells
pub record AreKept (D : ℕ → List Due) (open_ones : ℕ → Bool) (m : map.FinMap nat_cmp Place) (dues : List Due) (contexts : List Obj) : Type 0 where
  pub ordered : AreInOrder dues
  pub once : AreOnce dues
  pub held : (q : ℕ) → context_at m q ≡ context_in dues q
  pub count : map.len m ≡ length dues
  pub heaps : (c : ℕ) → IsKept (D c) (at_in m c)
  pub told : (c : ℕ) → sorted (D c) ≡ times_in dues (numbered c)
  pub known : (c : ℕ) → open_ones c ≡ has_context contexts (numbered c)

-- each heap has room for one more, but for the one that may have been filled, and where none was there is a place for one more
pub record HasRoom (R : ℕ → ℕ) (open_ones : ℕ → Bool) (places : ℕ) (filled : Option ℕ) : Type 0 where
  pub heaps : (c : ℕ) → open_ones c ≡ true → filled ≢ Some c → 0 < R c
  pub place : filled ≡ None → 0 < places

abbrev pub spare_by : Option ℕ → ℕ
spare_by None = 1
spare_by (Some c) = 0
