-- The times of one context as a heap keeps them, and the place of each object in it.
use Rattle.std.specs.Prelude.{◌≡◌, ◌≢◌, ℕ, ◌+◌, ◌-◌, ◌^◌, ◌<◌, ◌≤◌, Bool, true, false, cond, nat_eq, List, [], ◌∷◌, length, slice_get, Option, Some, None, IsSome}
use Rattle.std.specs.List.{find}
use Rattle.std.specs.Option.{option_map}
use Rattle.tree_specs.specs.declared.due.Due.{Due}
use Rattle.tree_specs.specs.Events.Pending.{comes_before, put_in}
use Rattle.timers.specs.declared.heap.Way.{Way}
use Rattle.timers.specs.declared.heap.Way.TheVariants.{Up, Down}

-- ---- the order

-- the times of the heap, in their order
abbrev pub sorted : List Due → List Due
sorted [] = []
sorted (d ∷ ds) = put_in d (sorted ds)

-- the time with this number
abbrev pub by_number : List Due → ℕ → Option Due
by_number ds n = find (λ d. nat_eq d.number n) ds

-- a number tells which time it is
abbrev pub Told : (ℕ → Option Due) → List Due → Type 0
Told N [] = Unit {0}
Told N (d ∷ ds) = (N d.number ≡ Some d) × Told N ds

-- the same times at other places
pub record Reorders (ds es : List Due) : Type 0 where
  pub count : length es ≡ length ds
  pub order : (N : ℕ → Option Due) → Told N ds → sorted es ≡ sorted ds
  pub told : (N : ℕ → Option Due) → Told N ds → Told N es

-- the time at this place is gone, and the others are there
pub record Removes (ds es : List Due) (at : ℕ) : Type 0 where
  pub count : length es + 1 ≡ length ds
  pub order : (N : ℕ → Option Due) (d : Due) → Told N ds → slice_get ds at ≡ Some d → sorted ds ≡ put_in d (sorted es)
  pub told : (N : ℕ → Option Due) → Told N ds → Told N es

-- ---- the heap, as a function of places

-- both are there, and the one comes before the other
abbrev pub is_early : Option Due → Option Due → Bool
is_early None e = false
is_early (Some d) None = false
is_early (Some d) (Some e) = comes_before d e

abbrev pub IsChild : ℕ → ℕ → Type 0
IsChild p k = (p + p < k) × (k ≤ p + p + 2)

-- none comes before its parent
abbrev pub IsHeap : (ℕ → Option Due) → Type 0
IsHeap H = (p k : ℕ) → IsChild p k → is_early (H k) (H p) ≡ false

-- no child of the one at this place comes before its parent
abbrev pub IsFineAround : (ℕ → Option Due) → ℕ → Type 0
IsFineAround H at = (p k : ℕ) → IsChild p at → IsChild at k → is_early (H k) (H p) ≡ false

-- a heap, but that the one at this place may come before its parent
pub record Rises (H : ℕ → Option Due) (at : ℕ) : Type 0 where
  pub others : (p k : ℕ) → IsChild p k → k ≢ at → is_early (H k) (H p) ≡ false
  pub around : IsFineAround H at

-- a heap, but that children of the one at this place may come before it
pub record Sinks (H : ℕ → Option Due) (at : ℕ) : Type 0 where
  pub others : (p k : ℕ) → IsChild p k → p ≢ at → is_early (H k) (H p) ≡ false
  pub around : IsFineAround H at

-- a heap, but for the one at this place
pub record Settles (H : ℕ → Option Due) (at : ℕ) : Type 0 where
  pub others : (p k : ℕ) → IsChild p k → k ≢ at → p ≢ at → is_early (H k) (H p) ≡ false
  pub around : IsFineAround H at

-- the parent of this place, where this time comes before it
abbrev pub IsLateParent : (ℕ → Option Due) → ℕ → Due → Option ℕ → Type 0
IsLateParent H at due None = (p : ℕ) → IsChild p at → is_early (Some due) (H p) ≡ false
IsLateParent H at due (Some p) = IsChild p at × (is_early (Some due) (H p) ≡ true)

-- this place or the next one, and neither of them comes before it
pub record IsFirstOfTwo (H : ℕ → Option Due) (left c : ℕ) : Type 0 where
  pub is : (left ≤ c) × (c ≤ left + 1)
  pub there : IsSome (H c)
  pub least : (k : ℕ) → left ≤ k → k ≤ left + 1 → is_early (H k) (H c) ≡ false

-- the child of this place that comes first and before this time, where there is one
abbrev pub IsEarlyChild : (ℕ → Option Due) → ℕ → Due → Option ℕ → Type 0
IsEarlyChild H at due None = (k : ℕ) → IsChild at k → is_early (H k) (Some due) ≡ false
IsEarlyChild H at due (Some c) = IsChild at c × (is_early (H c) (Some due) ≡ true) × ((k : ℕ) → IsChild at k → is_early (H k) (H c) ≡ false)

-- a heap, but that the one at this place may have to go this way
abbrev pub Sifts : Way → (ℕ → Option Due) → ℕ → Type 0
Sifts Up H at = Rises H at
Sifts Down H at = Sinks H at

-- the next place on the way, where it is to go on
abbrev pub IsNext : Way → (ℕ → Option Due) → ℕ → Due → Option ℕ → Type 0
IsNext Up H at due next = IsLateParent H at due next
IsNext Down H at due next = IsEarlyChild H at due next

-- how many places there still are on the way, at most
abbrev pub places_left : Way → ℕ → ℕ
places_left Up at = at
places_left Down at = 2 ^ 64 - at

-- ---- the places

abbrev pub object_of : Due → ℕ
object_of d = d.object.0

-- with this place for the object
abbrev pub with_place : (ℕ → Option ℕ) → ℕ → ℕ → ℕ → Option ℕ
with_place P x at q = cond (nat_eq x q) (Some at) (P q)

-- each object's place
pub record Places (H : ℕ → Option Due) (P : ℕ → Option ℕ) : Type 0 where
  pub there : (i : ℕ) (d : Due) → H i ≡ Some d → P d.object.0 ≡ Some i
  pub back : (q i : ℕ) → P q ≡ Some i → option_map object_of (H i) ≡ Some q

-- the times have come to where they belong, each object's place is noted, and they are the same as before
pub record IsSettled (before after : List Due) (P : ℕ → Option ℕ) : Type 0 where
  pub heap : IsHeap (slice_get after)
  pub places : Places (slice_get after) P
  pub dues : Reorders before after

-- each object's place, but for the time at this place, which is to go
pub record PlacesBut (H : ℕ → Option Due) (P : ℕ → Option ℕ) (at : ℕ) : Type 0 where
  pub there : (i : ℕ) (d : Due) → H i ≡ Some d → i ≢ at → P d.object.0 ≡ Some i
  pub back : (q i : ℕ) → P q ≡ Some i → (i ≢ at) × (option_map object_of (H i) ≡ Some q)

-- what holds of a heap and of the places in it
pub record IsKept (ds : List Due) (P : ℕ → Option ℕ) : Type 0 where
  pub heap : IsHeap (slice_get ds)
  pub places : Places (slice_get ds) P
  pub told : Told (by_number ds) ds
