-- What a contract sees of places: a finite map from keys to slots, and how many more fit with no allocation.
use Rattle.std.specs.Prelude.{◌≡◌, ℕ, ◌-◌, ◌+◌, ◌<◌, ◌≤◌, min, List, [], ◌∷◌, length, Option, Some, None, IsSome, vec_len, vec_capacity}
use Rattle.std.specs.Ordering.{nat_cmp}
use Rattle.std.specs.FinMap as map
use Rattle.pool_arena.specs.Nodes.{nowhere, head, rest_of, link_at, pair_at, IsFound, IsOnTheWay, IsReachable, IsKept}
use Rattle.pool_arena.specs.declared.node.Node.{Node}
use Rattle.pool_arena.specs.declared.places.Places.{Places}

-- a map with the slot of a node in it, if the node has one
abbrev pub with_slot : map.FinMap nat_cmp ℕ → ℕ → Option ℕ → map.FinMap nat_cmp ℕ
with_slot m key None = m
with_slot m key (Some slot) = map.insert m key slot

abbrev pub slots_in : List Node → map.FinMap nat_cmp ℕ
slots_in [] = map.empty
slots_in (node ∷ rest) = with_slot (slots_in rest) node.key node.slot

-- the slot of each key
abbrev pub slots_of : Places → map.FinMap nat_cmp ℕ
slots_of p = slots_in p.nodes.items

-- the link at the head of a key
abbrev pub head_of : Places → ℕ → ℕ
head_of p key = head p.heads.items key

-- the link that a key with these bits follows from an index
abbrev pub link_of : Places → ℕ → ℕ → ℕ
link_of p i rest = link_at p.nodes.items i rest

-- the key and the slot that are held at an index
abbrev pub holds : Places → ℕ → Option (ℕ × ℕ)
holds p i = pair_at p.nodes.items i

abbrev pub IsHeldAt : Places → ℕ → Type 0
IsHeldAt p i = IsSome (holds p i)

-- a key gets from its head to the node of its own at an index
abbrev pub GetsTo : Places → ℕ → ℕ → Type 0
GetsTo p key i = IsFound p.heads.items p.nodes.items key i

-- a key gets from its head to a link, and has these bits left
abbrev pub IsOnWay : Places → ℕ → ℕ → ℕ → Type 0
IsOnWay p key link rest = IsOnTheWay p.nodes.items key (head_of p key) (rest_of (length p.heads.items) key) link rest

-- a key gets to an index once the node there is of this key
abbrev pub CanReach : Places → ℕ → ℕ → Type 0
CanReach p key i = IsReachable p.heads.items p.nodes.items key i

-- so many more keys fit with no allocation
abbrev pub spare : Places → ℕ
spare p = min (vec_capacity p.nodes) nowhere - vec_len p.nodes

-- each key is found, and there are heads for those that may be added
pub record IsSound (p : Places) : Type 0 where
  pub kept : IsKept p.heads.items p.nodes.items
  pub ready : 0 < spare p → 0 < length p.heads.items

-- a key may be added
pub record CanAdd (p : Places) (key : ℕ) : Type 0 where
  pub sound : IsSound p
  pub vacant : map.get (slots_of p) key ≡ None
  pub room : 1 ≤ spare p

-- a key was added
pub record IsAdded (old new : Places) (key slot : ℕ) : Type 0 where
  pub sound : IsSound new
  pub slots : slots_of new ≡ map.insert (slots_of old) key slot
  pub spare_left : spare old ≤ spare new + 1
  pub same_heads : length new.heads.items ≡ length old.heads.items

-- the slots are the same, and there is no less room
pub record IsSame (old new : Places) : Type 0 where
  pub sound : IsSound new
  pub slots : slots_of new ≡ slots_of old
  pub spare_kept : spare old ≤ spare new
