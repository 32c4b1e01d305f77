-- The pairs, as the nodes and the heads tell them by their numbers.
use Rattle.std.specs.Prelude.{◌≡◌, ℕ, zero, suc, ◌+◌, ◌-◌, ◌≤◌, List, [], ◌∷◌, ◌++◌, length, slice_get, map as each, Option, Some, None, Bool, nat_eq, if◌then◌else◌}
use Rattle.std.specs.Option.{option_map, unwrap_or}
use Rattle.std.specs.Ordering.{nat_cmp, flip_args}
use Rattle.std.specs.declared.cmp.Ordering.{Ordering}
use Rattle.std.specs.FinMap as map
use Rattle.tree_specs.specs.declared.object.Obj.{Obj}
use Rattle.tree_specs.specs.declared.object.Owner.{Owner}
use Rattle.tree_specs.specs.declared.row.Row.{Row}
use Rattle.tree_specs.specs.Tree.Targets.{is_target, newer}
use Rattle.tree_specs.specs.Tree.Pool.{kids, newest_ref_of}
use Rattle.linked_lanes.specs.declared.Sides.{Sides}
use Rattle.linked_lanes.specs.Chain.{Chain}
use Rattle.references.specs.declared.refs.Pair.{Pair}
use Rattle.linked_lanes.specs.declared.Link.{Link}
use Rattle.linked_lanes.specs.Chain.{noted}
use Rattle.references.specs.declared.node.Node.{Node}
use Rattle.references.specs.declared.head.Head.{Head}
use Rattle.references.specs.Pairs.{pair, target_of, next_to, most}

abbrev pub numbered : ℕ → Obj
numbered n = record { 0 = n }

-- ---- the list of the pairs

abbrev pub down : ℕ → ℕ → Ordering
down = flip_args nat_cmp

-- the references and their targets, the greatest reference first
abbrev pub list_of : map.FinMap nat_cmp Node → List (ℕ × ℕ)
list_of m = map.entries (map.from_entries {R = down} (each (λ e. (e.0, e.1.target)) (map.entries m)))

abbrev pub pairs_of : List (ℕ × ℕ) → List Pair
pairs_of [] = []
pairs_of (e ∷ es) = pair (numbered e.0) (numbered e.1) ∷ pairs_of es

abbrev pub pairs_in : map.FinMap nat_cmp Node → List Pair
pairs_in m = pairs_of (list_of m)

-- the references to one object, the newest first
abbrev pub lane : List Pair → ℕ → List ℕ
lane [] t = []
lane (p ∷ ps) t = if nat_eq p.target.0 t then p.reference.0 ∷ lane ps t else lane ps t

-- ---- what the fields say

abbrev pub target_in : Node → Obj
target_in v = numbered v.target

abbrev pub sides_of : Node → Sides
sides_of v = v.sides

abbrev pub newest_of : Head → ℕ
newest_of h = h.newest

abbrev pub count_of : Option Head → ℕ
count_of None = 0
count_of (Some h) = h.count

-- ---- single changes

abbrev pub with_newer : Option ℕ → Node → Node
with_newer w v = record v { sides = record v.sides { newer = w } }

abbrev pub with_older : Option ℕ → Node → Node
with_older w v = record v { sides = record v.sides { older = w } }

-- another neighbour is noted
abbrev pub with_link : Link → Node → Node
with_link link v = record v { sides = noted link v.sides }

-- the references to an object once this one has joined them
abbrev pub joined : ℕ → Option Head → Head
joined x None = record { newest = x; count = 1 }
joined x (Some h) = record { newest = x; count = h.count + 1 }

-- one fewer, with another newest one where there is one
abbrev pub shortened : Option ℕ → Head → Head
shortened w h = record { newest = unwrap_or w h.newest; count = h.count - 1 }

abbrev pub left_by : Option ℕ → Option ℕ → Head → Option Head
left_by None None h = None
left_by None (Some older) h = Some (shortened (Some older) h)
left_by (Some newer) older h = Some (shortened None h)

-- the references to an object once one with these neighbours has left them
abbrev pub left : Sides → Head → Option Head
left s h = left_by s.newer s.older h

-- ---- what holds of the fields

pub record IsLinked (nodes : map.FinMap nat_cmp Node) (heads : map.FinMap nat_cmp Head) : Type 0 where
  -- the neighbours of each reference, and the newest to each object
  pub chain : (t : ℕ) → Chain (λ q. option_map sides_of (map.get nodes q)) (option_map newest_of (map.get heads t)) (lane (pairs_in nodes) t)
  pub count : (t : ℕ) → count_of (map.get heads t) ≡ length (lane (pairs_in nodes) t)
  pub few : length (pairs_in nodes) ≤ most

-- ---- a walk over the references to an object

-- the first that passes, from this one on, among so many
abbrev pub first_passing : (Obj → Bool) → List Pair → ℕ → Option Obj → Option Obj
first_passing q ps zero at = None
first_passing q ps (suc n) None = None
first_passing q ps (suc n) (Some r) = if q r then Some r else first_passing q ps n (next_to ps r)

-- ---- a walk over the children of an owner

-- the newer of this one and another, where this one refers to the object
abbrev pub with_ref : List Pair → Obj → Obj → Option Obj → Option Obj
with_ref ps x r newest = if is_target (target_of ps r) x then newer r newest else newest

-- the newest of these that refer to the object
abbrev pub newest_among : List Pair → Obj → List Obj → Option Obj
newest_among ps x [] = None
newest_among ps x (r ∷ rs) = with_ref ps x r (newest_among ps x rs)

-- the newer of two, where there are any
abbrev pub newer_of_both : Option Obj → Option Obj → Option Obj
newer_of_both None other = other
newer_of_both (Some r) other = newer r other

-- so far through the children of an owner: the newest of those that refer to the object is the one kept, or is
-- among those to come
pub record IsAtChild (ps : List Pair) (rs : List Row) (o : Owner) (x : Obj) (child newest : Option Obj) : Type 0 where
  pub before : List Obj
  pub after : List Obj
  pub children : kids rs o ≡ before ++ after
  pub at_child : child ≡ slice_get after 0
  pub leads_to : newer_of_both newest (newest_among ps x after) ≡ newest_ref_of rs o x
