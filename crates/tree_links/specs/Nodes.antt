-- The nodes that hold the rows, and how their links tell the list of the rows.
use Rattle.std.specs.Prelude.{◌≡◌, ℕ, zero, suc, Bool, true, false, cond, nat_eq, List, [], ◌∷◌, length, Option, Some, None, if◌then◌else◌, IsSome}
use Rattle.std.specs.Option.{option_map, option_and_then}
use Rattle.std.specs.Ordering.{nat_cmp}
use Rattle.std.specs.FinMap as map
use Rattle.tree_specs.specs.declared.object.Obj.{Obj}
use Rattle.tree_specs.specs.declared.object.Owner.{Owner}
use Rattle.tree_specs.specs.declared.object.Owner.TheVariants.{Root, Of}
use Rattle.tree_specs.specs.declared.row.Row.{Row}
use Rattle.tree_specs.specs.Words.Objects.{same_owner}
use Rattle.tree_specs.specs.Tree.Pool.{row_of, is_below, owned_row}
use Rattle.tree_links.specs.Links.{IsTree}
use Rattle.linked_lanes.specs.Lane.{has}
use Rattle.linked_lanes.specs.Chain.{Chain, noted}
use Rattle.tree_links.specs.declared.node.Node.{Node}
use Rattle.tree_links.specs.declared.node.Lane.{Lane}
use Rattle.tree_links.specs.declared.node.Lane.TheVariants.{Placed, Kin}
use Rattle.linked_lanes.specs.declared.Link.{Link}
use Rattle.linked_lanes.specs.declared.Sides.{Sides}

abbrev pub Nodes : Type 0
Nodes = map.FinMap nat_cmp Node

-- ---- lanes of the rows, by their numbers

abbrev pub lane : (Row → Bool) → List Row → List ℕ
lane f [] = []
lane f (r ∷ rs) = if f r then r.serial.0 ∷ lane f rs else lane f rs

-- the numbers of all rows
abbrev pub numbers : List Row → List ℕ
numbers rs = lane (λ r. true) rs

-- the numbers of the children of an owner
abbrev pub children : List Row → Owner → List ℕ
children rs p = lane (λ r. is_below r.owner p) rs

-- ---- what the fields of the nodes say

abbrev pub row_in : Node → Row
row_in v = v.row

abbrev pub placed_in : Node → Sides
placed_in v = v.placed

abbrev pub kin_in : Node → Sides
kin_in v = v.kin

abbrev pub first_in : Node → Option ℕ
first_in v = v.first

-- its owner, and its neighbours among that owner's children
abbrev pub owned_in : Node → Option Owner × Sides
owned_in v = (v.row.owner, v.kin)

abbrev pub row_at : Nodes → ℕ → Option Row
row_at m q = option_map row_in (map.get m q)

abbrev pub placed_at : Nodes → ℕ → Option Sides
placed_at m q = option_map placed_in (map.get m q)

abbrev pub kin_at : Nodes → ℕ → Option Sides
kin_at m q = option_map kin_in (map.get m q)

-- the first child that an owner's node, or the tree for the root, tells
abbrev pub head_of : Nodes → Option ℕ → Owner → Option ℕ
head_of m root Root = root
head_of m root (Of x) = option_and_then first_in (map.get m x.0)

-- the place for the first child of an owner is there
abbrev pub HasHead : Nodes → Owner → Type 0
HasHead m Root = Unit {0}
HasHead m (Of x) = IsSome (map.get m x.0)

-- ---- single changes of a node

abbrev pub placed_newer : Option ℕ → Node → Node
placed_newer w v = record v { placed = record v.placed { newer = w } }

abbrev pub placed_older : Option ℕ → Node → Node
placed_older w v = record v { placed = record v.placed { older = w } }

abbrev pub kin_newer : Option ℕ → Node → Node
kin_newer w v = record v { kin = record v.kin { newer = w } }

abbrev pub kin_older : Option ℕ → Node → Node
kin_older w v = record v { kin = record v.kin { older = w } }

-- another neighbour is noted in a lane
abbrev pub with_link : Lane → Link → Node → Node
with_link Placed link v = record v { placed = noted link v.placed }
with_link Kin link v = record v { kin = noted link v.kin }

abbrev pub with_first : Option ℕ → Node → Node
with_first w v = record v { first = w }

abbrev pub with_row : (Row → Row) → Node → Node
with_row f v = record v { row = f v.row }

-- below an owner, in front of these heads of the lane of all rows and of that of the owner's children
abbrev pub entered : Owner → Option ℕ → Option ℕ → Node → Node
entered o front first v = record v { row = owned_row o v.row; placed = record { newer = None; older = front }; kin = record { newer = None; older = first } }

-- the next child that a node tells, where it has an owner
abbrev pub next_where : Option Owner → Option ℕ → Option Obj
next_where None older = None
next_where (Some p) None = None
next_where (Some p) (Some x) = Some (record { 0 = x })

abbrev pub next_in : Node → Option Obj
next_in v = next_where v.row.owner v.kin.older

-- ---- lanes and links

-- all lanes: all rows in the order of their placing, and the children of each owner
pub record Linked (m : Nodes) (front root : Option ℕ) (A : List ℕ) (K : Owner → List ℕ) : Type 0 where
  pub placed : Chain (placed_at m) front A
  pub kin : (p : Owner) → Chain (kin_at m) (head_of m root p) (K p)

-- two owners have no child in common with this one's
abbrev pub Apart : (Owner → List ℕ) → Owner → Type 0
Apart K o = (p : Owner) (k : ℕ) → same_owner o p ≡ false → has (K o) k ≡ true → has (K p) k ≡ false

-- one has entered in front of all rows and of an owner's children: it notes the heads of both lanes as its older
-- neighbours and is the owner's first child, and those heads don't note it yet
pub record Enters (m m' : Nodes) (front first former root : Option ℕ) (o : Owner) (x : ℕ) : Type 0 where
  pub head : first ≡ head_of m former o
  pub placed : (q : ℕ) → placed_at m' q ≡ cond (nat_eq x q) (Some (record { newer = None; older = front })) (placed_at m q)
  pub kin : (q : ℕ) → kin_at m' q ≡ cond (nat_eq x q) (Some (record { newer = None; older = first })) (kin_at m q)
  pub heads : (p : Owner) → head_of m' root p ≡ cond (same_owner o p) (Some x) (head_of m former p)

-- ---- the list of the rows

abbrev pub older_at : Option Node → Option ℕ
older_at None = None
older_at (Some v) = v.placed.older

abbrev pub row_before : Option Node → List Row → List Row
row_before None rs = []
row_before (Some v) rs = v.row ∷ rs

-- so many at most, from this one on, by the links
abbrev pub walk : Nodes → ℕ → Option ℕ → List Row
walk m zero at = []
walk m (suc n) None = []
walk m (suc n) (Some x) = row_before (map.get m x) (walk m n (older_at (map.get m x)))

abbrev pub rows_of : Nodes → Option ℕ → List Row
rows_of m front = walk m (map.len m) front

-- what the nodes are, where these are the rows
pub record Holds (m : Nodes) (front root : Option ℕ) (rows : List Row) : Type 0 where
  pub row : (q : ℕ) → row_at m q ≡ row_of rows (record { 0 = q })
  pub linked : Linked m front root (numbers rows) (children rows)
  pub count : map.len m ≡ length rows

-- what holds of the fields of every tree
pub record IsLinked (m : Nodes) (front root : Option ℕ) (next : ℕ) : Type 0 where
  pub tree : IsTree (rows_of m front) next
  pub holds : Holds m front root (rows_of m front)
