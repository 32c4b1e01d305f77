-- Those that come soon, as their nodes and the ends of the contexts tell them by their numbers.
use Rattle.std.specs.Prelude.{◌≡◌, ℕ, nat_eq, if◌then◌else◌, List, [], ◌∷◌, ◌++◌, length, Option, Some, None, is_some}
use Rattle.std.specs.Option.{option_map}
use Rattle.std.specs.Ordering.{nat_cmp}
use Rattle.std.specs.FinMap as map
use Rattle.tree_specs.specs.declared.object.Obj.{Obj}
use Rattle.linked_lanes.specs.declared.Sides.{Sides}
use Rattle.linked_lanes.specs.Family.{Family}
use Rattle.lane_ends.specs.Lanes.{Lanes}
use Rattle.tree_specs.specs.declared.coming.Coming.{Coming}
use Rattle.tree_specs.specs.Events.Contexts.{has_context}
use Rattle.immediates.specs.declared.node.Node.{Node}
use Rattle.immediates.specs.Waiting.{AreOnce}

abbrev pub numbered : ℕ → Obj
numbered n = record { 0 = n }

-- ---- what the nodes say

abbrev pub context_of : Node → ℕ
context_of v = v.context

abbrev pub sides_of : Node → Sides
sides_of v = v.sides

abbrev pub context_at : map.FinMap nat_cmp Node → ℕ → Option ℕ
context_at m q = option_map context_of (map.get m q)

abbrev pub sides_at : map.FinMap nat_cmp Node → ℕ → Option Sides
sides_at m q = option_map sides_of (map.get m q)

-- ---- what the list says

-- the number of the context in which an object comes
abbrev pub context_in : List Coming → ℕ → Option ℕ
context_in [] q = None
context_in (y ∷ ys) q = if nat_eq y.object.0 q then Some y.context.0 else context_in ys q

abbrev pub one_in : Coming → ℕ → List ℕ
one_in y c = if nat_eq y.context.0 c then y.object.0 ∷ [] else []

-- the lane of a context, which has the newest first
abbrev pub lane_in : List Coming → ℕ → List ℕ
lane_in [] c = []
lane_in (y ∷ ys) c = lane_in ys c ++ one_in y c

-- ---- both

-- what holds of the fields, and of the list and the contexts that the history tells
pub record IsKept (m : map.FinMap nat_cmp Node) (ends : Lanes) (coming : List Coming) (contexts : List Obj) : Type 0 where
  pub once : AreOnce coming
  pub held : (q : ℕ) → context_at m q ≡ context_in coming q
  pub count : map.len m ≡ length coming
  pub family : Family (context_at m) (sides_at m) (map.get ends) (lane_in coming)
  pub open_ones : (c : ℕ) → is_some (map.get ends c) ≡ has_context contexts (numbered c)
