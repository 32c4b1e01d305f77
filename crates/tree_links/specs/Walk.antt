-- A walk from an owner over all that is below it: each owner before its children, these the newest placed first.
use Rattle.std.specs.Prelude.{◌≡◌, ℕ, suc, zero, false, List, [], ◌∷◌, ◌++◌, length, flat_map, Option, Some, None}
use Rattle.tree_specs.specs.declared.object.Obj.{Obj}
use Rattle.tree_specs.specs.declared.object.Owner.{Owner}
use Rattle.tree_specs.specs.declared.object.Owner.TheVariants.{Root, Of}
use Rattle.tree_specs.specs.declared.row.Row.{Row}
use Rattle.tree_specs.specs.Tree.Pool.{kids, behind, owner_of, next_owner}
use Rattle.tree_specs.specs.Tree.Forest.{ends}
use Rattle.tree_links.specs.declared.walk.Place.{Place}

abbrev pub at_depth : ℕ → Obj → Place
at_depth depth x = record { owner = Of x; depth = depth }

-- these objects, which are at this depth, and all that is below them, at most n deep
abbrev pub placed : ℕ → List Row → ℕ → List Obj → List Place
placed zero rs depth xs = []
placed (suc n) rs depth xs = flat_map (λ x. at_depth depth x ∷ placed n rs (suc depth) (kids rs (Of x))) xs

-- the children of the same owner that come after an object
abbrev pub later_in : List Row → Obj → Option Owner → List Obj
later_in rs x None = []
later_in rs x (Some p) = kids (behind rs x) p

abbrev pub later : List Row → Owner → List Obj
later rs Root = []
later rs (Of x) = later_in rs x (owner_of rs x)

-- what a walk comes to after an owner and all that is below it; it began at the owner so many steps up
abbrev pub left : ℕ → List Row → Option Owner → List Place
left zero rs o = []
left (suc depth) rs None = []
left (suc depth) rs (Some o) = placed (suc (length rs)) rs (suc depth) (later rs o) ++ left depth rs (next_owner rs o)

-- what a walk comes to after it came to this place
abbrev pub ahead : List Row → Place → List Place
ahead rs place = placed (length rs) rs (suc place.depth) (kids rs place.owner) ++ left place.depth rs (Some place.owner)

-- a place, where there is one, and what a walk comes to after it
abbrev pub from_here : List Row → Option Place → List Place
from_here rs None = []
from_here rs (Some place) = place ∷ ahead rs place

-- the places of a walk from an owner
abbrev pub walk_from : List Row → Owner → List Place
walk_from rs from = from_here rs (Some (record { owner = from; depth = 0 }))

-- a place, where there is one, has as many owners above it as its depth says
abbrev pub IsDeep : List Row → Option Place → Type 0
IsDeep rs None = Unit {0}
IsDeep rs (Some place) = ends place.depth rs (Some place.owner) ≡ false
