-- A walk over what is below an owner, and the weights of what it comes to.
use Rattle.std.specs.Prelude.{ℕ, zero, suc, ◌+◌, List, [], ◌∷◌, flat_map, Option, Some, None}
use Rattle.tree_specs.specs.declared.object.Obj.{Obj}
use Rattle.tree_specs.specs.declared.object.Owner.{Owner}
use Rattle.tree_specs.specs.declared.object.Owner.TheVariants.{Root, Of}
use Rattle.tree_specs.specs.declared.row.Row.{Row}
use Rattle.tree_specs.specs.Tree.Pool.{row_of, kids}

-- these objects and all that is below them, each before what is below it, at most n deep
abbrev pub walked : ℕ → List Row → List Obj → List Obj
walked zero rs xs = []
walked (suc n) rs xs = flat_map (λ x. x ∷ walked n rs (kids rs (Of x))) xs

-- the weight of a row, and 0 where there is none
abbrev pub weight_in : (Row → ℕ) → Option Row → ℕ
weight_in g None = 0
weight_in g (Some r) = g r

-- the weight of an object's row
abbrev pub weight_at : (Row → ℕ) → List Row → Obj → ℕ
weight_at g rs x = weight_in g (row_of rs x)

-- the row of an owner; the root has none
abbrev pub own_row : List Row → Owner → Option Row
own_row rs Root = None
own_row rs (Of x) = row_of rs x

-- and its weight
abbrev pub own : (Row → ℕ) → List Row → Owner → ℕ
own g rs p = weight_in g (own_row rs p)

-- a weight over all objects of a list
abbrev pub total_of : (Obj → ℕ) → List Obj → ℕ
total_of h [] = 0
total_of h (x ∷ xs) = h x + total_of h xs
