-- What makes the rows a forest: each number once, each owner there, and an end on each way from owner to owner.
use Rattle.std.specs.Prelude.{◌≡◌, ℕ, zero, suc, Bool, true, false, List, [], ◌∷◌, length, Option, Some, None}
use Rattle.tree_specs.specs.declared.object.Owner.{Owner}
use Rattle.tree_specs.specs.declared.row.Row.{Row}
use Rattle.tree_specs.specs.Tree.Pool.{row_of, is_owner, next_owner}

-- each number once
abbrev pub Distinct : List Row → Type 0
Distinct [] = Unit {0}
Distinct (r ∷ rs) = (row_of rs r.serial ≡ None) × Distinct rs

-- from owner to owner, one comes to an end within n steps
abbrev pub ends : ℕ → List Row → Option Owner → Bool
ends n rs None = true
ends zero rs (Some o) = false
ends (suc n) rs (Some o) = ends n rs (next_owner rs o)

-- no owner comes to be inside itself: from each owner one comes to an end
abbrev pub Rooted : List Row → Type 0
Rooted rs = (o : Owner) → ends (suc (length rs)) rs (Some o) ≡ true

-- an owner, where there is one, is the root or a row
abbrev pub IsThere : List Row → Option Owner → Type 0
IsThere rs None = Unit {0}
IsThere rs (Some o) = is_owner rs o ≡ true

-- each row of the second list has, where it has an owner, the root or a row of the first list
abbrev pub OwnersAre : List Row → List Row → Type 0
OwnersAre rs [] = Unit {0}
OwnersAre rs (r ∷ qs) = IsThere rs r.owner × OwnersAre rs qs

-- the owner of each row is the root or a row
abbrev pub AllOwned : List Row → Type 0
AllOwned rs = OwnersAre rs rs

-- what holds of the rows of every tree
pub record IsForest (rows : List Row) : Type 0 where
  -- each number stands once
  pub distinct : Distinct rows
  -- the owner of each row is the root or a row
  pub owned : AllOwned rows
  -- from owner to owner one comes to an end, so none is inside itself
  pub rooted : Rooted rows
