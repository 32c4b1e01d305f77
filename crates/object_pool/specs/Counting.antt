-- What the sums of a host are told of, and what they were before.
use Rattle.std.specs.Prelude.{◌≡◌, List, ◌∷◌, Option}
use Rattle.tree_specs.specs.declared.free_step.FreeStep.{FreeStep}
use Rattle.tree_specs.specs.declared.object.Obj.{Obj}
use Rattle.tree_specs.specs.declared.object.Owner.{Owner}
use Rattle.tree_specs.specs.declared.row.Row.{Row}
use Rattle.tree_specs.specs.Tree.Forest.{IsForest}
use Rattle.tree_specs.specs.Tree.Pool.{owner_of}
use Rattle.tree_links.specs.Links.{MayPlace}
use Rattle.memory_limits.specs.declared.limited.Limited.{Limited}
use Rattle.memory_limits.specs.Limits.{AreLimitsOf}
use Rattle.destructors.specs.Changes.{SameRows, ChangedBy, placed_rows}

-- the limits and sums were those of the rows before this object, which has no limit
pub record WasAdded (x : Obj) (ls : List Limited) (rs' : List Row) : Type 0 where
  pub row : Row
  pub rows : List Row
  pub were : AreLimitsOf ls rows
  pub are : rs' ≡ row ∷ rows
  pub number : row.serial ≡ x
  pub unlimited : row.limit ≡ 0

-- the limits and sums were those of the rows before an object went from this owner, or from none, to another one
pub record WentFrom (x : Obj) (from : Option Owner) (ls : List Limited) (rs' : List Row) : Type 0 where
  pub rows : List Row
  pub owner : Owner
  pub forest : IsForest rows
  pub were : AreLimitsOf ls rows
  pub was : owner_of rows x ≡ from
  pub may : MayPlace rows x owner
  pub placed : SameRows (placed_rows rows owner x) rs'

-- the limits and sums were those of the rows before this step of a free
pub record WasCounted (t : FreeStep) (ls : List Limited) (rs' : List Row) : Type 0 where
  pub rows : List Row
  pub forest : IsForest rows
  pub were : AreLimitsOf ls rows
  pub changed : ChangedBy t rows rs'
