-- What a step of the open frees does to the rows, for those who keep books of their own.
use Rattle.std.specs.Prelude.{◌≡◌, true, List, map, Some, None}
use Rattle.tree_specs.specs.declared.object.Obj.{Obj}
use Rattle.tree_specs.specs.declared.object.Owner.{Owner}
use Rattle.tree_specs.specs.declared.row.Row.{Row}
use Rattle.tree_specs.specs.declared.row.Mark.TheVariants.{Quiet}
use Rattle.tree_specs.specs.declared.free_step.FreeStep.{FreeStep}
use Rattle.tree_specs.specs.declared.free_step.FreeStep.TheVariants.{Ask, Prepare, Drain, Dropped, Refused, Accepted, Doom, Left, Moved, Gone, Done}
use Rattle.tree_specs.specs.Tree.Pool.{of_rows, is_row, owner_of, target_at, changed, without, left_row, place}
use Rattle.tree_links.specs.Links.{MayPlace}

-- a row but for what is going on with its object
abbrev pub bare : Row → Row
bare r = record r { mark = Quiet; hook = 0 }

-- the same rows, but for marks and destructors
abbrev pub SameRows : List Row → List Row → Type 0
SameRows rs rs' = map bare rs' ≡ map bare rs

abbrev pub placed_rows : List Row → Owner → Obj → List Row
placed_rows rs o x = (place (of_rows rs 0) o x).rows

abbrev pub ChangedBy : FreeStep → List Row → List Row → Type 0
ChangedBy (Ask x) rs rs' = SameRows rs rs'
ChangedBy (Prepare x) rs rs' = SameRows rs rs'
ChangedBy (Drain x) rs rs' = SameRows rs rs'
ChangedBy (Dropped r target) rs rs' = (target_at rs r ≡ Some target) × SameRows (without rs r) rs'
ChangedBy (Refused x v) rs rs' = SameRows rs rs'
ChangedBy (Accepted x) rs rs' = SameRows rs rs'
ChangedBy (Doom x) rs rs' = SameRows rs rs'
ChangedBy (Left x from) rs rs' = (owner_of rs x ≡ Some from) × SameRows (changed left_row rs x) rs'
ChangedBy (Moved x from o) rs rs' = (owner_of rs x ≡ Some from) × MayPlace rs x o × SameRows (placed_rows rs o x) rs'
ChangedBy (Gone x h) rs rs' = (owner_of rs x ≡ None) × (is_row rs x ≡ true) × SameRows (without rs x) rs'
ChangedBy (Done a) rs rs' = SameRows rs rs'
