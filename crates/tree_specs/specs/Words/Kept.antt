-- Where the bytes of a name are kept.
use Rattle.std.specs.Prelude.{ℕ, ◌≤◌, List, take}
use Rattle.tree_specs.specs.declared.kept.TheConstants.{FEW}
use Rattle.tree_specs.specs.declared.kept.Kept.{Kept}
use Rattle.tree_specs.specs.declared.kept.Kept.TheVariants.{Few, Many, Fixed}

-- which bytes these are
abbrev pub kept_bytes : Kept → List ℕ
kept_bytes (Few len bytes) = take len bytes
kept_bytes (Many bytes) = bytes.items
kept_bytes (Fixed bytes) = bytes.now

-- in place there are only as many as have room
abbrev pub IsKept : Kept → Type 0
IsKept (Few len bytes) = len ≤ FEW
IsKept kept = Unit {0}
