-- The list of the line that tells which descriptors are ready, as a reader goes through its words.
use Rattle.std.specs.Prelude.{ℕ, List, [], ◌∷◌, Option, Some, None, if◌then◌else◌}
use Rattle.tree_specs.specs.declared.wants.Want.{Want}
use Rattle.tree_specs.specs.Texts.Grammar.{◌>>=◌, wants_of}
use Rattle.tree_specs.specs.Words.Wants.{is_wants}

-- the descriptors that these words spell, where they can be ready
abbrev pub ready_list_of : List (List ℕ) → Option (List Want)
ready_list_of ws = do
  wants ← wants_of ws
  if is_wants wants then Some wants else None

-- the same, where a space comes before the first of them
abbrev pub spaced_list_of : List (List ℕ) → Option (List Want)
spaced_list_of ([] ∷ more) = ready_list_of more
spaced_list_of ws = None
