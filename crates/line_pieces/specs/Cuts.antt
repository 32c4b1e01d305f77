-- Cutting bytes at the end of a line.
use Rattle.std.specs.Prelude.{◌≡◌, ℕ, Bool, true, ◌==◌, not, ◌+◌, ◌<◌, List, ◌∷◌, ◌++◌, take, drop, Option, Some, None, length}
use Rattle.std.specs.List.{list_all}
use Rattle.tree_specs.specs.Texts.Lines.{Line}

abbrev pub is_plain : ℕ → Bool
is_plain b = not (b == 10)

abbrev pub has_no_lf : List ℕ → Bool
has_no_lf line = list_all is_plain line

abbrev pub ended_line : List ℕ → Line
ended_line text = record { text = text; ended = true }

-- the first line of these bytes ends at place n
pub record EndsAt (bytes : List ℕ) (n : ℕ) : Type 0 where
  pub within : n < length bytes
  pub plain : has_no_lf (take n bytes) ≡ true
  pub cut : bytes ≡ take n bytes ++ 10 ∷ drop (n + 1) bytes

abbrev pub EndsFirst : List ℕ → Option ℕ → Type 0
EndsFirst bytes (Some n) = EndsAt bytes n
EndsFirst bytes None = has_no_lf bytes ≡ true
