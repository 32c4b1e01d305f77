-- The lines of a text, and how long they may be.
use Rattle.std.specs.Prelude.{ℕ, Bool, true, false, ◌==◌, ◌||◌, nat_lt, List, [], ◌∷◌, length}
use Rattle.std.specs.List.{slice_split}
use Rattle.tree_specs.specs.declared.bounds.TheConstants.{LINE_LIMIT, LINES_LIMIT}

-- a line without its LF, and whether it has one
pub record Line : Type 0 where
  pub text : List ℕ
  pub ended : Bool

-- what follows the last LF is a line of its own, unless it is empty
abbrev pub last_line : List ℕ → List Line
last_line [] = []
last_line (x ∷ xs) = record { text = x ∷ xs; ended = false } ∷ []

unfoldable pub lines_of_parts : List (List ℕ) → List Line
lines_of_parts [] = []
lines_of_parts (last ∷ []) = last_line last
lines_of_parts (part ∷ next ∷ parts) = record { text = part; ended = true } ∷ lines_of_parts (next ∷ parts)

-- bytes, cut at each LF
unfoldable pub lines : List ℕ → List Line
lines bytes = lines_of_parts (slice_split (λ b. b == 10) bytes)

-- a line has at most so many bytes without its LF
abbrev pub line_limit : ℕ
line_limit = LINE_LIMIT

-- a text has at most so many lines
abbrev pub lines_limit : ℕ
lines_limit = LINES_LIMIT

-- whether the line with this number, from 1, is over a limit
abbrev pub is_over_limit : ℕ → Line → Bool
is_over_limit n line = nat_lt line_limit (length line.text) || nat_lt lines_limit n
