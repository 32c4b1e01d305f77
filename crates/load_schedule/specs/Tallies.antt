-- What a tally of lines stands for.
use Rattle.std.specs.Prelude.{◌≡◌, ℕ, ◌+◌, true, if◌then◌else◌, List, [], ◌∷◌, ◌++◌, map, flat_map, fold, count_by, drop, codes}
use Rattle.std.specs.List.{list_all}
use Rattle.tree_specs.specs.Texts.Text.{newline}
use Rattle.std.specs.Fmt.{decimal}
use Rattle.tree_specs.specs.Texts.Load.{begins_with, named}
use Rattle.line_pieces.specs.Cuts.{has_no_lf}

-- ---- one line

-- a count after one more line, which counts where it begins so
abbrev pub one_more : List ℕ → List ℕ → ℕ → ℕ
one_more front line count = if begins_with front line then count + 1 else count

-- ---- many lines

-- lines, each with its LF
abbrev pub text_of : List (List ℕ) → List ℕ
text_of lines = flat_map (λ l. l ++ newline) lines

-- how many of the lines begin so
abbrev pub count_like : List ℕ → List (List ℕ) → ℕ
count_like front lines = count_by (λ line. begins_with front line) lines

-- the last of the lines that begins so
abbrev pub last_like : List ℕ → List (List ℕ) → List ℕ
last_like front lines = fold (λ last line. if begins_with front line then line else last) [] lines

-- the last reply, where later lines have this one, or none
abbrev pub later_reply : List ℕ → List ℕ → List ℕ
later_reply before [] = before
later_reply before (b ∷ later) = b ∷ later

-- the text is lines, and the counts and the last reply are those of its lines
pub record Sums (text : List ℕ) (refused freed dropped : ℕ) (last : List ℕ) : Type 0 where
  pub lines : List (List ℕ)
  pub cut : text ≡ text_of lines
  pub whole : list_all has_no_lf lines ≡ true
  pub refusals : refused ≡ count_like (codes "reply no ") lines
  pub frees : freed ≡ count_like (codes "freed ") lines
  pub drops : dropped ≡ count_like (codes "unreferenced ") lines
  pub reply : last ≡ last_like (codes "reply ") lines

-- the bytes of a history
abbrev pub noted : List (ℕ × Unit {0}) → List ℕ
noted items = map (λ e. e.0) items

-- ---- the five lines

-- the five lines of these counts and of the last reply
abbrev pub five_of : ℕ → ℕ → ℕ → ℕ → List ℕ → List ℕ
five_of count refused freed dropped last =
    named (codes "calls ") (decimal count) ++ named (codes "refused ") (decimal refused) ++ named (codes "freed ") (decimal freed)
    ++ named (codes "dropped ") (decimal dropped) ++ named (codes "live ") (drop 6 last)
