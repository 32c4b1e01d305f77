-- What a line, a limit and the end of a text do to what takes the lines of the text.
use Rattle.std.specs.Prelude.{◌≡◌, ℕ, ◌+◌, ◌≤◌, Bool, true, false, List, [], ◌∷◌, length, Result, Ok, Err}
use Rattle.tree_specs.specs.Texts.Lines.{Line, is_over_limit, line_limit}
use Rattle.line_pieces.specs.Cuts.{ended_line}

-- Here T takes the lines, E says why it ends before its text does, and F is found of a whole text: `comes t n lines` where t stands
-- before line n, and these lines still come.

-- line n was taken, or it ended there, whatever lines still come
abbrev pub TakesLine : {T E F : Type 0} → (T → ℕ → List Line → F) → (E → T → F → Type 0) → T → ℕ → List ℕ → T → Result (Unit {0}) E → Type 0
TakesLine comes stops old n text new (Ok done) = (rest : List Line) → comes old n (ended_line text ∷ rest) ≡ comes new (n + 1) rest
TakesLine comes stops old n text new (Err e) = (rest : List Line) → stops e new (comes old n (ended_line text ∷ rest))

-- line n is over a limit
abbrev pub RefusesLimit : {T E F : Type 0} → (T → ℕ → List Line → F) → (E → T → F → Type 0) → T → ℕ → T → E → Type 0
RefusesLimit comes stops old n new e = (line : Line) (rest : List Line) → is_over_limit n line ≡ true → stops e new (comes old n (line ∷ rest))

-- nothing was done for want of memory
abbrev pub WantsMemory : {T E F : Type 0} → (T → ℕ → List Line → F) → (E → T → F → Type 0) → T → E → Type 0
WantsMemory comes stops now e = (n : ℕ) (rest : List Line) → stops e now (comes now n rest)

-- it ended, and this is found
abbrev pub EndsWith : {T E F : Type 0} → (E → T → F → Type 0) → (T → F → Type 0) → T → Result (Unit {0}) E → F → Type 0
EndsWith stops ends now (Ok done) found = ends now found
EndsWith stops ends now (Err e) found = stops e now found

-- the last line, where it has no LF; no line where the text ends with a whole one
abbrev pub last_lines : Bool → List ℕ → List Line
last_lines true text = record { text = text; ended = false } ∷ []
last_lines false text = []

-- the text ended before line n, or within it where it is cut
abbrev pub TakesEnd : {T E F : Type 0} → (T → ℕ → List Line → F) → (E → T → F → Type 0) → (T → F → Type 0) → T → ℕ → Bool → T → Result (Unit {0}) E → Type 0
TakesEnd comes stops ends old n cut new result = (text : List ℕ) → length text ≤ line_limit → EndsWith stops ends new result (comes old n (last_lines cut text))
