-- A text that is read piece by piece, and what the next bytes do.
use Rattle.std.specs.Prelude.{◌≡◌, ℕ, suc, ◌+◌, ◌-◌, ◌*◌, ◌<◌, ◌≤◌, true, List, [], ◌++◌, length, Result, Ok, Err}
use Rattle.std.specs.Borrow.{Bor}
use Rattle.tree_specs.specs.Texts.Lines.{Line, lines, line_limit, lines_limit}
use Rattle.line_pieces.specs.Cuts.{has_no_lf}

pub record Reading (T : Type 0) : Type 0 where
  -- what takes the lines
  pub taker : T
  -- the number of the line that has begun
  pub number : ℕ
  -- what has come of it
  pub line : List ℕ

-- before the first byte
abbrev pub begun_by : {T : Type 0} → T → Reading T
begun_by t = record { taker = t; number = 1; line = [] }

-- what is found of the bytes that begin with the line that has begun
abbrev pub from_line : {T F : Type 0} → (T → ℕ → List Line → F) → Reading T → List ℕ → F
from_line comes s bytes = comes s.taker s.number (lines bytes)

-- what is found where no byte comes any more
abbrev pub found_now : {T F : Type 0} → (T → ℕ → List Line → F) → Reading T → F
found_now comes s = from_line comes s s.line

-- The piece holds some whole lines, which were taken, and the rest has begun the next.
pub record Advances {T F : Type 0} (comes : T → ℕ → List Line → F) (s : Reading T) (piece : List ℕ) (t : Reading T) : Type 0 where
  pub whole : List ℕ
  pub cut : s.line ++ piece ≡ whole ++ t.line
  pub goes_on : (bytes : List ℕ) → from_line comes s (whole ++ bytes) ≡ from_line comes t bytes
  -- before the second line none was taken
  pub begun : t.number ≡ 1 → (s.number ≡ 1) × (whole ≡ [])

-- The piece was taken, or what takes the lines stopped, whatever bytes still come.
abbrev pub Takes : {T E F : Type 0} → (T → ℕ → List Line → F) → (E → T → F → Type 0) → Reading T → List ℕ → Reading T → Result (Unit {0}) E → Type 0
Takes comes stops s piece t (Ok done) = Advances comes s piece t
Takes comes stops s piece t (Err e) = (bytes : List ℕ) → stops e t.taker (from_line comes s (s.line ++ (piece ++ bytes)))

-- So much of the piece was taken, and this is left of it.
pub record Leaves {T F : Type 0} (comes : T → ℕ → List Line → F) (s : Reading T) (piece : List ℕ) (t : Reading T) (rest : List ℕ) : Type 0 where
  pub taken : List ℕ
  pub whole : piece ≡ taken ++ rest
  pub advances : Advances comes s taken t

-- A part of the piece was taken, and the rest is given back, or what takes the lines stopped.
abbrev pub Feeds : {T E F : Type 0} → (T → ℕ → List Line → F) → (E → T → F → Type 0) → Reading T → List ℕ → Reading T → Result (Bor (List ℕ)) E → Type 0
Feeds comes stops s piece t (Ok rest) = Leaves comes s piece t rest.now
Feeds comes stops s piece t (Err e) = (bytes : List ℕ) → stops e t.taker (from_line comes s (s.line ++ (piece ++ bytes)))

-- what holds between two bytes
pub record IsBetweenBytes {T : Type 0} (ready : T → ℕ → Type 0) (s : Reading T) : Type 0 where
  pub plain : has_no_lf s.line ≡ true
  pub short : length s.line ≤ line_limit
  pub first : 1 ≤ s.number
  pub last : s.number ≤ suc lines_limit
  pub numbered : 0 < length s.line → s.number ≤ lines_limit
  pub waits : ready s.taker s.number

-- at most so many bytes can still be taken
abbrev pub room_left : {T : Type 0} → Reading T → ℕ
room_left s = suc line_limit * (suc lines_limit - s.number) + (line_limit - length s.line)
