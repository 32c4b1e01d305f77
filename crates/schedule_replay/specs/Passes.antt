-- What the bytes of a schedule do to the sink of what is written, whatever plays its lines.
use Rattle.std.specs.Prelude.{◌≡◌, ℕ, List, [], ◌++◌, Option, Result, Ok, Err}
use Rattle.std.specs.Borrow.{Bor}
use Rattle.std.specs.Io.KnownBytes.{Appends}
use Rattle.tree_specs.specs.Texts.Lines.{Line}
use Rattle.outside.specs.declared.output.PutError.{PutError}
use Rattle.outside.specs.declared.output.PutError.TheVariants as put_errors
use Rattle.line_pieces.specs.Readings.{Reading, begun_by, from_line, found_now}
use Rattle.schedule_replay.specs.declared.stop.Stop.{Stop}
use Rattle.schedule_replay.specs.declared.stop.Stop.TheVariants as errors
use Rattle.schedule_replay.specs.Replays.{Replayed, with_front, BeginsText, StopsWith, EndsWith}

abbrev pub stop_of_put : PutError → Stop
stop_of_put put_errors.Write = errors.Write
stop_of_put put_errors.Memory = errors.Memory

-- It ended before its schedule did, and this text was written; after a write fault and without memory a prefix of all that is to be
-- written.
abbrev pub StopsPut : Stop → List ℕ → Replayed → Type 0
StopsPut errors.Write text found = BeginsText text found.text
StopsPut e text found = StopsWith e text found

-- no byte of the schedule has come, and nothing is to be written
pub record IsFresh {P : Type 0} (text_in : P → List ℕ) (s : Reading P) : Type 0 where
  pub begun : s ≡ begun_by s.taker
  pub empty : text_in s.taker ≡ []

module _ {P : Type 0} (plays : P → ℕ → List Line → Replayed) where
  -- The piece holds some whole lines, which were taken, and this was written of them; the rest has begun the next.
  pub record Passed (s : Reading P) (piece : List ℕ) (t : Reading P) (written : List ℕ) : Type 0 where
    pub whole : List ℕ
    pub cut : s.line ++ piece ≡ whole ++ t.line
    pub goes_on : (bytes : List ℕ) → from_line plays s (whole ++ bytes) ≡ with_front written (from_line plays t bytes)
    -- before the second line none was taken
    pub begun : t.number ≡ 1 → (s.number ≡ 1) × (whole ≡ [])

  abbrev pub TakesPiece : Reading P → List ℕ → Reading P → List ℕ → Result (Unit {0}) Stop → Type 0
  TakesPiece s piece t written (Ok done) = Passed s piece t written
  TakesPiece s piece t written (Err e) = (bytes : List ℕ) → StopsPut e written (from_line plays s (s.line ++ (piece ++ bytes)))

  -- a piece was taken where this was written
  pub record PassesPiece (s : Reading P) (piece : List ℕ) (t : Reading P) (held now : Option (List ℕ)) (result : Result (Unit {0}) Stop) : Type 0 where
    pub written : List ℕ
    pub put : Appends held now written
    pub taken : TakesPiece s piece t written result

  -- a part of the piece was taken where this was written, and this is left of it
  pub record PassesSome (s : Reading P) (piece : List ℕ) (t : Reading P) (held now : Option (List ℕ)) (rest : List ℕ) : Type 0 where
    pub taken : List ℕ
    pub whole : piece ≡ taken ++ rest
    pub passed : PassesPiece s taken t held now (Ok tt)

  -- A part of the piece was taken, and the rest is given back, or it ended there.
  abbrev pub PassesRun : Reading P → List ℕ → Reading P → Option (List ℕ) → Option (List ℕ) → Result (Bor (List ℕ)) Stop → Type 0
  PassesRun s piece t held now (Ok rest) = PassesSome s piece t held now rest.now
  PassesRun s piece t held now (Err e) = PassesPiece s piece t held now (Err e)

  abbrev pub TakesEnd : Reading P → List ℕ → Result (Unit {0}) Stop → Type 0
  TakesEnd s written (Ok done) = EndsWith written (found_now plays s)
  TakesEnd s written (Err e) = StopsPut e written (found_now plays s)

  -- the end was taken where this was written
  pub record PassesEnd (s : Reading P) (held now : Option (List ℕ)) (result : Result (Unit {0}) Stop) : Type 0 where
    pub written : List ℕ
    pub put : Appends held now written
    pub taken : TakesEnd s written result
