-- What is read and written of a whole schedule, whatever plays its lines.
use Rattle.std.specs.Prelude.{◌≡◌, ℕ, true, List, [], ◌++◌, Option, Some, None, Result, Ok, Err}
use Rattle.std.specs.Io.KnownBytes.{Appends, Consumes, IsAtEnd}
use Rattle.tree_specs.specs.declared.schedule.Reason.{Reason}
use Rattle.tree_specs.specs.Texts.Lines.{Line, lines}
use Rattle.line_pieces.specs.Cuts.{has_no_lf}
use Rattle.schedule_replay.specs.declared.ran.Ran.{Ran}
use Rattle.schedule_replay.specs.declared.ran.Ran.TheVariants as rans
use Rattle.schedule_replay.specs.declared.stop.Stop.{Stop}
use Rattle.schedule_replay.specs.declared.stop.Stop.TheVariants as errors
use Rattle.schedule_replay.specs.Replays.{Replayed, with_front, BeginsText}

-- what an outcome is called outside
abbrev pub ran_of : Result (Unit {0}) Stop → Ran
ran_of (Ok done) = rans.Done
ran_of (Err errors.Read) = rans.ReadFault
ran_of (Err (errors.Refused line reason)) = rans.BadSchedule line reason
ran_of (Err errors.Write) = rans.WriteFault
ran_of (Err errors.Memory) = rans.Memory

-- Here `all` is what is played of all lines.

-- all is read, no line is refused, and all is written
pub record PlaysAll (all : List Line → Replayed) (bytes : List ℕ) (left held now : Option (List ℕ)) : Type 0 where
  pub read : IsAtEnd left
  pub text : List ℕ
  pub played : all (lines bytes) ≡ record { text = Some text; refused = None }
  pub put : Appends held now text

-- this line is the first that is refused, and what is played of those before it is written
pub record PlaysUpTo (all : List Line → Replayed) (bytes : List ℕ) (line : ℕ) (reason : Reason) (held now : Option (List ℕ)) : Type 0 where
  pub text : List ℕ
  pub played : all (lines bytes) ≡ record { text = Some text; refused = Some (line, reason) }
  pub put : Appends held now text

-- a prefix of what is to be written is
pub record PlaysFront (all : List Line → Replayed) (bytes : List ℕ) (held now : Option (List ℕ)) : Type 0 where
  pub front : List ℕ
  pub begins : BeginsText front (all (lines bytes)).text
  pub put : Appends held now front

module _ {P : Type 0} (plays : P → ℕ → List Line → Replayed) (text_in : P → List ℕ) (ready : P → ℕ → Type 0) where
  -- The reading broke off within a line, which may be empty, and the player has taken the whole lines before it, and what was to be
  -- written of them is.
  pub record PlaysWhole (first : P) (bytes : List ℕ) (left held now : Option (List ℕ)) : Type 0 where
    pub whole : List ℕ
    pub line : List ℕ
    pub read : Consumes (Some bytes) left (whole ++ line)
    pub within : has_no_lf line ≡ true
    pub text : List ℕ
    pub put : Appends held now text
    pub player : P
    pub number : ℕ
    pub waits : ready player number
    pub empty : text_in player ≡ []
    pub played : plays first 1 (lines whole) ≡ with_front text (plays player number [])
    -- before the second line none was taken
    pub begun : number ≡ 1 → whole ≡ []

  -- by how it ended, where this player was given the first byte
  abbrev pub Plays : P → List ℕ → Option (List ℕ) → Option (List ℕ) → Option (List ℕ) → Ran → Type 0
  Plays first bytes left held now rans.Done = PlaysAll (plays first 1) bytes left held now
  Plays first bytes left held now rans.ReadFault = PlaysWhole first bytes left held now
  Plays first bytes left held now (rans.BadSchedule line reason) = PlaysUpTo (plays first 1) bytes line reason held now
  Plays first bytes left held now rans.WriteFault = PlaysFront (plays first 1) bytes held now
  Plays first bytes left held now rans.Memory = PlaysFront (plays first 1) bytes held now
