-- What a conversion of a whole schedule writes and answers.
use Rattle.std.specs.Prelude.{◌≡◌, ℕ, true, List, [], ◌∷◌, ◌++◌, Option, Some, None}
use Rattle.std.specs.Io.KnownBytes.{Appends, Consumes, IsAtEnd}
use Rattle.tree_specs.specs.declared.schedule.Reason.{Reason}
use Rattle.line_pieces.specs.Cuts.{has_no_lf}
use Rattle.schedule_versions.specs.Conversions.{converted, shape}
use Rattle.schedule_replay.specs.declared.ran.Ran.{Ran}
use Rattle.schedule_replay.specs.declared.ran.Ran.TheVariants as rans

-- All is read, no line is over a limit or no line of a schedule, and the schedule in the second version is written.
pub record IsConverted (bytes : List ℕ) (left held now : Option (List ℕ)) : Type 0 where
  pub read : IsAtEnd left
  pub accepted : shape bytes ≡ None
  pub put : Appends held now (converted bytes)

-- This is the first such line, and what comes before it is written in the second version.
pub record IsConvertedUpTo (bytes : List ℕ) (line : ℕ) (reason : Reason) (held now : Option (List ℕ)) : Type 0 where
  pub refused : shape bytes ≡ Some (line, reason)
  pub put : Appends held now (converted bytes)

-- A prefix of it is written.
pub record IsFrontConverted (bytes : List ℕ) (held now : Option (List ℕ)) : Type 0 where
  pub front : List ℕ
  pub rest : List ℕ
  pub text : converted bytes ≡ front ++ rest
  pub put : Appends held now front

-- this text is that of whole lines, of which none is refused; of no lines it is no text
abbrev pub IsOfWhole : List ℕ → List ℕ → Type 0
IsOfWhole [] text = text ≡ []
IsOfWhole (x ∷ xs) text = (shape (x ∷ xs) ≡ None) × (text ≡ converted (x ∷ xs))

-- The reading broke off within a line, which may be empty, and the whole lines before it, of which none is refused, are written in the
-- second version, the last one too.
pub record IsCutConversion (bytes : List ℕ) (left held now : Option (List ℕ)) : Type 0 where
  pub whole : List ℕ
  pub line : List ℕ
  pub read : Consumes (Some bytes) left (whole ++ line)
  pub within : has_no_lf line ≡ true
  pub text : List ℕ
  pub put : Appends held now text
  pub of_whole : IsOfWhole whole text

-- What is read and written, by how the conversion ended.
abbrev pub Converts : List ℕ → Option (List ℕ) → Option (List ℕ) → Option (List ℕ) → Ran → Type 0
Converts bytes left held now rans.Done = IsConverted bytes left held now
Converts bytes left held now rans.ReadFault = IsCutConversion bytes left held now
Converts bytes left held now (rans.BadSchedule line reason) = IsConvertedUpTo bytes line reason held now
Converts bytes left held now rans.WriteFault = IsFrontConverted bytes held now
Converts bytes left held now rans.Memory = IsFrontConverted bytes held now
