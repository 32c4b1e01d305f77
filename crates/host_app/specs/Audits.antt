-- What the audit of a transcript writes.
use Rattle.std.specs.Prelude.{ℕ, List, Option, take, codes}
use Rattle.std.specs.Io.KnownBytes.{Appends}
use Rattle.transcript_audit.specs.Outcomes.{IsOrderlyTranscript}
use Rattle.host_app.specs.Statuses.{numbered}

-- the line that says of an orderly transcript how many lines it has
abbrev pub orderly_text : ℕ → List ℕ
orderly_text count = numbered (codes "orderly ") count (codes "\n")

-- The bytes are the transcript of an orderly story, and the line that says so has been written.
pub record WritesOrderly (bytes : List ℕ) (held now : Option (List ℕ)) : Type 0 where
  pub count : ℕ
  pub orderly : IsOrderlyTranscript bytes count
  pub line : Appends held now (orderly_text count)

-- They are, and a prefix of that line has been written.
pub record WritesOrderlyFront (bytes : List ℕ) (held now : Option (List ℕ)) : Type 0 where
  pub count : ℕ
  pub orderly : IsOrderlyTranscript bytes count
  pub size : ℕ
  pub front : Appends held now (take size (orderly_text count))
