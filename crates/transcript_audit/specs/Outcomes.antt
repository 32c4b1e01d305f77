-- What an audit of some bytes answers.
use Rattle.std.specs.Prelude.{◌≡◌, ℕ, List, Result, Ok, Err, ⊤}
use Rattle.audit_rules.specs.Beginnings.{IsFirstFlaw}
use Rattle.audit_rules.specs.Flaws.{verdict}
use Rattle.audit_rules.specs.Flaws.Verdict.{Orderly, Broken}
use Rattle.audit_rules.specs.Transcripts.{IsOrderlyText}
use Rattle.transcript_audit.specs.declared.stop.Stop.{Stop}
use Rattle.transcript_audit.specs.declared.stop.Stop.TheVariants as stop
use Rattle.transcript_audit.specs.declared.audited.Audited.{Audited}
use Rattle.transcript_audit.specs.declared.audited.Audited.TheVariants as audited

-- what an outcome is called outside
abbrev pub audited_of : Result ℕ Stop → Audited
audited_of (Ok lines) = audited.Orderly lines
audited_of (Err (stop.Broken line rule)) = audited.Broken line rule
audited_of (Err stop.Read) = audited.ReadFault
audited_of (Err stop.Memory) = audited.Memory

-- This is what is to be said of the bytes. After a fault, and without memory, nothing is said of them.
abbrev pub Finds : List ℕ → Audited → Type 0
Finds bytes (audited.Orderly count) = verdict bytes ≡ Orderly count
Finds bytes (audited.Broken line rule) = verdict bytes ≡ Broken line rule
Finds bytes audited.ReadFault = ⊤
Finds bytes audited.Memory = ⊤

-- No line has a flaw, so these are so many lines, and they are the transcript of an orderly story.
pub record IsOrderlyTranscript (bytes : List ℕ) (count : ℕ) : Type 0 where
  pub found : verdict bytes ≡ Orderly count
  pub story : IsOrderlyText bytes

-- This line is the first that has a flaw, and this is the flaw: the lines before it begin the transcript of an orderly story.
pub record HasFlaw (bytes : List ℕ) (line rule : ℕ) : Type 0 where
  pub found : verdict bytes ≡ Broken line rule
  pub first : IsFirstFlaw bytes line rule
