-- What the bytes of a transcript do to its audit.
use Rattle.std.specs.Prelude.{◌≡◌, ℕ, Result, Ok, Err}
use Rattle.line_pieces.specs.Readings.{Reading, begun_by, found_now}
use Rattle.audit_rules.specs.Flaws.Verdict.{Orderly}
use Rattle.transcript_audit.specs.declared.course.Audit.{Audit}
use Rattle.transcript_audit.specs.declared.stop.Stop.{Stop}
use Rattle.transcript_audit.specs.Audits.{kept_of, fresh, comes, StopsWith}

-- no byte of the transcript has come
abbrev pub IsFresh : Reading Audit → Type 0
IsFresh s = (first : Audit) × (kept_of first ≡ fresh) × (first.lines ≡ 0) × (s ≡ begun_by first)

-- the transcript ends here, after so many lines
abbrev pub PassesEnd : Reading Audit → Result ℕ Stop → Type 0
PassesEnd s (Ok count) = found_now comes s ≡ Orderly count
PassesEnd s (Err e) = StopsWith e (found_now comes s)
