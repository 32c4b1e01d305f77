-- An audit in the midst of its transcript.
use Rattle.std.specs.Prelude.{◌≡◌, ℕ, ◌+◌, ◌≤◌, nat_eq, List, Option, Some, None, Result, Ok, Err, false, length, ⊤}
use Rattle.indexmap.specs.IndexMap.{get}
use Rattle.tree_specs.specs.declared.object.Obj.{Obj}
use Rattle.tree_specs.specs.Texts.Lines.{Line}
use Rattle.transcript_lines.specs.declared.said.Fact.{Fact}
use Rattle.audit_rules.specs.Flaws.{Verdict, verdict_by}
use Rattle.audit_rules.specs.Flaws.Verdict.{Orderly, Broken}
use Rattle.transcript_audit.specs.declared.seen.Seen.{Seen}
use Rattle.transcript_audit.specs.declared.books.Books.{Books}
use Rattle.transcript_audit.specs.declared.stop.Stop.{Stop}
use Rattle.transcript_audit.specs.declared.stop.Stop.TheVariants as stop
use Rattle.transcript_audit.specs.declared.course.Audit.{Audit}
use Rattle.transcript_audit.specs.declared.stage.Stage.TheVariants.{Header}
use Rattle.transcript_audit.specs.Kept.{seen_after, refusal_after, breach}
use Rattle.transcript_audit.specs.Courses.{Kept, flaw_by}

-- ---- the books

abbrev pub nothing_seen : Seen
nothing_seen = record { accepted = false; freed = false; dropped = false; over = false; received = false }

abbrev pub seen_where : Option Seen → Seen
seen_where None = nothing_seen
seen_where (Some s) = s

-- what is kept of an object
abbrev pub seen_of : Books → Obj → Seen
seen_of books x = seen_where (get nat_eq books.records x.0)

-- this was noted
pub record Notes (old : Books) (fact : Fact) (new : Books) : Type 0 where
  pub seen : (x : Obj) → seen_of new x ≡ seen_after fact x (seen_of old x)
  pub refused : new.refused ≡ refusal_after fact

abbrev pub breach_of : Books → Fact → Option ℕ
breach_of books fact = breach (seen_of books) books.refused fact

-- ---- an audit

abbrev pub kept_of : Audit → Kept
kept_of a = record { stage = a.stage; rows = a.rows; seen = seen_of a.books; refused = a.books.refused }

-- before the first line
abbrev pub fresh : Kept
fresh = record { stage = Header; rows = 0; seen = λ x. nothing_seen; refused = None }

-- it has gone on so from line n, or ended there
abbrev pub Goes : Result Kept ℕ → ℕ → Audit → Result (Unit {0}) Stop → Type 0
Goes next n new (Ok done) = next ≡ Ok (kept_of new)
Goes next n new (Err (stop.Broken line rule)) = (line ≡ n) × (next ≡ Err rule)
Goes next n new (Err stop.Memory) = ⊤
Goes next n new (Err stop.Read) = ⊥

-- what is to be said where these lines still come, the first with number n
abbrev pub comes : Audit → ℕ → List Line → Verdict
comes a n ls = verdict_by (a.lines + length ls) (flaw_by n (kept_of a) ls)

-- it has taken all lines before line n, and the rows are among them
pub record IsReady (a : Audit) (n : ℕ) : Type 0 where
  pub counted : a.lines + 1 ≡ n
  pub within : a.rows ≤ a.lines

-- it ended for this cause, and this is to be said
abbrev pub StopsWith : Stop → Verdict → Type 0
StopsWith (stop.Broken line rule) found = found ≡ Broken line rule
StopsWith stop.Memory found = ⊤
StopsWith stop.Read found = ⊥

abbrev pub stops : Stop → Audit → Verdict → Type 0
stops e a found = StopsWith e found

abbrev pub ends : Audit → Verdict → Type 0
ends a found = found ≡ Orderly a.lines
