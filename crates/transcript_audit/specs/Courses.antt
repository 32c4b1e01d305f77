-- The first flaw of some lines, by what is kept of those before them.
use Rattle.std.specs.Prelude.{ℕ, zero, suc, ◌+◌, ◌||◌, not, nat_eq, nat_lt, if◌then◌else◌, List, [], ◌∷◌, Option, Some, None, Result, Ok, Err}
use Rattle.std.specs.Option.{option_map}
use Rattle.std.specs.Str.{bytes_eq}
use Rattle.tree_specs.specs.declared.object.Obj.{Obj}
use Rattle.tree_specs.specs.Texts.Lines.{Line, lines_limit}
use Rattle.transcript_lines.specs.declared.said.Fact.{Fact}
use Rattle.transcript_lines.specs.declared.said.Fact.TheVariants.{Nothing}
use Rattle.transcript_lines.specs.declared.said.Said.{Said}
use Rattle.transcript_lines.specs.declared.said.Said.TheVariants.{Row, Rows, Tells, Ends}
use Rattle.transcript_lines.specs.Lines.{line_of}
use Rattle.transcript_lines.specs.Sayings.{said_of}
use Rattle.audit_rules.specs.Flaws.{transcript_header}
use Rattle.transcript_audit.specs.declared.seen.Seen.{Seen}
use Rattle.transcript_audit.specs.declared.stage.Stage.{Stage}
use Rattle.transcript_audit.specs.declared.stage.Stage.TheVariants.{Header, Body, Over}
use Rattle.transcript_audit.specs.Kept.{seen_after, refusal_after, breach}

pub record Kept : Type 0 where
  -- what may come next
  pub stage : Stage
  -- so many rows of a report have come, whose reply is still to come
  pub rows : ℕ
  -- what was told of each object
  pub seen : Obj → Seen
  -- what a destructor has returned, where that is the last item
  pub refused : Option (Obj × ℕ)

-- one item more
abbrev pub noted : Kept → Fact → Kept
noted k fact = record { stage = k.stage; rows = k.rows; seen = λ x. seen_after fact x (k.seen x); refused = refusal_after fact }

abbrev pub at_stage : Kept → Stage → Kept
at_stage k stage = record { stage = stage; rows = k.rows; seen = k.seen; refused = k.refused }

abbrev pub with_rows : Kept → ℕ → Kept
with_rows k rows = record { stage = k.stage; rows = rows; seen = k.seen; refused = k.refused }

-- a line of no form has flaw 0; else its flaw is the least rule that its item breaks
abbrev pub unless_broken : Option ℕ → Kept → Result Kept ℕ
unless_broken None after = Ok after
unless_broken (Some rule) after = Err rule

-- an item stands behind no rows of a report that isn't over
abbrev pub behind_rows : ℕ → Result Kept ℕ → Result Kept ℕ
behind_rows zero next = next
behind_rows (suc n) next = Err 0

abbrev pub with_fact : Kept → Fact → Kept → Result Kept ℕ
with_fact k fact after = behind_rows k.rows (unless_broken (breach k.seen k.refused fact) after)

abbrev pub with_said : Kept → Option Said → Result Kept ℕ
with_said k None = Err 0
with_said k (Some Row) = Ok (with_rows k (k.rows + 1))
with_said k (Some (Rows n)) = if nat_eq n k.rows then Ok (with_rows (noted k Nothing) 0) else Err 0
with_said k (Some (Tells fact)) = with_fact k fact (noted k fact)
with_said k (Some (Ends fact)) = with_fact k fact (at_stage (noted k fact) Over)

abbrev pub after_header : Kept → List ℕ → Result Kept ℕ
after_header k text = if bytes_eq text transcript_header then Ok (at_stage k Body) else Err 0

-- what is kept after one more line, or its flaw
abbrev pub at_line : Stage → Kept → List ℕ → Result Kept ℕ
at_line Header k text = after_header k text
at_line Body k text = with_said k (option_map said_of (line_of text))
at_line Over k text = Err 0

abbrev pub kept_after : Kept → List ℕ → Result Kept ℕ
kept_after k text = at_line k.stage k text

abbrev pub flaw_or : ℕ → Result Kept ℕ → (Kept → Option (ℕ × ℕ)) → Option (ℕ × ℕ)
flaw_or n (Err rule) next = Some (n, rule)
flaw_or n (Ok k) next = next k

-- no line comes any more: one is missing, unless all was told
abbrev pub flaw_at_end : ℕ → Stage → Option (ℕ × ℕ)
flaw_at_end n Over = None
flaw_at_end n stage = Some (n, 0)

-- the first flaw of the lines from number n on
abbrev pub flaw_by : ℕ → Kept → List Line → Option (ℕ × ℕ)
flaw_by n k [] = flaw_at_end n k.stage
flaw_by n k (line ∷ rest) =
    if nat_lt lines_limit n || not line.ended then Some (n, 0)
    else flaw_or n (kept_after k line.text) (λ after. flaw_by (n + 1) after rest)
