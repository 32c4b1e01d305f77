-- The first line of some bytes that has a flaw, as a transcript of an orderly story, and which flaw.
use Rattle.std.specs.Prelude.{ℕ, ◌+◌, ◌==◌, ◌||◌, not, nat_lt, if◌then◌else◌, List, [], ◌∷◌, ◌++◌, length, Option, Some, None, Result, Ok, Err, codes}
use Rattle.std.specs.Str.{bytes_eq}
use Rattle.tree_specs.specs.declared.report.ReportRow.{ReportRow}
use Rattle.tree_specs.specs.declared.reply.Reply.TheVariants as replies
use Rattle.tree_specs.specs.declared.event.Event.TheVariants as events
use Rattle.tree_specs.specs.Rules.Items.{Item}
use Rattle.tree_specs.specs.Rules.Items.Item.{Told, Asked}
use Rattle.tree_specs.specs.Texts.Lines.{lines, lines_limit}
use Rattle.tree_specs.specs.Texts.Lines as cut
use Rattle.transcript_lines.specs.Lines.{Line, line_of}
use Rattle.transcript_lines.specs.Lines.Line.{Row, Rows, Tells, Asks, Ends}
use Rattle.audit_rules.specs.Rules.{broken}

-- what the lines so far tell, and what may come
pub data Course : Type 0 where
  -- the first line
  Header : Course
  -- these items were told, and then these rows of a report, whose reply is to come
  Body : List Item → List ReportRow → Course
  -- nothing
  Over : Course

-- a line of no form has flaw 0; else its flaw is the least rule that its item breaks
abbrev pub formless : {A : Type 0} → Result A ℕ
formless = Err 0

abbrev pub unless_broken : Option ℕ → Course → Result Course ℕ
unless_broken None after = Ok after
unless_broken (Some rule) after = Err rule

-- one item more, which stands behind no rows
abbrev pub with_item : List Item → List ReportRow → Item → Course → Result Course ℕ
with_item before [] item after = unless_broken (broken before item) after
with_item before (row ∷ rows) item after = formless

abbrev pub going_on : List Item → Item → Course
going_on before item = Body (before ++ item ∷ []) []

-- the reply that ends a report names the number of its rows
abbrev pub with_report : List Item → List ReportRow → ℕ → Result Course ℕ
with_report before rows n = if n == length rows then Ok (going_on before (Told (events.Replied (replies.Rows rows)))) else formless

abbrev pub with_line : List Item → List ReportRow → Option Line → Result Course ℕ
with_line before rows None = formless
with_line before rows (Some (Row row)) = Ok (Body before (rows ++ row ∷ []))
with_line before rows (Some (Rows n)) = with_report before rows n
with_line before rows (Some (Tells e)) = with_item before rows (Told e) (going_on before (Told e))
with_line before rows (Some (Asks q)) = with_item before rows (Asked q) (going_on before (Asked q))
with_line before rows (Some (Ends q)) = with_item before rows (Asked q) Over

abbrev pub transcript_header : List ℕ
transcript_header = codes "tv transcript 1"

-- the course after one more line, or its flaw
abbrev pub after_line : Course → List ℕ → Result Course ℕ
after_line Header text = if bytes_eq text transcript_header then Ok (Body [] []) else formless
after_line (Body before rows) text = with_line before rows (line_of text)
after_line Over text = formless

-- line n has this flaw, or it is one of the lines behind it
abbrev pub flaw_or : ℕ → Result Course ℕ → (Course → Option (ℕ × ℕ)) → Option (ℕ × ℕ)
flaw_or n (Err rule) next = Some (n, rule)
flaw_or n (Ok course) next = next course

-- no line comes any more: one is missing, unless all was told
abbrev pub flaw_at_end : ℕ → Course → Option (ℕ × ℕ)
flaw_at_end n Over = None
flaw_at_end n course = Some (n, 0)

-- the first flaw of the lines from number n on
abbrev pub flaw_from : ℕ → Course → List cut.Line → Option (ℕ × ℕ)
flaw_from n course [] = flaw_at_end n course
flaw_from n course (line ∷ rest) =
    if nat_lt lines_limit n || not line.ended then Some (n, 0)
    else flaw_or n (after_line course line.text) (λ after. flaw_from (n + 1) after rest)

-- The first line with a flaw, from 1, and the flaw: 0 where no transcript has these first lines, and otherwise the least
-- rule that the line's item breaks. None where no line has one.
unfoldable pub flaw : List ℕ → Option (ℕ × ℕ)
flaw bytes = flaw_from 1 Header (lines bytes)

-- ---- the answer

-- what is to be said of some bytes
pub data Verdict : Type 0 where
  -- no line has a flaw, and there are so many
  Orderly : ℕ → Verdict
  -- the first line that has one, and the flaw
  Broken : ℕ → ℕ → Verdict

abbrev pub verdict_by : ℕ → Option (ℕ × ℕ) → Verdict
verdict_by count None = Orderly count
verdict_by count (Some (line, rule)) = Broken line rule

abbrev pub verdict : List ℕ → Verdict
verdict bytes = verdict_by (length (lines bytes)) (flaw bytes)
