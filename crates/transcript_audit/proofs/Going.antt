-- What is kept goes on by a line as the course of the items does.
use std.Path.{fun_ext}
use Rattle.std.proofs.Common.{◌≡◌, ℕ, ◌+◌, Bool, true, false, cond, eqb, ltb, ◌||◌, not, List, [], ◌∷◌, ◌++◌, length, Option, Some, None, Result, Ok, Err, refl, sym, ap, ◌∙◌, arith, length-append}
use Rattle.std.specs.Option.{option_map}
use Rattle.std.specs.Str.{bytes_eq}
use Rattle.tree_specs.specs.declared.object.Obj.{Obj}
use Rattle.tree_specs.specs.declared.report.ReportRow.{ReportRow}
use Rattle.tree_specs.specs.declared.reply.Reply.TheVariants as replies
use Rattle.tree_specs.specs.declared.event.Event.TheVariants as events
use Rattle.tree_specs.specs.Rules.Items.{Item}
use Rattle.tree_specs.specs.Rules.Items.Item.{Told, Asked}
use Rattle.tree_specs.specs.Texts.Lines.{lines, lines_limit}
use Rattle.tree_specs.specs.Texts.Lines as cut
use Rattle.transcript_lines.specs.Lines.{Line, line_of}
use Rattle.transcript_lines.specs.Lines.Line.{Row, Rows, Tells, Asks, Ends}
use Rattle.transcript_lines.specs.Sayings.{said_of}
use Rattle.audit_rules.specs.Rules.{broken}
use Rattle.audit_rules.specs.Flaws.{Course, with_item, with_line, going_on, transcript_header, after_line, flaw_from, flaw, verdict, verdict_by}
use Rattle.audit_rules.specs.Flaws as rules
use Rattle.audit_rules.specs.Flaws.Course.{Header as AtHeader, Body as InBody, Over as AtEnd}
use Rattle.transcript_audit.specs.declared.seen.Seen.{Seen}
use Rattle.transcript_audit.specs.declared.stage.Stage.TheVariants.{Body, Over}
use Rattle.transcript_audit.specs.declared.stage.Stage.{Stage}
use Rattle.transcript_audit.specs.Kept.{fact_of, seen_in, last_refusal, seen_after, refusal_after}
use Rattle.transcript_audit.specs.Courses.{Kept, noted, at_stage, with_rows, unless_broken, with_fact, with_said, after_header, kept_after, flaw_or, flaw_by}
use Rattle.transcript_audit.specs.Audits.{fresh}
use Rattle.transcript_audit.proofs.Seeing.{seen_more, refusal_more, breach_is}

-- ---- where what is kept stands for a course

-- of these items, and of these rows behind them
abbrev kept_in : Stage → List Item → ℕ → Kept
kept_in stage before rows = record { stage = stage; rows = rows; seen = seen_in before; refused = last_refusal before }

abbrev pub Stands : Course → Kept → Type 0
Stands AtHeader k = k ≡ fresh
Stands (InBody before rows) k = k ≡ kept_in Body before (length rows)
Stands AtEnd k = k.stage ≡ Over

abbrev pub Agree : Result Course ℕ → Result Kept ℕ → Type 0
Agree (Ok c) (Ok k) = Stands c k
Agree (Err r) (Err s) = r ≡ s
Agree (Ok c) (Err s) = ⊥
Agree (Err r) (Ok k) = ⊥

-- one item more
noted_more : (stage : Stage) (before : List Item) (rows : ℕ) (item : Item) → noted (kept_in stage before rows) (fact_of item) ≡ kept_in stage (before ++ item ∷ []) rows
noted_more stage before rows item =
    let seen : (λ (x : Obj). seen_after (fact_of item) x (seen_in before x)) ≡ seen_in (before ++ item ∷ []) = fun_ext (λ x. sym (seen_more before item x)) in
    ap (λ (f : Obj → Seen). record { stage = stage; rows = rows; seen = f; refused = refusal_after (fact_of item) }) seen
    ∙ ap (λ (r : Option (Obj × ℕ)). record { stage = stage; rows = rows; seen = seen_in (before ++ item ∷ []); refused = r }) (sym (refusal_more before item))

agree_item : (before : List Item) (item : Item) (rows : List ReportRow) (c : Course) (k : Kept) → (rows ≡ [] → Stands c k) → Agree (with_item before rows item c) (with_fact (kept_in Body before (length rows)) (fact_of item) k)
agree_item before item [] c k stands = rw (breach_is before item) (by_rule (broken before item) (stands refl))
  where
    by_rule : (o : Option ℕ) → Stands c k → Agree (rules.unless_broken o c) (unless_broken o k)
    by_rule None s = s
    by_rule (Some rule) s = refl
agree_item before item (row ∷ rows) c k stands = refl

stage_over : (k : Kept) → (at_stage k Over).stage ≡ Over
stage_over k = refl

agree_rows : (before : List Item) (rows : List ReportRow) (n : ℕ) → Agree (rules.with_report before rows n) (with_said (kept_in Body before (length rows)) (Some (said_of (Rows n))))
agree_rows before rows n = by_test (eqb n (length rows))
  where
    item : Item
    item = Told (events.Replied (replies.Rows rows))

    after : with_rows (noted (kept_in Body before (length rows)) (fact_of (Told (events.Replied (replies.Rows rows))))) 0 ≡ kept_in Body (before ++ Told (events.Replied (replies.Rows rows)) ∷ []) 0
    after = ap (λ (k : Kept). with_rows k 0) (noted_more Body before (length rows) (Told (events.Replied (replies.Rows rows))))

    by_test : (b : Bool) → Agree (cond b (Ok (going_on before (Told (events.Replied (replies.Rows rows))))) (Err 0)) (cond b (Ok (with_rows (noted (kept_in Body before (length rows)) (fact_of (Told (events.Replied (replies.Rows rows))))) 0)) (Err 0))
    by_test true = after
    by_test false = refl

agree_line : (before : List Item) (rows : List ReportRow) (o : Option Line) → Agree (with_line before rows o) (with_said (kept_in Body before (length rows)) (option_map said_of o))
agree_line before rows None = refl
agree_line before rows (Some (Row row)) =
    let longer : length rows + 1 ≡ length (rows ++ row ∷ []) = omega (arith, length-append rows (row ∷ [])) in
    ap (λ (n : ℕ). kept_in Body before n) longer
agree_line before rows (Some (Rows n)) = agree_rows before rows n
agree_line before rows (Some (Tells e)) = agree_item before (Told e) rows (going_on before (Told e)) _ (λ none. ap (λ (rs : List ReportRow). noted (kept_in Body before (length rs)) (fact_of (Told e))) none ∙ noted_more Body before 0 (Told e))
agree_line before rows (Some (Asks q)) = agree_item before (Asked q) rows (going_on before (Asked q)) _ (λ none. ap (λ (rs : List ReportRow). noted (kept_in Body before (length rs)) (fact_of (Asked q))) none ∙ noted_more Body before 0 (Asked q))
agree_line before rows (Some (Ends q)) = agree_item before (Asked q) rows AtEnd _ (λ none. refl)

agree_header : (text : List ℕ) → Agree (after_line AtHeader text) (after_header fresh text)
agree_header text = by_test (bytes_eq text transcript_header)
  where
    by_test : (b : Bool) → Agree (cond b (Ok (InBody [] [])) (Err 0)) (cond b (Ok (at_stage fresh Body)) (Err 0))
    by_test true = refl
    by_test false = refl

at_over : (k : Kept) (text : List ℕ) → k.stage ≡ Over → kept_after k text ≡ Err 0
at_over k text h = rw h refl

agree : (c : Course) (k : Kept) (text : List ℕ) → Stands c k → Agree (after_line c text) (kept_after k text)
agree AtHeader k text h = rw h (agree_header text)
agree (InBody before rows) k text h = rw h (agree_line before rows (line_of text))
agree AtEnd k text h = rw (at_over k text h) refl

-- ---- the flaw of all lines

end_is : (n : ℕ) (c : Course) (k : Kept) → Stands c k → flaw_from n c [] ≡ flaw_by n k []
end_is n AtHeader k h = rw h refl
end_is n (InBody before rows) k h = rw h refl
end_is n AtEnd k h = rw h refl

-- of the lines behind the next one
abbrev Follows : ℕ → List cut.Line → Type 0
Follows n rest = (d : Course) (l : Kept) → Stands d l → flaw_from n d rest ≡ flaw_by n l rest

next_is : (n : ℕ) (rest : List cut.Line) (r : Result Course ℕ) (s : Result Kept ℕ) → Agree r s → Follows (n + 1) rest → rules.flaw_or n r (λ after. flaw_from (n + 1) after rest) ≡ flaw_or n s (λ after. flaw_by (n + 1) after rest)
next_is n rest (Ok d) (Ok l) a follows = follows d l a
next_is n rest (Err a) (Err b) same follows = ap (λ (rule : ℕ). Some (n, rule)) same
next_is n rest (Ok d) (Err b) a follows = absurd a
next_is n rest (Err a) (Ok l) b follows = absurd b

unless_late : (late : Bool) (n : ℕ) (x y : Option (ℕ × ℕ)) → x ≡ y → cond late (Some (n, 0)) x ≡ cond late (Some (n, 0)) y
unless_late true n x y e = refl
unless_late false n x y e = e

pub flaw_is : (ls : List cut.Line) (n : ℕ) (c : Course) (k : Kept) → Stands c k → flaw_from n c ls ≡ flaw_by n k ls
flaw_is [] n c k h = end_is n c k h
flaw_is (line ∷ rest) n c k h =
    unless_late (ltb lines_limit n || not line.ended) n _ _ (next_is n rest (after_line c line.text) (kept_after k line.text) (agree c k line.text h) (λ d l. flaw_is rest (n + 1) d l))

-- what is to be said of all bytes
pub verdict_is : (bytes : List ℕ) → verdict bytes ≡ verdict_by (length (lines bytes)) (flaw_by 1 fresh (lines bytes))
unfolding flaw
verdict_is bytes = ap (verdict_by (length (lines bytes))) (flaw_is (lines bytes) 1 AtHeader fresh refl)
