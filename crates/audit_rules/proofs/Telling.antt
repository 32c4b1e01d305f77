-- What the lines of a story make of a course: they stop at the first item that breaks a rule, and nowhere else.
use Rattle.std.proofs.Common.{◌≡◌, ℕ, true, eqb, List, [], ◌∷◌, ◌++◌, map, length, Option, Some, None, Result, Ok, Err, refl, sym, ap, subst, ◌∙◌, append_assoc, append-nil, arith}
use Rattle.std.specs.List.{list_all}
use Rattle.std.proofs.lemmas.List.{map-append}
use Rattle.std.proofs.lemmas.Bool.Decides.{nat_tests}
use Rattle.tree_specs.specs.declared.report.ReportRow.{ReportRow}
use Rattle.tree_specs.specs.declared.reply.Reply.TheVariants as replies
use Rattle.tree_specs.specs.declared.event.Event.{Event}
use Rattle.tree_specs.specs.declared.event.Event.TheVariants as events
use Rattle.tree_specs.specs.declared.question.Ask.{Ask}
use Rattle.tree_specs.specs.declared.question.Ask.TheVariants as asks
use Rattle.tree_specs.specs.Words.Ranges.{is_number}
use Rattle.tree_specs.specs.Rules.Items.{Item}
use Rattle.tree_specs.specs.Rules.Items.Item.{Told, Asked}
use Rattle.tree_specs.specs.Promises.Orderly.{Fits, Orderly}
use Rattle.tree_specs.specs.Texts.Text.{body_text}
use Rattle.text_forms.proofs.Bools.{and_true}
use Rattle.transcript_lines.specs.Lines.{line_text, is_sound_line, is_line, plain_ask}
use Rattle.transcript_lines.specs.Lines.Line.{Row, Rows, Tells, Asks, Ends}
use Rattle.transcript_lines.proofs.Spelling.{line_again}
use Rattle.audit_rules.specs.Rules.{broken}
use Rattle.audit_rules.specs.Flaws.{Course, going_on, unless_broken}
use Rattle.audit_rules.specs.Flaws.Course.{Body, Over}
use Rattle.audit_rules.specs.Transcripts.{is_sound_item}
use Rattle.audit_rules.proofs.Breaking.{above_zero}
use Rattle.audit_rules.proofs.Visible.{shown, visible, visible_more, told_shown, asked_shown}
use Rattle.audit_rules.proofs.ItemLines.{texts, lines_of, story_lines}
use Rattle.audit_rules.proofs.Courses.{go_on, runs}

-- an item as its line is read back
abbrev pub plain_item : Item → Item
plain_item (Told e) = Told e
plain_item (Asked q) = Asked (plain_ask q)

-- the rule that it breaks behind the items that lines show
abbrev pub breach : List Item → Item → Option ℕ
breach before i = broken (visible before) (plain_item i)

abbrev pub unless : Option ℕ → Result Course ℕ → Result Course ℕ
unless None next = next
unless (Some rule) next = Err rule

-- the first rule that is broken in a story, and otherwise all is told
abbrev pub judged : List Item → List Item → Result Course ℕ
judged before [] = Ok Over
judged before (i ∷ more) = unless (breach before i) (judged (before ++ i ∷ []) more)

abbrev pub body : List Item → Course
body before = Body (visible before) []

-- ---- the lines of an item

go_on_unless : (o : Option ℕ) (after : Course) (next : Course → Result Course ℕ) → go_on (unless_broken o after) next ≡ unless o (next after)
go_on_unless None after next = refl
go_on_unless (Some rule) after next = refl

next_body : (before : List Item) (i j : Item) → shown i ≡ j ∷ [] → going_on (visible before) j ≡ body (before ++ i ∷ [])
next_body before i j show = ap (λ (l : List Item). Body l []) (ap (λ (l : List Item). visible before ++ l) (sym show) ∙ sym (visible_more before i))

told_taken : (before : List Item) (e : Event) (ts : List (List ℕ)) → is_line (Tells e) ≡ true → is_sound_line (Tells e) ≡ true
    → runs (body before) (line_text (Tells e) ∷ ts) ≡ unless (breach before (Told e)) (runs (body (before ++ Told e ∷ [])) ts)
told_taken before e ts l sound =
    rw (line_again (Tells e) sound l)
    (go_on_unless (broken (visible before) (Told e)) (going_on (visible before) (Told e)) (λ c. runs c ts)
    ∙ ap (λ (c : Course). unless (breach before (Told e)) (runs c ts)) (next_body before (Told e) (Told e) refl))

asked_taken : (before : List Item) (q : Ask) (ts : List (List ℕ)) → shown (Asked q) ≡ Asked (plain_ask q) ∷ [] → is_line (Asks q) ≡ true → is_sound_line (Asks q) ≡ true
    → runs (body before) (line_text (Asks q) ∷ ts) ≡ unless (breach before (Asked q)) (runs (body (before ++ Asked q ∷ [])) ts)
asked_taken before q ts show l sound =
    rw (line_again (Asks q) sound l)
    (go_on_unless (breach before (Asked q)) (going_on (visible before) (Asked (plain_ask q))) (λ c. runs c ts)
    ∙ ap (λ (c : Course). unless (breach before (Asked q)) (runs c ts)) (next_body before (Asked q) (Asked (plain_ask q)) show))

rows_taken : (rows : List ReportRow) (before : List Item) (done : List ReportRow) (ts : List (List ℕ)) → list_all (λ r. is_sound_line (Row r)) rows ≡ true
    → runs (Body before done) (texts (map Row rows) ++ ts) ≡ runs (Body before (done ++ rows)) ts
rows_taken [] before done ts sound = ap (λ (d : List ReportRow). runs (Body before d) ts) (sym (append-nil done))
rows_taken (r ∷ rows) before done ts sound =
    let s = and_true (is_sound_line (Row r)) (list_all (λ r. is_sound_line (Row r)) rows) sound in
    rw (line_again (Row r) s.0 refl) (rows_taken rows before (done ++ r ∷ []) ts s.1 ∙ ap (λ (d : List ReportRow). runs (Body before d) ts) (append_assoc done (r ∷ []) rows))

report_taken : (before : List Item) (rows : List ReportRow) (ts : List (List ℕ)) → is_sound_item (Told (events.Replied (replies.Rows rows))) ≡ true
    → runs (body before) (texts (map Row rows ++ Rows (length rows) ∷ []) ++ ts) ≡ runs (body (before ++ Told (events.Replied (replies.Rows rows)) ∷ [])) ts
report_taken before rows ts whole =
    let item : Item = Told (events.Replied (replies.Rows rows)) in
    let s = and_true (is_number (length rows)) (list_all (λ r. is_sound_line (Row r)) rows) whole in
    let sound : is_sound_line (Rows (length rows)) ≡ true = rw s.0 refl in
    let equal : eqb (length rows) (length rows) ≡ true = grind (arith, nat_tests) in
    ap (λ (l : List (List ℕ)). runs (body before) (l ++ ts)) (map-append line_text (map Row rows) (Rows (length rows) ∷ []))
    ∙ ap (runs (body before)) (append_assoc (texts (map Row rows)) (line_text (Rows (length rows)) ∷ []) ts)
    ∙ rows_taken rows (visible before) [] (line_text (Rows (length rows)) ∷ ts) s.1
    ∙ rw (line_again (Rows (length rows)) sound refl, equal) (ap (λ (c : Course). runs c ts) (next_body before item item refl))

pub item_taken : (before : List Item) (i : Item) (ts : List (List ℕ)) → is_sound_item i ≡ true → runs (body before) (texts (lines_of i) ++ ts) ≡ unless (breach before i) (runs (body (before ++ i ∷ [])) ts)
item_taken before (Told (events.Replied (replies.Rows rows))) ts sound = report_taken before rows ts sound
item_taken before (Told (events.Replied (replies.No why))) ts sound = told_taken before (events.Replied (replies.No why)) ts refl sound
item_taken before (Told (events.Replied reply)) ts sound = told_taken before (events.Replied reply) ts refl sound
item_taken before (Told e) ts sound = told_taken before e ts refl sound
item_taken before (Asked asks.Quiet) ts sound = ap (λ (l : List Item). runs (Body l []) ts) (sym (visible_more before (Asked asks.Quiet) ∙ append-nil (visible before)))
item_taken before (Asked (asks.Routine m)) ts sound = asked_taken before (asks.Routine m) ts refl refl sound
item_taken before (Asked q) ts sound = asked_taken before q ts refl refl sound

-- ---- the lines of a story

end_taken : (before : List Item) (q : Ask) → is_sound_line (Ends q) ≡ true → runs (body before) (line_text (Ends q) ∷ []) ≡ unless (breach before (Asked q)) (Ok Over)
end_taken before q sound = rw (line_again (Ends q) sound refl) (go_on_unless (breach before (Asked q)) Over (λ c. runs c []))

pub story_taken : (more before : List Item) (text : List ℕ) → body_text more ≡ Some text → list_all is_sound_item more ≡ true → runs (body before) (texts (story_lines more)) ≡ judged before more
unfolding body_text
story_taken [] before text h sound = absurd cc
story_taken (Told e ∷ []) before text h sound = absurd cc
story_taken (Asked q ∷ []) before text h sound = end_taken before q (and_true (is_sound_line (Asks q)) true sound).0
story_taken (i ∷ j ∷ more) before text h sound =
    let s = and_true (is_sound_item i) (list_all is_sound_item (j ∷ more)) sound in
    let rest = rest_of (body_text (j ∷ more)) refl in
    ap (runs (body before)) (map-append line_text (lines_of i) (story_lines (j ∷ more)))
    ∙ item_taken before i (texts (story_lines (j ∷ more))) s.0 ∙ ap (unless (breach before i)) (story_taken (j ∷ more) (before ++ i ∷ []) rest.0 rest.1 s.1)
  where
    rest_of : (o : Option (List ℕ)) → body_text (j ∷ more) ≡ o → (rest : List ℕ) × (body_text (j ∷ more) ≡ Some rest)
    rest_of None e = absurd (none e h)
      where
        none : body_text (j ∷ more) ≡ None → body_text (i ∷ j ∷ more) ≡ Some text → ⊥
        none e h = let bad : body_text (i ∷ j ∷ more) ≡ None = rw e refl in let worse : None ≡ Some text = sym bad ∙ h in absurd cc
    rest_of (Some rest) e = (rest, e)

-- ---- stories that are orderly, and stories of any kind

fine : (before : List Item) (i : Item) → Fits before i → breach before i ≡ None
fine before (Told e) fits = told_shown before e fits
fine before (Asked q) fits = asked_shown before q fits

pub orderly_judged : (more before : List Item) → Orderly (before ++ more) → judged before more ≡ Ok Over
orderly_judged [] before each = refl
orderly_judged (i ∷ more) before each =
    rw (fine before i (each before i more refl)) (orderly_judged more (before ++ i ∷ []) (subst Orderly (sym (append_assoc before (i ∷ []) more)) each))

-- the rules begin with 1
breach_above : (before : List Item) (i : Item) → breach before i ≡ Some 0 → ⊥
breach_above before i h = above_zero (visible before) (plain_item i) h

pub never_formless : (more before : List Item) → judged before more ≡ Err 0 → ⊥
never_formless [] before h = absurd cc
never_formless (i ∷ more) before h = by_breach (breach before i) refl h (never_formless more (before ++ i ∷ []))
  where
    by_breach : (o : Option ℕ) → breach before i ≡ o → unless o (judged (before ++ i ∷ []) more) ≡ Err 0 → (judged (before ++ i ∷ []) more ≡ Err 0 → ⊥) → ⊥
    by_breach None e h later = later h
    by_breach (Some rule) e h later = let zero : rule ≡ 0 = cc in breach_above before i (e ∙ ap Some zero)
