-- The lines of items: an item's text is its lines, a transcript is the header and the lines of its items.
use Rattle.std.proofs.Common.{◌≡◌, ℕ, true, List, [], ◌∷◌, ◌++◌, map, length, Option, Some, None, refl, sym, ap, ◌∙◌, codes, append_assoc, append-nil}
use Rattle.std.specs.Prelude.{flat_map}
use Rattle.std.specs.List.{list_all}
use Rattle.std.specs.Option.{option_map}
use Rattle.std.proofs.lemmas.List.{map-append}
use Rattle.std.proofs.lemmas.List.Concat.{flat_map-append}
use Rattle.std.proofs.lemmas.List.Folds.{list_all-append}
use Rattle.tree_specs.specs.declared.report.ReportRow.{ReportRow}
use Rattle.tree_specs.specs.declared.reply.Reply.TheVariants as replies
use Rattle.tree_specs.specs.declared.event.Event.TheVariants as events
use Rattle.tree_specs.specs.declared.question.Ask.{Ask}
use Rattle.tree_specs.specs.declared.question.Ask.TheVariants as asks
use Rattle.tree_specs.specs.Words.Ranges.{is_number}
use Rattle.tree_specs.specs.Rules.Items.{Item}
use Rattle.tree_specs.specs.Rules.Items.Item.{Told, Asked}
use Rattle.tree_specs.specs.Texts.Text.{newline, numbers_text, rows_text, reply_text, event_text, answered_text, item_text, end_text, body_text, header, transcript}
use Rattle.tree_specs.specs.Texts.Lines.{lines}
use Rattle.tree_specs.specs.Texts.Lines as cut
use Rattle.text_forms.proofs.Bools.{and_true}
use Rattle.line_pieces.specs.Cuts.{has_no_lf, ended_line}
use Rattle.line_pieces.proofs.LineLaws.{lines_ended}
use Rattle.line_pieces.proofs.Feeding.{no-bytes}
use Rattle.transcript_lines.specs.Lines.{Line, line_text, is_sound_line}
use Rattle.transcript_lines.specs.Lines.Line.{Row, Rows, Tells, Asks, Ends}
use Rattle.transcript_lines.proofs.Texts.{line_plain, event_line, asked_line, end_line, row_line, rows_line}
use Rattle.audit_rules.specs.Flaws.{transcript_header}
use Rattle.audit_rules.specs.Transcripts.{is_sound_item}

-- ---- texts of lines

abbrev pub texts : List Line → List (List ℕ)
texts ls = map line_text ls

abbrev pub joined_lines : List (List ℕ) → List ℕ
joined_lines ts = flat_map (λ t. t ++ newline) ts

abbrev pub ended : List (List ℕ) → List cut.Line
ended ts = map ended_line ts

cut_all : (ts : List (List ℕ)) (rest : List ℕ) → list_all has_no_lf ts ≡ true → lines (joined_lines ts ++ rest) ≡ ended ts ++ lines rest
cut_all [] rest plain = refl
cut_all (t ∷ ts) rest plain =
    let p = and_true (has_no_lf t) (list_all has_no_lf ts) plain in
    ap lines (append_assoc (t ++ newline) (joined_lines ts) rest ∙ append_assoc t newline (joined_lines ts ++ rest))
    ∙ lines_ended t (joined_lines ts ++ rest) p.0 ∙ ap (λ (ls : List cut.Line). ended_line t ∷ ls) (cut_all ts rest p.1)

-- lines without an LF, each with one behind it, are cut into these lines
pub cut_lines : (ts : List (List ℕ)) → list_all has_no_lf ts ≡ true → lines (joined_lines ts) ≡ ended ts
cut_lines ts plain = ap lines (sym (append-nil (joined_lines ts))) ∙ cut_all ts [] plain ∙ ap (λ (ls : List cut.Line). ended ts ++ ls) no-bytes ∙ append-nil (ended ts)

pub texts_plain : (ls : List Line) → list_all is_sound_line ls ≡ true → list_all has_no_lf (texts ls) ≡ true
texts_plain [] sound = refl
texts_plain (l ∷ ls) sound =
    let s = and_true (is_sound_line l) (list_all is_sound_line ls) sound in
    rw (line_plain l s.0, texts_plain ls s.1) refl

-- ---- the lines of an item

-- those of an item that isn't the last
abbrev pub lines_of : Item → List Line
lines_of (Told (events.Replied (replies.Rows rows))) = map Row rows ++ Rows (length rows) ∷ []
lines_of (Told e) = Tells e ∷ []
lines_of (Asked asks.Quiet) = []
lines_of (Asked q) = Asks q ∷ []

abbrev pub lines_told : List Item → List Line
lines_told items = flat_map (λ i. lines_of i) items

rows_joined : (rows : List ReportRow) → rows_text rows ≡ joined_lines (texts (map Row rows))
rows_joined [] = refl
rows_joined (r ∷ rows) = ap (λ (l : List ℕ). l ++ rows_text rows) (row_line r) ∙ ap (λ (l : List ℕ). (line_text (Row r) ++ newline) ++ l) (rows_joined rows)

texts_append : (ls ms : List Line) → texts (ls ++ ms) ≡ texts ls ++ texts ms
texts_append ls ms = map-append line_text ls ms

joined_append : (ls ms : List Line) → joined_lines (texts (ls ++ ms)) ≡ joined_lines (texts ls) ++ joined_lines (texts ms)
joined_append ls ms = ap joined_lines (texts_append ls ms) ∙ flat_map-append (λ (t : List ℕ). t ++ newline) (texts ls) (texts ms)

report_joined : (rows : List ReportRow) → item_text (Told (events.Replied (replies.Rows rows))) ≡ joined_lines (texts (map Row rows ++ Rows (length rows) ∷ []))
unfolding item_text event_text reply_text
report_joined rows =
    ap (λ (l : List ℕ). l ++ newline) (append_assoc (rows_text rows) (codes "reply rows") (numbers_text (length rows ∷ [])))
    ∙ append_assoc (rows_text rows) (codes "reply rows" ++ numbers_text (length rows ∷ [])) newline
    ∙ ap (λ (l : List ℕ). l ++ (codes "reply rows" ++ numbers_text (length rows ∷ []) ++ newline)) (rows_joined rows)
    ∙ ap (λ (l : List ℕ). joined_lines (texts (map Row rows)) ++ l) (rows_line (length rows) ∙ sym (append-nil (line_text (Rows (length rows)) ++ newline)))
    ∙ sym (joined_append (map Row rows) (Rows (length rows) ∷ []))

one_line : (l : Line) → line_text l ++ newline ≡ joined_lines (texts (l ∷ []))
one_line l = sym (append-nil (line_text l ++ newline))

pub item_joined : (i : Item) → item_text i ≡ joined_lines (texts (lines_of i))
unfolding item_text answered_text
item_joined (Told (events.Replied (replies.Rows rows))) = report_joined rows
item_joined (Told (events.Replied (replies.No why))) = event_line (events.Replied (replies.No why)) refl ∙ one_line (Tells (events.Replied (replies.No why)))
item_joined (Told (events.Replied reply)) = event_line (events.Replied reply) refl ∙ one_line (Tells (events.Replied reply))
item_joined (Told e) = event_line e refl ∙ one_line (Tells e)
item_joined (Asked asks.Quiet) = refl
item_joined (Asked q) = asked_line q refl ∙ one_line (Asks q)

rows_sound : (rows : List ReportRow) → list_all (λ r. is_sound_line (Row r)) rows ≡ true → list_all is_sound_line (map Row rows) ≡ true
rows_sound [] h = refl
rows_sound (r ∷ rows) h = let s = and_true (is_sound_line (Row r)) (list_all (λ r. is_sound_line (Row r)) rows) h in rw (s.0, rows_sound rows s.1) refl

one_sound : (l : Line) → is_sound_line l ≡ true → list_all is_sound_line (l ∷ []) ≡ true
one_sound l h = rw h refl

pub item_sound : (i : Item) → is_sound_item i ≡ true → list_all is_sound_line (lines_of i) ≡ true
item_sound (Told (events.Replied (replies.Rows rows))) h =
    let s = and_true (is_number (length rows)) (list_all (λ r. is_sound_line (Row r)) rows) h in
    list_all-append is_sound_line (map Row rows) (Rows (length rows) ∷ []) ∙ rw (rows_sound rows s.1, s.0) refl
item_sound (Told (events.Replied (replies.No why))) h = one_sound (Tells (events.Replied (replies.No why))) h
item_sound (Told (events.Replied reply)) h = one_sound (Tells (events.Replied reply)) h
item_sound (Told e) h = one_sound (Tells e) h
item_sound (Asked asks.Quiet) h = refl
item_sound (Asked q) h = one_sound (Asks q) h

-- ---- the lines of a story

-- behind the header
abbrev pub story_lines : List Item → List Line
story_lines [] = []
story_lines (Told e ∷ []) = []
story_lines (Asked q ∷ []) = Ends q ∷ []
story_lines (i ∷ j ∷ more) = lines_of i ++ story_lines (j ∷ more)

body_next : (i j : Item) (more : List Item) (text : List ℕ) → body_text (i ∷ j ∷ more) ≡ Some text → (rest : List ℕ) × (body_text (j ∷ more) ≡ Some rest) × (text ≡ item_text i ++ rest)
unfolding body_text
body_next i j more text h = by_rest (body_text (j ∷ more)) refl h
  where
    by_rest : (o : Option (List ℕ)) → body_text (j ∷ more) ≡ o → option_map (λ t. item_text i ++ t) o ≡ Some text → (rest : List ℕ) × (body_text (j ∷ more) ≡ Some rest) × (text ≡ item_text i ++ rest)
    by_rest None e h = absurd cc
    by_rest (Some rest) e h = (rest, e, cc)

pub body_joined : (items : List Item) (text : List ℕ) → body_text items ≡ Some text → text ≡ joined_lines (texts (story_lines items))
unfolding body_text
body_joined [] text h = absurd cc
body_joined (Told e ∷ []) text h = absurd cc
body_joined (Asked q ∷ []) text h =
    let is : end_text q ≡ text = cc in
    sym is ∙ end_line q ∙ one_line (Ends q)
body_joined (i ∷ j ∷ more) text h =
    let b = body_next i j more text h in
    b.2 ∙ ap (λ (t : List ℕ). t ++ b.0) (item_joined i) ∙ ap (λ (t : List ℕ). joined_lines (texts (lines_of i)) ++ t) (body_joined (j ∷ more) b.0 b.1)
    ∙ sym (joined_append (lines_of i) (story_lines (j ∷ more)))

pub story_sound : (items : List Item) → list_all is_sound_item items ≡ true → list_all is_sound_line (story_lines items) ≡ true
story_sound [] h = refl
story_sound (Told e ∷ []) h = refl
story_sound (Asked q ∷ []) h = one_sound (Ends q) (and_true (is_sound_line (Asks q)) true h).0
story_sound (i ∷ j ∷ more) h =
    let s = and_true (is_sound_item i) (list_all is_sound_item (j ∷ more)) h in
    list_all-append is_sound_line (lines_of i) (story_lines (j ∷ more)) ∙ rw (item_sound i s.0, story_sound (j ∷ more) s.1) refl

-- the header, and the lines behind it
abbrev pub headed : List Line → List (List ℕ)
headed ls = transcript_header ∷ texts ls

headed_plain : (ls : List Line) → list_all is_sound_line ls ≡ true → list_all has_no_lf (headed ls) ≡ true
headed_plain ls sound = rw (texts_plain ls sound) refl

pub headed_cut : (ls : List Line) → list_all is_sound_line ls ≡ true → lines (header ++ joined_lines (texts ls)) ≡ ended (headed ls)
headed_cut ls sound = cut_lines (headed ls) (headed_plain ls sound)

pub transcript_cut : (items : List Item) (text : List ℕ) → list_all is_sound_item items ≡ true → transcript items ≡ Some text → lines text ≡ ended (headed (story_lines items))
transcript_cut items text sound h = by_body (body_text items) refl h
  where
    by_body : (o : Option (List ℕ)) → body_text items ≡ o → option_map (λ t. header ++ t) o ≡ Some text → lines text ≡ ended (headed (story_lines items))
    by_body None e h = absurd cc
    by_body (Some body) e h =
        let is : header ++ body ≡ text = cc in
        ap lines (sym is ∙ ap (λ (t : List ℕ). header ++ t) (body_joined items body e)) ∙ headed_cut (story_lines items) (story_sound items sound)

-- ---- a story that ends with this question

pub body_of : (before : List Item) (q : Ask) → body_text (before ++ Asked q ∷ []) ≡ Some (joined_lines (texts (lines_told before ++ Ends q ∷ [])))
unfolding body_text
body_of [] q = ap Some (end_line q ∙ one_line (Ends q))
body_of (i ∷ before) q = body_more i (before ++ Asked q ∷ []) (joined_lines (texts (lines_told before ++ Ends q ∷ []))) (body_of before q)
    ∙ ap Some (ap (λ (t : List ℕ). t ++ joined_lines (texts (lines_told before ++ Ends q ∷ []))) (item_joined i)
    ∙ sym (joined_append (lines_of i) (lines_told before ++ Ends q ∷ [])) ∙ ap (λ (ls : List Line). joined_lines (texts ls)) (sym (append_assoc (lines_of i) (lines_told before) (Ends q ∷ []))))
  where
    body_more : (i : Item) (more : List Item) (text : List ℕ) → body_text more ≡ Some text → body_text (i ∷ more) ≡ Some (item_text i ++ text)
    body_more i [] text h = absurd cc
    body_more i (j ∷ more) text h = rw h refl

pub transcript_of : (before : List Item) (q : Ask) → transcript (before ++ Asked q ∷ []) ≡ Some (header ++ joined_lines (texts (lines_told before ++ Ends q ∷ [])))
transcript_of before q = rw (body_of before q) refl

pub told_sound : (items : List Item) → list_all is_sound_item items ≡ true → list_all is_sound_line (lines_told items) ≡ true
told_sound [] h = refl
told_sound (i ∷ items) h =
    let s = and_true (is_sound_item i) (list_all is_sound_item items) h in
    list_all-append is_sound_line (lines_of i) (lines_told items) ∙ rw (item_sound i s.0, told_sound items s.1) refl

pub told_joined : (items : List Item) → flat_map (λ i. item_text i) items ≡ joined_lines (texts (lines_told items))
told_joined [] = refl
told_joined (i ∷ items) =
    ap (λ (t : List ℕ). t ++ flat_map (λ i. item_text i) items) (item_joined i) ∙ ap (λ (t : List ℕ). joined_lines (texts (lines_of i)) ++ t) (told_joined items)
    ∙ sym (joined_append (lines_of i) (lines_told items))

pub told_more : (items : List Item) (i : Item) → lines_told (items ++ i ∷ []) ≡ lines_told items ++ lines_of i
told_more items i = flat_map-append (λ i. lines_of i) items (i ∷ []) ∙ ap (λ (ls : List Line). lines_told items ++ ls) (append-nil (lines_of i))
