-- What lines have told where a course has taken them: items, and rows of a report, whose lines they are.
use Rattle.std.proofs.Common.{◌≡◌, ℕ, Bool, true, false, cond, eqb, ◌&&◌, List, [], ◌∷◌, ◌++◌, map, length, Option, Some, None, Result, Ok, Err, refl, sym, ap, subst, ◌∙◌, append_assoc, append-nil}
use Rattle.std.specs.List.{list_all}
use Rattle.std.proofs.lemmas.Bool.{eqb-true}
use Rattle.std.proofs.lemmas.List.{map-append}
use Rattle.std.proofs.lemmas.Slice.Eq.{bytes_eq-Decides}
use Rattle.std.specs.Str.{bytes_eq}
use Rattle.step_machine.proofs.History.{EachFits-more}
use Rattle.tree_specs.specs.declared.report.ReportRow.{ReportRow}
use Rattle.tree_specs.specs.declared.reply.Reply.TheVariants as replies
use Rattle.tree_specs.specs.declared.event.Event.{Event}
use Rattle.tree_specs.specs.declared.event.Event.TheVariants as events
use Rattle.tree_specs.specs.declared.question.Ask.{Ask}
use Rattle.tree_specs.specs.declared.question.Ask.TheVariants as asks
use Rattle.tree_specs.specs.Words.Ranges.{is_number}
use Rattle.tree_specs.specs.Rules.Items.{Item}
use Rattle.tree_specs.specs.Rules.Items.Item.{Told, Asked}
use Rattle.tree_specs.specs.Promises.Orderly.{Fits, Orderly}
use Rattle.text_forms.proofs.Bools.{and_true}
use Rattle.transcript_lines.specs.Lines.{Line, line_of, line_text, is_sound_line, is_line}
use Rattle.transcript_lines.specs.Lines.Line.{Row, Rows, Tells, Asks, Ends}
use Rattle.transcript_lines.proofs.Spelling.{line_spelled}
use Rattle.audit_rules.specs.Rules.{broken}
use Rattle.audit_rules.specs.Flaws.{Course, formless, with_line, with_item, going_on, after_line, unless_broken, transcript_header}
use Rattle.audit_rules.specs.Flaws.Course.{Header, Body, Over}
use Rattle.audit_rules.specs.Transcripts.{is_sound_item}
use Rattle.audit_rules.proofs.Breaking.{unbroken_fits}
use Rattle.audit_rules.proofs.ItemLines.{texts, lines_of, lines_told, told_more}
use Rattle.audit_rules.proofs.Courses.{go_on, runs}

-- ---- what was told

-- orderly items, and rows of a report
pub record IsTold (items : List Item) (rows : List ReportRow) : Type 0 where
  pub orderly : Orderly items
  pub sound : list_all is_sound_item items ≡ true
  pub rows_sound : list_all (λ r. is_sound_line (Row r)) rows ≡ true

-- and the question that is open at the end
pub record IsAllTold (items : List Item) (q : Ask) : Type 0 where
  pub told : IsTold items []
  pub fits : Fits items (Asked q)
  pub sound : is_sound_line (Asks q) ≡ true

abbrev pub told_texts : List Item → List ReportRow → List (List ℕ)
told_texts items rows = texts (lines_told items ++ map Row rows)

-- the lines behind the header, by which a course has come so far
abbrev pub Reaches : List (List ℕ) → Course → Type 0
Reaches ts Header = ⊥
Reaches ts (Body items rows) = IsTold items rows × (ts ≡ told_texts items rows)
Reaches ts Over = (items : List Item) × (q : Ask) × IsAllTold items q × (ts ≡ texts (lines_told items ++ Ends q ∷ []))

pub nothing_told : IsTold [] []
nothing_told = record { orderly = no_items; sound = refl; rows_sound = refl }
  where
    no_items : Orderly []
    no_items [] t after e = absurd cc
    no_items (x ∷ before) t after e = absurd cc

all_more : {A : Type 0} (test : A → Bool) (xs : List A) (x : A) → list_all test xs ≡ true → test x ≡ true → list_all test (xs ++ x ∷ []) ≡ true
all_more test [] x h s = rw s refl
all_more test (y ∷ xs) x h s = let both = and_true (test y) (list_all test xs) h in rw (both.0, all_more test xs x both.1 s) refl

pub sound_more : (items : List Item) (i : Item) → list_all is_sound_item items ≡ true → is_sound_item i ≡ true → list_all is_sound_item (items ++ i ∷ []) ≡ true
sound_more items i h s = all_more is_sound_item items i h s

-- one item more
item_told : (items : List Item) (rows : List ReportRow) (i : Item) → IsTold items rows → broken items i ≡ None → is_sound_item i ≡ true → IsTold (items ++ i ∷ []) []
item_told items rows i told fine sound = record {
  orderly = EachFits-more Fits items i told.orderly (unbroken_fits items i fine);
  sound = sound_more items i told.sound sound;
  rows_sound = refl;
}

-- ---- one line

-- one line behind others
behind : (done : List (List ℕ)) (t : List ℕ) (ls : List Line) (l : Line) → done ≡ texts ls → t ≡ line_text l → done ++ t ∷ [] ≡ texts (ls ++ l ∷ [])
behind done t ls l is same = ap (λ (ts : List (List ℕ)). ts ++ t ∷ []) is ∙ ap (λ (x : List ℕ). texts ls ++ x ∷ []) same ∙ sym (map-append line_text ls (l ∷ []))

rows_more : (items : List Item) (rows : List ReportRow) (r : ReportRow) → texts ((lines_told items ++ map Row rows) ++ Row r ∷ []) ≡ told_texts items (rows ++ r ∷ [])
rows_more items rows r = ap texts (append_assoc (lines_told items) (map Row rows) (Row r ∷ []) ∙ ap (λ (ls : List Line). lines_told items ++ ls) (sym (map-append Row rows (r ∷ []))))

report_more : (items : List Item) (rows : List ReportRow) → texts ((lines_told items ++ map Row rows) ++ Rows (length rows) ∷ []) ≡ told_texts (items ++ Told (events.Replied (replies.Rows rows)) ∷ []) []
report_more items rows =
    let item : Item = Told (events.Replied (replies.Rows rows)) in
    ap texts (append_assoc (lines_told items) (map Row rows) (Rows (length rows) ∷ []) ∙ sym (told_more items item) ∙ sym (append-nil (lines_told (items ++ item ∷ []))))

item_more : (items : List Item) (i : Item) (l : Line) → lines_of i ≡ l ∷ [] → texts ((lines_told items ++ []) ++ l ∷ []) ≡ told_texts (items ++ i ∷ []) []
item_more items i l is =
    ap (λ (ls : List Line). texts (ls ++ l ∷ [])) (append-nil (lines_told items))
    ∙ ap (λ (ls : List Line). texts (lines_told items ++ ls)) (sym is) ∙ ap texts (sym (told_more items i) ∙ sym (append-nil (lines_told (items ++ i ∷ []))))

pub told_line : (e : Event) → is_line (Tells e) ≡ true → lines_of (Told e) ≡ Tells e ∷ []
told_line (events.Replied (replies.Rows rows)) l = absurd cc
told_line (events.Replied (replies.No why)) l = refl
told_line (events.Replied reply) l = refl
told_line e l = refl

pub asked_line : (q : Ask) → is_line (Asks q) ≡ true → lines_of (Asked q) ≡ Asks q ∷ []
asked_line asks.Quiet l = absurd cc
asked_line (asks.Routine m) l = refl
asked_line q l = refl

pub told_sound : (e : Event) → is_line (Tells e) ≡ true → is_sound_line (Tells e) ≡ true → is_sound_item (Told e) ≡ true
told_sound (events.Replied (replies.Rows rows)) l h = absurd cc
told_sound (events.Replied (replies.No why)) l h = h
told_sound (events.Replied reply) l h = h
told_sound e l h = h

abbrev pub okay : Course → Result Course ℕ
okay c = Ok c

pub same_ok : (c d : Course) → okay c ≡ okay d → c ≡ d
same_ok c d e = cc

-- an item that was taken breaks no rule, and stands behind no rows
record IsTaken (items : List Item) (rows : List ReportRow) (i : Item) (after next : Course) : Type 0 where
  no_rows : rows ≡ []
  fine : broken items i ≡ None
  next_is : after ≡ next

item_taken : (items : List Item) (rows : List ReportRow) (i : Item) (after next : Course) → with_item items rows i after ≡ Ok next → IsTaken items rows i after next
item_taken items (row ∷ rows) i after next h = absurd cc
item_taken items [] i after next h = by_breach (broken items i) refl h
  where
    by_breach : (b : Option ℕ) → broken items i ≡ b → unless_broken b after ≡ Ok next → IsTaken items [] i after next
    by_breach (Some rule) e h = absurd cc
    by_breach None e h = record { no_rows = refl; fine = e; next_is = same_ok after next h }

-- the line tells this item, and is the only one of it
tells : (done : List (List ℕ)) (t : List ℕ) (items : List Item) (rows : List ReportRow) (i : Item) (l : Line) (next : Course) → Reaches done (Body items rows) → with_item items rows i (going_on items i) ≡ Ok next
    → t ≡ line_text l → lines_of i ≡ l ∷ [] → is_sound_item i ≡ true → Reaches (done ++ t ∷ []) next
tells done t items rows i l next (told, is) h same lines sound =
    let taken = item_taken items rows i (going_on items i) next h in
    let none : done ≡ told_texts items [] = is ∙ ap (told_texts items) taken.no_rows in
    subst (Reaches (done ++ t ∷ [])) taken.next_is (item_told items rows i told taken.fine sound, behind done t (lines_told items ++ []) l none same ∙ item_more items i l lines)

line_told : (done : List (List ℕ)) (t : List ℕ) (items : List Item) (rows : List ReportRow) (next : Course) → Reaches done (Body items rows) → after_line (Body items rows) t ≡ Ok next → Reaches (done ++ t ∷ []) next
line_told done t items rows next (told, is) h = by_line (line_of t) refl h
  where
    ended_by : (k : ℕ) → line_of t ≡ Some (Rows k) → (b : Bool) → eqb k (length rows) ≡ b → cond b (Ok (going_on items (Told (events.Replied (replies.Rows rows))))) formless ≡ Ok next → Reaches (done ++ t ∷ []) next
    ended_by k spelled false e h = absurd cc
    ended_by k spelled true e h =
        let s = line_spelled t (Rows k) spelled in
        let item : Item = Told (events.Replied (replies.Rows rows)) in
        let count : k ≡ length rows = eqb-true k (length rows) e in
        let number : is_number (length rows) ≡ true = sym (ap (λ (m : ℕ). is_number m) count) ∙ rows_number k s.1 in
        let sound : is_sound_item item ≡ true = rw (number, told.rows_sound) refl in
        subst (Reaches (done ++ t ∷ [])) (same_ok (going_on items item) next h)
        (item_told items rows item told refl sound, behind done t (lines_told items ++ map Row rows) (Rows (length rows)) is (s.0 ∙ ap (λ (m : ℕ). line_text (Rows m)) count) ∙ report_more items rows)
      where
        rows_number : (k : ℕ) → is_sound_line (Rows k) ≡ true → is_number k ≡ true
        rows_number k h = (and_true (is_number k) true (and_true (is_number k && true) true h).0).0

    by_line : (o : Option Line) → line_of t ≡ o → with_line items rows o ≡ Ok next → Reaches (done ++ t ∷ []) next
    by_line None spelled h = absurd cc
    by_line (Some (Row r)) spelled h =
        let s = line_spelled t (Row r) spelled in
        subst (Reaches (done ++ t ∷ [])) (same_ok (Body items (rows ++ r ∷ [])) next h) (
          record { orderly = told.orderly; sound = told.sound; rows_sound = all_more (λ x. is_sound_line (Row x)) rows r told.rows_sound s.1 },
          behind done t (lines_told items ++ map Row rows) (Row r) is s.0 ∙ rows_more items rows r,
        )
    by_line (Some (Rows k)) spelled h = ended_by k spelled (eqb k (length rows)) refl h
    by_line (Some (Tells e)) spelled h =
        let s = line_spelled t (Tells e) spelled in
        tells done t items rows (Told e) (Tells e) next (told, is) h s.0 (told_line e s.2) (told_sound e s.2 s.1)
    by_line (Some (Asks q)) spelled h =
        let s = line_spelled t (Asks q) spelled in
        tells done t items rows (Asked q) (Asks q) next (told, is) h s.0 (asked_line q s.2) s.1
    by_line (Some (Ends q)) spelled h =
        let s = line_spelled t (Ends q) spelled in
        let taken = item_taken items rows (Asked q) Over next h in
        let none : done ≡ told_texts items [] = is ∙ ap (told_texts items) taken.no_rows in
        subst (Reaches (done ++ t ∷ [])) taken.next_is (
          items,
          q,
          record { told = record { orderly = told.orderly; sound = told.sound; rows_sound = refl }; fits = unbroken_fits items (Asked q) taken.fine; sound = s.1 },
          behind done t (lines_told items ++ []) (Ends q) none s.0 ∙ ap (λ (ls : List Line). texts (ls ++ Ends q ∷ [])) (append-nil (lines_told items)),
        )

-- ---- lines one after another

reaches_more : (ts done : List (List ℕ)) (course after : Course) → Reaches done course → runs course ts ≡ Ok after → Reaches (done ++ ts) after
reaches_more [] done course after r h =
    subst (λ (ts : List (List ℕ)). Reaches ts after) (sym (append-nil done)) (subst (Reaches done) (same_ok course after h) r)
reaches_more (t ∷ ts) done Header after r h = absurd r
reaches_more (t ∷ ts) done Over after r h = absurd cc
reaches_more (t ∷ ts) done (Body items rows) after r h = by_result (after_line (Body items rows) t) refl h (λ c g. reaches_more ts (done ++ t ∷ []) c after g)
  where
    by_result : (o : Result Course ℕ) → after_line (Body items rows) t ≡ o → go_on o (λ c. runs c ts) ≡ Ok after
        → ((c : Course) → Reaches (done ++ t ∷ []) c → runs c ts ≡ Ok after → Reaches ((done ++ t ∷ []) ++ ts) after) → Reaches (done ++ t ∷ ts) after
    by_result (Err rule) e h more = absurd cc
    by_result (Ok c) e h more = subst (λ (us : List (List ℕ)). Reaches us after) (append_assoc done (t ∷ []) ts) (more c (line_told done t items rows c r e) h)

-- The first line is the header; the others have come so far.
pub record Headed (t : List ℕ) (ts : List (List ℕ)) (after : Course) : Type 0 where
  pub header : t ≡ transcript_header
  pub reaches : Reaches ts after

pub headed_lines : (t : List ℕ) (ts : List (List ℕ)) (after : Course) → runs Header (t ∷ ts) ≡ Ok after → Headed t ts after
headed_lines t ts after h = by_test (bytes_eq t transcript_header) refl h
  where
    by_test : (b : Bool) → bytes_eq t transcript_header ≡ b → go_on (cond b (Ok (Body [] [])) formless) (λ c. runs c ts) ≡ Ok after → Headed t ts after
    by_test false e h = absurd cc
    by_test true e h = record { header = (bytes_eq-Decides t transcript_header).0 e; reaches = reaches_more ts [] (Body [] []) after (nothing_told, refl) h }
