-- The flaw that is found is the first one: the lines before it begin the transcript of an orderly story, and it is a flaw behind them.
use Rattle.std.proofs.Common.{◌≡◌, ℕ, zero, suc, ◌≤◌, Bool, true, false, cond, eqb, List, [], ◌∷◌, ◌++◌, map, length, Option, Some, None, Ok, Err, refl, sym, ap, subst, ◌∙◌, append_assoc, append-nil, length-append, arith, inl, inr}
use Rattle.std.specs.Prelude.{flat_map}
use Rattle.std.specs.List.{list_all}
use Rattle.std.specs.Str.{bytes_eq}
use Rattle.std.proofs.lemmas.List.{length-map, map-append}
use Rattle.std.proofs.lemmas.List.Folds.{list_all-append}
use Rattle.std.proofs.lemmas.Bool.Decides.{nat_tests}
use Rattle.step_machine.proofs.History.{EachFits-more}
use Rattle.tree_specs.specs.declared.report.ReportRow.{ReportRow}
use Rattle.tree_specs.specs.declared.reply.Reply.TheVariants as replies
use Rattle.tree_specs.specs.declared.event.Event.TheVariants as events
use Rattle.tree_specs.specs.declared.question.Ask.{Ask}
use Rattle.tree_specs.specs.declared.question.Ask.TheVariants as asks
use Rattle.tree_specs.specs.Words.Ranges.{is_number}
use Rattle.tree_specs.specs.Rules.Items.{Item}
use Rattle.tree_specs.specs.Rules.Items.Item.{Told, Asked}
use Rattle.tree_specs.specs.Promises.Orderly.{Fits, Orderly}
use Rattle.tree_specs.specs.Texts.Text.{header, item_text}
use Rattle.tree_specs.specs.Texts.Lines.{lines, lines_limit}
use Rattle.tree_specs.specs.Texts.Lines as cut
use Rattle.line_pieces.specs.Cuts.{ended_line}
use Rattle.transcript_lines.specs.Lines.{Line, line_of, line_text, is_sound_line}
use Rattle.transcript_lines.specs.Lines.Line.{Row, Rows, Tells, Asks, Ends}
use Rattle.transcript_lines.proofs.Spelling.{line_spelled}
use Rattle.audit_rules.specs.Rules.{broken}
use Rattle.audit_rules.specs.Flaws.{Course, formless, with_line, with_item, going_on, after_line, unless_broken, flaw_at_end, flaw, transcript_header}
use Rattle.audit_rules.specs.Flaws.Course.{Header, Body, Over}
use Rattle.audit_rules.specs.Transcripts.{is_sound_item}
use Rattle.audit_rules.specs.Beginnings.{Begins, BeginTranscript, BreaksRule, FlawBehind, IsFirstFlaw}
use Rattle.audit_rules.proofs.Breaking.{unbroken_fits}
use Rattle.audit_rules.proofs.ItemLines.{texts, joined_lines, ended, headed, headed_cut, lines_of, lines_told, told_sound, told_joined, told_more, story_lines, transcript_cut, transcript_of}
use Rattle.audit_rules.proofs.Courses.{go_on, runs, runs_append, line_is, StopsAt, Stops, stops_from}
use Rattle.audit_rules.proofs.Telling.{never_formless}
use Rattle.audit_rules.proofs.Reaching.{IsTold, told_texts, Reaches, nothing_told, same_ok, sound_more, told_line, asked_line, told_sound as event_sound, headed_lines}
use Rattle.audit_rules.proofs.Whole.{story_runs}

-- ---- how transcripts begin

-- the lines of these items and of the question at the end begin with these
begins_with : (items : List Item) (q : Ask) (ts us : List (List ℕ)) → list_all is_sound_item items ≡ true → is_sound_line (Asks q) ≡ true → texts (lines_told items ++ Ends q ∷ []) ≡ ts ++ us
    → Begins (items ++ Asked q ∷ []) (ended (transcript_header ∷ ts))
begins_with items q ts us sound last is = record {
  sound = sound_more items (Asked q) sound last;
  text = header ++ joined_lines (texts (lines_told items ++ Ends q ∷ []));
  is_text = transcript_of items q;
  rest = ended us;
  cut = headed_cut (lines_told items ++ Ends q ∷ []) all_sound ∙ ap (λ (xs : List (List ℕ)). ended (transcript_header ∷ xs)) is ∙ map-append ended_line (transcript_header ∷ ts) us;
}
  where
    all_sound : list_all is_sound_line (lines_told items ++ Ends q ∷ []) ≡ true
    all_sound = list_all-append is_sound_line (lines_told items) (Ends q ∷ []) ∙ rw (told_sound items sound, last) refl

-- the reply that ends these rows
abbrev report : List ReportRow → Item
report rows = Told (events.Replied (replies.Rows rows))

report_sound : (rows : List ReportRow) → is_number (length rows) ≡ true → list_all (λ r. is_sound_line (Row r)) rows ≡ true → is_sound_item (report rows) ≡ true
report_sound rows number sound = rw (number, sound) refl

-- where the rows' reply and the end follow
report_lines : (items : List Item) (rows : List ReportRow) → texts (lines_told (items ++ report rows ∷ []) ++ Ends asks.Quiet ∷ []) ≡ told_texts items rows ++ line_text (Rows (length rows)) ∷ line_text (Ends asks.Quiet) ∷ []
report_lines items rows =
    ap (λ (ls : List Line). texts (ls ++ Ends asks.Quiet ∷ []))
    (told_more items (report rows) ∙ sym (append_assoc (lines_told items) (map Row rows) (Rows (length rows) ∷ [])))
    ∙ ap texts (append_assoc (lines_told items ++ map Row rows) (Rows (length rows) ∷ []) (Ends asks.Quiet ∷ []))
    ∙ map-append line_text (lines_told items ++ map Row rows) (Rows (length rows) ∷ Ends asks.Quiet ∷ [])

-- the lines so far, and the reply
report_begins : (items : List Item) (rows : List ReportRow) → IsTold items rows → is_number (length rows) ≡ true
    → Begins ((items ++ report rows ∷ []) ++ Asked asks.Quiet ∷ []) (ended (transcript_header ∷ (told_texts items rows ++ line_text (Rows (length rows)) ∷ [])))
report_begins items rows told number =
    begins_with (items ++ report rows ∷ []) asks.Quiet (told_texts items rows ++ line_text (Rows (length rows)) ∷ []) (line_text (Ends asks.Quiet) ∷ [])
    (sound_more items (report rows) told.sound (report_sound rows number told.rows_sound)) refl
    (report_lines items rows ∙ sym (append_assoc (told_texts items rows) (line_text (Rows (length rows)) ∷ []) (line_text (Ends asks.Quiet) ∷ [])))

-- what begins with some lines begins with the first of them
pub begins_less : (items : List Item) (front more : List cut.Line) → Begins items (front ++ more) → Begins items front
begins_less items front more b = record {
  sound = b.sound;
  text = b.text;
  is_text = b.is_text;
  rest = more ++ b.rest;
  cut = b.cut ∙ append_assoc front more b.rest;
}

-- an orderly story has a transcript that begins with these lines
record BeginsOrderly (front : List cut.Line) : Type 0 where
  story : List Item
  orderly : Orderly story
  begun : Begins story front

-- a report and Quiet fit, whatever was told
report_orderly : (items : List Item) (rows : List ReportRow) → Orderly items → Orderly ((items ++ report rows ∷ []) ++ Asked asks.Quiet ∷ [])
report_orderly items rows each =
    EachFits-more Fits (items ++ report rows ∷ []) (Asked asks.Quiet) (EachFits-more Fits items (report rows) each (unbroken_fits items (report rows) refl))
    (unbroken_fits (items ++ report rows ∷ []) (Asked asks.Quiet) refl)

few_rows : (items : List Item) (rows : List ReportRow) (ts : List (List ℕ)) → ts ≡ told_texts items rows → length ts ≤ lines_limit → is_number (length rows) ≡ true
few_rows items rows ts is le = small (length rows) (omega (arith, ap length is, length-map (lines_told items ++ map Row rows) line_text, length-append (lines_told items) (map Row rows), length-map rows Row, le))
  where
    small : (n : ℕ) → n ≤ lines_limit → is_number n ≡ true
    small n le = grind (arith, nat_tests)

-- lines that were taken begin the transcript of an orderly story
taken_begin : (front : List (List ℕ)) (after : Course) → runs Header front ≡ Ok after → length front ≤ lines_limit → BeginsOrderly (ended front)
taken_begin [] after h le = record {
  story = Asked asks.Quiet ∷ [];
  orderly = EachFits-more Fits [] (Asked asks.Quiet) nothing_told.orderly (unbroken_fits [] (Asked asks.Quiet) refl);
  begun = begins_less (Asked asks.Quiet ∷ []) [] (ended_line transcript_header ∷ []) (begins_with [] asks.Quiet [] (line_text (Ends asks.Quiet) ∷ []) refl refl refl);
}
taken_begin (t ∷ ts) after h le =
    let r = headed_lines t ts after h in
    subst (λ (x : List ℕ). BeginsOrderly (ended (x ∷ ts))) (sym r.header) (by_course after r.reaches)
  where
    by_course : (c : Course) → Reaches ts c → BeginsOrderly (ended (transcript_header ∷ ts))
    by_course Header r = absurd r
    by_course (Body items rows) (told, is) =
        let number = few_rows items rows ts is (omega (arith, le)) in
        let begun = report_begins items rows told number in
        record {
          story = (items ++ report rows ∷ []) ++ Asked asks.Quiet ∷ [];
          orderly = report_orderly items rows told.orderly;
          begun = subst (λ (us : List (List ℕ)). Begins ((items ++ report rows ∷ []) ++ Asked asks.Quiet ∷ []) (ended (transcript_header ∷ us))) (sym is)
              (begins_less ((items ++ report rows ∷ []) ++ Asked asks.Quiet ∷ []) (ended (transcript_header ∷ told_texts items rows)) (ended_line (line_text (Rows (length rows))) ∷ [])
              (subst (Begins ((items ++ report rows ∷ []) ++ Asked asks.Quiet ∷ [])) (map-append ended_line (transcript_header ∷ told_texts items rows) (line_text (Rows (length rows)) ∷ [])) begun));
        }
    by_course Over (items, q, all, is) = record {
      story = items ++ Asked q ∷ [];
      orderly = EachFits-more Fits items (Asked q) all.told.orderly all.fits;
      begun = begins_with items q ts [] all.told.sound all.sound (sym is ∙ sym (append-nil ts));
    }

-- ---- a line is missing

missing_line : (front : List (List ℕ)) (after : Course) (n : ℕ) → runs Header front ≡ Ok after → flaw_at_end n after ≡ Some (n, 0) → length front ≤ lines_limit → (line : cut.Line) × BeginTranscript (ended front ++ line ∷ [])
missing_line [] after n h e le = (ended_line transcript_header, (Asked asks.Quiet ∷ [], begins_with [] asks.Quiet [] (line_text (Ends asks.Quiet) ∷ []) refl refl refl))
missing_line (t ∷ ts) after n h e le =
    let r = headed_lines t ts after h in
    subst (λ (x : List ℕ). (line : cut.Line) × BeginTranscript (ended (x ∷ ts) ++ line ∷ [])) (sym r.header) (by_course after e r.reaches)
  where
    by_course : (c : Course) → flaw_at_end n c ≡ Some (n, 0) → Reaches ts c → (line : cut.Line) × BeginTranscript (ended (transcript_header ∷ ts) ++ line ∷ [])
    by_course Header e r = absurd r
    by_course Over e r = absurd cc
    by_course (Body items rows) e (told, is) =
        let begun = report_begins items rows told (few_rows items rows ts is (omega (arith, le))) in
        let line : cut.Line = ended_line (line_text (Rows (length rows))) in (
          line,
          (
            (items ++ report rows ∷ []) ++ Asked asks.Quiet ∷ [],
            subst (λ (us : List (List ℕ)). Begins ((items ++ report rows ∷ []) ++ Asked asks.Quiet ∷ []) (ended (transcript_header ∷ us) ++ line ∷ [])) (sym is)
                (subst (Begins ((items ++ report rows ∷ []) ++ Asked asks.Quiet ∷ [])) (map-append ended_line (transcript_header ∷ told_texts items rows) (line_text (Rows (length rows)) ∷ [])) begun),
          ),
        )

-- ---- no transcript has the line there

-- lines with their LFs that begin with these and one more
parted : (ts front : List (List ℕ)) (line : cut.Line) (rest : List cut.Line) → ended ts ≡ (ended front ++ line ∷ []) ++ rest → (line.ended ≡ true) × (us : List (List ℕ)) × (ts ≡ front ++ line.text ∷ us)
parted [] [] line rest e = absurd cc
parted [] (f ∷ fs) line rest e = absurd cc
parted (t ∷ ts) [] line rest e =
    let same : ended_line t ≡ line = cc in
    (sym (ap (λ (l : cut.Line). l.ended) same), ts, ap (λ (l : cut.Line). l.text ∷ ts) same)
parted (t ∷ ts) (f ∷ fs) line rest e =
    let same : ended_line t ≡ ended_line f = cc in
    let more : ended ts ≡ (ended fs ++ line ∷ []) ++ rest = cc in
    let p = parted ts fs line rest more in
    (p.0, p.1, ap (λ (l : cut.Line). l.text ∷ ts) same ∙ ap (λ (us : List (List ℕ)). f ∷ us) p.2)

story_parted : (front : List (List ℕ)) (line : cut.Line) (items : List Item) (b : Begins items (ended front ++ line ∷ [])) → (line.ended ≡ true) × (us : List (List ℕ)) × (headed (story_lines items) ≡ front ++ line.text ∷ us)
story_parted front line items b = parted (headed (story_lines items)) front line b.rest (sym (transcript_cut items b.text b.sound b.is_text) ∙ b.cut)

never_unended : (front : List (List ℕ)) (line : cut.Line) → line.ended ≡ false → BeginTranscript (ended front ++ line ∷ []) → ⊥
never_unended front line e (items, b) = let bad : true ≡ false = sym (story_parted front line items b).0 ∙ e in absurd cc

never_taken : (front : List (List ℕ)) (after : Course) (line : cut.Line) → runs Header front ≡ Ok after → after_line after line.text ≡ Err 0 → BeginTranscript (ended front ++ line ∷ []) → ⊥
never_taken front after line reached h (items, b) =
    let p = story_parted front line items b in
    let formless_run : runs Header (headed (story_lines items)) ≡ Err 0 =
    ap (runs Header) p.2 ∙ runs_append front (line.text ∷ p.1) Header ∙ ap (λ r. go_on r (λ c. runs c (line.text ∷ p.1))) reached ∙ ap (λ r. go_on r (λ c. runs c p.1)) h in
    never_formless items [] (sym (story_runs items b.text b.sound b.is_text) ∙ formless_run)

-- ---- the line breaks a rule

-- an item of this line breaks the rule, and these lines tell what stands before it
record Breaks (items : List Item) (t : List ℕ) (k : ℕ) : Type 0 where
  item : Item
  breaks : broken items item ≡ Some k
  more : List Item
  begins : Begins (items ++ item ∷ more) (ended (transcript_header ∷ (told_texts items [] ++ t ∷ [])))

-- an item that isn't the last
told_breaks : (items : List Item) (i : Item) (l : Line) (t : List ℕ) (k : ℕ) → list_all is_sound_item items ≡ true → is_sound_item i ≡ true → lines_of i ≡ l ∷ [] → t ≡ line_text l → broken items i ≡ Some k → Breaks items t k
told_breaks items i l t k sound item_sound lines is h = record {
  item = i;
  breaks = h;
  more = Asked asks.Quiet ∷ [];
  begins = subst (λ (x : List ℕ). Begins (items ++ i ∷ Asked asks.Quiet ∷ []) (ended (transcript_header ∷ (told_texts items [] ++ x ∷ [])))) (sym is)
      (subst (λ (xs : List Item). Begins xs (ended (transcript_header ∷ (told_texts items [] ++ line_text l ∷ [])))) (append_assoc items (i ∷ []) (Asked asks.Quiet ∷ []))
      (begins_with (items ++ i ∷ []) asks.Quiet (told_texts items [] ++ line_text l ∷ []) (line_text (Ends asks.Quiet) ∷ []) (sound_more items i sound item_sound) refl same));
}
  where
    same : texts (lines_told (items ++ i ∷ []) ++ Ends asks.Quiet ∷ []) ≡ (told_texts items [] ++ line_text l ∷ []) ++ line_text (Ends asks.Quiet) ∷ []
    same =
        ap (λ (ls : List Line). texts (ls ++ Ends asks.Quiet ∷ [])) (told_more items i ∙ ap (λ (ls : List Line). lines_told items ++ ls) lines)
        ∙ map-append line_text (lines_told items ++ l ∷ []) (Ends asks.Quiet ∷ [])
        ∙ ap (λ (ts : List (List ℕ)). ts ++ line_text (Ends asks.Quiet) ∷ [])
        (map-append line_text (lines_told items) (l ∷ []) ∙ ap (λ (ls : List Line). texts ls ++ line_text l ∷ []) (sym (append-nil (lines_told items))))

-- the question at the end
end_breaks : (items : List Item) (q : Ask) (t : List ℕ) (k : ℕ) → list_all is_sound_item items ≡ true → is_sound_line (Asks q) ≡ true → t ≡ line_text (Ends q) → broken items (Asked q) ≡ Some k → Breaks items t k
end_breaks items q t k sound last is h = record {
  item = Asked q;
  breaks = h;
  more = [];
  begins = subst (λ (x : List ℕ). Begins (items ++ Asked q ∷ []) (ended (transcript_header ∷ (told_texts items [] ++ x ∷ [])))) (sym is)
      (begins_with items q (told_texts items [] ++ line_text (Ends q) ∷ []) [] sound last same);
}
  where
    same : texts (lines_told items ++ Ends q ∷ []) ≡ (told_texts items [] ++ line_text (Ends q) ∷ []) ++ []
    same =
        map-append line_text (lines_told items) (Ends q ∷ []) ∙ ap (λ (ls : List Line). texts ls ++ line_text (Ends q) ∷ []) (sym (append-nil (lines_told items)))
        ∙ sym (append-nil (told_texts items [] ++ line_text (Ends q) ∷ []))

-- an item that breaks a rule stands behind no rows
item_breaks : (items : List Item) (rows : List ReportRow) (i : Item) (after : Course) (k : ℕ) → with_item items rows i after ≡ Err (suc k) → (rows ≡ []) × (broken items i ≡ Some (suc k))
item_breaks items (row ∷ rows) i after k h = absurd cc
item_breaks items [] i after k h = by_breach (broken items i) refl h
  where
    by_breach : (o : Option ℕ) → broken items i ≡ o → unless_broken o after ≡ Err (suc k) → (let none : List ReportRow = [] in none ≡ []) × (broken items i ≡ Some (suc k))
    by_breach None e h = absurd cc
    by_breach (Some rule) e h = let same : rule ≡ suc k = cc in (refl, e ∙ ap Some same)

line_breaks : (items : List Item) (rows : List ReportRow) (t : List ℕ) (k : ℕ) → IsTold items rows → after_line (Body items rows) t ≡ Err (suc k) → (rows ≡ []) × Breaks items t (suc k)
line_breaks items rows t k told h = by_line (line_of t) refl h
  where
    by_count : (b : Bool) → cond b (Ok (going_on items (report rows))) formless ≡ Err (suc k) → ⊥
    by_count true h = absurd cc
    by_count false h = absurd cc

    by_line : (o : Option Line) → line_of t ≡ o → with_line items rows o ≡ Err (suc k) → (rows ≡ []) × Breaks items t (suc k)
    by_line None spelled h = absurd cc
    by_line (Some (Row r)) spelled h = absurd cc
    by_line (Some (Rows n)) spelled h = absurd (by_count (eqb n (length rows)) h)
    by_line (Some (Tells e)) spelled h =
        let s = line_spelled t (Tells e) spelled in
        let b = item_breaks items rows (Told e) (going_on items (Told e)) k h in
        (b.0, told_breaks items (Told e) (Tells e) t (suc k) told.sound (event_sound e s.2 s.1) (told_line e s.2) s.0 b.1)
    by_line (Some (Asks q)) spelled h =
        let s = line_spelled t (Asks q) spelled in
        let b = item_breaks items rows (Asked q) (going_on items (Asked q)) k h in
        (b.0, told_breaks items (Asked q) (Asks q) t (suc k) told.sound s.1 (asked_line q s.2) s.0 b.1)
    by_line (Some (Ends q)) spelled h =
        let s = line_spelled t (Ends q) spelled in
        let b = item_breaks items rows (Asked q) Over k h in
        (b.0, end_breaks items q t (suc k) told.sound s.1 s.0 b.1)

told_before : (items : List Item) → list_all is_sound_item items ≡ true → lines (header ++ flat_map (λ i. item_text i) items) ≡ ended (transcript_header ∷ told_texts items [])
told_before items sound =
    ap (λ (t : List ℕ). lines (header ++ t)) (told_joined items) ∙ headed_cut (lines_told items) (told_sound items sound)
    ∙ ap (λ (ls : List Line). ended (headed ls)) (sym (append-nil (lines_told items)))

header_breaks : (t : List ℕ) (k : ℕ) → after_line Header t ≡ Err (suc k) → ⊥
header_breaks t k h = by_test (bytes_eq t transcript_header) h
  where
    by_test : (b : Bool) → cond b (Ok (Body [] [])) formless ≡ Err (suc k) → ⊥
    by_test true h = absurd cc
    by_test false h = absurd cc

breaks_rule : (front : List (List ℕ)) (after : Course) (line : cut.Line) (k : ℕ) → runs Header front ≡ Ok after → line.ended ≡ true → after_line after line.text ≡ Err (suc k) → BreaksRule (ended front) line (suc k)
breaks_rule [] after line k reached e h =
    let same : Header ≡ after = same_ok Header after reached in
    absurd (header_breaks line.text k (ap (λ (c : Course). after_line c line.text) same ∙ h))
breaks_rule (t ∷ ts) after line k reached e h =
    let r = headed_lines t ts after reached in
    subst (λ (x : List ℕ). BreaksRule (ended (x ∷ ts)) line (suc k)) (sym r.header) (by_course after r.reaches h)
  where
    by_course : (c : Course) → Reaches ts c → after_line c line.text ≡ Err (suc k) → BreaksRule (ended (transcript_header ∷ ts)) line (suc k)
    by_course Header r h = absurd r
    by_course Over r h = absurd cc
    by_course (Body items rows) (told, is) h =
        let b = line_breaks items rows line.text k told h in
        let same : ts ≡ told_texts items [] = is ∙ ap (told_texts items) b.0 in
        let whole : ended (transcript_header ∷ (told_texts items [] ++ line.text ∷ [])) ≡ ended (transcript_header ∷ told_texts items []) ++ line ∷ [] =
        map-append ended_line (transcript_header ∷ told_texts items []) (line.text ∷ []) ∙ ap (λ (l : cut.Line). ended (transcript_header ∷ told_texts items []) ++ l ∷ []) (sym (line_is line e)) in
        subst (λ (us : List (List ℕ)). BreaksRule (ended (transcript_header ∷ us)) line (suc k)) (sym same)
        (record {
          told = items;
          told_before = told_before items told.sound;
          orderly = told.orderly;
          item = b.1.item;
          breaks = b.1.breaks;
          more = b.1.more;
          begins = subst (Begins (items ++ b.1.item ∷ b.1.more)) whole b.1.begins;
        })

-- ---- the first flaw

pub first_flaw : (bytes : List ℕ) (n k : ℕ) → flaw bytes ≡ Some (n, k) → IsFirstFlaw bytes n k
unfolding flaw
first_flaw bytes n k h = record {
  before = ended s.front;
  rest = s.rest;
  cut = s.whole;
  number = omega (arith, s.number, count);
  few = omega (arith, few, count);
  story = begun.story;
  orderly = begun.orderly;
  begun = begun.begun;
  flaw = by_rest s.rest k s.stops;
}
  where
    s : Stops 1 Header (lines bytes) n k
    s = stops_from (lines bytes) 1 Header n k (omega arith) h

    count : length (ended s.front) ≡ length s.front
    count = length-map s.front ended_line

    few : length s.front ≤ lines_limit
    few = omega (arith, s.number, s.within)

    begun : BeginsOrderly (ended s.front)
    begun = taken_begin s.front s.after s.reached few

    by_rest : (rest : List cut.Line) (k : ℕ) → StopsAt s.after rest n k → FlawBehind (ended s.front) rest k
    by_rest [] zero (e, none) = missing_line s.front s.after n s.reached e few
    by_rest [] (suc k) (e, none) = absurd cc
    by_rest (line ∷ rest) zero (inl (late, none)) = inl (omega (arith, s.number, count, late))
    by_rest (line ∷ rest) zero (inr (low, inl (e, none))) = inr (never_unended s.front line e)
    by_rest (line ∷ rest) zero (inr (low, inr (e, stopped))) = inr (never_taken s.front s.after line s.reached stopped)
    by_rest (line ∷ rest) (suc k) (inl (late, none)) = absurd cc
    by_rest (line ∷ rest) (suc k) (inr (low, inl (e, none))) = absurd cc
    by_rest (line ∷ rest) (suc k) (inr (low, inr (e, stopped))) = (omega (arith, s.number, count, low), breaks_rule s.front s.after line k s.reached e stopped)
