-- No line of some bytes has a flaw exactly where the bytes are the transcript of an orderly story.
use Rattle.std.proofs.Common.{◌≡◌, ℕ, suc, ◌+◌, ◌≤◌, Bool, true, false, eqb, List, [], ◌∷◌, ◌++◌, length, Option, Some, None, Ok, refl, sym, ap, ◌∙◌, append_assoc, append-nil, arith}
use Rattle.std.specs.List.{list_all, slice_split}
use Rattle.std.specs.Option.{option_map}
use Rattle.std.proofs.lemmas.List.{length-map}
use Rattle.step_machine.proofs.History.{EachFits-more}
use Rattle.tree_specs.specs.Rules.Items.{Item}
use Rattle.tree_specs.specs.Rules.Items.Item.{Asked}
use Rattle.tree_specs.specs.Promises.Orderly.{Fits}
use Rattle.tree_specs.specs.Texts.Text.{body_text, header, transcript}
use Rattle.tree_specs.specs.Texts.Lines.{lines, lines_of_parts, lines_limit}
use Rattle.tree_specs.specs.Texts.Lines as cut
use Rattle.text_forms.proofs.Words.{joined_by, joined-parts}
use Rattle.line_pieces.specs.Cuts.{ended_line}
use Rattle.audit_rules.specs.Flaws.{flaw_from, flaw, transcript_header}
use Rattle.audit_rules.specs.Flaws.Course.{Header, Over}
use Rattle.audit_rules.specs.Transcripts.{is_sound_item, IsOrderlyText}
use Rattle.audit_rules.proofs.Visible.{visible}
use Rattle.audit_rules.proofs.ItemLines.{joined_lines, ended, headed, story_lines, transcript_cut, transcript_of}
use Rattle.audit_rules.proofs.Courses.{runs, goes_by, EndsWell, ends_well}
use Rattle.audit_rules.proofs.Telling.{judged, story_taken, orderly_judged}
use Rattle.audit_rules.proofs.Reaching.{Reaches, sound_more, headed_lines}

-- ---- bytes and their lines

abbrev line_end : Bool → List ℕ
line_end true = 10 ∷ []
line_end false = []

text_of : List cut.Line → List ℕ
text_of [] = []
text_of (l ∷ ls) = (l.text ++ line_end l.ended) ++ text_of ls

parts_text : (ps : List (List ℕ)) → text_of (lines_of_parts ps) ≡ joined_by 10 ps
unfolding lines_of_parts text_of
parts_text [] = refl
parts_text ([] ∷ []) = refl
parts_text ((x ∷ xs) ∷ []) = append-nil _ ∙ append-nil (x ∷ xs)
parts_text (part ∷ next ∷ ps) = ap (λ (l : List ℕ). (part ++ 10 ∷ []) ++ l) (parts_text (next ∷ ps)) ∙ append_assoc part (10 ∷ []) (joined_by 10 (next ∷ ps))

lines_text : (bytes : List ℕ) → text_of (lines bytes) ≡ bytes
unfolding lines
lines_text bytes = parts_text (slice_split (λ b. eqb b 10) bytes) ∙ joined-parts 10 bytes

ended_text : (ts : List (List ℕ)) → text_of (ended ts) ≡ joined_lines ts
unfolding text_of
ended_text [] = refl
ended_text (t ∷ ts) = ap (λ (l : List ℕ). (t ++ 10 ∷ []) ++ l) (ended_text ts)

-- bytes are their lines, where each has its LF
joined_back : (bytes : List ℕ) (ts : List (List ℕ)) → lines bytes ≡ ended ts → bytes ≡ joined_lines ts
joined_back bytes ts is = sym (lines_text bytes) ∙ ap text_of is ∙ ended_text ts

-- ---- bytes without a flaw are the transcript of an orderly story

flawless_orderly : (bytes : List ℕ) → flaw bytes ≡ None → IsOrderlyText bytes
unfolding flaw
flawless_orderly bytes h = by_front e.front e.whole e.within e.reached
  where
    e : EndsWell 1 Header (lines bytes)
    e = ends_well (lines bytes) 1 Header (omega arith) h

    by_story : (ts : List (List ℕ)) → lines bytes ≡ ended (transcript_header ∷ ts) → 1 + length (transcript_header ∷ ts) ≤ suc lines_limit → Reaches ts Over → IsOrderlyText bytes
    by_story ts whole within (items, q, all, is) = record {
      items = items ++ Asked q ∷ [];
      sound = sound_more items (Asked q) all.told.sound all.sound;
      orderly = EachFits-more Fits items (Asked q) all.told.orderly all.fits;
      text = transcript_of items q ∙ ap (λ (us : List (List ℕ)). Some (header ++ joined_lines us)) (sym is) ∙ ap Some (sym (joined_back bytes (transcript_header ∷ ts) whole));
      short = omega (arith, ap length whole, length-map (transcript_header ∷ ts) ended_line, within);
    }

    by_front : (front : List (List ℕ)) → lines bytes ≡ ended front → 1 + length front ≤ suc lines_limit → runs Header front ≡ Ok Over → IsOrderlyText bytes
    by_front [] whole within reached = absurd cc
    by_front (t ∷ ts) whole within reached =
        let r = headed_lines t ts Over reached in
        by_story ts (whole ∙ ap (λ (x : List ℕ). ended (x ∷ ts)) r.header) within r.reaches

-- ---- the transcript of an orderly story has no flaw

-- what a story's lines make of the course before the header
pub story_runs : (items : List Item) (text : List ℕ) → list_all is_sound_item items ≡ true → transcript items ≡ Some text → runs Header (headed (story_lines items)) ≡ judged [] items
unfolding visible
story_runs items text sound h = by_body (body_text items) refl h
  where
    by_body : (o : Option (List ℕ)) → body_text items ≡ o → option_map (λ t. header ++ t) o ≡ Some text → runs Header (headed (story_lines items)) ≡ judged [] items
    by_body None e h = absurd cc
    by_body (Some body) e h = story_taken items [] body e sound

orderly_flawless : (bytes : List ℕ) → IsOrderlyText bytes → flaw bytes ≡ None
unfolding flaw
orderly_flawless bytes o =
    let ts : List (List ℕ) = headed (story_lines o.items) in
    let whole : lines bytes ≡ ended ts = transcript_cut o.items bytes o.sound o.text in
    let count : 1 + length ts ≤ suc lines_limit = omega (arith, ap length whole, length-map ts ended_line, o.short) in
    let reached : runs Header ts ≡ Ok Over = story_runs o.items bytes o.sound o.text ∙ orderly_judged o.items [] o.orderly in
    ap (flaw_from 1 Header) (whole ∙ sym (append-nil (ended ts))) ∙ goes_by ts 1 Header Over [] count reached

pub flawless_is_orderly : (bytes : List ℕ) → (flaw bytes ≡ None → IsOrderlyText bytes) × (IsOrderlyText bytes → flaw bytes ≡ None)
flawless_is_orderly bytes = (flawless_orderly bytes, orderly_flawless bytes)
