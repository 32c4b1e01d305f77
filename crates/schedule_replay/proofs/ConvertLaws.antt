-- What a line, and the end of a schedule, do to a conversion, and what it writes and answers.
use Rattle.std.proofs.Common.{◌≡◌, ℕ, ◌+◌, ◌≤◌, Bool, true, false, cond, List, [], ◌∷◌, ◌++◌, length, Option, Some, None, Result, Ok, Err, refl, sym, ap, subst, ◌∙◌, append_assoc, arith}
use Rattle.std.specs.Prelude.{IfSome}
use Rattle.std.specs.Option.{option_map}
use Rattle.std.proofs.lemmas.List.{append-nil}
use Rattle.tree_specs.specs.declared.question.Input.{Input}
use Rattle.tree_specs.specs.declared.schedule.Header.{Header}
use Rattle.tree_specs.specs.declared.schedule.Reason.{Reason}
use Rattle.tree_specs.specs.declared.schedule.Reason.TheVariants.{Limit, Form}
use Rattle.tree_specs.specs.declared.schedule.Version.{Version}
use Rattle.tree_specs.specs.declared.schedule.Version.TheVariants.{Two}
use Rattle.tree_specs.specs.Texts.Grammar.{input_of}
use Rattle.tree_specs.specs.Texts.Lines.{Line, lines, is_over_limit, line_limit, lines_limit}
use Rattle.tree_specs.specs.Texts.Runners.{header_reason, runner_after, judged_lines}
use Rattle.tree_specs.specs.Texts.Schedule.{header_of}
use Rattle.tree_specs.specs.Texts.Text.{input_text}
use Rattle.line_pieces.specs.Cuts.{ended_line}
use Rattle.line_pieces.specs.Takings.{TakesLine, last_lines}
use Rattle.schedule_text.specs.Converted.{IsConverted as TurnsInto}
use Rattle.schedule_versions.specs.Conversions.{converted, converted_lines, header_at, lines_text, shaper, shapers}
use Rattle.schedule_replay.specs.declared.conversion.Conversion.{Conversion}
use Rattle.schedule_replay.specs.declared.ran.Ran.{Ran}
use Rattle.schedule_replay.specs.declared.ran.Ran.TheVariants as rans
use Rattle.schedule_replay.specs.declared.stop.Stop.{Stop}
use Rattle.schedule_replay.specs.declared.stop.Stop.TheVariants as errors
use Rattle.schedule_replay.specs.Converting.{converted_all, converted_from, first_line, is_next, plays, ready, TakesHeader, text_in, TurnsLine}
use Rattle.schedule_replay.specs.Converts.{Converts, IsOfWhole}
use Rattle.schedule_replay.specs.Played.{Plays}
use Rattle.schedule_replay.specs.Players.{IsInFront, stops}
use Rattle.schedule_replay.specs.Replays.{Replayed, behind, with_front, replayed_lines, BeginsText, StopsWith}
use Rattle.schedule_replay.specs.Standings.{Standing, Follows, once}
use Rattle.schedule_replay.proofs.TextLaws.{begins_behind, begins_it, front-nil, front-front}
use Rattle.schedule_replay.proofs.RunLaws.{accepts, refuses-so, no-more-so, no-input, cut-input, limit-input, not-over}
use Rattle.schedule_replay.proofs.HeaderLaws.{headerless, headless, not-accepted, nothing-written}

-- ---- what reads lines and runs nothing, as what stands for a machine

abbrev reads_all : Version → Standing Input
reads_all v = record { asked = None; course = (shaper v).course; tells = λ is. Some (lines_text is) }

line-first : (v : Version) (i : Input) → Follows (input_text Two i) (once i (reads_all v)) (reads_all v)
line-first v i = record { tells = λ js. refl; open_after = λ js. refl; strays = λ js. refl }

-- ---- a line behind the first one

module _ (v : Version) (n : ℕ) (before after : List ℕ) where
  takes-line : (text : List ℕ) (rest : List Line) → length text ≤ line_limit → n ≤ lines_limit → TurnsInto v text before after
      → with_front before (replayed_lines (shaper v) n (ended_line text ∷ rest)) ≡ with_front after (replayed_lines (shaper v) (n + 1) rest)
  takes-line text rest short low t =
      let r : Replayed = replayed_lines (shaper v) (n + 1) rest in
      ap (with_front before) (accepts (input_of v) (λ q i. None) (input_text Two t.input) (reads_all v) (reads_all v) n text t.input rest short low t.read refl (line-first v t.input))
      ∙ front-front before (input_text Two t.input) r ∙ ap (λ (l : List ℕ). with_front l r) (sym t.written)

  refused : (ls : List Line) (why : Reason) → after ≡ before → replayed_lines (shaper v) n ls ≡ record { text = Some []; refused = Some (n, why) }
      → StopsWith (errors.Refused n why) after (with_front before (replayed_lines (shaper v) n ls))
  refused ls why same e = ap (with_front before) e ∙ rw (same, append-nil before) refl

  refuses-form : (text : List ℕ) (rest : List Line) → length text ≤ line_limit → n ≤ lines_limit → input_of v text ≡ None → replayed_lines (shaper v) n (ended_line text ∷ rest) ≡ record { text = Some []; refused = Some (n, Form) }
  refuses-form text rest short low none = refuses-so (input_of v) (λ q i. None) (reads_all v) [] refl n (ended_line text) rest Form (no-input (input_of v) (λ q i. None) (reads_all v) n text short low none)

pub turned : (c d : Conversion) (v : Version) (n : ℕ) (text : List ℕ) (r : Result (Unit {0}) Stop) → c.version ≡ Some v → d.version ≡ c.version → length text ≤ line_limit → n ≤ lines_limit → TurnsLine v n text c.text.items d.text.items r
    → TakesLine plays (stops text_in) c n text d r
turned c d v n text (Ok done) is same short low t = λ rest. rw (same, is) (takes-line v n c.text.items d.text.items text rest short low t)
turned c d v n text (Err (errors.Refused m why)) is same short low t = λ rest.
    rw (is, t.0, t.1) (refused v n c.text.items d.text.items (ended_line text ∷ rest) Form t.3 (refuses-form v n c.text.items d.text.items text rest short low t.2))
turned c d v n text (Err errors.Memory) is same short low t = λ rest. rw t (begins_it c.text.items (converted_from c.version n (ended_line text ∷ rest)).text)
turned c d v n text (Err _) is same short low t = absurd t

-- ---- the first line

first-taken : (h : Header) (text : List ℕ) (rest : List Line) → header_of text ≡ Some h → converted_all (ended_line text ∷ rest) ≡ with_front (first_line h) (replayed_lines (shaper h.version) 2 rest)
unfolding judged_lines converted_lines replayed_lines
first-taken h text rest e = rw e refl

at-once : (line : Line) (rest : List Line) → header_at line ≡ None → converted_all (line ∷ rest) ≡ record { text = Some []; refused = Some (1, header_reason line) }
unfolding judged_lines converted_lines
at-once line rest e = rw (e, no-shaper line e) refl
  where
    no-shaper : (line : Line) → header_at line ≡ None → runner_after shapers line ≡ None
    no-shaper line = by_ended line.ended
      where
        by_ended : (b : Bool) → cond b (header_of line.text) None ≡ None → cond b (shapers line.text) None ≡ None
        by_ended true e = ap (option_map (λ (h : Header). shaper h.version)) e
        by_ended false e = refl

form-at-once : (line : Line) (rest : List Line) → length line.text ≤ line_limit → header_at line ≡ None → converted_all (line ∷ rest) ≡ record { text = Some []; refused = Some (1, Form) }
form-at-once line rest short e = at-once line rest e ∙ rw (not-over 1 line (omega arith) short) refl

pub headed : (c d : Conversion) (n : ℕ) (text : List ℕ) (r : Result (Unit {0}) Stop) → c.version ≡ None → n ≡ 1 → length text ≤ line_limit → TakesHeader c text d r → TakesLine plays (stops text_in) c n text d r
headed c d n text (Ok done) none one short t = λ rest.
    let k : ℕ = 2 in
    rw (none, one, t.2) (ap (with_front c.text.items) (first-taken t.0 text rest t.1)
    ∙ front-front c.text.items (first_line t.0) (replayed_lines (shaper t.0.version) k rest) ∙ ap (λ (l : List ℕ). with_front l (replayed_lines (shaper t.0.version) k rest)) (sym t.3))
headed c d n text (Err (errors.Refused m why)) none one short t = λ rest.
    rw (none, t.0, t.1) (ap (with_front c.text.items) (form-at-once (ended_line text) rest short t.2) ∙ rw (t.3, append-nil c.text.items) refl)
headed c d n text (Err errors.Memory) none one short t = λ rest.
    let w = t.2 in
    rw (none, w.written) (begins_behind c.text.items w.front (converted_all (ended_line text ∷ rest)).text
    (subst (λ (r : Replayed). BeginsText w.front r.text) (sym (first-taken t.0 text rest t.1)) (subst (λ (l : List ℕ). BeginsText w.front (behind l (replayed_lines (shaper t.0.version) 2 rest).text)) (sym w.begins.whole)
    (front-of w.front w.begins.rest (replayed_lines (shaper t.0.version) 2 rest).text))))
  where
    front-of : (front rest : List ℕ) (o : Option (List ℕ)) → BeginsText front (behind (front ++ rest) o)
    front-of front rest None = tt
    front-of front rest (Some text) = (rest ++ text, append_assoc front rest text)
headed c d n text (Err _) none one short t = absurd t

-- ---- a limit, and the end

pub limited : (c : Conversion) (n : ℕ) → ready c n → (line : Line) (rest : List Line) → is_over_limit n line ≡ true → plays c n (line ∷ rest) ≡ record { text = Some c.text.items; refused = Some (n, Limit) }
limited c n h line rest over = by_version c.version h
  where
    by_version : (o : Option Version) → is_next o n → with_front c.text.items (converted_from o n (line ∷ rest)) ≡ record { text = Some c.text.items; refused = Some (n, Limit) }
    by_version None one =
        let first : is_over_limit 1 line ≡ true = subst (λ (m : ℕ). is_over_limit m line ≡ true) one over in
        ap (with_front c.text.items) (at-once line rest (headerless line first)) ∙ rw (first, one, append-nil c.text.items) refl
    by_version (Some v) next =
        ap (with_front c.text.items) (refuses-so (input_of v) (λ q i. None) (reads_all v) [] refl n line rest Limit (limit-input (input_of v) (λ q i. None) (reads_all v) n line over))
        ∙ rw (append-nil c.text.items) refl

-- the schedule ends within its first line, or before its second
ends-first : (cut : Bool) (text : List ℕ) → length text ≤ line_limit → converted_all (last_lines cut text) ≡ record { text = Some []; refused = Some (1, Form) }
unfolding judged_lines converted_lines
ends-first true text short = form-at-once (record { text = text; ended = false }) [] short refl
ends-first false text short = refl

pub ends-none : (c : Conversion) (n : ℕ) (cut : Bool) → ready c n → c.version ≡ None → (text : List ℕ) → length text ≤ line_limit → plays c n (last_lines cut text) ≡ record { text = Some c.text.items; refused = Some (n, Form) }
ends-none c n cut h none text short =
    let one : n ≡ 1 = subst (λ (o : Option Version). is_next o n) none h in
    rw (none, one) (ap (with_front c.text.items) (ends-first cut text short) ∙ rw (append-nil c.text.items) refl)

pub ends-cut : (c : Conversion) (n : ℕ) (v : Version) → c.version ≡ Some v → n ≤ lines_limit → (text : List ℕ) → length text ≤ line_limit → plays c n (last_lines true text) ≡ record { text = Some c.text.items; refused = Some (n, Form) }
ends-cut c n v is low text short =
    rw is (ap (with_front c.text.items) (refuses-so (input_of v) (λ q i. None) (reads_all v) [] refl n (record { text = text; ended = false }) [] Form (cut-input (input_of v) (λ q i. None) (reads_all v) n text short low))
    ∙ rw (append-nil c.text.items) refl)

pub ends-whole : (c : Conversion) (n : ℕ) (v : Version) → c.version ≡ Some v → plays c n [] ≡ record { text = Some c.text.items; refused = None }
ends-whole c n v is = rw is (ap (with_front c.text.items) (no-more-so (input_of v) (λ q i. None) (reads_all v) [] refl n) ∙ rw (append-nil c.text.items) refl)

pub in-front : (c : Conversion) → IsInFront plays text_in c
in-front c = λ n ls. begins_it c.text.items (converted_from c.version n ls).text

-- ---- by how it ended

-- what was taken of whole lines is all that they are turned into
of-whole : (c : Conversion) (n : ℕ) (whole text : List ℕ) → ready c n → text_in c ≡ [] → (n ≡ 1 → whole ≡ []) → converted_all (lines whole) ≡ with_front text (plays c n []) → IsOfWhole whole text
of-whole c n whole text h empty begun e = by_version c.version h (e ∙ ap (λ (l : List ℕ). with_front text (with_front l (converted_from c.version n []))) empty ∙ ap (with_front text) (sym (front-nil (converted_from c.version n []))))
  where
    nothing : converted_all [] ≡ headless
    nothing = ends-first false [] (omega arith)

    none-first : (whole : List ℕ) → whole ≡ [] → converted_all (lines whole) ≡ with_front text (converted_all []) → IsOfWhole whole text
    none-first whole none e = subst (λ (l : List ℕ). IsOfWhole l text) (sym none) (nothing-written converted_all whole text nothing none (e ∙ ap (with_front text) nothing))

    some-lines : (whole : List ℕ) → converted_all (lines whole) ≡ record { text = Some text; refused = None } → IsOfWhole whole text
    some-lines [] e = not-accepted converted_all (Some text) nothing e
    some-lines (x ∷ xs) e =
        let g : Some (converted (x ∷ xs)) ≡ Some text = ap (λ (r : Replayed). r.text) e in
        let k : converted (x ∷ xs) ≡ text = cc in
        (ap (λ (r : Replayed). r.refused) e, sym k)

    by_version : (o : Option Version) → is_next o n → converted_all (lines whole) ≡ with_front text (converted_from o n []) → IsOfWhole whole text
    by_version None one e = none-first whole (begun one) e
    by_version (Some v) next e = some-lines whole (e ∙ ap (with_front text) (no-more-so (input_of v) (λ q i. None) (reads_all v) [] refl n) ∙ rw (append-nil text) refl)

all-lines : (c : Conversion) (n : ℕ) (ls : List Line) → c.version ≡ None → text_in c ≡ [] → plays c n ls ≡ converted_all ls
all-lines c n ls none empty = rw (none, empty) (sym (front-nil (converted_all ls)))

is-some : (x y : List ℕ) → Some x ≡ Some y → x ≡ y
is-some x y e = cc

pub converts : (first : Conversion) (bytes : List ℕ) (left held now : Option (List ℕ)) (ran : Ran) → first.version ≡ None → text_in first ≡ [] → Plays plays text_in ready first bytes left held now ran → Converts bytes left held now ran
converts first bytes left held now rans.Done none empty p =
    let e = sym (all-lines first 1 (lines bytes) none empty) ∙ p.played in
    record { read = p.read; accepted = ap (λ (r : Replayed). r.refused) e; put = rw (is-some (converted bytes) p.text (ap (λ (r : Replayed). r.text) e)) p.put }
converts first bytes left held now rans.ReadFault none empty p = record {
  whole = p.whole;
  line = p.line;
  read = p.read;
  within = p.within;
  text = p.text;
  put = p.put;
  of_whole = of-whole p.player p.number p.whole p.text p.waits p.empty p.begun (sym (all-lines first 1 (lines p.whole) none empty) ∙ p.played);
}
converts first bytes left held now (rans.BadSchedule line reason) none empty p =
    let e = sym (all-lines first 1 (lines bytes) none empty) ∙ p.played in
    record { refused = ap (λ (r : Replayed). r.refused) e; put = rw (is-some (converted bytes) p.text (ap (λ (r : Replayed). r.text) e)) p.put }
converts first bytes left held now rans.WriteFault none empty p =
    let b : BeginsText p.front (Some (converted bytes)) = subst (λ (r : Replayed). BeginsText p.front r.text) (all-lines first 1 (lines bytes) none empty) p.begins in
    record { front = p.front; rest = b.0; text = b.1; put = p.put }
converts first bytes left held now rans.Memory none empty p =
    let b : BeginsText p.front (Some (converted bytes)) = subst (λ (r : Replayed). BeginsText p.front r.text) (all-lines first 1 (lines bytes) none empty) p.begins in
    record { front = p.front; rest = b.0; text = b.1; put = p.put }

pub converts-known : (first : Conversion) (known left held now : Option (List ℕ)) (ran : Ran) → first.version ≡ None → text_in first ≡ [] → IfSome known (λ bytes. Plays plays text_in ready first bytes left held now ran) → IfSome known (λ bytes. Converts bytes left held now ran)
converts-known first None left held now ran none empty p = tt
converts-known first (Some bytes) left held now ran none empty p = converts first bytes left held now ran none empty p
