-- What a line, and the end of a schedule, do to what runs the lines and to the text that is written.
use Rattle.std.proofs.Common.{◌≡◌, ℕ, ◌+◌, ◌≤◌, true, false, List, [], ◌∷◌, ◌++◌, length, Option, Some, None, refl, sym, ap, subst, ◌∙◌, append_assoc}
use Rattle.tree_specs.specs.declared.question.Ask.{Ask}
use Rattle.tree_specs.specs.declared.schedule.Reason.{Reason}
use Rattle.tree_specs.specs.declared.schedule.Reason.TheVariants.{Form}
use Rattle.tree_specs.specs.Texts.Lines.{Line, line_limit, lines_limit}
use Rattle.tree_specs.specs.Texts.Text.{end_text, header}
use Rattle.tree_specs.specs.Texts.Written.{WritesFront}
use Rattle.line_pieces.specs.Cuts.{ended_line}
use Rattle.line_pieces.specs.Takings.{last_lines}
use Rattle.schedule_replay.specs.declared.stop.Stop.{Stop}
use Rattle.schedule_replay.specs.declared.stop.Stop.TheVariants as errors
use Rattle.schedule_replay.specs.Questions.{answered_of, end_of}
use Rattle.schedule_replay.specs.Plays.{RefusesHere}
use Rattle.schedule_replay.specs.Replays.{Replayed, behind, with_front, replayed_lines, BeginsText, StopsWith, EndsWith}
use Rattle.schedule_replay.specs.Standings.{Standing, runner_of, Waits, once, unfit, TakesInput, TakesAtOnce, TellsAll, TellsFront}
use Rattle.schedule_replay.proofs.TextLaws.{begins_behind, begins_it, front-front}
use Rattle.schedule_replay.proofs.RunLaws.{follows-then, follows-lines, accepts, begins-accepted, refuses, misfits, no-input, cut-input, no-more}

-- ---- a refusal

end-now : (asked : Option Ask) (q : Ask) → asked ≡ Some q → end_of asked ≡ end_text q
end-now asked q e = ap end_of e

refused-here : (n : ℕ) (why : Reason) (asked : Option Ask) (q : Ask) (before after : List ℕ) (e : Stop) → asked ≡ Some q → RefusesHere n why asked before after e
    → StopsWith e after (record { text = Some (before ++ end_text q); refused = Some (n, why) })
refused-here n why asked q before after (errors.Refused line reason) now h = rw (h.0, h.1, h.2, end-now asked q now) refl
refused-here n why asked q before after errors.Memory now h =
    (h.begins.rest, ap (λ (l : List ℕ). before ++ l) (sym (end-now asked q now) ∙ h.begins.whole) ∙ sym (append_assoc before h.front h.begins.rest) ∙ ap (λ (l : List ℕ). l ++ h.begins.rest) (sym h.written))
refused-here n why asked q before after _ now h = absurd h

module _ {J : Type 0} (reads : List ℕ → Option J) (misfit : Option Ask → J → Option Reason) (s : Standing J) (w : Waits s) (n : ℕ) (before after : List ℕ) where
  -- the lines that still come are refused at the first one
  pub refuses-lines : (why : Reason) (e : Stop) (ls : List Line) → RefusesHere n why s.asked before after e → replayed_lines (runner_of reads misfit s) n ls ≡ record { text = Some (end_text w.question); refused = Some (n, why) }
      → StopsWith e after (with_front before (replayed_lines (runner_of reads misfit s) n ls))
  refuses-lines why e ls h same = subst (λ (r : Replayed). StopsWith e after (with_front before r)) (sym same) (refused-here n why s.asked w.question before after e w.asked_now h)

  -- it spells nothing
  pub refuses-form : (text : List ℕ) (rest : List Line) (e : Stop) → length text ≤ line_limit → n ≤ lines_limit → reads text ≡ None → RefusesHere n Form s.asked before after e
      → StopsWith e after (with_front before (replayed_lines (runner_of reads misfit s) n (ended_line text ∷ rest)))
  refuses-form text rest e short low none h = refuses-lines Form e (ended_line text ∷ rest) h (refuses reads misfit s w n (ended_line text) rest Form (no-input reads misfit s n text short low none))

  -- what it spells isn't taken
  pub refuses-input : (text : List ℕ) (rest : List Line) (j : J) (why : Reason) (e : Stop) → length text ≤ line_limit → n ≤ lines_limit → reads text ≡ Some j → unfit misfit s j ≡ Some why → RefusesHere n why s.asked before after e
      → StopsWith e after (with_front before (replayed_lines (runner_of reads misfit s) n (ended_line text ∷ rest)))
  refuses-input text rest j why e short low spelled m h = refuses-lines why e (ended_line text ∷ rest) h (misfits reads misfit s w n text j rest why short low spelled m)

  -- the schedule ends within it
  pub refuses-cut : (text : List ℕ) (e : Stop) → length text ≤ line_limit → n ≤ lines_limit → RefusesHere n Form s.asked before after e
      → StopsWith e after (with_front before (replayed_lines (runner_of reads misfit s) n (last_lines true text)))
  refuses-cut text e short low h = refuses-lines Form e (last_lines true text) h (refuses reads misfit s w n (record { text = text; ended = false }) [] Form (cut-input reads misfit s n text short low))

  -- ---- the end

  pub ends-play : after ≡ before ++ end_of s.asked → EndsWith after (with_front before (replayed_lines (runner_of reads misfit s) n []))
  ends-play e = ap (with_front before) (no-more reads misfit s w n) ∙ rw (e, end-now s.asked w.question w.asked_now) refl

  pub breaks-end : WritesFront before after (end_of s.asked) → StopsWith errors.Memory after (with_front before (replayed_lines (runner_of reads misfit s) n []))
  breaks-end h =
      subst (λ (r : Replayed). BeginsText after (with_front before r).text) (sym (no-more reads misfit s w n))
      (refused-here n Form s.asked w.question before after errors.Memory w.asked_now h)

-- ---- an input that is taken

module _ {J : Type 0} (reads : List ℕ → Option J) (misfit : Option Ask → J → Option Reason) where
  -- the question was written, and then the input was offered
  pub takes-offer : (s : Standing J) (j : J) (t : Standing J) (before after : List ℕ) → after ≡ before ++ answered_of s.asked → TakesInput misfit s j t → TakesAtOnce misfit s j before t after
  takes-offer s j t before after e h = record { written = answered_of s.asked; text = e; fits = h.fits; follows = h.follows }

  -- and what comes of it was told
  takes-on : (s t u : Standing J) (j : J) (before middle after : List ℕ) → TakesAtOnce misfit s j before t middle → TellsAll t middle u after → TakesAtOnce misfit s j before u after
  takes-on s t u j before middle after a b = record {
    written = a.written ++ b.written;
    text = b.text ∙ ap (λ (l : List ℕ). l ++ b.written) a.text ∙ append_assoc before a.written b.written;
    fits = a.fits;
    follows = follows-then a.written b.written (once j s) t u a.follows b.follows;
  }

  module _ (s t : Standing J) (n : ℕ) (j : J) (before middle after text : List ℕ) (rest : List Line) (short : length text ≤ line_limit) (low : n ≤ lines_limit) (spelled : reads text ≡ Some j) (a : TakesAtOnce misfit s j before t middle) where
    pub takes-line : (u : Standing J) → TellsAll t middle u after → with_front before (replayed_lines (runner_of reads misfit s) n (ended_line text ∷ rest)) ≡ with_front after (replayed_lines (runner_of reads misfit u) (n + 1) rest)
    takes-line u told =
        let all = takes-on s t u j before middle after a told in
        ap (with_front before) (accepts reads misfit all.written s u n text j rest short low spelled all.fits all.follows)
        ∙ front-front before all.written (replayed_lines (runner_of reads misfit u) (n + 1) rest)
        ∙ ap (λ (l : List ℕ). with_front l (replayed_lines (runner_of reads misfit u) (n + 1) rest)) (sym all.text)

    pub breaks-line : TellsFront t middle after → StopsWith errors.Memory after (with_front before (replayed_lines (runner_of reads misfit s) n (ended_line text ∷ rest)))
    breaks-line told =
        let r : Replayed = replayed_lines (runner_of reads misfit s) n (ended_line text ∷ rest) in
        let front : List ℕ = a.written ++ told.written in
        let begins : BeginsText front r.text =
        begins-accepted reads misfit front s n text j rest short low spelled a.fits (λ js. rw (a.follows.tells js) (begins_behind a.written told.written (t.tells js) (told.begins js))) in
        let same : before ++ front ≡ after = sym (told.text ∙ ap (λ (l : List ℕ). l ++ told.written) a.text ∙ append_assoc before a.written told.written) in
        subst (λ (l : List ℕ). BeginsText l (behind before r.text)) same (begins_behind before front r.text begins)

-- nothing was written for want of memory
pub breaks-off : (before after : List ℕ) (r : Replayed) → after ≡ before → StopsWith errors.Memory after (with_front before r)
breaks-off before after r e = subst (λ (l : List ℕ). BeginsText l (behind before r.text)) (sym e) (begins_it before r.text)

-- the transcript has begun
pub begins-play : {J : Type 0} (reads : List ℕ → Option J) (misfit : Option Ask → J → Option Reason) (s t : Standing J) (began text : List ℕ) (n : ℕ) (ls : List Line) → began ≡ header → TellsAll s began t text
    → with_front header (replayed_lines (runner_of reads misfit s) n ls) ≡ with_front text (replayed_lines (runner_of reads misfit t) n ls)
begins-play reads misfit s t began text n ls e told =
    let r : Replayed = replayed_lines (runner_of reads misfit t) n ls in
    ap (with_front header) (follows-lines reads misfit told.written s t n ls told.follows) ∙ front-front header told.written r
    ∙ ap (λ (l : List ℕ). with_front l r) (sym (told.text ∙ ap (λ (l : List ℕ). l ++ told.written) e))
