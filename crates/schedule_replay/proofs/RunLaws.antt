-- Running lines by a machine, whatever it is.
use Rattle.std.proofs.Common.{◌≡◌, ℕ, ◌+◌, ◌≤◌, true, false, ltb, List, [], ◌∷◌, ◌++◌, length, Option, Some, None, Result, Ok, Err, OnOk, refl, sym, ap, ◌∙◌, append_assoc, arith}
use Rattle.std.proofs.lemmas.List.{append-nil}
use Rattle.std.proofs.lemmas.Bool.Decides.{nat_tests}
use Rattle.tree_specs.specs.declared.question.Ask.{Ask}
use Rattle.tree_specs.specs.declared.schedule.Reason.{Reason}
use Rattle.tree_specs.specs.declared.schedule.Reason.TheVariants.{Limit, Form}
use Rattle.tree_specs.specs.Texts.Lines.{Line, is_over_limit, line_limit, lines_limit}
use Rattle.tree_specs.specs.Texts.Runners.{Course, Runner, once_given, fitting, ok_unless, unless_stray, why_not, line_input, judged_one, judged_from}
use Rattle.tree_specs.specs.Texts.Text.{end_text}
use Rattle.tree_specs.specs.Texts.Written.{WritesFront}
use Rattle.line_pieces.specs.Cuts.{ended_line}
use Rattle.schedule_replay.specs.Replays.{behind, with_front, replayed_lines, BeginsText}
use Rattle.schedule_replay.specs.Standings.{Standing, runner_of, Waits, Follows, once, unfit, TellsAll, TellsFront}
use Rattle.schedule_replay.proofs.TextLaws.{behind-behind, behind-nil, begins_behind, begins_front, begins_it}

-- ---- results

pub on-ok : {E A B : Type 0} (r : Result (Unit {0}) E) → (A → B) → OnOk r A → OnOk r B
on-ok (Ok done) f h = f h
on-ok (Err e) f h = tt

-- ---- the limits

pub not-over : (n : ℕ) (line : Line) → n ≤ lines_limit → length line.text ≤ line_limit → is_over_limit n line ≡ false
not-over n line low short =
    let a : ltb line_limit (length line.text) ≡ false = grind (arith, nat_tests) in
    let b : ltb lines_limit n ≡ false = grind (arith, nat_tests) in
    rw (a, b) refl

module _ {J : Type 0} where
  -- ---- why an input doesn't fit, by the question that is open

  pub why-now : (misfit : Option Ask → J → Option Reason) (s : Standing J) → Waits s → (j : J) (o : Option Reason) → misfit s.asked j ≡ o → unfit misfit s j ≡ unless_stray o (s.course.strays (j ∷ []))
  why-now misfit s w j o m = ap (λ (z : Option Reason). unless_stray z (s.course.strays (j ∷ []))) (ap (λ (q : Option Ask). misfit q j) (w.open_now ∙ sym w.asked_now) ∙ m)

  -- ---- what follows what

  pub follows-none : (s : Standing J) → Follows [] s s
  follows-none s = record { tells = λ js. behind-nil (s.tells js); open_after = λ js. refl; strays = λ js. refl }

  pub follows-then : (x y : List ℕ) (s t u : Standing J) → Follows x s t → Follows y t u → Follows (x ++ y) s u
  follows-then x y s t u a b = record {
    tells = λ js. a.tells js ∙ ap (behind x) (b.tells js) ∙ behind-behind x y (u.tells js);
    open_after = λ js. a.open_after js ∙ b.open_after js;
    strays = λ js. a.strays js ∙ b.strays js;
  }

  -- ---- telling one thing after another

  -- so far this was told
  pub record ToldSoFar (s : Standing J) (before : List ℕ) (t : Standing J) (after : List ℕ) : Type 0 where
    pub written : List ℕ
    pub text : after ≡ before ++ written
    pub follows : Follows written s t

  pub told-none : (s : Standing J) (before : List ℕ) → ToldSoFar s before s before
  told-none s before = record { written = []; text = sym (append-nil before); follows = follows-none s }

  pub told-more : (s t u : Standing J) (before text after w : List ℕ) → ToldSoFar s before t text → Follows w t u → after ≡ text ++ w → ToldSoFar s before u after
  told-more s t u before text after w so next e = record {
    written = so.written ++ w;
    text = e ∙ ap (λ (l : List ℕ). l ++ w) so.text ∙ append_assoc before so.written w;
    follows = follows-then so.written w s t u so.follows next;
  }

  pub told-nothing : (s t u : Standing J) (before text : List ℕ) → ToldSoFar s before t text → Follows [] t u → ToldSoFar s before u text
  told-nothing s t u before text so next = told-more s t u before text text [] so next (sym (append-nil text))

  pub told-all : (s t : Standing J) (before text : List ℕ) → ToldSoFar s before t text → Waits t → TellsAll s before t text
  told-all s t before text so w = record { written = so.written; text = so.text; follows = so.follows; waits = w }

  pub told-broken : (s t : Standing J) (before text : List ℕ) → ToldSoFar s before t text → TellsFront s before text
  told-broken s t before text so = record { written = so.written; text = so.text; begins = λ js. rw (so.follows.tells js) (begins_it so.written (t.tells js)) }

  pub told-front : (s t u : Standing J) (before text after w : List ℕ) → ToldSoFar s before t text → Follows w t u → WritesFront text after w → TellsFront s before after
  told-front s t u before text after w so next f = record {
    written = so.written ++ f.front;
    text = f.written ∙ ap (λ (l : List ℕ). l ++ f.front) so.text ∙ append_assoc before so.written f.front;
    begins = λ js. rw (so.follows.tells js, next.tells js) (begins_behind so.written f.front (behind w (u.tells js)) (begins_front f.front w (u.tells js) f.begins));
  }

  -- ---- the input of a line

  line-within : (r : Runner J) (c : Course J) (n : ℕ) (text : List ℕ) → length text ≤ line_limit → n ≤ lines_limit → line_input r n c (ended_line text) ≡ fitting r c (r.reads text)
  unfolding line_input
  line-within r c n text short low = rw (not-over n (ended_line text) low short) refl

  pub input-by : (r : Runner J) (c : Course J) (n : ℕ) (text : List ℕ) (j : J) (o : Option Reason) → length text ≤ line_limit → n ≤ lines_limit → r.reads text ≡ Some j → why_not r c j ≡ o → line_input r n c (ended_line text) ≡ ok_unless j o
  input-by r c n text j o short low e f = line-within r c n text short low ∙ ap (fitting r c) e ∙ ap (ok_unless j) f

  module _ (reads : List ℕ → Option J) (misfit : Option Ask → J → Option Reason) where
    pub no-input : (s : Standing J) (n : ℕ) (text : List ℕ) → length text ≤ line_limit → n ≤ lines_limit → reads text ≡ None → line_input (runner_of reads misfit s) n s.course (ended_line text) ≡ Err Form
    no-input s n text short low e = line-within (runner_of reads misfit s) s.course n text short low ∙ ap (fitting (runner_of reads misfit s) s.course) e

    pub cut-input : (s : Standing J) (n : ℕ) (text : List ℕ) → length text ≤ line_limit → n ≤ lines_limit → line_input (runner_of reads misfit s) n s.course (record { text = text; ended = false }) ≡ Err Form
    unfolding line_input
    cut-input s n text short low = rw (not-over n (record { text = text; ended = false }) low short) refl

    pub limit-input : (s : Standing J) (n : ℕ) (line : Line) → is_over_limit n line ≡ true → line_input (runner_of reads misfit s) n s.course line ≡ Err Limit
    unfolding line_input
    limit-input s n line h = rw h refl

    -- ---- how lines are judged rests on what they spell and what fits alone

    judged-alike : (s t : Standing J) (c : Course J) (n : ℕ) (ls : List Line) → judged_from (runner_of reads misfit s) c n ls ≡ judged_from (runner_of reads misfit t) c n ls
    unfolding judged_from line_input
    judged-alike s t c n [] = refl
    judged-alike s t c n (line ∷ rest) = ap (judged_one n (line_input (runner_of reads misfit t) n c line)) (λ i j. judged-alike s t (once_given j c) (n + 1) rest i)

    -- ---- a line that is accepted

    judged-ok : (s : Standing J) (n : ℕ) (line : Line) (rest : List Line) (j : J) → line_input (runner_of reads misfit s) n s.course line ≡ Ok j
        → judged_from (runner_of reads misfit s) s.course n (line ∷ rest) ≡ judged_one n (Ok j) (λ j. judged_from (runner_of reads misfit s) (once_given j s.course) (n + 1) rest)
    unfolding judged_from
    judged-ok s n line rest j e = rw e refl

    course-after : (w : List ℕ) (s t : Standing J) (j : J) → Follows w (once j s) t → once_given j s.course ≡ t.course
    course-after w s t j f = λ i. record { open_after = λ js. f.open_after js i; strays = λ js. f.strays js i }

    pub accepts : (w : List ℕ) (s t : Standing J) (n : ℕ) (text : List ℕ) (j : J) (rest : List Line) → length text ≤ line_limit → n ≤ lines_limit → reads text ≡ Some j → unfit misfit s j ≡ None → Follows w (once j s) t
        → replayed_lines (runner_of reads misfit s) n (ended_line text ∷ rest) ≡ with_front w (replayed_lines (runner_of reads misfit t) (n + 1) rest)
    unfolding replayed_lines
    accepts w s t n text j rest short low e fits f =
        let one = judged-ok s n (ended_line text) rest j (input-by (runner_of reads misfit s) s.course n text j None short low e fits) in
        let two = ap (λ (c : Course J). judged_from (runner_of reads misfit s) c (n + 1) rest) (course-after w s t j f) ∙ judged-alike s t t.course (n + 1) rest in
        let js : List J = (judged_from (runner_of reads misfit t) t.course (n + 1) rest).inputs in
        rw (one, two, f.tells js) refl

    -- the lines are the same where a text comes first
    pub follows-lines : (w : List ℕ) (s t : Standing J) (n : ℕ) (ls : List Line) → Follows w s t → replayed_lines (runner_of reads misfit s) n ls ≡ with_front w (replayed_lines (runner_of reads misfit t) n ls)
    unfolding replayed_lines
    follows-lines w s t n ls f =
        let same : s.course ≡ t.course = (λ i. record { open_after = λ js. f.open_after js i; strays = λ js. f.strays js i }) in
        let two = ap (λ (c : Course J). judged_from (runner_of reads misfit s) c n ls) same ∙ judged-alike s t t.course n ls in
        let js : List J = (judged_from (runner_of reads misfit t) t.course n ls).inputs in
        rw (two, f.tells js) refl

    -- where not all was told, the text begins so
    pub begins-accepted : (front : List ℕ) (s : Standing J) (n : ℕ) (text : List ℕ) (j : J) (rest : List Line) → length text ≤ line_limit → n ≤ lines_limit → reads text ≡ Some j → unfit misfit s j ≡ None
        → ((js : List J) → BeginsText front (s.tells (j ∷ js))) → BeginsText front (replayed_lines (runner_of reads misfit s) n (ended_line text ∷ rest)).text
    unfolding replayed_lines
    begins-accepted front s n text j rest short low e fits begins =
        let one = judged-ok s n (ended_line text) rest j (input-by (runner_of reads misfit s) s.course n text j None short low e fits) in
        let js : List J = (judged_from (runner_of reads misfit s) (once_given j s.course) (n + 1) rest).inputs in
        rw one (begins js)

    -- ---- a line that is refused

    judged-err : (s : Standing J) (n : ℕ) (line : Line) (rest : List Line) (why : Reason) → line_input (runner_of reads misfit s) n s.course line ≡ Err why
        → judged_from (runner_of reads misfit s) s.course n (line ∷ rest) ≡ record { inputs = []; refused = Some (n, why) }
    unfolding judged_from
    judged-err s n line rest why e = rw e refl

    -- where this is told when no input comes
    pub refuses-so : (s : Standing J) (end : List ℕ) → s.tells [] ≡ Some end → (n : ℕ) (line : Line) (rest : List Line) (why : Reason) → line_input (runner_of reads misfit s) n s.course line ≡ Err why
        → replayed_lines (runner_of reads misfit s) n (line ∷ rest) ≡ record { text = Some end; refused = Some (n, why) }
    unfolding replayed_lines
    refuses-so s end told n line rest why e =
        let one = judged-err s n line rest why e in
        rw (one, told) refl

    pub refuses : (s : Standing J) (w : Waits s) (n : ℕ) (line : Line) (rest : List Line) (why : Reason) → line_input (runner_of reads misfit s) n s.course line ≡ Err why
        → replayed_lines (runner_of reads misfit s) n (line ∷ rest) ≡ record { text = Some (end_text w.question); refused = Some (n, why) }
    refuses s w n line rest why e = refuses-so s (end_text w.question) w.last n line rest why e

    pub misfits : (s : Standing J) (w : Waits s) (n : ℕ) (text : List ℕ) (j : J) (rest : List Line) (why : Reason) → length text ≤ line_limit → n ≤ lines_limit → reads text ≡ Some j → unfit misfit s j ≡ Some why
        → replayed_lines (runner_of reads misfit s) n (ended_line text ∷ rest) ≡ record { text = Some (end_text w.question); refused = Some (n, why) }
    misfits s w n text j rest why short low e f = refuses s w n (ended_line text) rest why (input-by (runner_of reads misfit s) s.course n text j (Some why) short low e f)

    -- no line is left
    pub no-more-so : (s : Standing J) (end : List ℕ) → s.tells [] ≡ Some end → (n : ℕ) → replayed_lines (runner_of reads misfit s) n [] ≡ record { text = Some end; refused = None }
    unfolding replayed_lines judged_from
    no-more-so s end told n = rw told refl

    pub no-more : (s : Standing J) (w : Waits s) (n : ℕ) → replayed_lines (runner_of reads misfit s) n [] ≡ record { text = Some (end_text w.question); refused = None }
    no-more s w n = no-more-so s (end_text w.question) w.last n
