-- Reading piece by piece.
use Rattle.std.proofs.Common.{◌≡◌, ℕ, suc, ◌+◌, ◌<◌, ◌≤◌, Bool, true, false, not, eqb, ltb, ◌||◌, List, [], ◌∷◌, ◌++◌, length, take, drop, Result, Ok, Err, refl, sym, ap, subst, ◌∙◌, append_assoc, arith, length-append}
use Rattle.std.proofs.lemmas.List.{append-nil}
use Rattle.std.proofs.lemmas.Bool.Decides.{nat_tests}
use Rattle.tree_specs.specs.Texts.Lines.{Line, lines, lines_of_parts, is_over_limit, line_limit, lines_limit}
use Rattle.line_pieces.specs.Cuts.{has_no_lf, ended_line}
use Rattle.line_pieces.specs.Takings.{TakesLine, RefusesLimit, EndsWith, TakesEnd}
use Rattle.line_pieces.specs.Readings.{Reading, from_line, found_now, Advances, Leaves, Takes, IsBetweenBytes}
use Rattle.line_pieces.proofs.LineLaws.{lines_ended, lines_from, lines_last, lines_some, plain_append}

-- where these bytes are what has come of the line
abbrev pub at_line : {T : Type 0} → Reading T → List ℕ → Reading T
at_line s line = record { taker = s.taker; number = s.number; line = line }

-- ---- the limits

long-line : (n : ℕ) (line : Line) → line_limit < length line.text → is_over_limit n line ≡ true
long-line n line lt =
    let a : ltb line_limit (length line.text) ≡ true = grind (arith, nat_tests) in
    rw a refl

late-line : (n : ℕ) (line : Line) → lines_limit < n → is_over_limit n line ≡ true
late-line n line lt =
    let a : ltb lines_limit n ≡ true = grind (arith, nat_tests) in
    rw a (or_true (ltb line_limit (length line.text)))
  where
    or_true : (b : Bool) → (b || true) ≡ true
    or_true true = refl
    or_true false = refl

pub in-time : (n : ℕ) (b : Bool) → (lines_limit < n → b ≡ true) → b ≡ false → n ≤ lines_limit
in-time n b late e = each (ltb lines_limit n) refl
  where
    each : (t : Bool) → ltb lines_limit n ≡ t → n ≤ lines_limit
    each true t =
        let l : lines_limit < n = grind (arith, nat_tests) in
        let bad : false ≡ true = sym e ∙ late l in cc
    each false t = grind (arith, nat_tests)

pub no-bytes : lines [] ≡ []
unfolding lines lines_of_parts
no-bytes = refl

pub is-empty : (l : List ℕ) → length l ≡ 0 → l ≡ []
is-empty [] h = refl
is-empty (x ∷ l) h = absurd cc

-- ---- where bytes have come of a line, and still come

moved : {T : Type 0} (s : Reading T) (line run p bytes : List ℕ) → line ≡ s.line ++ run → s.line ++ ((run ++ p) ++ bytes) ≡ line ++ (p ++ bytes)
moved s line run p bytes e =
    ap (λ (l : List ℕ). s.line ++ l) (append_assoc run p bytes) ∙ sym (append_assoc s.line run (p ++ bytes)) ∙ ap (λ (l : List ℕ). l ++ (p ++ bytes)) (sym e)

module _ {T E F : Type 0} (comes : T → ℕ → List Line → F) (stops : E → T → F → Type 0) where
  -- it ended, whatever bytes still come
  abbrev pub Stopped : Reading T → List ℕ → T → E → Type 0
  Stopped s piece w e = (bytes : List ℕ) → stops e w (from_line comes s (s.line ++ (piece ++ bytes)))

  -- ---- the end of a line

  module _ (ready : T → ℕ → Type 0) (s : Reading T) (between : IsBetweenBytes ready s) (w : T) where
    line-here : (bytes : List ℕ) → from_line comes s (s.line ++ 10 ∷ bytes) ≡ comes s.taker s.number (ended_line s.line ∷ lines bytes)
    line-here bytes = ap (comes s.taker s.number) (lines_ended s.line bytes between.plain)

    pub ends-line : (t : Reading T) → TakesLine comes stops s.taker s.number s.line w (Ok tt) → t.taker ≡ w → t.number ≡ s.number + 1 → t.line ≡ [] → Advances comes s (10 ∷ []) t
    ends-line t done taker number line = record {
      whole = s.line ++ 10 ∷ [];
      cut = sym (append-nil (s.line ++ 10 ∷ [])) ∙ ap (λ (l : List ℕ). (s.line ++ 10 ∷ []) ++ l) (sym line);
      goes_on = λ bytes.
          ap (from_line comes s) (append_assoc s.line (10 ∷ []) bytes) ∙ line-here bytes ∙ done (lines bytes)
          ∙ ap (λ (n : ℕ). comes w n (lines bytes)) (sym number) ∙ ap (λ (v : T). comes v t.number (lines bytes)) (sym taker);
      begun = λ e. absurd (omega (arith, between.first));
    }

    pub breaks-line : (e : E) → TakesLine comes stops s.taker s.number s.line w (Err e) → Stopped s (10 ∷ []) w e
    breaks-line e h bytes = rw (line-here bytes) (h (lines bytes))

  -- ---- a line over a limit

  module _ (ready : T → ℕ → Type 0) (s : Reading T) (between : IsBetweenBytes ready s) (w : T) (e : E) (refused : RefusesLimit comes stops s.taker s.number w e) where
    -- it has too many bytes
    pub long-run : (run : List ℕ) → has_no_lf run ≡ true → line_limit < length s.line + length run → Stopped s run w e
    long-run run plain long bytes =
        let n = length-append s.line run in
        let f = lines_from (s.line ++ run) bytes (omega (arith, n)) (plain_append s.line run between.plain plain) in
        let same : lines (s.line ++ (run ++ bytes)) ≡ record { text = (s.line ++ run) ++ f.0; ended = f.1 } ∷ f.2 = ap lines (sym (append_assoc s.line run bytes)) ∙ f.3 in
        let line : Line = record { text = (s.line ++ run) ++ f.0; ended = f.1 } in
        rw same (refused line f.2 (long-line s.number line (omega (arith, length-append (s.line ++ run) f.0, n))))

    pub long-whole : (line : List ℕ) → has_no_lf line ≡ true → line_limit < length line → Stopped s (line ++ 10 ∷ []) w e
    long-whole line plain long bytes = rw (append_assoc line (10 ∷ []) bytes) (long-run line plain (omega arith) (10 ∷ bytes))

    -- it is one line too many
    pub late-run : (run : List ℕ) → 0 < length run → lines_limit < s.number → Stopped s run w e
    late-run [] some late bytes = absurd (omega arith)
    late-run (b ∷ run) some late bytes = each s.line (λ more. let n = between.numbered more in absurd (omega arith))
      where
        each : (l : List ℕ) → (0 < length l → ⊥) → stops e w (comes s.taker s.number (lines (l ++ ((b ∷ run) ++ bytes))))
        each [] none = let f = lines_some b (run ++ bytes) in rw f.2 (refused f.0 f.1 (late-line s.number f.0 late))
        each (x ∷ l) none = absurd (none (omega arith))

  -- ---- piece after piece

  pub advances-none : (s : Reading T) → Advances comes s [] s
  advances-none s = record { whole = []; cut = append-nil s.line; goes_on = λ bytes. refl; begun = λ e. (e, refl) }

  -- bytes are the same whether they have come of the line or still come
  pub onto : (s : Reading T) (line run p : List ℕ) (t : Reading T) (r : Result (Unit {0}) E) → line ≡ s.line ++ run → Takes comes stops (at_line s line) p t r → Takes comes stops s (run ++ p) t r
  onto s line run p t (Ok done) e a = record {
    whole = a.whole;
    cut = sym (append_assoc s.line run p) ∙ ap (λ (l : List ℕ). l ++ p) (sym e) ∙ a.cut;
    goes_on = a.goes_on;
    begun = a.begun;
  }
  onto s line run p t (Err why) e a = λ bytes. rw (moved s line run p bytes e) (a bytes)

  -- what is found after a piece
  pub after-piece : (s : Reading T) (p : List ℕ) (t : Reading T) (a : Advances comes s p t) (bytes : List ℕ) → from_line comes s (s.line ++ (p ++ bytes)) ≡ from_line comes t (t.line ++ bytes)
  after-piece s p t a bytes =
      ap (from_line comes s) (sym (append_assoc s.line p bytes) ∙ ap (λ (l : List ℕ). l ++ bytes) a.cut ∙ append_assoc a.whole t.line bytes) ∙ a.goes_on (t.line ++ bytes)

  pub advances-then : (s : Reading T) (p : List ℕ) (t : Reading T) (q : List ℕ) (u : Reading T) (r : Result (Unit {0}) E) → Advances comes s p t → Takes comes stops t q u r → Takes comes stops s (p ++ q) u r
  advances-then s p t q u (Ok done) a b = record {
    whole = a.whole ++ b.whole;
    cut = sym (append_assoc s.line p q) ∙ ap (λ (l : List ℕ). l ++ q) a.cut ∙ append_assoc a.whole t.line q ∙ ap (λ (l : List ℕ). a.whole ++ l) b.cut ∙ sym (append_assoc a.whole b.whole u.line);
    goes_on = λ bytes. ap (from_line comes s) (append_assoc a.whole b.whole bytes) ∙ a.goes_on (b.whole ++ bytes) ∙ b.goes_on bytes;
    begun = λ e. (let y = b.begun e in let x = a.begun y.0 in (x.0, ap (λ (l : List ℕ). l ++ b.whole) x.1 ∙ y.1));
  }
  advances-then s p t q u (Err e) a b = λ bytes.
      subst (stops e u.taker) (sym (ap (λ (l : List ℕ). from_line comes s (s.line ++ l)) (append_assoc p q bytes) ∙ after-piece s p t a (q ++ bytes))) (b bytes)

  -- after an error the rest of the piece changes nothing
  err-more : (s : Reading T) (p q : List ℕ) (u : Reading T) (e : E) → Takes comes stops s p u (Err e) → Takes comes stops s (p ++ q) u (Err e)
  err-more s p q u e h bytes = subst (stops e u.taker) (sym (ap (λ (l : List ℕ). from_line comes s (s.line ++ l)) (append_assoc p q bytes))) (h (q ++ bytes))

  -- ---- what was taken of a piece, where this is left

  pub fed-none : (s : Reading T) (piece : List ℕ) → Leaves comes s piece s piece
  fed-none s piece = record { taken = []; whole = refl; advances = advances-none s }

  pub fed-last : (s : Reading T) (piece : List ℕ) (t : Reading T) (rest : List ℕ) (u : Reading T) (r : Result (Unit {0}) E) → Leaves comes s piece t rest → Takes comes stops t rest u r → Takes comes stops s piece u r
  fed-last s piece t rest u r f h = subst (λ (p : List ℕ). Takes comes stops s p u r) (sym f.whole) (advances-then s f.taken t rest u r f.advances h)

  -- more of it
  pub fed-more : (s : Reading T) (piece : List ℕ) (t : Reading T) (rest : List ℕ) (u : Reading T) (left : List ℕ) → Leaves comes s piece t rest → Leaves comes t rest u left → Leaves comes s piece u left
  fed-more s piece t rest u left f h = record {
    taken = f.taken ++ h.taken;
    whole = f.whole ∙ ap (λ (l : List ℕ). f.taken ++ l) h.whole ∙ sym (append_assoc f.taken h.taken left);
    advances = advances-then s f.taken t h.taken u (Ok tt) f.advances h.advances;
  }

  -- nothing is left of it
  pub fed-all : (s : Reading T) (piece : List ℕ) (t : Reading T) (rest : List ℕ) (u : Reading T) → Leaves comes s piece t rest → Takes comes stops t rest u (Ok tt) → Leaves comes s piece u []
  fed-all s piece t rest u f h = record {
    taken = f.taken ++ rest;
    whole = f.whole ∙ sym (append-nil (f.taken ++ rest));
    advances = advances-then s f.taken t rest u (Ok tt) f.advances h;
  }

  pub fed-whole : (s : Reading T) (piece : List ℕ) (t : Reading T) (rest : List ℕ) → Leaves comes s piece t rest → rest ≡ [] → Advances comes s piece t
  fed-whole s piece t rest f none = subst (λ (p : List ℕ). Advances comes s p t) (sym (f.whole ∙ ap (λ (l : List ℕ). f.taken ++ l) none ∙ append-nil f.taken)) f.advances

  line-cut : (line after : List ℕ) → line ++ 10 ∷ after ≡ (line ++ 10 ∷ []) ++ after
  line-cut line after = sym (append_assoc line (10 ∷ []) after)

  -- the next line of it, which ends with its byte n
  pub fed-line : (s : Reading T) (piece : List ℕ) (t : Reading T) (rest : List ℕ) (n : ℕ) (after : List ℕ) (u : Reading T) → Leaves comes s piece t rest → rest ≡ take n rest ++ 10 ∷ drop (n + 1) rest
      → Takes comes stops t (take n rest ++ 10 ∷ []) u (Ok tt) → after ≡ drop (n + 1) rest → Leaves comes s piece u after
  fed-line s piece t rest n after u f cut h left =
      let line = take n rest in
      let here : rest ≡ line ++ 10 ∷ after = cut ∙ ap (λ (l : List ℕ). line ++ 10 ∷ l) (sym left) in
      record {
        taken = f.taken ++ (line ++ 10 ∷ []);
        whole = f.whole ∙ ap (λ (l : List ℕ). f.taken ++ l) (here ∙ line-cut line after) ∙ sym (append_assoc f.taken (line ++ 10 ∷ []) after);
        advances = advances-then s f.taken t (line ++ 10 ∷ []) u (Ok tt) f.advances h;
      }

  pub fed-error : (s : Reading T) (piece : List ℕ) (t : Reading T) (rest line after : List ℕ) (u : Reading T) (e : E) → Leaves comes s piece t rest → rest ≡ line ++ 10 ∷ after → Takes comes stops t (line ++ 10 ∷ []) u (Err e) → Takes comes stops s piece u (Err e)
  fed-error s piece t rest line after u e f cut h =
      fed-last s piece t rest u (Err e) f (subst (λ (p : List ℕ). Takes comes stops t p u (Err e)) (sym (cut ∙ line-cut line after)) (err-more t (line ++ 10 ∷ []) after u e h))

-- a line that stands whole in the piece, where none has begun
pub here-ready : {T : Type 0} (ready : T → ℕ → Type 0) (s : Reading T) (line : List ℕ) → IsBetweenBytes ready s → has_no_lf line ≡ true → length line ≤ line_limit → s.number ≤ lines_limit → IsBetweenBytes ready (at_line s line)
here-ready ready s line between plain short low = record { plain = plain; short = short; first = between.first; last = between.last; numbered = λ some. low; waits = between.waits }

-- ---- the end of the text

not-zero : (n : ℕ) → not (eqb (suc n) 0) ≡ true
not-zero n =
    let ne : eqb (suc n) 0 ≡ false = grind (arith, nat_tests) in
    ap not ne

module _ {T E F : Type 0} (comes : T → ℕ → List Line → F) (stops : E → T → F → Type 0) (ends : T → F → Type 0) where
  pub ends-text : (ready : T → ℕ → Type 0) (s : Reading T) (t : T) (cut : Bool) (r : Result (Unit {0}) E) → IsBetweenBytes ready s → cut ≡ not (eqb (length s.line) 0) → TakesEnd comes stops ends s.taker s.number cut t r
      → EndsWith stops ends t r (found_now comes s)
  ends-text ready s t cut r between same h = each s.line refl
    where
      at_last : (ls : List Line) → ls ≡ lines s.line → EndsWith stops ends t r (comes s.taker s.number ls) → EndsWith stops ends t r (found_now comes s)
      at_last ls e f = subst (λ (ls : List Line). EndsWith stops ends t r (comes s.taker s.number ls)) e f

      each : (l : List ℕ) → s.line ≡ l → EndsWith stops ends t r (found_now comes s)
      each [] e =
          let none : cut ≡ false = same ∙ ap (λ (l : List ℕ). not (eqb (length l) 0)) e in
          at_last [] (sym (ap lines e ∙ no-bytes)) (rw none at (h s.line between.short))
      each (x ∷ l) e =
          let some : cut ≡ true = same ∙ ap (λ (l : List ℕ). not (eqb (length l) 0)) e ∙ not-zero (length l) in
          at_last (record { text = s.line; ended = false } ∷ []) (sym (lines_last s.line (let n = ap length e in omega arith) between.plain)) (rw some at (h s.line between.short))
