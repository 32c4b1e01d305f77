-- Reading a schedule piece by piece, and writing what is played of it, whatever plays its lines.
use Rattle.std.proofs.Common.{◌≡◌, ◌≤◌, ℕ, List, [], ◌++◌, take, Option, Some, None, Result, Ok, Err, refl, sym, ap, subst, ◌∙◌, append_assoc}
use Rattle.std.specs.Prelude.{IfSome}
use Rattle.std.specs.Borrow.{Bor}
use Rattle.std.specs.Io.KnownBytes.{Appends, Consumes, IsAtEnd, Keeps}
use Rattle.std.proofs.KnownBytes.{Consumes-nil, Appends-nil, Appends-trans, Consumes-trans, Consumes-kept}
use Rattle.std.proofs.lemmas.List.{append-nil}
use Rattle.tree_specs.specs.Texts.Lines.{Line, lines}
use Rattle.outside.specs.declared.output.PutError.{PutError}
use Rattle.outside.specs.declared.output.PutError.TheVariants as put_errors
use Rattle.outside.specs.Causes.{Counts}
use Rattle.outside.specs.Outputs.{PutsFront}
use Rattle.line_pieces.specs.Readings.{Reading, begun_by, from_line, found_now, Feeds, Leaves, IsBetweenBytes}
use Rattle.line_pieces.specs.Takings.{EndsWith}
use Rattle.line_pieces.proofs.Feeding.{after-piece, no-bytes}
use Rattle.schedule_replay.specs.declared.stop.Stop.{Stop}
use Rattle.schedule_replay.specs.declared.stop.Stop.TheVariants as errors
use Rattle.schedule_replay.specs.Passes.{stop_of_put, StopsPut, Passed, PassesPiece, PassesSome, TakesEnd, PassesEnd}
use Rattle.schedule_replay.specs.Played.{Plays, PlaysWhole, ran_of}
use Rattle.schedule_replay.specs.Players.{IsEmptied, IsInFront, stops, ends}
use Rattle.schedule_replay.specs.Replays.{Replayed, with_front, BeginsText, StopsWith}
use Rattle.schedule_replay.proofs.TextLaws.{begins_behind, begins_less, front-nil, front-front}

-- ---- why it ended, and what was written

-- a prefix of what is to be written begins what is found
stop-front : (e : Stop) (n : ℕ) (text : List ℕ) (found : Replayed) → StopsWith e text found → BeginsText (take n text) found.text
stop-front (errors.Refused line reason) n text found h = rw h (begins_less n text (Some text) ([], sym (append-nil text)))
stop-front errors.Memory n text found h = begins_less n text found.text h
stop-front _ n text found h = absurd h

put-stops : (e : Stop) (text : List ℕ) (found : Replayed) → StopsWith e text found → StopsPut e text found
put-stops errors.Write text found h = absurd h
put-stops (errors.Refused line reason) text found h = h
put-stops errors.Memory text found h = h
put-stops errors.Read text found h = h

put-begins : (e : PutError) (text : List ℕ) (found : Replayed) → BeginsText text found.text → StopsPut (stop_of_put e) text found
put-begins put_errors.Write text found h = h
put-begins put_errors.Memory text found h = h

abbrev FailsBy : Type 0 → Stop → Stop → Type 0
FailsBy A e f = (let r : Result A Stop = Err e in r ≡ Err f)

-- no line makes a put fail
pub no-put : {A : Type 0} (e : Stop) (text : List ℕ) (found : Replayed) (before now : ℕ) → StopsWith e text found → before ≤ now → Counts before now (FailsBy A e errors.Write)
no-put errors.Write text found before now h le = absurd h
no-put errors.Read text found before now h le = absurd h
no-put (errors.Refused line reason) text found before now h le = record { later = le; counted = λ e. absurd cc }
no-put errors.Memory text found before now h le = record { later = le; counted = λ e. absurd cc }

-- nor a read, and no put does
pub no-read : (e : Stop) (text : List ℕ) (found : Replayed) (before now : ℕ) → StopsPut e text found → before ≤ now → Counts before now (FailsBy (Unit {0}) e errors.Read)
no-read errors.Read text found before now h le = absurd h
no-read errors.Write text found before now h le = record { later = le; counted = λ e. absurd cc }
no-read (errors.Refused line reason) text found before now h le = record { later = le; counted = λ e. absurd cc }
no-read errors.Memory text found before now h le = record { later = le; counted = λ e. absurd cc }

-- a text in front of what was written
stops-behind : (e : Stop) (x text : List ℕ) (found : Replayed) → StopsPut e text found → StopsPut e (x ++ text) (with_front x found)
stops-behind errors.Write x text found h = begins_behind x text found.text h
stops-behind (errors.Refused line reason) x text found h = ap (with_front x) h
stops-behind errors.Memory x text found h = begins_behind x text found.text h
stops-behind errors.Read x text found h = h

-- the reading with another player
abbrev pub played_by : {P : Type 0} → Reading P → P → Reading P
played_by u w = record { taker = w; number = u.number; line = u.line }

module _ {P : Type 0} (plays : P → ℕ → List Line → Replayed) where
  -- ---- one piece after another

  -- what is found after a piece
  passed-found : (s t : Reading P) (piece written bytes : List ℕ) → Passed plays s piece t written → from_line plays s (s.line ++ (piece ++ bytes)) ≡ with_front written (from_line plays t (t.line ++ bytes))
  passed-found s t piece written bytes a =
      ap (from_line plays s) (sym (append_assoc s.line piece bytes) ∙ ap (λ (l : List ℕ). l ++ bytes) a.cut ∙ append_assoc a.whole t.line bytes) ∙ a.goes_on (t.line ++ bytes)

  passes-then : (s t u : Reading P) (p q : List ℕ) (h0 h1 h2 : Option (List ℕ)) (r : Result (Unit {0}) Stop) → PassesPiece plays s p t h0 h1 (Ok tt) → PassesPiece plays t q u h1 h2 r → PassesPiece plays s (p ++ q) u h0 h2 r
  passes-then s t u p q h0 h1 h2 (Ok done) a b = record {
    written = a.written ++ b.written;
    put = Appends-trans h0 h1 h2 a.written b.written a.put b.put;
    taken = record {
      whole = a.taken.whole ++ b.taken.whole;
      cut = sym (append_assoc s.line p q) ∙ ap (λ (l : List ℕ). l ++ q) a.taken.cut ∙ append_assoc a.taken.whole t.line q ∙ ap (λ (l : List ℕ). a.taken.whole ++ l) b.taken.cut ∙ sym (append_assoc a.taken.whole b.taken.whole u.line);
      goes_on = λ bytes.
          ap (from_line plays s) (append_assoc a.taken.whole b.taken.whole bytes) ∙ a.taken.goes_on (b.taken.whole ++ bytes)
          ∙ ap (with_front a.written) (b.taken.goes_on bytes) ∙ front-front a.written b.written (from_line plays u bytes);
      begun = λ e. (let y = b.taken.begun e in let x = a.taken.begun y.0 in (x.0, ap (λ (l : List ℕ). l ++ b.taken.whole) x.1 ∙ y.1));
    };
  }
  passes-then s t u p q h0 h1 h2 (Err e) a b = record {
    written = a.written ++ b.written;
    put = Appends-trans h0 h1 h2 a.written b.written a.put b.put;
    taken = λ bytes.
        subst (StopsPut e (a.written ++ b.written)) (sym (ap (λ (l : List ℕ). from_line plays s (s.line ++ l)) (append_assoc p q bytes) ∙ passed-found s t p a.written (q ++ bytes) a.taken))
        (stops-behind e a.written b.written (from_line plays t (t.line ++ (q ++ bytes))) (b.taken bytes));
  }

  -- nothing was taken of the piece, then some, and then all, or it ended there
  pub some-none : (s : Reading P) (piece : List ℕ) (held : Option (List ℕ)) → PassesSome plays s piece s held held piece
  some-none s piece held = record {
    taken = [];
    whole = refl;
    passed = record {
      written = [];
      put = Appends-nil held;
      taken = record { whole = []; cut = append-nil s.line; goes_on = λ bytes. front-nil (from_line plays s bytes); begun = λ e. (e, refl) };
    };
  }

  pub some-more : (s t u : Reading P) (piece rest left : List ℕ) (h0 h1 h2 : Option (List ℕ)) → PassesSome plays s piece t h0 h1 rest → PassesSome plays t rest u h1 h2 left → PassesSome plays s piece u h0 h2 left
  some-more s t u piece rest left h0 h1 h2 a b = record {
    taken = a.taken ++ b.taken;
    whole = a.whole ∙ ap (λ (l : List ℕ). a.taken ++ l) b.whole ∙ sym (append_assoc a.taken b.taken left);
    passed = passes-then s t u a.taken b.taken h0 h1 h2 (Ok tt) a.passed b.passed;
  }

  pub some-all : (s t : Reading P) (piece rest : List ℕ) (h0 h1 : Option (List ℕ)) → PassesSome plays s piece t h0 h1 rest → rest ≡ [] → PassesPiece plays s piece t h0 h1 (Ok tt)
  some-all s t piece rest h0 h1 a none =
      let all : piece ≡ a.taken = a.whole ∙ ap (λ (l : List ℕ). a.taken ++ l) none ∙ append-nil a.taken in
      subst (λ (p : List ℕ). PassesPiece plays s p t h0 h1 (Ok tt)) (sym all) a.passed

  pub some-error : (s t u : Reading P) (piece rest : List ℕ) (h0 h1 h2 : Option (List ℕ)) (e : Stop) → PassesSome plays s piece t h0 h1 rest → PassesPiece plays t rest u h1 h2 (Err e) → PassesPiece plays s piece u h0 h2 (Err e)
  some-error s t u piece rest h0 h1 h2 e a b =
      subst (λ (p : List ℕ). PassesPiece plays s p u h0 h2 (Err e)) (sym a.whole) (passes-then s t u a.taken rest h0 h1 h2 (Err e) a.passed b)

  -- ---- piece after piece

  -- so much was read, and what is played of it is written, where this player was given the first byte
  pub record SoFar (first : P) (left left_now held held_now : Option (List ℕ)) (t : Reading P) : Type 0 where
    pub taken : List ℕ
    pub read : Consumes left left_now taken
    pub text : List ℕ
    pub put : Appends held held_now text
    pub whole : List ℕ
    pub cut : taken ≡ whole ++ t.line
    pub goes_on : (bytes : List ℕ) → plays first 1 (lines (whole ++ bytes)) ≡ with_front text (from_line plays t bytes)
    pub begun : t.number ≡ 1 → whole ≡ []

  pub so-far-none : (left held : Option (List ℕ)) (t : Reading P) → t ≡ begun_by t.taker → SoFar t.taker left left held held t
  so-far-none left held t f = record {
    taken = [];
    read = Consumes-nil left;
    text = [];
    put = Appends-nil held;
    whole = [];
    cut = sym (ap (λ (r : Reading P). r.line) f);
    goes_on = λ bytes. ap (λ (n : ℕ). plays t.taker n (lines bytes)) (sym (ap (λ (r : Reading P). r.number) f)) ∙ front-nil (from_line plays t bytes);
    begun = λ e. refl;
  }

  pub so-far-more : (first : P) (l0 l1 l2 h0 h1 h2 : Option (List ℕ)) (t u : Reading P) (piece : List ℕ) → SoFar first l0 l1 h0 h1 t → Consumes l1 l2 piece → PassesPiece plays t piece u h1 h2 (Ok tt) → SoFar first l0 l2 h0 h2 u
  so-far-more first l0 l1 l2 h0 h1 h2 t u piece s c p = record {
    taken = s.taken ++ piece;
    read = Consumes-trans l0 l1 l2 s.taken piece s.read c;
    text = s.text ++ p.written;
    put = Appends-trans h0 h1 h2 s.text p.written s.put p.put;
    whole = s.whole ++ p.taken.whole;
    cut = ap (λ (l : List ℕ). l ++ piece) s.cut ∙ append_assoc s.whole t.line piece ∙ ap (λ (l : List ℕ). s.whole ++ l) p.taken.cut ∙ sym (append_assoc s.whole p.taken.whole u.line);
    goes_on = λ bytes.
        ap (λ (l : List ℕ). plays first 1 (lines l)) (append_assoc s.whole p.taken.whole bytes) ∙ s.goes_on (p.taken.whole ++ bytes)
        ∙ ap (with_front s.text) (p.taken.goes_on bytes) ∙ front-front s.text p.written (from_line plays u bytes);
    begun = λ e. (let y = p.taken.begun e in ap (λ (l : List ℕ). l ++ p.taken.whole) (s.begun y.0) ∙ y.1);
  }

  -- what is played of all bytes
  all-found : (first : P) (l0 l1 h0 h1 : Option (List ℕ)) (t : Reading P) (s : SoFar first l0 l1 h0 h1 t) (more : List ℕ) → plays first 1 (lines (s.taken ++ more)) ≡ with_front s.text (from_line plays t (t.line ++ more))
  all-found first l0 l1 h0 h1 t s more =
      ap (λ (l : List ℕ). plays first 1 (lines (l ++ more))) s.cut ∙ ap (λ (l : List ℕ). plays first 1 (lines l)) (append_assoc s.whole t.line more) ∙ s.goes_on (t.line ++ more)

module _ {P : Type 0} (plays : P → ℕ → List Line → Replayed) (text_in : P → List ℕ) where
  -- ---- one piece: what was read of it, and what of that was written

  piece-front : (s : Reading P) (piece : List ℕ) (u : Reading P) (n : ℕ) (r : Result (Bor (List ℕ)) Stop) → Feeds plays (stops text_in) s piece u r → IsInFront plays text_in u.taker → (bytes : List ℕ) → BeginsText (take n (text_in u.taker)) (from_line plays s (s.line ++ (piece ++ bytes))).text
  piece-front s piece u n (Ok rest) a front bytes =
      let left = rest.now ++ bytes in
      let all : piece ++ bytes ≡ a.taken ++ left = ap (λ (l : List ℕ). l ++ bytes) a.whole ∙ append_assoc a.taken rest.now bytes in
      rw (all, after-piece plays (stops text_in) s a.taken u a.advances left) (begins_less n (text_in u.taker) (from_line plays u (u.line ++ left)).text (front u.number (lines (u.line ++ left))))
  piece-front s piece u n (Err e) a front bytes = stop-front e n (text_in u.taker) (from_line plays s (s.line ++ (piece ++ bytes))) (a bytes)

  pub passes-error : (s u t : Reading P) (piece : List ℕ) (held now : Option (List ℕ)) (e : Stop) → Appends held now (text_in u.taker) → Feeds plays (stops text_in) s piece u (Err e) → PassesPiece plays s piece t held now (Err e)
  passes-error s u t piece held now e put a = record { written = text_in u.taker; put = put; taken = λ bytes. put-stops e (text_in u.taker) (from_line plays s (s.line ++ (piece ++ bytes))) (a bytes) }

  pub passes-cut : (s u t : Reading P) (piece : List ℕ) (held now : Option (List ℕ)) (r : Result (Bor (List ℕ)) Stop) (e : PutError) → PutsFront held now (text_in u.taker) → Feeds plays (stops text_in) s piece u r → IsInFront plays text_in u.taker → PassesPiece plays s piece t held now (Err (stop_of_put e))
  passes-cut s u t piece held now r e put a front = record {
    written = take put.0 (text_in u.taker);
    put = put.1;
    taken = λ bytes. put-begins e (take put.0 (text_in u.taker)) (from_line plays s (s.line ++ (piece ++ bytes))) (piece-front s piece u put.0 r a front bytes);
  }

  -- ---- the end: what was to be written, and what of that was written

  end-front : (w : P) (n : ℕ) (r : Result (Unit {0}) Stop) (found : Replayed) → EndsWith (stops text_in) (ends text_in) w r found → BeginsText (take n (text_in w)) found.text
  end-front w n (Ok done) found h = rw h (begins_less n (text_in w) (Some (text_in w)) ([], sym (append-nil (text_in w))))
  end-front w n (Err e) found h = stop-front e n (text_in w) found h

  pub ends-put : (s : Reading P) (w : P) (held now : Option (List ℕ)) → Appends held now (text_in w) → EndsWith (stops text_in) (ends text_in) w (Ok tt) (found_now plays s) → PassesEnd plays s held now (Ok tt)
  ends-put s w held now put h = record { written = text_in w; put = put; taken = h }

  pub ends-error : (s : Reading P) (w : P) (held now : Option (List ℕ)) (e : Stop) → Appends held now (text_in w) → EndsWith (stops text_in) (ends text_in) w (Err e) (found_now plays s) → PassesEnd plays s held now (Err e)
  ends-error s w held now e put h = record { written = text_in w; put = put; taken = put-stops e (text_in w) (found_now plays s) h }

  pub ends-cut : (s : Reading P) (w : P) (held now : Option (List ℕ)) (r : Result (Unit {0}) Stop) (e : PutError) → PutsFront held now (text_in w) → EndsWith (stops text_in) (ends text_in) w r (found_now plays s) → PassesEnd plays s held now (Err (stop_of_put e))
  ends-cut s w held now r e put h = record { written = take put.0 (text_in w); put = put.1; taken = put-begins e (take put.0 (text_in w)) (found_now plays s) (end-front w put.0 r (found_now plays s) h) }

module _ {P : Type 0} (plays : P → ℕ → List Line → Replayed) (text_in : P → List ℕ) (ready : P → ℕ → Type 0) where
  -- the answer to a piece
  pub passes-put : (s u : Reading P) (w : P) (piece rest : List ℕ) (held now : Option (List ℕ)) → Appends held now (text_in u.taker) → IsEmptied plays text_in ready u.taker w → Leaves plays s piece u rest → PassesSome plays s piece (played_by u w) held now rest
  passes-put s u w piece rest held now put emptied f =
      let a = f.advances in
      record {
        taken = f.taken;
        whole = f.whole;
        passed = record {
          written = text_in u.taker;
          put = put;
          taken = record { whole = a.whole; cut = a.cut; goes_on = λ bytes. a.goes_on bytes ∙ emptied.goes_on u.number (lines bytes); begun = a.begun };
        };
      }

  -- ---- how it ended

  -- before its schedule did
  by-error : (first : P) (all : List ℕ) (left held now : Option (List ℕ)) (text : List ℕ) (e : Stop) → StopsPut e text (plays first 1 (lines all)) → Appends held now text → Plays plays text_in ready first all left held now (ran_of (Err e))
  by-error first all left held now text errors.Read h put = absurd h
  by-error first all left held now text (errors.Refused line reason) h put = record { text = text; played = h; put = put }
  by-error first all left held now text errors.Write h put = record { front = text; begins = h; put = put }
  by-error first all left held now text errors.Memory h put = record { front = text; begins = h; put = put }

  pub so-far-error : (first : P) (l0 l1 l2 h0 h1 h2 : Option (List ℕ)) (t u : Reading P) (piece : List ℕ) (e : Stop) → SoFar plays first l0 l1 h0 h1 t → Consumes l1 l2 piece → PassesPiece plays t piece u h1 h2 (Err e)
      → IfSome l0 (λ bytes. Plays plays text_in ready first bytes l2 h0 h2 (ran_of (Err e)))
  so-far-error first None l1 l2 h0 h1 h2 t u piece e s c p = tt
  so-far-error first (Some bytes) l1 l2 h0 h1 h2 t u piece e s c p = by_rest l2 (Consumes-trans (Some bytes) l1 l2 s.taken piece s.read c)
    where
      found : (rest : List ℕ) → StopsPut e (s.text ++ p.written) (plays first 1 (lines ((s.taken ++ piece) ++ rest)))
      found rest =
          subst (StopsPut e (s.text ++ p.written)) (sym (ap (λ (l : List ℕ). plays first 1 (lines l)) (append_assoc s.taken piece rest) ∙ all-found plays first (Some bytes) l1 h0 h1 t s (piece ++ rest)))
          (stops-behind e s.text p.written (from_line plays t (t.line ++ (piece ++ rest))) (p.taken rest))

      by_rest : (l2 : Option (List ℕ)) → Consumes (Some bytes) l2 (s.taken ++ piece) → Plays plays text_in ready first bytes l2 h0 h2 (ran_of (Err e))
      by_rest None c = absurd c
      by_rest (Some rest) c = rw c (by-error first ((s.taken ++ piece) ++ rest) (Some rest) h0 h2 (s.text ++ p.written) e (found rest) (Appends-trans h0 h1 h2 s.text p.written s.put p.put))

  -- with the schedule
  by-end : (first : P) (all : List ℕ) (left held now : Option (List ℕ)) (t : Reading P) (x w : List ℕ) (r : Result (Unit {0}) Stop) → IsAtEnd left → plays first 1 (lines all) ≡ with_front x (found_now plays t) → TakesEnd plays t w r → Appends held now (x ++ w)
      → Plays plays text_in ready first all left held now (ran_of r)
  by-end first all left held now t x w (Ok done) at_end e h put = record { read = at_end; text = x ++ w; played = e ∙ ap (with_front x) h; put = put }
  by-end first all left held now t x w (Err why) at_end e h put =
      by-error first all left held now (x ++ w) why (subst (StopsPut why (x ++ w)) (sym e) (stops-behind why x w (found_now plays t) h)) put

  pub so-far-end : (first : P) (l0 l1 l2 h0 h1 h2 : Option (List ℕ)) (t : Reading P) (r : Result (Unit {0}) Stop) → SoFar plays first l0 l1 h0 h1 t → IsAtEnd l1 → Keeps l1 l2 → PassesEnd plays t h1 h2 r
      → IfSome l0 (λ bytes. Plays plays text_in ready first bytes l2 h0 h2 (ran_of r))
  so-far-end first None l1 l2 h0 h1 h2 t r s at_end kept p = tt
  so-far-end first (Some bytes) None l2 h0 h1 h2 t r s at_end kept p = absurd s.read
  so-far-end first (Some bytes) (Some r1) None h0 h1 h2 t r s at_end kept p = absurd kept
  so-far-end first (Some bytes) (Some r1) (Some r2) h0 h1 h2 t r s at_end kept p =
      let same : bytes ≡ s.taken = s.read ∙ ap (λ (l : List ℕ). s.taken ++ l) at_end ∙ append-nil s.taken in
      let found : plays first 1 (lines s.taken) ≡ with_front s.text (found_now plays t) = ap (λ (l : List ℕ). plays first 1 (lines l)) s.cut ∙ s.goes_on t.line in
      rw same (by-end first s.taken (Some r2) h0 h2 t s.text p.written r (kept ∙ at_end) found p.taken (Appends-trans h0 h1 h2 s.text p.written s.put p.put))

  -- where a read failed
  pub so-far-cut : (first : P) (l0 l1 l2 h0 h1 : Option (List ℕ)) (t : Reading P) → IsBetweenBytes ready t → text_in t.taker ≡ [] → SoFar plays first l0 l1 h0 h1 t → Keeps l1 l2
      → IfSome l0 (λ bytes. PlaysWhole plays text_in ready first bytes l2 h0 h1)
  so-far-cut first None l1 l2 h0 h1 t between empty s kept = tt
  so-far-cut first (Some bytes) l1 l2 h0 h1 t between empty s kept = record {
    whole = s.whole;
    line = t.line;
    read = subst (λ (l : List ℕ). Consumes (Some bytes) l2 l) s.cut (Consumes-kept (Some bytes) l1 l2 s.taken s.read kept);
    within = between.plain;
    text = s.text;
    put = s.put;
    player = t.taker;
    number = t.number;
    waits = between.waits;
    empty = empty;
    played = ap (λ (l : List ℕ). plays first 1 (lines l)) (sym (append-nil s.whole)) ∙ s.goes_on [] ∙ ap (λ (ls : List Line). with_front s.text (plays t.taker t.number ls)) no-bytes;
    begun = s.begun;
  }
