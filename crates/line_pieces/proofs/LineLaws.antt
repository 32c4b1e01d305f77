-- Cutting bytes into lines.
use Rattle.std.proofs.Common.{◌≡◌, ℕ, zero, suc, ◌+◌, ◌<◌, Bool, true, false, cond, eqb, not, ◌&&◌, List, [], ◌∷◌, ◌++◌, length, take, drop, slice_index, Option, Some, None, refl, ap, subst, ◌∙◌, arith}
use Rattle.std.specs.List.{slice_split, onto_first}
use Rattle.std.proofs.lemmas.List.{append-nil}
use Rattle.std.proofs.lemmas.Bool.{eqb-true}
use Rattle.tree_specs.specs.Texts.Lines.{Line, lines, lines_of_parts}
use Rattle.memchr.specs.Find.{IsFirstByte, is_byte}
use Rattle.line_pieces.specs.Cuts.{EndsAt, EndsFirst, has_no_lf, is_plain, ended_line}

abbrev is_lf : ℕ → Bool
is_lf b = eqb b 10

-- there is always a part
split_begins : (bytes : List ℕ) → (f : List ℕ) × (ps : List (List ℕ)) × (slice_split is_lf bytes ≡ f ∷ ps)
split_begins [] = ([], [], refl)
split_begins (x ∷ xs) = by_test (is_lf x) (slice_split is_lf xs)
  where
    by_test : (b : Bool) (parts : List (List ℕ)) → (f : List ℕ) × (ps : List (List ℕ)) × (cond b ([] ∷ parts) (onto_first x parts) ≡ f ∷ ps)
    by_test true parts = ([], parts, refl)
    by_test false [] = (x ∷ [], [], refl)
    by_test false (p ∷ parts) = (x ∷ p, parts, refl)

plain_parts : (x : ℕ) (b : Bool) → (is_plain x && b) ≡ true → (is_lf x ≡ false) × (b ≡ true)
plain_parts x b h = by_test (is_lf x) b h
  where
    by_test : (c d : Bool) → (not c && d) ≡ true → (c ≡ false) × (d ≡ true)
    by_test true d h = absurd cc
    by_test false d h = (refl, h)

-- bytes with no LF go onto the first part
split_front : (l rest f : List ℕ) (ps : List (List ℕ)) → has_no_lf l ≡ true → slice_split is_lf rest ≡ f ∷ ps → slice_split is_lf (l ++ rest) ≡ (l ++ f) ∷ ps
split_front [] rest f ps h e = e
split_front (x ∷ l) rest f ps h e =
    let p = plain_parts x (has_no_lf l) h in
    rw (p.0, split_front l rest f ps p.1 e) refl

pub lines_ended : (l rest : List ℕ) → has_no_lf l ≡ true → lines (l ++ 10 ∷ rest) ≡ ended_line l ∷ lines rest
unfolding lines lines_of_parts
lines_ended l rest h =
    let b = split_begins rest in
    let s = split_front l (10 ∷ rest) [] (slice_split is_lf rest) h refl in
    rw (s, b.2, append-nil l) refl

pub lines_cut : (x : ℕ) (l : List ℕ) → has_no_lf (x ∷ l) ≡ true → lines (x ∷ l) ≡ record { text = x ∷ l; ended = false } ∷ []
unfolding lines lines_of_parts
lines_cut x l h =
    let s : slice_split is_lf ((x ∷ l) ++ []) ≡ ((x ∷ l) ++ []) ∷ [] = split_front (x ∷ l) [] [] [] h refl in
    ap lines_of_parts (subst (λ (xs : List ℕ). slice_split is_lf xs ≡ xs ∷ []) (append-nil (x ∷ l)) s)

-- what has begun begins the first line
pub lines_begun : (x : ℕ) (l rest : List ℕ) → has_no_lf (x ∷ l) ≡ true → (more : List ℕ) × (ended : Bool) × (ls : List Line) × (lines ((x ∷ l) ++ rest) ≡ record { text = (x ∷ l) ++ more; ended = ended } ∷ ls)
unfolding lines lines_of_parts
lines_begun x l rest h =
    let b = split_begins rest in
    let s = split_front (x ∷ l) rest b.0 b.1 h b.2 in
    by_parts b.0 b.1 s
  where
    by_parts : (f : List ℕ) (ps : List (List ℕ)) → slice_split is_lf ((x ∷ l) ++ rest) ≡ ((x ∷ l) ++ f) ∷ ps
        → (more : List ℕ) × (ended : Bool) × (ls : List Line) × (lines ((x ∷ l) ++ rest) ≡ record { text = (x ∷ l) ++ more; ended = ended } ∷ ls)
    by_parts f [] e = (f, false, [], rw e refl)
    by_parts f (p ∷ ps) e = (f, true, lines_of_parts (p ∷ ps), rw e refl)

pub lines_from : (l rest : List ℕ) → 0 < length l → has_no_lf l ≡ true → (more : List ℕ) × (ended : Bool) × (ls : List Line) × (lines (l ++ rest) ≡ record { text = l ++ more; ended = ended } ∷ ls)
lines_from [] rest lt h = absurd (omega arith)
lines_from (x ∷ l) rest lt h = lines_begun x l rest h

pub lines_last : (l : List ℕ) → 0 < length l → has_no_lf l ≡ true → lines l ≡ record { text = l; ended = false } ∷ []
lines_last [] lt h = absurd (omega arith)
lines_last (x ∷ l) lt h = lines_cut x l h

not_false : (b : Bool) → not b ≡ false → b ≡ true
not_false true h = refl
not_false false h = absurd cc

not_plain : (y : ℕ) → is_plain y ≡ false → y ≡ 10
not_plain y h = eqb-true y 10 (not_false (eqb y 10) h)

-- bytes are lines
pub lines_some : (x : ℕ) (rest : List ℕ) → (first : Line) × (ls : List Line) × (lines (x ∷ rest) ≡ first ∷ ls)
lines_some x rest = by_test (is_plain x) refl
  where
    by_test : (b : Bool) → is_plain x ≡ b → (first : Line) × (ls : List Line) × (lines (x ∷ rest) ≡ first ∷ ls)
    by_test true h = let f = lines_begun x [] rest (rw h refl) in (record { text = (x ∷ []) ++ f.0; ended = f.1 }, f.2, f.3)
    by_test false h = (ended_line [], lines rest, rw (not_plain x h) (lines_ended [] rest refl))

pub plain_append : (l run : List ℕ) → has_no_lf l ≡ true → has_no_lf run ≡ true → has_no_lf (l ++ run) ≡ true
plain_append [] run h p = p
plain_append (x ∷ l) run h p = let q = plain_parts x (has_no_lf l) h in rw (q.0, plain_append l run q.1 p) refl

-- ---- the first LF of some bytes

not_true : (b : Bool) → (b ≡ true → ⊥) → b ≡ false
not_true true h = absurd (h refl)
not_true false h = refl

plain_each : (bytes : List ℕ) → ((k : ℕ) → k < length bytes → is_lf (slice_index bytes k) ≡ false) → has_no_lf bytes ≡ true
plain_each [] h = refl
plain_each (x ∷ l) h = rw (h 0 (omega arith), plain_each l (λ k lt. h (suc k) (omega arith))) refl

ends_at : (bytes : List ℕ) (n : ℕ) → n < length bytes → ((k : ℕ) → k < n → is_lf (slice_index bytes k) ≡ false) → is_lf (slice_index bytes n) ≡ true → EndsAt bytes n
ends_at [] n lt before h = absurd (omega arith)
ends_at (x ∷ l) zero lt before h = record { within = lt; plain = refl; cut = ap (λ (b : ℕ). b ∷ l) (eqb-true x 10 h) }
ends_at (x ∷ l) (suc n) lt before h =
    let e = ends_at l n (omega arith) (λ k a. before (suc k) (omega arith)) h in
    record {
      within = lt;
      plain = rw (before 0 (omega arith), e.plain) refl;
      cut = ap (λ (m : List ℕ). x ∷ m) e.cut ∙ ap (λ (m : ℕ). x ∷ (take n l ++ 10 ∷ drop m (x ∷ l))) (next n);
    }
  where
    next : (m : ℕ) → suc (m + 1) ≡ suc m + 1
    next m = omega arith

pub ends_first : (bytes : List ℕ) (r : Option ℕ) → IsFirstByte (is_byte 10) bytes r → EndsFirst bytes r
ends_first bytes None h = plain_each bytes (λ k lt. not_true (is_lf (slice_index bytes k)) (h k (omega arith) lt))
ends_first bytes (Some n) h = ends_at bytes n h.0.high (λ k lt. not_true (is_lf (slice_index bytes k)) (h.0.before k (omega arith) lt)) h.1
