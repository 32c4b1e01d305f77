-- Counts of the lines that were put to a tally.
use Rattle.std.proofs.Common.{◌≡◌, ◌<◌, ◌≤◌, subst, ℕ, ◌+◌, Bool, true, false, cond, List, [], ◌∷◌, ◌++◌, length, map, take, drop, refl, sym, ap, ap₂, ◌∙◌, codes, arith, append-nil}
use Rattle.std.specs.Prelude.{fold}
use Rattle.std.specs.List.{list_all}
use Rattle.std.proofs.Math.Seq.{take-add}
use Rattle.std.proofs.lemmas.List.{append_assoc, drop_at, length-take-le, take-take}
use Rattle.tree_specs.specs.Texts.Text.{newline}
use Rattle.tree_specs.specs.Texts.Lines.{Line, lines, lines_of_parts}
use Rattle.tree_specs.specs.Texts.Load.{begins_with, lines_with, last_line_with, five_lines}
use Rattle.text_forms.proofs.Bools.{and_true}
use Rattle.line_pieces.specs.Cuts.{has_no_lf, is_plain, ended_line, EndsAt}
use Rattle.line_pieces.proofs.LineLaws.{lines_ended, lines_last}
use Rattle.load_schedule.specs.Tallies.{text_of, one_more, count_like, last_like, later_reply, Sums, five_of}

-- ---- more lines

text-both : (ls more : List (List ℕ)) → text_of (ls ++ more) ≡ text_of ls ++ text_of more
text-both [] more = refl
text-both (l ∷ ls) more = ap (λ (t : List ℕ). (l ++ newline) ++ t) (text-both ls more) ∙ sym (append_assoc (l ++ newline) (text_of ls) (text_of more))

all-both : (ls more : List (List ℕ)) → list_all has_no_lf ls ≡ true → list_all has_no_lf more ≡ true → list_all has_no_lf (ls ++ more) ≡ true
all-both [] more h k = k
all-both (l ∷ ls) more h k = let parts = and_true (has_no_lf l) (list_all has_no_lf ls) h in rw (parts.0, all-both ls more parts.1 k) refl

fold-both : {A B : Type 0} (f : B → A → B) (b : B) (xs ys : List A) → fold f b (xs ++ ys) ≡ fold f (fold f b xs) ys
fold-both f b [] ys = refl
fold-both f b (x ∷ xs) ys = fold-both f (f b x) xs ys

count-from : (front : List ℕ) (n : ℕ) (ls : List (List ℕ)) → fold (λ (m : ℕ) (l : List ℕ). m + cond (begins_with front l) 1 0) n ls ≡ n + count_like front ls
count-from front n [] = omega arith
count-from front n (l ∷ ls) =
    let here : ℕ = cond (begins_with front l) 1 0 in
    omega (arith, count-from front (n + here) ls, count-from front (0 + here) ls)

count-both : (front : List ℕ) (ls more : List (List ℕ)) → count_like front (ls ++ more) ≡ count_like front ls + count_like front more
count-both front ls more = fold-both (λ (m : ℕ) (l : List ℕ). m + cond (begins_with front l) 1 0) 0 ls more ∙ count-from front (count_like front ls) more

-- a line that is a reply is never empty
abbrev last-reply : List ℕ → List ℕ → List ℕ
last-reply last l = cond (begins_with (codes "reply ") l) l last

reply-first : (before l later : List ℕ) → later_reply (last-reply before l) later ≡ later_reply before (later_reply (last-reply [] l) later)
reply-first before [] [] = refl
reply-first before [] (y ∷ later) = refl
reply-first before (x ∷ l) [] = by_test (begins_with (codes "reply ") (x ∷ l))
  where
    by_test : (b : Bool) → later_reply (cond b (x ∷ l) before) [] ≡ later_reply before (later_reply (cond b (x ∷ l) []) [])
    by_test true = refl
    by_test false = refl
reply-first before (x ∷ l) (y ∷ later) = refl

last-from : (before : List ℕ) (ls : List (List ℕ)) → fold last-reply before ls ≡ later_reply before (fold last-reply [] ls)
last-from before [] = refl
last-from before (l ∷ ls) =
    last-from (last-reply before l) ls ∙ reply-first before l (fold last-reply [] ls) ∙ ap (later_reply before) (sym (last-from (last-reply [] l) ls))

last-both : (ls more : List (List ℕ)) → last_like (codes "reply ") (ls ++ more) ≡ later_reply (last_like (codes "reply ") ls) (last_like (codes "reply ") more)
last-both ls more = fold-both last-reply [] ls more ∙ last-from (fold last-reply [] ls) more

pub sums-both : (text more : List ℕ) (r f d r' f' d' r'' f'' d'' : ℕ) (last later now : List ℕ) → Sums text r f d last → Sums more r' f' d' later
    → r'' ≡ r + r' → f'' ≡ f + f' → d'' ≡ d + d' → now ≡ later_reply last later → Sums (text ++ more) r'' f'' d'' now
sums-both text more r f d r' f' d' r'' f'' d'' last later now s t er ef ed en = record {
  lines = s.lines ++ t.lines;
  cut = ap₂ (λ (a b : List ℕ). a ++ b) s.cut t.cut ∙ sym (text-both s.lines t.lines);
  whole = all-both s.lines t.lines s.whole t.whole;
  refusals = er ∙ ap₂ (λ (a b : ℕ). a + b) s.refusals t.refusals ∙ sym (count-both (codes "reply no ") s.lines t.lines);
  frees = ef ∙ ap₂ (λ (a b : ℕ). a + b) s.frees t.frees ∙ sym (count-both (codes "freed ") s.lines t.lines);
  drops = ed ∙ ap₂ (λ (a b : ℕ). a + b) s.drops t.drops ∙ sym (count-both (codes "unreferenced ") s.lines t.lines);
  reply = en ∙ ap₂ later_reply s.reply t.reply ∙ sym (last-both s.lines t.lines);
}

-- ---- one line more

pub sums-none : Sums [] 0 0 0 []
sums-none = record { lines = []; cut = refl; whole = refl; refusals = refl; frees = refl; drops = refl; reply = refl }

one-count : (b : Bool) (n : ℕ) → cond b (n + 1) n ≡ n + (0 + cond b 1 0)
one-count true n = refl
one-count false n = omega arith

count-more : (front line : List ℕ) (ls : List (List ℕ)) → one_more front line (count_like front ls) ≡ count_like front (ls ++ line ∷ [])
count-more front line ls = one-count (begins_with front line) (count_like front ls) ∙ sym (count-both front ls (line ∷ []))

text-line : (ls : List (List ℕ)) (line : List ℕ) → text_of (ls ++ line ∷ []) ≡ text_of ls ++ line ++ 10 ∷ []
text-line ls line = text-both ls (line ∷ []) ∙ ap (λ (t : List ℕ). text_of ls ++ t) (append-nil (line ++ newline)) ∙ sym (append_assoc (text_of ls) line newline)

pub sums-line : (text line : List ℕ) (r f d r' f' d' : ℕ) (last now : List ℕ) → Sums text r f d last → has_no_lf line ≡ true
    → r' ≡ one_more (codes "reply no ") line r → f' ≡ one_more (codes "freed ") line f → d' ≡ one_more (codes "unreferenced ") line d
    → now ≡ cond (begins_with (codes "reply ") line) line last → Sums (text ++ line ++ 10 ∷ []) r' f' d' now
sums-line text line r f d r' f' d' last now s h er ef ed en = record {
  lines = s.lines ++ line ∷ [];
  cut = rw s.cut (sym (text-line s.lines line));
  whole = all-both s.lines (line ∷ []) s.whole (rw h refl);
  refusals = er ∙ ap (one_more (codes "reply no ") line) s.refusals ∙ count-more (codes "reply no ") line s.lines;
  frees = ef ∙ ap (one_more (codes "freed ") line) s.frees ∙ count-more (codes "freed ") line s.lines;
  drops = ed ∙ ap (one_more (codes "unreferenced ") line) s.drops ∙ count-more (codes "unreferenced ") line s.lines;
  reply = en ∙ ap (λ (l : List ℕ). last-reply l line) s.reply ∙ sym (fold-both last-reply [] s.lines (line ∷ []));
}

-- ---- the lines of some bytes, one by one

pub cut-line : (bytes : List ℕ) (n : ℕ) → EndsAt bytes n → take (n + 1) bytes ≡ take n bytes ++ 10 ∷ []
cut-line bytes n e =
    take-add n 1 bytes ∙ ap (λ (t : List ℕ). take n bytes ++ take 1 t) (ap (drop n) e.cut ∙ drop_at (take n bytes) (10 ∷ drop (n + 1) bytes) n (length-take-le n bytes (omega (arith, e.within))))

pub one-more-le : (b : Bool) (n m : ℕ) → m ≡ cond b (n + 1) n → m ≤ n + 1
one-more-le true n m h = omega arith
one-more-le false n m h = omega arith

pub reply-within : (b : Bool) (at n from many total from' many' : ℕ) → from' ≡ cond b at from → many' ≡ cond b n many → at + n ≤ total → from + many ≤ total → from' + many' ≤ total
reply-within true at n from many total from' many' h k le before = omega arith
reply-within false at n from many total from' many' h k le before = omega arith

-- a put that takes no whole lines, and then the first
pub put-line : (old mid now bytes : List ℕ) (n most end : ℕ) → n ≡ 0 → mid ≡ old ++ take n (take most bytes) → EndsAt (take most bytes) end → most ≤ length bytes
    → now ≡ mid ++ take end (take most bytes) ++ 10 ∷ [] → (1 ≤ end + 1) × (end + 1 ≤ length bytes) × (now ≡ old ++ take (end + 1) bytes)
put-line old mid now bytes n most end none em e le en =
    let within : end + 1 ≤ most = omega (arith, e.within, length-take-le most bytes le) in
    let same : mid ≡ old = em ∙ ap (λ (k : ℕ). old ++ take k (take most bytes)) none ∙ append-nil old in (
      omega arith,
      omega (arith, within),
      en ∙ append_assoc mid (take end (take most bytes)) (10 ∷ [])
          ∙ ap₂ (λ (a b : List ℕ). a ++ b) same (sym (cut-line (take most bytes) end e) ∙ take-take (end + 1) most bytes within),
    )

-- the line at the end of those that were told
pub told-more : (bytes : List ℕ) (at n r f d from many at' r' f' d' from' many' : ℕ) → Sums (take at bytes) r f d (take many (drop from bytes)) → EndsAt (drop at bytes) n
    → at' ≡ at + n + 1 → r' ≡ one_more (codes "reply no ") (take n (drop at bytes)) r → f' ≡ one_more (codes "freed ") (take n (drop at bytes)) f → d' ≡ one_more (codes "unreferenced ") (take n (drop at bytes)) d
    → from' ≡ cond (begins_with (codes "reply ") (take n (drop at bytes))) at from → many' ≡ cond (begins_with (codes "reply ") (take n (drop at bytes))) n many → Sums (take at' bytes) r' f' d' (take many' (drop from' bytes))
told-more bytes at n r f d from many at' r' f' d' from' many' s e ea er ef ed from-is many-is =
    let line : List ℕ = take n (drop at bytes) in
    let sum : at' ≡ at + (n + 1) = omega arith in
    let cut : take at' bytes ≡ (take at bytes ++ line) ++ 10 ∷ [] =
    ap (λ (k : ℕ). take k bytes) sum ∙ take-add at (n + 1) bytes ∙ ap (λ (t : List ℕ). take at bytes ++ t) (cut-line (drop at bytes) n e) ∙ sym (append_assoc (take at bytes) line (10 ∷ [])) in
    rw cut (sums-line (take at bytes) line r f d r' f' d' (take many (drop from bytes)) (take many' (drop from' bytes)) s e.plain er ef ed (reply-there (begins_with (codes "reply ") line) from-is many-is))
  where
    reply-there : (b : Bool) → from' ≡ cond b at from → many' ≡ cond b n many → take many' (drop from' bytes) ≡ cond b (take n (drop at bytes)) (take many (drop from bytes))
    reply-there true h k = rw (h, k) refl
    reply-there false h k = rw (h, k) refl

-- ---- a line that ends

added-as : (b : Bool) (n w m : ℕ) → w ≡ cond b (0 + 1) 0 → m ≡ n + w → m ≡ cond b (n + 1) n
added-as true n w m h k = omega arith
added-as false n w m h k = omega arith

last-as : (line last reply now : List ℕ) (t : Bool) → begins_with (codes "reply ") line ≡ t → reply ≡ cond t line [] → now ≡ later_reply last reply → now ≡ cond (begins_with (codes "reply ") line) line last
last-as [] last reply now true e h k = absurd cc
last-as (x ∷ line) last reply now true e h k = rw (e, k, h) refl
last-as line last reply now false e h k = rw (e, k, h) refl

pub sums-end : (text line : List ℕ) (r f d r-more f-more d-more r' f' d' : ℕ) (last reply now : List ℕ) → Sums text r f d last → has_no_lf line ≡ true
    → r-more ≡ one_more (codes "reply no ") line 0 → f-more ≡ one_more (codes "freed ") line 0 → d-more ≡ one_more (codes "unreferenced ") line 0 → reply ≡ cond (begins_with (codes "reply ") line) line []
    → r' ≡ r + r-more → f' ≡ f + f-more → d' ≡ d + d-more → now ≡ later_reply last reply → Sums (text ++ line ++ 10 ∷ []) r' f' d' now
sums-end text line r f d r-more f-more d-more r' f' d' last reply now s h wr wf wd reply-is er ef ed en =
    sums-line text line r f d r' f' d' last now s h (added-as _ r r-more r' wr er) (added-as _ f f-more f' wf ef) (added-as _ d d-more d' wd ed)
    (last-as line last reply now (begins_with (codes "reply ") line) refl reply-is en)

-- ---- the lines of all that was put

lines-whole : (ls : List (List ℕ)) (rest : List ℕ) → list_all has_no_lf ls ≡ true → lines (text_of ls ++ rest) ≡ map ended_line ls ++ lines rest
lines-whole [] rest h = refl
lines-whole (l ∷ ls) rest h =
    let parts = and_true (has_no_lf l) (list_all has_no_lf ls) h in
    ap lines (append_assoc (l ++ newline) (text_of ls) rest ∙ append_assoc l newline (text_of ls ++ rest))
    ∙ lines_ended l (text_of ls ++ rest) parts.0
    ∙ ap (λ (k : List Line). ended_line l ∷ k) (lines-whole ls rest parts.1)

-- the lines of some bytes
abbrev texts_of : List ℕ → List (List ℕ)
texts_of bytes = map (λ (l : Line). l.text) (lines bytes)

count-texts : (front : List ℕ) (ls : List Line) (n : ℕ) → fold (λ (m : ℕ) (l : Line). m + cond (begins_with front l.text) 1 0) n ls ≡ fold (λ (m : ℕ) (l : List ℕ). m + cond (begins_with front l) 1 0) n (map (λ (l : Line). l.text) ls)
count-texts front [] n = refl
count-texts front (l ∷ ls) n = count-texts front ls (n + cond (begins_with front l.text) 1 0)

last-texts : (front : List ℕ) (ls : List Line) (kept : List ℕ) → fold (λ (last : List ℕ) (l : Line). cond (begins_with front l.text) l.text last) kept ls ≡ fold (λ (last : List ℕ) (l : List ℕ). cond (begins_with front l) l last) kept (map (λ (l : Line). l.text) ls)
last-texts front [] kept = refl
last-texts front (l ∷ ls) kept = last-texts front ls (cond (begins_with front l.text) l.text kept)

texts-of-whole : (ls : List (List ℕ)) (rest : List Line) → map (λ (l : Line). l.text) (map ended_line ls ++ rest) ≡ ls ++ map (λ (l : Line). l.text) rest
texts-of-whole [] rest = refl
texts-of-whole (l ∷ ls) rest = ap (λ (k : List (List ℕ)). l ∷ k) (texts-of-whole ls rest)

texts-whole : (ls : List (List ℕ)) → list_all has_no_lf ls ≡ true → texts_of (text_of ls) ≡ ls
unfolding lines lines_of_parts
texts-whole ls h = ap texts_of (sym (append-nil (text_of ls))) ∙ ap (map (λ (l : Line). l.text)) (lines-whole ls [] h) ∙ texts-of-whole ls [] ∙ append-nil ls

texts-cut : (ls : List (List ℕ)) (line : List ℕ) → 0 < length line → list_all has_no_lf ls ≡ true → has_no_lf line ≡ true → texts_of (text_of ls ++ line) ≡ ls ++ line ∷ []
texts-cut ls line some h k = ap (map (λ (l : Line). l.text)) (lines-whole ls line h ∙ ap (λ (m : List Line). map ended_line ls ++ m) (lines_last line some k)) ∙ texts-of-whole ls _

-- what ends in an LF has begun no line
has-lf : (xs : List ℕ) → has_no_lf (xs ++ 10 ∷ []) ≡ true → ⊥
has-lf [] h = cc
has-lf (x ∷ xs) h = has-lf xs (and_true (is_plain x) (has_no_lf (xs ++ 10 ∷ [])) h).1

begins-none : (w line xs : List ℕ) → has_no_lf line ≡ true → w ++ line ≡ xs ++ 10 ∷ [] → line ≡ []
begins-none [] line xs h e = absurd (has-lf xs (subst (λ (l : List ℕ). has_no_lf l ≡ true) e h))
begins-none (x ∷ w) line [] h e = let f : w ++ line ≡ [] = cc in nothing-behind w line f
  where
    nothing-behind : (w line : List ℕ) → w ++ line ≡ [] → line ≡ []
    nothing-behind [] line f = f
    nothing-behind (y ∷ w) line f = cc
begins-none (x ∷ w) line (y ∷ xs) h e = let f : w ++ line ≡ xs ++ 10 ∷ [] = cc in begins-none w line xs h f

-- the LF after a line that has begun ends that line
ended-is : (ls all : List (List ℕ)) (line now : List ℕ) → text_of all ++ now ≡ (text_of ls ++ line) ++ 10 ∷ [] → list_all has_no_lf ls ≡ true → has_no_lf line ≡ true → list_all has_no_lf all ≡ true → has_no_lf now ≡ true → all ≡ ls ++ line ∷ []
ended-is ls all line now e h k g m =
    let none : now ≡ [] = begins-none (text_of all) now (text_of ls ++ line) m e in
    let same : text_of all ≡ text_of (ls ++ line ∷ []) = sym (append-nil (text_of all)) ∙ ap (λ (l : List ℕ). text_of all ++ l) (sym none) ∙ e
    ∙ sym (text-line ls line) in
    sym (texts-whole all g) ∙ ap texts_of same ∙ texts-whole (ls ++ line ∷ []) (all-both ls (line ∷ []) h (rw k refl))

-- ---- the five lines

five-lines : (count : ℕ) (bytes text : List ℕ) (r f d : ℕ) (last : List ℕ) (s : Sums text r f d last) → texts_of bytes ≡ s.lines → five_of count r f d last ≡ five_lines count bytes
five-lines count bytes text r f d last s e =
    let er : r ≡ lines_with (codes "reply no ") bytes = s.refusals ∙ ap (count_like (codes "reply no ")) (sym e) ∙ sym (count-texts (codes "reply no ") (lines bytes) 0) in
    let ef : f ≡ lines_with (codes "freed ") bytes = s.frees ∙ ap (count_like (codes "freed ")) (sym e) ∙ sym (count-texts (codes "freed ") (lines bytes) 0) in
    let ed : d ≡ lines_with (codes "unreferenced ") bytes = s.drops ∙ ap (count_like (codes "unreferenced ")) (sym e) ∙ sym (count-texts (codes "unreferenced ") (lines bytes) 0) in
    let el : last ≡ last_line_with (codes "reply ") bytes = s.reply ∙ ap (last_like (codes "reply ")) (sym e) ∙ sym (last-texts (codes "reply ") (lines bytes) []) in
    rw (er, ef, ed, el) refl

-- where no line has begun
pub five-whole : (count : ℕ) (text line : List ℕ) (r f d : ℕ) (last : List ℕ) → line ≡ [] → Sums text r f d last → five_of count r f d last ≡ five_lines count (text ++ line)
five-whole count text line r f d last none s =
    five-lines count (text ++ line) text r f d last s (ap texts_of (ap₂ (λ (t l : List ℕ). t ++ l) s.cut none ∙ append-nil (text_of s.lines)) ∙ texts-whole s.lines s.whole)

-- where the line that has begun was ended
pub five-at-end : (count : ℕ) (text line all now : List ℕ) (r f d r' f' d' : ℕ) (last kept : List ℕ) → 0 < length line → Sums text r f d last → has_no_lf line ≡ true
    → Sums all r' f' d' kept → has_no_lf now ≡ true → all ++ now ≡ (text ++ line) ++ 10 ∷ [] → five_of count r' f' d' kept ≡ five_lines count (text ++ line)
five-at-end count text line all now r f d r' f' d' last kept some s h t k e =
    let cut : text_of t.lines ++ now ≡ (text_of s.lines ++ line) ++ 10 ∷ [] =
    ap (λ (a : List ℕ). a ++ now) (sym t.cut) ∙ e ∙ ap (λ (a : List ℕ). (a ++ line) ++ 10 ∷ []) s.cut in
    five-lines count (text ++ line) all r' f' d' kept t
    (ap (λ (a : List ℕ). texts_of (a ++ line)) s.cut ∙ texts-cut s.lines line some s.whole h ∙ sym (ended-is s.lines t.lines line now cut s.whole h t.whole k))

pub no-bytes : (xs : List ℕ) → length xs ≡ 0 → xs ≡ []
no-bytes [] e = refl
no-bytes (x ∷ xs) e = absurd (omega (arith, e))
