-- What lines make of a course, one after another, and where the first flaw stands.
use Rattle.std.proofs.Common.{◌≡◌, ℕ, suc, ◌+◌, ◌<◌, ◌≤◌, Bool, true, false, cond, ltb, not, ◌||◌, List, [], ◌∷◌, ◌++◌, length, Option, Some, None, Result, Ok, Err, refl, sym, ap, subst, ◌∙◌, arith, ◌⊎◌, inl, inr}
use Rattle.std.proofs.lemmas.Bool.Decides.{nat_tests}
use Rattle.tree_specs.specs.Texts.Lines.{lines_limit}
use Rattle.tree_specs.specs.Texts.Lines as cut
use Rattle.line_pieces.specs.Cuts.{ended_line}
use Rattle.audit_rules.specs.Flaws.{Course, after_line, flaw_or, flaw_at_end, flaw_from}
use Rattle.audit_rules.specs.Flaws.Course.{Header, Body, Over}
use Rattle.audit_rules.proofs.ItemLines.{ended}

abbrev pub go_on : Result Course ℕ → (Course → Result Course ℕ) → Result Course ℕ
go_on (Err rule) next = Err rule
go_on (Ok course) next = next course

-- the course after these lines, or the first flaw in them
abbrev pub runs : Course → List (List ℕ) → Result Course ℕ
runs course [] = Ok course
runs course (t ∷ ts) = go_on (after_line course t) (λ after. runs after ts)

pub runs_append : (ts us : List (List ℕ)) (course : Course) → runs course (ts ++ us) ≡ go_on (runs course ts) (λ after. runs after us)
runs_append [] us course = refl
runs_append (t ∷ ts) us course = by_result (after_line course t) (runs_append ts us)
  where
    by_result : (r : Result Course ℕ) → ((c : Course) → runs c (ts ++ us) ≡ go_on (runs c ts) (λ after. runs after us))
        → go_on r (λ c. runs c (ts ++ us)) ≡ go_on (go_on r (λ c. runs c ts)) (λ c. runs c us)
    by_result (Err rule) more = refl
    by_result (Ok c) more = more c

-- ---- lines one after another

within : (n : ℕ) → n ≤ lines_limit → ltb lines_limit n ≡ false
within n le = grind (arith, nat_tests)

pub in_limit : (n : ℕ) → ltb lines_limit n ≡ false → n ≤ lines_limit
in_limit n l = grind (arith, nat_tests)

past_limit : (n : ℕ) → ltb lines_limit n ≡ true → lines_limit < n
past_limit n l = grind (arith, nat_tests)

-- whole lines that are taken
pub goes_by : (ts : List (List ℕ)) (n : ℕ) (course after : Course) (rest : List cut.Line) → n + length ts ≤ suc lines_limit → runs course ts ≡ Ok after → flaw_from n course (ended ts ++ rest) ≡ flaw_from (n + length ts) after rest
goes_by [] n course after rest le h =
    let same : course ≡ after = cc in
    let none : n ≡ n + 0 = omega arith in
    ap (λ (m : ℕ). flaw_from m course rest) none ∙ ap (λ (c : Course). flaw_from (n + 0) c rest) same
goes_by (t ∷ ts) n course after rest le h = by_result (after_line course t) refl h (λ c g. goes_by ts (n + 1) c after rest (omega (arith, le)) g)
  where
    number : n + 1 + length ts ≡ n + suc (length ts)
    number = omega arith

    by_result : (r : Result Course ℕ) → after_line course t ≡ r → go_on r (λ c. runs c ts) ≡ Ok after → ((c : Course) → runs c ts ≡ Ok after → flaw_from (n + 1) c (ended ts ++ rest) ≡ flaw_from (n + 1 + length ts) after rest)
        → flaw_from n course (ended_line t ∷ (ended ts ++ rest)) ≡ flaw_from (n + suc (length ts)) after rest
    by_result (Err rule) is g more = absurd cc
    by_result (Ok c) is g more = rw (within n (omega (arith, le)), is) (more c g ∙ ap (λ (m : ℕ). flaw_from m after rest) number)

pub line_is : (line : cut.Line) → line.ended ≡ true → line ≡ ended_line line.text
line_is line e = ap (λ (b : Bool). let l : cut.Line = record { text = line.text; ended = b } in l) e

-- ---- no flaw

pub record EndsWell (n : ℕ) (course : Course) (ls : List cut.Line) : Type 0 where
  pub front : List (List ℕ)
  pub whole : ls ≡ ended front
  pub within : n + length front ≤ suc lines_limit
  pub reached : runs course front ≡ Ok Over

pub ends_well : (ls : List cut.Line) (n : ℕ) (course : Course) → n ≤ suc lines_limit → flaw_from n course ls ≡ None → EndsWell n course ls
ends_well [] n course le h = at_end course h
  where
    at_end : (c : Course) → flaw_at_end n c ≡ None → EndsWell n c []
    at_end Over h = record { front = []; whole = refl; within = omega (arith, le); reached = refl }
    at_end _ h = absurd cc
ends_well (line ∷ rest) n course le h = by_tests (ltb lines_limit n) line.ended refl refl (after_line course line.text) refl h (λ low c g. ends_well rest (n + 1) c (omega (arith, low)) g)
  where
    by_tests : (late whole : Bool) → ltb lines_limit n ≡ late → line.ended ≡ whole → (r : Result Course ℕ) → after_line course line.text ≡ r
        → cond (late || not whole) (Some (n, 0)) (flaw_or n r (λ after. flaw_from (n + 1) after rest)) ≡ None
        → (n ≤ lines_limit → (c : Course) → flaw_from (n + 1) c rest ≡ None → EndsWell (n + 1) c rest) → EndsWell n course (line ∷ rest)
    by_tests true whole l e r is h more = absurd cc
    by_tests false false l e r is h more = absurd cc
    by_tests false true l e (Err rule) is h more = absurd cc
    by_tests false true l e (Ok c) is h more =
        let s = more (in_limit n l) c h in
        record {
          front = line.text ∷ s.front;
          whole = ap (λ (x : cut.Line). x ∷ rest) (line_is line e) ∙ ap (λ (xs : List cut.Line). ended_line line.text ∷ xs) s.whole;
          within = omega (arith, s.within);
          reached = rw is s.reached;
        }

-- ---- the first flaw

-- the course stops at the first of these lines, which is line n, with flaw k
abbrev pub StopsAt : Course → List cut.Line → ℕ → ℕ → Type 0
StopsAt course [] n k = (flaw_at_end n course ≡ Some (n, 0)) × (k ≡ 0)
StopsAt course (line ∷ rest) n k =
    ((lines_limit < n) × (k ≡ 0)) ⊎ ((n ≤ lines_limit) × (((line.ended ≡ false) × (k ≡ 0)) ⊎ ((line.ended ≡ true) × (after_line course line.text ≡ Err k))))

pub record Stops (n : ℕ) (course : Course) (ls : List cut.Line) (m k : ℕ) : Type 0 where
  pub front : List (List ℕ)
  pub rest : List cut.Line
  pub whole : ls ≡ ended front ++ rest
  pub number : m ≡ n + length front
  pub within : m ≤ suc lines_limit
  pub after : Course
  pub reached : runs course front ≡ Ok after
  pub stops : StopsAt after rest m k

abbrev number_in : Option (ℕ × ℕ) → ℕ
number_in None = 0
number_in (Some (n, k)) = n

abbrev rule_in : Option (ℕ × ℕ) → ℕ
rule_in None = 0
rule_in (Some (n, k)) = k

abbrev found : ℕ → ℕ → Option (ℕ × ℕ)
found n k = Some (n, k)

same_flaw : (n j m k : ℕ) → found n j ≡ found m k → (n ≡ m) × (j ≡ k)
same_flaw n j m k h = (ap number_in h, ap rule_in h)

-- it stops at the very first line
stops_here : (n : ℕ) (course : Course) (ls : List cut.Line) (m k : ℕ) → n ≡ m → n ≤ suc lines_limit → StopsAt course ls n k → Stops n course ls m k
stops_here n course ls m k same le why = record {
  front = [];
  rest = ls;
  whole = refl;
  number = omega (arith, same);
  within = omega (arith, same, le);
  after = course;
  reached = refl;
  stops = subst (λ (x : ℕ). StopsAt course ls x k) same why;
}

pub stops_from : (ls : List cut.Line) (n : ℕ) (course : Course) (m k : ℕ) → n ≤ suc lines_limit → flaw_from n course ls ≡ Some (m, k) → Stops n course ls m k
stops_from [] n course m k le h = at_end course h
  where
    at_end : (c : Course) → flaw_at_end n c ≡ Some (m, k) → Stops n c [] m k
    at_end Over h = absurd cc
    at_end Header h = let same = same_flaw n 0 m k h in stops_here n Header [] m k same.0 le (refl, sym same.1)
    at_end (Body before rows) h = let same = same_flaw n 0 m k h in stops_here n (Body before rows) [] m k same.0 le (refl, sym same.1)
stops_from (line ∷ rest) n course m k le h = by_tests (ltb lines_limit n) line.ended refl refl (after_line course line.text) refl h (λ low c g. stops_from rest (n + 1) c m k (omega (arith, low)) g)
  where
    by_tests : (late whole : Bool) → ltb lines_limit n ≡ late → line.ended ≡ whole → (r : Result Course ℕ) → after_line course line.text ≡ r
        → cond (late || not whole) (Some (n, 0)) (flaw_or n r (λ after. flaw_from (n + 1) after rest)) ≡ Some (m, k)
        → (n ≤ lines_limit → (c : Course) → flaw_from (n + 1) c rest ≡ Some (m, k) → Stops (n + 1) c rest m k) → Stops n course (line ∷ rest) m k
    by_tests true whole l e r is h more =
        let same = same_flaw n 0 m k h in
        stops_here n course (line ∷ rest) m k same.0 le (inl (past_limit n l, sym same.1))
    by_tests false false l e r is h more =
        let same = same_flaw n 0 m k h in
        stops_here n course (line ∷ rest) m k same.0 le (inr (in_limit n l, inl (e, sym same.1)))
    by_tests false true l e (Err rule) is h more =
        let same = same_flaw n rule m k h in
        stops_here n course (line ∷ rest) m k same.0 le (inr (in_limit n l, inr (e, is ∙ ap Err same.1)))
    by_tests false true l e (Ok c) is h more =
        let s = more (in_limit n l) c h in
        record {
          front = line.text ∷ s.front;
          rest = s.rest;
          whole = ap (λ (x : cut.Line). x ∷ rest) (line_is line e) ∙ ap (λ (xs : List cut.Line). ended_line line.text ∷ xs) s.whole;
          number = omega (arith, s.number);
          within = s.within;
          after = s.after;
          reached = rw is s.reached;
          stops = s.stops;
        }
