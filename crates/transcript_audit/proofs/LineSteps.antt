-- An audit takes a line, or ends there.
use std.Path.{fun_ext}
use Rattle.std.proofs.Common.{◌≡◌, ◌≢◌, ℕ, zero, suc, ◌+◌, ◌<◌, ◌≤◌, Bool, true, false, cond, ltb, ◌||◌, not, List, ◌∷◌, length, Option, Some, None, Result, Ok, Err, refl, sym, ap, arith}
use Rattle.std.specs.Str.{bytes_eq}
use Rattle.std.proofs.lemmas.Bool.Decides.{nat_tests}
use Rattle.std.proofs.lemmas.Slice.Eq.{bytes_eq-Decides}
use Rattle.tree_specs.specs.declared.object.Obj.{Obj}
use Rattle.tree_specs.specs.Texts.Lines.{Line, is_over_limit, line_limit, lines_limit}
use Rattle.line_pieces.specs.Cuts.{ended_line}
use Rattle.line_pieces.specs.Takings.{last_lines}
use Rattle.transcript_lines.specs.declared.said.Fact.{Fact}
use Rattle.transcript_lines.proofs.Lengths.{too_long}
use Rattle.audit_rules.specs.Flaws.{transcript_header, verdict_by}
use Rattle.audit_rules.specs.Flaws.Verdict.{Orderly, Broken}
use Rattle.transcript_audit.specs.declared.course.Audit.{Audit}
use Rattle.transcript_audit.specs.declared.stage.Stage.{Stage}
use Rattle.transcript_audit.specs.declared.stage.Stage.TheVariants.{Header, Body, Over}
use Rattle.transcript_audit.specs.declared.stop.Stop.{Stop}
use Rattle.transcript_audit.specs.declared.stop.Stop.TheVariants as stop
use Rattle.transcript_audit.specs.Kept.{seen_after}
use Rattle.transcript_audit.specs.Courses.{Kept, noted, behind_rows, at_line, kept_after, flaw_or, flaw_at_end, flaw_by}
use Rattle.transcript_audit.specs.Audits.{seen_of, nothing_seen, Notes, kept_of, fresh, Goes, comes, StopsWith}

-- ---- what is kept

pub begins : (a : Audit) → a.stage ≡ Header → a.rows ≡ 0 → ((x : Obj) → seen_of a.books x ≡ nothing_seen) → a.books.refused ≡ None → kept_of a ≡ fresh
begins a stage rows seen refused =
    let same : seen_of a.books ≡ (λ (x : Obj). nothing_seen) = fun_ext seen in
    rw (stage, rows, same, refused) refl

pub kept_noted : (a b : Audit) (fact : Fact) → Notes a.books fact b.books → b.stage ≡ a.stage → b.rows ≡ a.rows → kept_of b ≡ noted (kept_of a) fact
kept_noted a b fact n stage rows =
    let same : seen_of b.books ≡ (λ (x : Obj). seen_after fact x (seen_of a.books x)) = fun_ext n.seen in
    rw (stage, rows, same, n.refused) refl

pub behind_none : (n : ℕ) (next : Result Kept ℕ) → n ≡ 0 → behind_rows n next ≡ next
behind_none zero next h = refl
behind_none (suc n) next h = absurd (omega (arith, h))

pub behind_some : (n : ℕ) (next : Result Kept ℕ) → n ≢ 0 → behind_rows n next ≡ Err 0
behind_some zero next h = absurd (h refl)
behind_some (suc n) next h = refl

-- ---- a line

in-time : (n : ℕ) → n ≤ lines_limit → ltb lines_limit n ≡ false
in-time n le = grind (arith, nat_tests)

pub line_goes : (a b new : Audit) (n : ℕ) (text : List ℕ) → n ≤ lines_limit → Goes (kept_after (kept_of a) text) n b (Ok tt) → kept_of new ≡ kept_of b → new.lines ≡ a.lines + 1
    → (rest : List Line) → comes a n (ended_line text ∷ rest) ≡ comes new (n + 1) rest
line_goes a b new n text le goes kept lines rest =
    let count : a.lines + suc (length rest) ≡ new.lines + length rest = omega (arith, lines) in
    rw (in-time n le, goes, sym kept) (ap (λ (m : ℕ). verdict_by m (flaw_by (n + 1) (kept_of new) rest)) count)

pub line_stops : (a b : Audit) (n : ℕ) (text : List ℕ) (e : Stop) → n ≤ lines_limit → Goes (kept_after (kept_of a) text) n b (Err e) → (rest : List Line) → StopsWith e (comes a n (ended_line text ∷ rest))
line_stops a b n text (stop.Broken line rule) le (at, is) rest = rw (in-time n le, is, at) refl
line_stops a b n text stop.Memory le h rest = tt
line_stops a b n text stop.Read le h rest = h

-- ---- a line over a limit

-- the header is short
no_header : (text : List ℕ) → line_limit < length text → bytes_eq text transcript_header ≡ false
no_header text long = by_test (bytes_eq text transcript_header) refl
  where
    by_test : (b : Bool) → bytes_eq text transcript_header ≡ b → b ≡ false
    by_test true e = (let same = ap length ((bytes_eq-Decides text transcript_header).0 e) in absurd (omega (arith, same, long)))
    by_test false e = refl

-- no line is so long
no_line : (stage : Stage) (k : Kept) (text : List ℕ) → line_limit < length text → at_line stage k text ≡ Err 0
no_line Header k text long = rw (no_header text long) refl
no_line Body k text long = rw (too_long text long) refl
no_line Over k text long = refl

or_true : (b : Bool) → (b || true) ≡ true
or_true true = refl
or_true false = refl

abbrev first_flaw : ℕ → Kept → Bool → Result Kept ℕ → (Kept → Option (ℕ × ℕ)) → Option (ℕ × ℕ)
first_flaw n k late next rest = cond late (Some (n, 0)) (flaw_or n next rest)

either_way : (n : ℕ) (k : Kept) (late : Bool) (rest : Kept → Option (ℕ × ℕ)) → first_flaw n k late (Err 0) rest ≡ Some (n, 0)
either_way n k true rest = refl
either_way n k false rest = refl

is_longer : (a b : ℕ) → ltb a b ≡ true → a < b
is_longer a b h = grind (arith, nat_tests)

pub over_limit : (a : Audit) (n : ℕ) (line : Line) (rest : List Line) → is_over_limit n line ≡ true → comes a n (line ∷ rest) ≡ Broken n 0
over_limit a n line rest over = by_tests (ltb line_limit (length line.text)) (ltb lines_limit n) refl refl over
  where
    count : ℕ
    count = a.lines + length (line ∷ rest)

    by_tests : (long late : Bool) → ltb line_limit (length line.text) ≡ long → ltb lines_limit n ≡ late → (long || late) ≡ true → comes a n (line ∷ rest) ≡ Broken n 0
    by_tests long true l e over = rw e refl
    by_tests true false l e over = rw (no_line a.stage (kept_of a) line.text (is_longer line_limit (length line.text) l)) (ap (verdict_by (a.lines + suc (length rest))) (either_way n (kept_of a) (ltb lines_limit n || not line.ended) (λ after. flaw_by (n + 1) after rest)))
    by_tests false false l e over = absurd cc

-- ---- the end

-- the last line has no LF
pub cut_short : (a : Audit) (n : ℕ) (text : List ℕ) → comes a n (last_lines true text) ≡ Broken n 0
cut_short a n text = rw (or_true (ltb lines_limit n)) refl

-- a line is missing
pub missing : (a : Audit) (n : ℕ) (text : List ℕ) → a.stage ≢ Over → comes a n (last_lines false text) ≡ Broken n 0
missing a n text h = ap (verdict_by (a.lines + 0)) (by_stage a.stage h)
  where
    by_stage : (stage : Stage) → stage ≢ Over → flaw_at_end n stage ≡ Some (n, 0)
    by_stage Header h = refl
    by_stage Body h = refl
    by_stage Over h = absurd (h refl)

pub whole : (a : Audit) (n : ℕ) (text : List ℕ) → a.stage ≡ Over → comes a n (last_lines false text) ≡ Orderly a.lines
whole a n text h = let count : a.lines + 0 ≡ a.lines = omega arith in rw h (ap Orderly count)
