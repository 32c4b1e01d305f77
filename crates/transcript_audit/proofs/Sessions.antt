-- Auditing what a source gives, piece by piece.
use Rattle.std.proofs.Common.{◌≡◌, ℕ, ◌+◌, List, [], ◌++◌, length, Option, Some, None, Result, Ok, Err, sym, ap, ◌∙◌, append_assoc, arith}
use Rattle.std.specs.Prelude.{IfSome}
use Rattle.std.specs.Io.KnownBytes.{Consumes, IsAtEnd}
use Rattle.std.proofs.KnownBytes.{Consumes-nil, Consumes-trans}
use Rattle.std.proofs.lemmas.List.{append-nil}
use Rattle.tree_specs.specs.Texts.Lines.{lines}
use Rattle.line_pieces.specs.Readings.{Reading, from_line, found_now, Takes}
use Rattle.audit_rules.specs.Flaws.{Verdict, verdict, verdict_by}
use Rattle.transcript_audit.specs.declared.course.Audit.{Audit}
use Rattle.transcript_audit.specs.declared.stop.Stop.{Stop}
use Rattle.transcript_audit.specs.declared.stop.Stop.TheVariants as stop
use Rattle.transcript_audit.specs.Courses.{Kept, flaw_by}
use Rattle.transcript_audit.specs.Audits.{kept_of, fresh, comes, StopsWith, stops}
use Rattle.transcript_audit.specs.Outcomes.{audited_of, Finds}
use Rattle.transcript_audit.specs.Passes.{IsFresh, PassesEnd}
use Rattle.transcript_audit.proofs.Going.{verdict_is}

-- so much was read, and the whole lines of it were taken
pub record SoFar (left left_now : Option (List ℕ)) (t : Reading Audit) : Type 0 where
  pub taken : List ℕ
  pub read : Consumes left left_now taken
  pub whole : List ℕ
  pub cut : taken ≡ whole ++ t.line
  pub goes_on : (bytes : List ℕ) → verdict (whole ++ bytes) ≡ from_line comes t bytes

fresh-comes : (a : Audit) (bytes : List ℕ) → kept_of a ≡ fresh → a.lines ≡ 0 → verdict bytes ≡ comes a 1 (lines bytes)
fresh-comes a bytes kept none =
    let count : length (lines bytes) ≡ a.lines + length (lines bytes) = omega (arith, none) in
    verdict_is bytes ∙ ap (λ (n : ℕ). verdict_by n (flaw_by 1 fresh (lines bytes))) count ∙ ap (λ (k : Kept). verdict_by (a.lines + length (lines bytes)) (flaw_by 1 k (lines bytes))) (sym kept)

pub so-far-none : (left : Option (List ℕ)) (t : Reading Audit) → IsFresh t → SoFar left left t
so-far-none left t f = record {
  taken = [];
  read = Consumes-nil left;
  whole = [];
  cut = sym (ap (λ (r : Reading Audit). r.line) f.3);
  goes_on = λ bytes. fresh-comes f.0 bytes f.1 f.2 ∙ ap (λ (r : Reading Audit). from_line comes r bytes) (sym f.3);
}

pub so-far-more : (l0 l1 l2 : Option (List ℕ)) (t u : Reading Audit) (piece : List ℕ) → SoFar l0 l1 t → Consumes l1 l2 piece → Takes comes stops t piece u (Ok tt) → SoFar l0 l2 u
so-far-more l0 l1 l2 t u piece s c a = record {
  taken = s.taken ++ piece;
  read = Consumes-trans l0 l1 l2 s.taken piece s.read c;
  whole = s.whole ++ a.whole;
  cut = ap (λ (l : List ℕ). l ++ piece) s.cut ∙ append_assoc s.whole t.line piece ∙ ap (λ (l : List ℕ). s.whole ++ l) a.cut ∙ sym (append_assoc s.whole a.whole u.line);
  goes_on = λ bytes. ap verdict (append_assoc s.whole a.whole bytes) ∙ s.goes_on (a.whole ++ bytes) ∙ a.goes_on bytes;
}

-- what is to be said of all bytes
all-found : (l0 l1 : Option (List ℕ)) (t : Reading Audit) (s : SoFar l0 l1 t) (more : List ℕ) → verdict (s.taken ++ more) ≡ from_line comes t (t.line ++ more)
all-found l0 l1 t s more = ap (λ (l : List ℕ). verdict (l ++ more)) s.cut ∙ ap verdict (append_assoc s.whole t.line more) ∙ s.goes_on (t.line ++ more)

by-error : (all : List ℕ) (e : Stop) (found : Verdict) → verdict all ≡ found → StopsWith e found → Finds all (audited_of (Err e))
by-error all (stop.Broken line rule) found same h = same ∙ h
by-error all stop.Memory found same h = tt
by-error all stop.Read found same h = absurd h

pub so-far-error : (l0 l1 l2 : Option (List ℕ)) (t u : Reading Audit) (piece : List ℕ) (e : Stop) → SoFar l0 l1 t → Consumes l1 l2 piece → Takes comes stops t piece u (Err e) → IfSome l0 (λ bytes. Finds bytes (audited_of (Err e)))
so-far-error None l1 l2 t u piece e s c h = tt
so-far-error (Some bytes) l1 l2 t u piece e s c h = by_rest l2 (Consumes-trans (Some bytes) l1 l2 s.taken piece s.read c)
  where
    by_rest : (l2 : Option (List ℕ)) → Consumes (Some bytes) l2 (s.taken ++ piece) → Finds bytes (audited_of (Err e))
    by_rest None c = absurd c
    by_rest (Some rest) c =
        by-error bytes e (from_line comes t (t.line ++ (piece ++ rest)))
        (ap verdict (c ∙ append_assoc s.taken piece rest) ∙ all-found (Some bytes) l1 t s (piece ++ rest)) (h rest)

by-end : (all : List ℕ) (r : Result ℕ Stop) (t : Reading Audit) → verdict all ≡ found_now comes t → PassesEnd t r → Finds all (audited_of r)
by-end all (Ok count) t same h = same ∙ h
by-end all (Err e) t same h = by-error all e (found_now comes t) same h

pub so-far-end : (l0 l1 : Option (List ℕ)) (t : Reading Audit) (r : Result ℕ Stop) → SoFar l0 l1 t → IsAtEnd l1 → PassesEnd t r → IfSome l0 (λ bytes. Finds bytes (audited_of r))
so-far-end None l1 t r s at_end p = tt
so-far-end (Some bytes) None t r s at_end p = absurd s.read
so-far-end (Some bytes) (Some rest) t r s at_end p =
    let same : bytes ≡ s.taken = s.read ∙ ap (λ (l : List ℕ). s.taken ++ l) at_end ∙ append-nil s.taken in
    by-end bytes r t (ap verdict same ∙ ap verdict s.cut ∙ s.goes_on t.line) p

-- after a fault nothing is said of the bytes
pub no-answer : (l0 : Option (List ℕ)) → IfSome l0 (λ bytes. Finds bytes (audited_of (Err stop.Read)))
no-answer None = tt
no-answer (Some bytes) = tt

-- no line makes a read fail
abbrev FailsBy : Stop → Stop → Type 0
FailsBy e f = (let r : Result ℕ Stop = Err e in r ≡ Err f)

pub no-read : (e : Stop) (found : Verdict) → StopsWith e found → FailsBy e stop.Read → ⊥
no-read (stop.Broken line rule) found h f = absurd cc
no-read stop.Memory found h f = absurd cc
no-read stop.Read found h f = absurd h

pub no-end : (r : Result ℕ Stop) (t : Reading Audit) → PassesEnd t r → r ≡ Err stop.Read → ⊥
no-end (Ok count) t h f = absurd cc
no-end (Err e) t h f = no-read e (found_now comes t) h f
