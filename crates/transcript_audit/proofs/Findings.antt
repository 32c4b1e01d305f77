-- What is so of the bytes of a transcript, by what its audit answered.
use Rattle.std.proofs.Common.{◌≡◌, ◌⊎◌, ℕ, List, length, Option, Some, None, Result, Ok, Err, refl, subst, inl, inr}
use Rattle.std.specs.Prelude.{IfSome}
use Rattle.outside.specs.Causes.{Rose}
use Rattle.tree_specs.specs.Texts.Lines.{lines}
use Rattle.audit_rules.specs.Flaws.{flaw, verdict_by}
use Rattle.audit_rules.specs.Flaws.Verdict.{Orderly, Broken}
use Rattle.audit_rules.proofs.FirstFlaw.{first_flaw}
use Rattle.audit_rules.proofs.Whole.{flawless_is_orderly}
use Rattle.transcript_audit.specs.declared.stop.Stop.{Stop}
use Rattle.transcript_audit.specs.declared.stop.Stop.TheVariants as stop
use Rattle.transcript_audit.specs.declared.audited.Audited.{Audited}
use Rattle.transcript_audit.specs.declared.audited.Audited.TheVariants as audited
use Rattle.transcript_audit.specs.Outcomes.{audited_of, Finds, HasFlaw, IsOrderlyTranscript}

-- what is called orderly has no flaw
no_flaw : (count lines : ℕ) (found : Option (ℕ × ℕ)) → verdict_by count found ≡ Orderly lines → found ≡ None
no_flaw count lines None e = refl
no_flaw count lines (Some (line, rule)) e = absurd cc

-- what is called broken has this one
this_flaw : (count line rule : ℕ) (found : Option (ℕ × ℕ)) → verdict_by count found ≡ Broken line rule → found ≡ Some (line, rule)
this_flaw count line rule None e = absurd cc
this_flaw count line rule (Some (n, k)) e = cc

-- an answer other than a fault or want of memory says so of the bytes, where these are known
pub orderly_by : (left : Option (List ℕ)) (answer : Audited) (count : ℕ) → answer ≡ audited.Orderly count
    → IfSome left (λ bytes. Finds bytes answer) → IfSome left (λ bytes. IsOrderlyTranscript bytes count)
orderly_by None answer count is h = tt
orderly_by (Some bytes) answer count is h =
    let found = subst (λ (a : Audited). Finds bytes a) is h in
    record { found = found; story = (flawless_is_orderly bytes).0 (no_flaw (length (lines bytes)) count (flaw bytes) found) }

pub broken_by : (left : Option (List ℕ)) (answer : Audited) (line rule : ℕ) → answer ≡ audited.Broken line rule
    → IfSome left (λ bytes. Finds bytes answer) → IfSome left (λ bytes. HasFlaw bytes line rule)
broken_by None answer line rule is h = tt
broken_by (Some bytes) answer line rule is h =
    let found = subst (λ (a : Audited). Finds bytes a) is h in
    record { found = found; first = first_flaw bytes line rule (this_flaw (length (lines bytes)) line rule (flaw bytes) found) }

-- bytes without a flaw get that answer, unless a read failed or memory ran out
without_flaw : (bytes : List ℕ) (answer : Audited) → flaw bytes ≡ None → (answer ≡ audited.ReadFault → ⊥)
    → Finds bytes answer → (answer ≡ audited.Orderly (length (lines bytes))) ⊎ (answer ≡ audited.Memory)
without_flaw bytes (audited.Orderly count) none read h = let e : Orderly (length (lines bytes)) ≡ Orderly count = rw none at h in inl cc
without_flaw bytes (audited.Broken line rule) none read h = let e : Orderly (length (lines bytes)) ≡ Broken line rule = rw none at h in absurd cc
without_flaw bytes audited.ReadFault none read h = absurd (read refl)
without_flaw bytes audited.Memory none read h = inr refl

-- only a failed read is called one
pub read_only : (outcome : Result ℕ Stop) → audited_of outcome ≡ audited.ReadFault → outcome ≡ Err stop.Read
read_only (Ok count) e = absurd cc
read_only (Err (stop.Broken line rule)) e = absurd cc
read_only (Err stop.Read) e = refl
read_only (Err stop.Memory) e = absurd cc

pub complete_by : (left : Option (List ℕ)) (answer : Audited) (faults faults_now : ℕ) → (answer ≡ audited.ReadFault → Rose faults faults_now)
    → IfSome left (λ bytes. Finds bytes answer) → IfSome left (λ bytes. flaw bytes ≡ None → (Rose faults faults_now → ⊥)
    → (answer ≡ audited.Orderly (length (lines bytes))) ⊎ (answer ≡ audited.Memory))
complete_by None answer faults faults_now counted h = tt
complete_by (Some bytes) answer faults faults_now counted h = λ none steady. without_flaw bytes answer none (λ fault. steady (counted fault)) h
