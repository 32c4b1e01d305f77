-- How an audit ends, by what was found and by how the put of its line ended.
use Rattle.std.proofs.Common.{◌≡◌, ℕ, List, Option, Some, None, Result, Ok, Err, refl, ◌⊎◌, inl, inr}
use Rattle.std.specs.Prelude.{IfSome}
use Rattle.outside.specs.Outputs.{PutsAll}
use Rattle.outside.specs.declared.output.PutError.{PutError}
use Rattle.outside.specs.declared.output.PutError.TheVariants as put_errors
use Rattle.outside.specs.Causes.{Rose}
use Rattle.audit_rules.specs.Flaws.{flaw}
use Rattle.audit_rules.specs.Flaws.Verdict.{Orderly, Broken}
use Rattle.transcript_audit.specs.declared.audited.Audited.{Audited}
use Rattle.transcript_audit.specs.declared.audited.Audited.TheVariants as audited
use Rattle.transcript_audit.specs.Outcomes.{Finds, IsOrderlyTranscript}
use Rattle.host_app.specs.declared.status.Status.TheVariants as statuses
use Rattle.host_app.specs.Audits.{orderly_text, WritesOrderly, WritesOrderlyFront}
use Rattle.host_app.specs.Statuses.{status_of_put}

pub writes-orderly : (left held now : Option (List ℕ)) (count : ℕ) (r : Result (Unit {0}) PutError) → IfSome left (λ bytes. IsOrderlyTranscript bytes count) → PutsAll held now r (orderly_text count)
    → status_of_put r ≡ statuses.Done → IfSome left (λ bytes. WritesOrderly bytes held now)
writes-orderly None held now count r orderly put done = tt
writes-orderly (Some bytes) held now count (Ok unit) orderly put done = record { count = count; orderly = orderly; line = put }
writes-orderly (Some bytes) held now count (Err put_errors.Write) orderly put done = absurd cc
writes-orderly (Some bytes) held now count (Err put_errors.Memory) orderly put done = absurd cc

-- at an error it is a prefix
pub writes-front : (left held now : Option (List ℕ)) (count : ℕ) (r : Result (Unit {0}) PutError) → IfSome left (λ bytes. IsOrderlyTranscript bytes count) → PutsAll held now r (orderly_text count)
    → (e : PutError) → r ≡ Err e → IfSome left (λ bytes. WritesOrderlyFront bytes held now)
writes-front None held now count r orderly put e is = tt
writes-front (Some bytes) held now count r orderly put e is =
    let front : PutsAll held now (Err e) (orderly_text count) = rw is at put in
    record { count = count; orderly = orderly; size = front.0; front = front.1 }

-- which error it was, by the status
pub write-error : (r : Result (Unit {0}) PutError) → status_of_put r ≡ statuses.WriteFault → r ≡ Err put_errors.Write
write-error (Ok unit) e = absurd cc
write-error (Err put_errors.Write) e = refl
write-error (Err put_errors.Memory) e = absurd cc

pub memory-error : (r : Result (Unit {0}) PutError) → status_of_put r ≡ statuses.NoMemory → r ≡ Err put_errors.Memory
memory-error (Ok unit) e = absurd cc
memory-error (Err put_errors.Write) e = absurd cc
memory-error (Err put_errors.Memory) e = refl

-- nothing was written, or that
pub or-front : (left held now : Option (List ℕ)) → IfSome left (λ bytes. WritesOrderlyFront bytes held now) → IfSome left (λ bytes. (now ≡ held) ⊎ WritesOrderlyFront bytes held now)
or-front None held now f = tt
or-front (Some bytes) held now f = inr f

-- ---- a flaw that is found

-- of bytes with a flaw an audit says which it is, unless a read failed or memory ran out
found-by : (bytes : List ℕ) (answer : Audited) (line rule : ℕ) → flaw bytes ≡ Some (line, rule) → (answer ≡ audited.ReadFault → ⊥) → Finds bytes answer → (answer ≡ audited.Broken line rule) ⊎ (answer ≡ audited.Memory)
found-by bytes (audited.Orderly count) line rule is read h = let e : Broken line rule ≡ Orderly count = rw is at h in absurd cc
found-by bytes (audited.Broken n k) line rule is read h = let e : Broken line rule ≡ Broken n k = rw is at h in inl cc
found-by bytes audited.ReadFault line rule is read h = absurd (read refl)
found-by bytes audited.Memory line rule is read h = inr refl

-- so it ends in a way that follows from these two
pub flaw-ends : (left : Option (List ℕ)) (answer : Audited) (faults faults_now : ℕ) (ended : ℕ → ℕ → Type 0) → (answer ≡ audited.ReadFault → Rose faults faults_now) → IfSome left (λ bytes. Finds bytes answer)
    → ((line rule : ℕ) → (answer ≡ audited.Broken line rule) ⊎ (answer ≡ audited.Memory) → ended line rule)
    → IfSome left (λ bytes. (line rule : ℕ) → flaw bytes ≡ Some (line, rule) → (Rose faults faults_now → ⊥) → ended line rule)
flaw-ends None answer faults faults_now ended counted h follows = tt
flaw-ends (Some bytes) answer faults faults_now ended counted h follows = λ line rule is steady. follows line rule (found-by bytes answer line rule is (λ fault. steady (counted fault)) h)

-- nothing was said of the bytes, as there was no memory
pub none-ends : (left : Option (List ℕ)) (faults faults_now : ℕ) (ended : ℕ → ℕ → Type 0) → ((line rule : ℕ) → ended line rule)
    → IfSome left (λ bytes. (line rule : ℕ) → flaw bytes ≡ Some (line, rule) → (Rose faults faults_now → ⊥) → ended line rule)
none-ends None faults faults_now ended all = tt
none-ends (Some bytes) faults faults_now ended all = λ line rule is steady. all line rule
