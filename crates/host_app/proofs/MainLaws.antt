-- What the top call writes, by what its parts wrote.
use Rattle.std.proofs.Common.{◌≡◌, ℕ, List, [], length, Option, Some, None, Result, Ok, Err, IfErr, OnOk, refl, sym, ◌∙◌, ap, subst, ◌⊎◌, inl, inr}
use Rattle.std.specs.Prelude.{IfSome}
use Rattle.std.proofs.KnownBytes.{Appends-nil}
use Rattle.service_rules.specs.Schedules.{judge}
use Rattle.schedule_versions.specs.Conversions.{converted, shape}
use Rattle.schedule_versions.specs.Judging.{IsJudgedAlike}
use Rattle.schedule_versions.proofs.Converting.{judged-as-before}
use Rattle.outside.specs.Causes.{Counts, Rose}
use Rattle.outside.specs.Outputs.{LeavesRoom, PutsAll}
use Rattle.outside.specs.declared.output.PutError.{PutError}
use Rattle.outside.specs.declared.output.PutError.TheVariants as put_errors
use Rattle.schedule_replay.specs.declared.ran.Ran.{Ran}
use Rattle.schedule_replay.specs.declared.ran.Ran.TheVariants as rans
use Rattle.schedule_replay.specs.Runs.{Replays, IsFrontOf}
use Rattle.schedule_replay.specs.Converts.{Converts, IsConverted}
use Rattle.schedule_replay.proofs.WholeLaws.{not-begun}
use Rattle.load_schedule.specs.Loads.{PutsFiveLines}
use Rattle.load_schedule.proofs.LoadLaws.{load-front}
use Rattle.command_words.specs.CommandLine.{Asked}
use Rattle.command_words.specs.CommandLine.Asked.{Load, Serve}
use Rattle.host_app.specs.declared.status.Status.{Status}
use Rattle.host_app.specs.declared.status.Status.TheVariants as statuses
use Rattle.serving.specs.declared.stop.Stop.{Stop}
use Rattle.serving.specs.declared.stop.Stop.TheVariants as stops
use Rattle.serving.specs.Stations.{Ends, ServesLines, StopsLines}
use Rattle.serving.proofs.LinesLaws.{no_service}
use Rattle.host_app.specs.Serves.{Serves}
use Rattle.host_app.specs.Statuses.{status_of, status_of_put, status_of_service}
use Rattle.host_app.specs.Audits.{WritesOrderlyFront}
use Rattle.host_app.specs.Mains.{ConvertsTo, Loads, Says}

-- without memory a replay has written a prefix
pub replay-front : (left read held now : Option (List ℕ)) (ran : Ran) (status : Status) → status ≡ status_of ran → IfSome left (λ bytes. Replays bytes read held now ran) → status ≡ statuses.NoMemory → IfSome left (λ bytes. IsFrontOf bytes held now)
replay-front None read held now ran status e r m = tt
replay-front (Some bytes) read held now rans.Memory status e r m = r
replay-front (Some bytes) read held now rans.Done status e r m = absurd (other (sym e))
  where
    other : statuses.Done ≡ status → ⊥
    other f = let g : statuses.Done ≡ statuses.NoMemory = subst (λ (s : Status). statuses.Done ≡ s) m f in cc
replay-front (Some bytes) read held now rans.ReadFault status e r m = let g : statuses.ReadFault ≡ statuses.NoMemory = subst (λ (s : Status). s ≡ statuses.NoMemory) e m in cc
replay-front (Some bytes) read held now (rans.BadSchedule line reason) status e r m = let g : statuses.BadSchedule line reason ≡ statuses.NoMemory = subst (λ (s : Status). s ≡ statuses.NoMemory) e m in cc
replay-front (Some bytes) read held now rans.WriteFault status e r m = let g : statuses.WriteFault ≡ statuses.NoMemory = subst (λ (s : Status). s ≡ statuses.NoMemory) e m in cc

-- what ends so where the bytes are of this kind and no fault was counted
abbrev Completes : (List ℕ → Type 0) → Option (List ℕ) → ℕ → ℕ → ℕ → ℕ → Type 0 → Type 0
Completes fit left reads reads_now writes writes_now ended = IfSome left (λ bytes. fit bytes → (Rose reads reads_now → ⊥) → (Rose writes writes_now → ⊥) → ended)

-- a replay is done or without memory, where no line is rejected
abbrev pub Accepted : List ℕ → Type 0
Accepted bytes = judge bytes ≡ None

pub run-complete : (fit : List ℕ → Type 0) (left : Option (List ℕ)) (reads reads_now writes writes_now : ℕ) (ran : Ran) (status : Status) → status ≡ status_of ran
    → Completes fit left reads reads_now writes writes_now ((ran ≡ rans.Done) ⊎ (ran ≡ rans.Memory)) → Completes fit left reads reads_now writes writes_now ((status ≡ statuses.Done) ⊎ (status ≡ statuses.NoMemory))
run-complete fit None reads reads_now writes writes_now ran status e h = tt
run-complete fit (Some bytes) reads reads_now writes writes_now ran status e h = λ judged read wrote. elim (h judged read wrote) [
  | inl d ↦ inl (e ∙ ap status_of d)
  | inr m ↦ inr (e ∙ ap status_of m)
]

pub memory-complete : (fit : List ℕ → Type 0) (left : Option (List ℕ)) (reads reads_now writes writes_now : ℕ) (status : Status) → status ≡ statuses.NoMemory
    → Completes fit left reads reads_now writes writes_now ((status ≡ statuses.Done) ⊎ (status ≡ statuses.NoMemory))
memory-complete fit None reads reads_now writes writes_now status e = tt
memory-complete fit (Some bytes) reads reads_now writes writes_now status e = λ judged read wrote. inr e

-- a conversion is done or without memory, where no line is over a limit and each is in the grammar
abbrev pub Shaped : List ℕ → Type 0
Shaped bytes = shape bytes ≡ None

pub converts-by : (left read held now : Option (List ℕ)) (ran : Ran) (status : Status) → status ≡ status_of ran → IfSome left (λ bytes. Converts bytes read held now ran) → IfSome left (λ bytes. ConvertsTo bytes read held now status)
converts-by None read held now ran status e c = tt
converts-by (Some bytes) read held now rans.Done status e c = rw e c
converts-by (Some bytes) read held now rans.ReadFault status e c = rw e c
converts-by (Some bytes) read held now (rans.BadSchedule line reason) status e c = rw e c
converts-by (Some bytes) read held now rans.WriteFault status e c = rw e c
converts-by (Some bytes) read held now rans.Memory status e c = rw e c

-- what was converted whole is judged as before
pub converts-same : (left read held now : Option (List ℕ)) (status : Status) → IfSome left (λ bytes. ConvertsTo bytes read held now status) → status ≡ statuses.Done → IfSome left (λ bytes. IsJudgedAlike bytes (converted bytes))
converts-same None read held now status c done = tt
converts-same (Some bytes) read held now status c done =
    let all : IsConverted bytes read held now = subst (λ (s : Status). ConvertsTo bytes read held now s) done c in
    judged-as-before bytes all.accepted

-- there was no memory to read the words
pub converts-none : (left read held now : Option (List ℕ)) (status : Status) → now ≡ held → status ≡ statuses.NoMemory → IfSome left (λ bytes. ConvertsTo bytes read held now status)
converts-none None read held now status kept e = tt
converts-none (Some bytes) read held now status kept e = rw (e, kept) (record { front = []; rest = converted bytes; text = refl; put = Appends-nil held })

-- a text that was put was said, in whole or in part
pub says-by : (held now : Option (List ℕ)) (room room_now : Option ℕ) (faults faults_now : ℕ) (r : Result (Unit {0}) PutError) (text : List ℕ) → PutsAll held now r text → Counts faults faults_now (r ≡ Err put_errors.Write)
    → LeavesRoom room room_now r (length text) → Says held now room faults faults_now text
says-by held now room room_now faults faults_now (Ok done) text p c l = inl p
says-by held now room room_now faults faults_now (Err put_errors.Write) text p c l = inr (record { count = p.0; put = p.1; cause = inl (c.counted refl) })
says-by held now room room_now faults faults_now (Err put_errors.Memory) text p c l = inr (record { count = p.0; put = p.1; cause = inr l })

-- where nothing was written that is a prefix
pub kept-front : (left held now : Option (List ℕ)) → now ≡ held → IfSome left (λ bytes. IsFrontOf bytes held now)
kept-front left held now e = subst (λ (h : Option (List ℕ)). IfSome left (λ bytes. IsFrontOf bytes held h)) (sym e) (not-begun left held)

pub loads-by : (number count : ℕ) (held now : Option (List ℕ)) (r : Result (Unit {0}) PutError) (status : Status) → status ≡ status_of_put r → PutsFiveLines number count held now r → Loads number count held now status
loads-by number count held now (Ok done) status e p = rw e p
loads-by number count held now (Err put_errors.Write) status e p = rw e p
loads-by number count held now (Err put_errors.Memory) status e p = rw e p

-- of two names for the same words
pub same-load : (m n k l : ℕ) → Some (Load m n) ≡ Some (Load k l) → (m ≡ k) × (n ≡ l)
same-load m n k l e = (cc, cc)

pub loads-same : (m n k l : ℕ) (held now : Option (List ℕ)) (status : Status) → Some (Load m n) ≡ Some (Load k l) → Loads m n held now status → Loads k l held now status
loads-same m n k l held now status e h = let s = same-load m n k l e in subst (λ (a : ℕ). Loads a l held now status) s.0 (subst (λ (b : ℕ). Loads m b held now status) s.1 h)

-- the same words don't ask for two things
pub asked-once : {A : Type 0} (c d e : Option Asked) → c ≡ d → c ≡ e → (d ≡ e → ⊥) → A
asked-once c d e is named apart = absurd (apart (sym is ∙ named))

pub load-none : (number count : ℕ) (held now : Option (List ℕ)) (status : Status) → now ≡ held → status ≡ statuses.NoMemory → Loads number count held now status
load-none number count held now status e m = rw (m, e) (load-front number count held)

-- ---- the audit

-- of which nothing was written
pub audit-none : (left held now : Option (List ℕ)) → now ≡ held → IfSome left (λ bytes. (now ≡ held) ⊎ WritesOrderlyFront bytes held now)
audit-none None held now e = tt
audit-none (Some bytes) held now e = inl e

-- ---- the service of lines

pub serves-by : (path : List ℕ) (answers : ℕ) (r : Result (Unit {0}) Stop) (status : Status) (before after : Ends) → status ≡ status_of_service r → OnOk r (ServesLines path answers before after)
    → IfErr r (λ why. StopsLines path answers why before after) → Serves path answers status before after
serves-by path answers (Ok done) status before after e ok err = rw e ok
serves-by path answers (Err stops.Write) status before after e ok err = rw e err
serves-by path answers (Err stops.Link) status before after e ok err = rw e err
serves-by path answers (Err stops.Memory) status before after e ok err = rw e err

-- of two names for the same words
same-serve : (p q : List ℕ) (m n : ℕ) → Some (Serve p m) ≡ Some (Serve q n) → (p ≡ q) × (m ≡ n)
same-serve p q m n e = (cc, cc)

pub serves-same : (p q : List ℕ) (m n : ℕ) (status : Status) (before after : Ends) → Some (Serve p m) ≡ Some (Serve q n) → Serves p m status before after → Serves q n status before after
serves-same p q m n status before after e h =
    let s = same-serve p q m n e in
    subst (λ (path : List ℕ). Serves path n status before after) s.0 (subst (λ (answers : ℕ). Serves p answers status before after) s.1 h)

-- there was no memory to read the words
pub serves-none : (path : List ℕ) (answers : ℕ) (status : Status) (e : Ends) → status ≡ statuses.NoMemory → Serves path answers status e e
serves-none path answers status e is = rw is (no_service path answers e)
