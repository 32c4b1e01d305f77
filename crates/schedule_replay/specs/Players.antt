-- What plays the lines of a schedule: P is its state, `plays p n ls` is what is played where these lines still come, the first with
-- number n, and `text_in p` is to be written next.
use Rattle.std.specs.Prelude.{◌≡◌, ℕ, List, []}
use Rattle.tree_specs.specs.Texts.Lines.{Line}
use Rattle.schedule_replay.specs.declared.stop.Stop.{Stop}
use Rattle.schedule_replay.specs.Replays.{Replayed, with_front, BeginsText, StopsWith, EndsWith}

abbrev pub stops : {P : Type 0} → (P → List ℕ) → Stop → P → Replayed → Type 0
stops text_in e p found = StopsWith e (text_in p) found

abbrev pub ends : {P : Type 0} → (P → List ℕ) → P → Replayed → Type 0
ends text_in p found = EndsWith (text_in p) found

-- what is to be written next begins all that is to be written
abbrev pub IsInFront : {P : Type 0} → (P → ℕ → List Line → Replayed) → (P → List ℕ) → P → Type 0
IsInFront plays text_in p = (n : ℕ) (ls : List Line) → BeginsText (text_in p) (plays p n ls).text

-- What was to be written is no more, and else all is as it was.
pub record IsEmptied {P : Type 0} (plays : P → ℕ → List Line → Replayed) (text_in : P → List ℕ) (ready : P → ℕ → Type 0) (s t : P) : Type 0 where
  pub empty : text_in t ≡ []
  pub goes_on : (n : ℕ) (ls : List Line) → plays s n ls ≡ with_front (text_in s) (plays t n ls)
  pub waits : (n : ℕ) → ready s n → ready t n
