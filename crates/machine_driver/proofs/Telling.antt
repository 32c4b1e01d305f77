-- What has to be shown of a machine so that it can be driven: its stories are told step by step.
use Rattle.std.proofs.Common.{◌≡◌, ℕ, List, [], ◌∷◌, Option, Some, None}
use Rattle.step_machine.specs.Machine.{Move, Table, Outcome, tell, walk}
use Rattle.step_machine.specs.Machine.Move.{Done, Go, Emit, Wait, Call}
use Rattle.step_machine.specs.Machine.Outcome.{Ended, Waits, Stray, Short}
use Rattle.step_machine.proofs.Ends.{NotShort}
use Rattle.machine_driver.specs.Driver.{Story}

-- A story of each state of the machine, by its next step alone.
module _ {F A P I T : Type 0} (t : Table F A P I T) (Fine : F → List F → P → Type 0) (story : F → List F → P → Story I T) where
  -- this story goes on as that of the state
  abbrev pub GoesOn : Story I T → F → List F → P → Type 0
  GoesOn s f fs p = Fine f fs p × ((is : List I) → s is ≡ story f fs p is)

  -- an item first
  abbrev pub Tells : Story I T → T → F → List F → P → Type 0
  Tells s e f fs p = Fine f fs p × ((is : List I) → s is ≡ e ∷ story f fs p is)

  -- a question, which an input answers or doesn't
  abbrev pub TakesOr : Story I T → T → List F → P → I → Option F → Type 0
  TakesOr s q fs p i None = (is : List I) → s (i ∷ is) ≡ q ∷ []
  TakesOr s q fs p i (Some g) = Fine g fs p × ((is : List I) → s (i ∷ is) ≡ q ∷ story g fs p is)

  abbrev pub ToldBy : Story I T → Move F A P T → List F → Type 0
  ToldBy s (Done a p) [] = (is : List I) → s is ≡ []
  ToldBy s (Done a p) (g ∷ gs) = GoesOn s (t.resume g a) gs p
  ToldBy s (Go f p) fs = GoesOn s f fs p
  ToldBy s (Emit e f p) fs = Tells s e f fs p
  ToldBy s (Wait q f p) fs = (s [] ≡ q ∷ []) × ((i : I) → TakesOr s q fs p i (t.taken f p i))
  ToldBy s (Call g f p) fs = GoesOn s g (f ∷ fs) p

  -- and after some steps an end or a question comes
  pub record TellsStories : Type 0 where
    pub tells : (f : F) (fs : List F) (p : P) → Fine f fs p → ToldBy (story f fs p) (t.step f p) fs
    pub settles : (f : F) (fs : List F) (p : P) → Fine f fs p → (n : ℕ) × NotShort (walk t n f fs p [])

pub not-short-told : {A P I T : Type 0} (t : T) (o : Outcome A P I T) → NotShort (tell t o) → NotShort o
not-short-told t (Ended a p ts is) h = tt
not-short-told t (Waits ts) h = tt
not-short-told t (Stray ts) h = tt
not-short-told t Short h = h
