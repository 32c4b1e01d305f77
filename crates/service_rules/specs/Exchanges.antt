-- What a story has to do with the outside: its questions with their answers, and what it closes.
use Rattle.std.specs.Prelude.{◌≡◌, ℕ, Bool, true, not, ◌==◌, ◌&&◌, ◌||◌, List, [], ◌∷◌, ◌++◌, Some, None, IsTrue, ⊤}
use Rattle.machine_driver.specs.Driver.Kind.{Event as AnEvent, Question as AQuestion}
use Rattle.tree_specs.specs.declared.event.Event.{Event}
use Rattle.tree_specs.specs.declared.event.Event.TheVariants as events
use Rattle.tree_specs.specs.declared.question.Ask.{Ask}
use Rattle.tree_specs.specs.declared.question.Input.{Input}
use Rattle.tree_specs.specs.declared.question.Input.TheVariants as input
use Rattle.tree_specs.specs.declared.wants.Want.{Want}
use Rattle.tree_specs.specs.Texts.Schedule.{misfit}
use Rattle.tree_specs.specs.Words.Ranges.{is_sound}
use Rattle.service_rules.specs.Watching.{Shown}

-- what the outside has to do with an item
pub data Exchange : Type 0 where
  -- a question, with what was watched then, and its answer
  Answered : Ask → List Want → Input → Exchange
  -- this descriptor was closed
  Closed : ℕ → Exchange

-- what an event closes
abbrev pub closing : Event → List Exchange
closing (events.Closed fd) = Closed fd ∷ []
closing e = []

-- an item with the answers that still come, and the exchanges after it; a question without an answer is the end
abbrev pub exchange : Shown → List Input → (List Input → List Exchange) → List Exchange
exchange (AnEvent e) is later = closing e ++ later is
exchange (AQuestion q) [] later = []
exchange (AQuestion q) (i ∷ is) later = Answered q.ask q.wanted i ∷ later is

-- the questions with these answers, as far as there are any, and what is closed between them
abbrev pub exchanges : List Shown → List Input → List Exchange
exchanges [] is = []
exchanges (s ∷ ss) is = exchange s is (λ more. exchanges ss more)

-- ---- answers that suit their questions

-- the answer has its ranges, and fits the question
pub record Suits (q : Ask) (i : Input) : Type 0 where
  pub sound : IsTrue (is_sound i)
  pub fits : misfit (Some q) i ≡ None

abbrev pub AllSuit : List Exchange → Type 0
AllSuit [] = ⊤
AllSuit (Answered q wanted i ∷ es) = Suits q i × AllSuit es
AllSuit (Closed fd ∷ es) = AllSuit es

-- ---- descriptors that are accepted

-- what is open after this one was opened, and after it was closed
abbrev pub with_open : ℕ → (ℕ → Bool) → ℕ → Bool
with_open opened before fd = (fd == opened) || before fd

abbrev pub without_open : ℕ → (ℕ → Bool) → ℕ → Bool
without_open closed before fd = not (fd == closed) && before fd

-- Each descriptor that is accepted isn't open then, where these are open at the beginning, and each that is closed isn't afterwards.
abbrev pub accepts_new : (ℕ → Bool) → List Exchange → Bool
accepts_new open_now [] = true
accepts_new open_now (Closed fd ∷ es) = accepts_new (without_open fd open_now) es
accepts_new open_now (Answered q wanted (input.Took fd) ∷ es) = not (open_now fd) && accepts_new (with_open fd open_now) es
accepts_new open_now (Answered q wanted i ∷ es) = accepts_new open_now es
