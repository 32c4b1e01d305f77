-- The story of the tests' machine: it waits for its listener and accepts in turn, and closes what it has accepted.
use Rattle.std.specs.Prelude.{ℕ, Bool, true, false, not, List, [], ◌∷◌, Option, Some, None}
use Rattle.tree_specs.specs.declared.event.Event.TheVariants as events
use Rattle.tree_specs.specs.declared.question.Ask.{Ask}
use Rattle.tree_specs.specs.declared.question.Ask.TheVariants as ask
use Rattle.tree_specs.specs.declared.question.Input.{Input}
use Rattle.tree_specs.specs.declared.question.Input.TheVariants as inputs
use Rattle.tree_specs.specs.declared.wants.Want.{Want}
use Rattle.machine_driver.specs.Driver.Kind.{Event as AnEvent}
use Rattle.service_rules.specs.Watching.{Shown}
use Rattle.serving.specs.Machines.{Course, question_shown}

abbrev pub listener : List Want
listener = record { fd = 0; flags = 1 } ∷ []

-- a wait where it is to wait, and else an accept
abbrev pub door_ask : Bool → Ask
door_ask true = ask.Wait 5
door_ask false = ask.Accept 0

-- no question is open while a descriptor is to be closed
abbrev pub door_question : Bool → Option ℕ → Option Ask
door_question waits None = Some (door_ask waits)
door_question waits (Some fd) = None

-- the descriptor that an answer to an accept has taken
abbrev pub taken_by : Input → Option ℕ
taken_by (inputs.Took fd) = Some fd
taken_by i = None

abbrev pub due_after : Bool → Input → Option ℕ
due_after true i = None
due_after false i = taken_by i

-- what is to be closed is closed first
abbrev pub closed_first : Option ℕ → List Shown → List Shown
closed_first None rest = rest
closed_first (Some fd) rest = AnEvent (events.Closed fd) ∷ rest

abbrev pub questions : Bool → List Input → List Shown
questions waits [] = question_shown (door_ask waits) listener ∷ []
questions waits (i ∷ is) = question_shown (door_ask waits) listener ∷ closed_first (due_after waits i) (questions (not waits) is)

-- it takes whatever it is given
abbrev pub door_course : Bool → Option ℕ → Course
door_course waits due = record {
  story = λ is. Some (closed_first due (questions waits is));
  strays = λ is. false;
}
