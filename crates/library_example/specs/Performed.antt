-- What a caller of the host does, told as a part of the story.
use Rattle.std.specs.Prelude.{◌≡◌, ◌⊎◌, ◌==◌, ℕ, if◌then◌else◌, List, [], ◌∷◌, ◌++◌, map, length, Option, Some, None}
use Rattle.tree_specs.specs.declared.event.Event.{Event}
use Rattle.tree_specs.specs.declared.call.Call.{Call as ACall}
use Rattle.tree_specs.specs.declared.question.Ask.{Ask}
use Rattle.tree_specs.specs.declared.question.Ask.TheVariants.{Routine}
use Rattle.tree_specs.specs.declared.question.Act.TheVariants.{Ret}
use Rattle.tree_specs.specs.declared.question.Input.{Input}
use Rattle.tree_specs.specs.declared.question.Input.TheVariants.{Call, Act}
use Rattle.tree_specs.specs.Rules.Items.{Item}
use Rattle.tree_specs.specs.Rules.Items.Item.{Told, Asked}
use Rattle.tree_specs.specs.Texts.Schedule.{misfit}
use Rattle.tree_specs.specs.Machine.View.{View, rest_of, question_of}
use Rattle.host_core.specs.Promises.{Waits}
use Rattle.library_example.specs.declared.TheConstants.{IN_USE}

-- what a destructor returns: that of an object in use refuses
abbrev pub returned_by : ℕ → ℕ
returned_by routine = if routine == IN_USE then 1 else 0

-- the answer to the open question, where a destructor is asked
abbrev pub answer_to : Option Ask → Option Input
answer_to (Some (Routine m)) = Some (Act (Ret (returned_by m.routine)))
answer_to q = None

abbrev pub with_answer : Option Input → List Input → List Input
with_answer None inputs = inputs
with_answer (Some i) inputs = i ∷ inputs

-- what the destructors that are asked among these items return
abbrev pub answers_in : List Item → List Input
answers_in [] = []
answers_in (Told e ∷ items) = answers_in items
answers_in (Asked q ∷ items) = with_answer (answer_to (Some q)) (answers_in items)

-- the events among these items
abbrev pub events_in : List Item → List Event
events_in [] = []
events_in (Told e ∷ items) = e ∷ events_in items
events_in (Asked q ∷ items) = events_in items

-- Further events are told, which are the next items of the story.
pub record Tells (old : View) (before : List Event) (new : View) (after : List Event) : Type 0 where
  pub events : List Event
  pub added : after ≡ before ++ events
  pub goes_on : (is : List Input) → rest_of old is ≡ map Told events ++ rest_of new is

-- The open question is answered, and the events up to the next one are told.
pub record Takes (old : View) (i : Input) (before : List Event) (new : View) (after : List Event) : Type 0 where
  pub question : Ask
  pub open_before : question_of old ≡ Some question
  pub fits : misfit (question_of old) i ≡ None
  pub events : List Event
  pub added : after ≡ before ++ events
  pub goes_on : (is : List Input) → rest_of old (i ∷ is) ≡ Asked question ∷ map Told events ++ rest_of new is
  pub waits : Waits new

-- A call is done, and these answers are given. Whatever inputs come later, the story begins with these items.
pub record Performs (old : View) (c : ACall) (most : ℕ) (before : List Event) (new : View) (after : List Event) : Type 0 where
  pub items : List Item
  pub goes_on : (is : List Input) → rest_of old (Call c ∷ answers_in items ++ is) ≡ items ++ rest_of new is
  pub told : after ≡ before ++ events_in items
  pub waits : Waits new
  -- it ends where no destructor is asked, or as many were answered as may be
  pub ended : (answer_to (question_of new) ≡ None) ⊎ (length (answers_in items) ≡ most)
