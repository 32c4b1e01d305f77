-- What the single steps of a station do.
use Rattle.std.specs.Prelude.{◌≡◌, ℕ, suc, ◌+◌, Bool, true, false, nat_lt, List, [], ◌∷◌, Option, Some, None, Result, Ok, Err}
use Rattle.tree_specs.specs.declared.call.Call.{Call}
use Rattle.tree_specs.specs.declared.event.Event.{Event}
use Rattle.tree_specs.specs.declared.memory.Memory.{Memory}
use Rattle.tree_specs.specs.declared.question.Ask.{Ask}
use Rattle.tree_specs.specs.declared.question.Ask.TheVariants as ask
use Rattle.tree_specs.specs.declared.question.Input.{Input}
use Rattle.tree_specs.specs.declared.reply.Reply.{Reply}
use Rattle.tree_specs.specs.declared.object.Obj.{Obj}
use Rattle.tree_specs.specs.Tree.Pool.{Pool}
use Rattle.tree_specs.specs.Machine.View.{View, question_of, strays_of}
use Rattle.tree_stories.specs.Sights.{sights_of}
use Rattle.host_core.specs.Promises.{RepliesAtOnce, TakesAnswer, Waits}
use Rattle.service_rules.specs.declared.order.Order.{Order}
use Rattle.service_rules.specs.declared.order.Order.TheVariants as order
use Rattle.service_rules.specs.declared.task.Task.{Task}
use Rattle.service_rules.specs.Knowledge.{resting_call}
use Rattle.service_rules.specs.Knowledge.Setup.{Nothing, Unwatched}
use Rattle.service_rules.specs.Naming.{stranger_in}
use Rattle.service_rules.specs.Service.{first_of_outside}
use Rattle.service_rules.specs.Stations.{StationView, Shows, IsAsked, outside_question}
use Rattle.line_service.specs.declared.answerer.Answerer.{Answerer}
use Rattle.line_service.specs.declared.answerer.Answerer.TheVariants as answerer
use Rattle.line_service.specs.declared.runs.Change.{Change}
use Rattle.line_service.specs.declared.telling.Step.{Step}
use Rattle.line_service.specs.declared.telling.Step.TheVariants as step
use Rattle.line_service.specs.Runs.{change_of}

-- one of the service's own routines is asked
abbrev pub is_own : Option Ask → Bool
is_own (Some (ask.Routine m)) = nat_lt m.routine first_of_outside
is_own q = false

-- something is due where one of them is asked, and nowhere else
abbrev pub may_be_due : Option Task → Option Ask → Bool
may_be_due None q = true
may_be_due (Some t) q = is_own q

-- who answers a question
abbrev pub routine_answerer : Bool → Answerer
routine_answerer true = answerer.Own
routine_answerer false = answerer.Outside

abbrev pub answerer_of : Ask → Answerer
answerer_of ask.Quiet = answerer.Loop
answerer_of (ask.Routine m) = routine_answerer (nat_lt m.routine first_of_outside)
answerer_of q = answerer.Outside

-- an answer was given to the host, one of those that are left
pub record Gives (old : View) (n : ℕ) (i : Input) (new : View) (m : ℕ) : Type 0 where
  pub counted : n ≡ suc m
  pub taken : TakesAnswer old i new

-- a call that sets the service up was done, and replied to at once
pub record SetsUp (old : View) (c : Call) (new : View) : Type 0 where
  pub asked : question_of old ≡ Some ask.Quiet
  pub reply : Reply
  pub done : RepliesAtOnce old c reply new

-- the two calls were done that set a service up
pub record IsSetUp (old new : View) : Type 0 where
  pub between : View
  pub service : SetsUp old (resting_call Nothing) between
  pub listener : SetsUp between (resting_call Unwatched) new

-- an answer of the outside was prepared: what it does to the runs, and how many answers are left then
pub record IsPrepared (asked : Option Ask) (i : Input) (n : ℕ) (c : Change) (m : ℕ) : Type 0 where
  pub question : Ask
  pub open_now : asked ≡ Some question
  pub change : c ≡ change_of question i
  pub more : m ≡ n + 4194303

-- an answer was asked for, and yet is the one that doesn't fit: nothing comes after it
pub record StraysAt (v : View) (i : Input) : Type 0 where
  pub question : Ask
  pub asked : outside_question (question_of v) ≡ Some question
  pub waits : Waits v
  pub stray : strays_of v (i ∷ []) ≡ true
  pub ends : (is : List Input) → sights_of v (i ∷ is) ≡ sights_of v []

-- what is shown of an event
abbrev pub IsShownBy : Step → List Event → Type 0
IsShownBy (step.Shown e) events = events ≡ e ∷ []
IsShownBy step.Asked events = ⊥
IsShownBy step.Silent events = events ≡ []

-- the first object that a line names and may not name
abbrev pub strange_in : Pool → Obj → Order → Option Obj
strange_in p s (order.Call c) = stranger_in p s c
strange_in p s o = None

-- one step: an event is shown, the outside is asked, or nothing of it is seen
abbrev pub StepLaw : Result Step Memory → StationView → StationView → Type 0
StepLaw (Ok (step.Shown e)) old new = Shows (e ∷ []) old new
StepLaw (Ok step.Asked) old new = Shows [] old new × IsAsked new
StepLaw (Ok step.Silent) old new = Shows [] old new
StepLaw (Err m) old new = Shows [] old new
