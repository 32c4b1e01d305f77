-- What a machine tells and asks, by the story still to come.
use Rattle.std.specs.Prelude.{◌≡◌, ℕ, Bool, true, false, List, [], ◌∷◌, Option, Some, None, IsSome, Result, Ok, Err, ⊤}
use Rattle.std.specs.List.{list_all}
use Rattle.machine_driver.specs.Driver.{items_or_none, with_front}
use Rattle.machine_driver.specs.Driver.Kind.{Event as AnEvent, Question as AQuestion}
use Rattle.tree_specs.specs.declared.event.Event.{Event}
use Rattle.tree_specs.specs.declared.memory.Memory.{Memory}
use Rattle.tree_specs.specs.declared.question.Ask.{Ask}
use Rattle.tree_specs.specs.declared.question.Ask.TheVariants as ask
use Rattle.tree_specs.specs.declared.question.Input.{Input}
use Rattle.tree_specs.specs.declared.wants.Want.{Want}
use Rattle.tree_specs.specs.Texts.Runners.{Course as LineCourse}
use Rattle.tree_specs.specs.Texts.Schedule.{course_by}
use Rattle.service_rules.specs.Exchanges.{Exchange, exchanges, AllSuit, accepts_new}
use Rattle.service_rules.specs.ReadRanges.{shows_in_range}
use Rattle.service_rules.specs.Watching.{Shown, items_of}

-- what is still to come, as functions of the answers still to come
pub record Course : Type 0 where
  -- the story with what is watched; none where the machine gives more answers of its own than it may
  pub story : List Input → Option (List Shown)
  -- whether the last of these answers doesn't fit
  pub strays : List Input → Bool

-- the same is still to come
pub record SameCourse (before after : Course) : Type 0 where
  pub story : (is : List Input) → before.story is ≡ after.story is
  pub strays : (is : List Input) → before.strays is ≡ after.strays is

-- whether the outside is asked this: a call is never wanted of it
abbrev pub is_for_outside : Ask → Bool
is_for_outside ask.Quiet = false
is_for_outside q = true

abbrev pub question_shown : Ask → List Want → Shown
question_shown q wanted = AQuestion (record { ask = q; wanted = wanted })

-- an event comes next, and then the rest; no question is open
pub record TellsNext (e : Event) (before after : Course) : Type 0 where
  pub story : (is : List Input) → before.story is ≡ with_front (AnEvent e ∷ []) (after.story is)
  pub strays : (is : List Input) → before.strays is ≡ after.strays is

-- the question comes first, whatever it is answered
pub record BeginsWith (shown : Shown) (story : Option (List Shown)) : Type 0 where
  pub rest : Option (List Shown)
  pub begins : story ≡ with_front (shown ∷ []) rest

-- a question is open, and it is all that comes where no answer comes
pub record Asks (question : Option Ask) (wanted : List Want) (course : Course) : Type 0 where
  pub open_now : IsSome question
  pub last : (q : Ask) → question ≡ Some q → course.story [] ≡ Some (question_shown q wanted ∷ [])
  pub begins : (q : Ask) → question ≡ Some q → (i : Input) (is : List Input) → BeginsWith (question_shown q wanted) (course.story (i ∷ is))

-- what a machine tells next: an event, that a question is open, or that memory ran out
abbrev pub Nexts : Result (Option Event) Memory → Option Ask → List Want → Course → Course → Type 0
Nexts (Ok (Some e)) question wanted before after = TellsNext e before after
Nexts (Ok None) question wanted before after = Asks question wanted after × SameCourse before after
Nexts (Err e) question wanted before after = SameCourse before after

-- something is shown
abbrev pub IsThere : List Shown → Type 0
IsThere [] = ⊥
IsThere (s ∷ ss) = ⊤

-- the answer is taken, and the story goes on after its question
pub record Takes (question : Option Ask) (wanted : List Want) (i : Input) (before after : Course) : Type 0 where
  pub goes_on : (q : Ask) → question ≡ Some q → (is : List Input) → before.story (i ∷ is) ≡ with_front (question_shown q wanted ∷ []) (after.story is)
  pub strays : (is : List Input) → before.strays (i ∷ is) ≡ after.strays is
  -- it fits
  pub settles : after.strays [] ≡ false
  -- and something comes after it
  pub more : (is : List Input) (shown : List Shown) → after.story is ≡ Some shown → IsThere shown

-- ---- whether answers are refused

-- what the machine has to do with the outside, over these answers
abbrev pub exchanges_over : Course → List Input → List Exchange
exchanges_over c is = exchanges (items_or_none (c.story is)) is

-- Where these are open, no answers are refused that suit their questions, and accept what isn't open then.
abbrev pub TakesAllThatSuit : Course → (ℕ → Bool) → Type 0
TakesAllThatSuit c open_now = (is : List Input) → AllSuit (exchanges_over c is) → accepts_new open_now (exchanges_over c is) ≡ true → c.strays is ≡ false

-- each read that it asks for is of as many bytes as may be read at once
abbrev pub ReadsInRange : Course → Type 0
ReadsInRange c = (is : List Input) (shown : List Shown) → c.story is ≡ Some shown → list_all shows_in_range shown ≡ true

-- it can be served, where these are open
pub record IsServable (c : Course) (open_now : ℕ → Bool) : Type 0 where
  pub takes : TakesAllThatSuit c open_now
  pub reads : ReadsInRange c

-- the same as whoever reads its answers as the lines of a schedule sees it
abbrev pub line_course : Course → LineCourse Input
line_course c = course_by (λ is. items_of (items_or_none (c.story is))) c.strays
