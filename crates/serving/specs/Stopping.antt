-- What stands where serving stops: the answers that were given, and the exchange that was begun after them.
use Rattle.std.specs.Prelude.{◌≡◌, ◌≢◌, ℕ, ◌≤◌, List, [], ◌∷◌, ◌++◌, length, take, flat_map, Option, Some, None, ⊤}
use Rattle.std.specs.Io.KnownBytes.{Appends}
use Rattle.tree_specs.specs.declared.schedule.Version.TheVariants.{Two}
use Rattle.tree_specs.specs.declared.moment.Moment.{Moment}
use Rattle.tree_specs.specs.declared.question.Ask.{Ask}
use Rattle.tree_specs.specs.declared.question.Ask.TheVariants as ask
use Rattle.tree_specs.specs.declared.question.Act.{Act}
use Rattle.tree_specs.specs.declared.question.Input.{Input}
use Rattle.tree_specs.specs.declared.wants.Want.{Want}
use Rattle.tree_specs.specs.Texts.Text.{input_text}
use Rattle.outside.specs.declared.sink.Done.TheVariants as ends
use Rattle.outside.specs.LinkCalls.{LinkCall}
use Rattle.outside.specs.LinkCalls.LinkCall.{Listen, Wait}
use Rattle.outside.specs.Tellings.{Tells}
use Rattle.serving.specs.declared.stop.Stop.{Stop}
use Rattle.serving.specs.declared.stop.Stop.TheVariants as stops
use Rattle.machine_driver.specs.Driver.{with_front}
use Rattle.service_rules.specs.Exchanges.{Exchange, Suits}
use Rattle.service_rules.specs.Watching.{Shown}
use Rattle.service_records.specs.Records.{record_header}
use Rattle.serving.specs.Exchanges.{exchanges_in, link_answer, clock_answer, routine_answer, link_part, clock_part, routine_part}
use Rattle.serving.specs.Machines.{Course, question_shown}
use Rattle.serving.specs.Serving.{Scene, ShowsOver}

-- ---- a question without a usable answer

-- the calls of a link for an answer, and none for none
abbrev pub calls_for : (Input → List LinkCall) → Option Input → List LinkCall
calls_for calls None = []
calls_for calls (Some i) = calls i

-- memory ran out: nothing was told of the question, or the link has told an answer, and there was none to keep it
pub record Loses (calls : Input → List LinkCall) (old new : Option (List LinkCall)) : Type 0 where
  pub lost : Option Input
  pub told : Tells old new (calls_for calls lost)

-- a wait has failed, and the link tells that
abbrev pub FailsWaiting : Ask → List Want → Option (List LinkCall) → Option (List LinkCall) → Type 0
FailsWaiting (ask.Wait limit) wanted old new = Tells old new (Wait wanted limit None ∷ [])
FailsWaiting q wanted old new = ⊥

-- what a link tells of a question that brought serving to its stop
abbrev pub FailsToAnswer : Stop → Ask → List Want → Option (List LinkCall) → Option (List LinkCall) → Type 0
FailsToAnswer stops.Link q wanted old new = FailsWaiting q wanted old new
FailsToAnswer stops.Memory q wanted old new = Loses (λ i. link_answer q wanted i) old new
FailsToAnswer stops.Write q wanted old new = ⊥

-- ---- the exchange that was begun

pub data Begun : Type 0 where
  -- no question was put
  Nothing : Begun
  -- a wait for these, of at most so many microseconds, has failed
  FailedWait : List Want → ℕ → Begun
  -- the link has answered, and there was no memory to keep the answer
  Forgotten : Ask → List Want → Input → Begun
  -- an answer came, its line may be on record in part or whole, and the machine hasn't taken it
  Heard : Ask → List Want → Input → Begun

abbrev pub begun_link : Begun → List LinkCall
begun_link Nothing = []
begun_link (FailedWait wanted limit) = Wait wanted limit None ∷ []
begun_link (Forgotten q wanted i) = link_answer q wanted i
begun_link (Heard q wanted i) = link_answer q wanted i

abbrev pub begun_clock : Begun → List ℕ
begun_clock Nothing = []
begun_clock (FailedWait wanted limit) = []
begun_clock (Forgotten q wanted i) = []
begun_clock (Heard q wanted i) = clock_answer q i

abbrev pub begun_routines : Begun → List (Moment × Act)
begun_routines Nothing = []
begun_routines (FailedWait wanted limit) = []
begun_routines (Forgotten q wanted i) = []
begun_routines (Heard q wanted i) = routine_answer q i

-- the line that was to be put on record
abbrev pub begun_line : Begun → List ℕ
begun_line Nothing = []
begun_line (FailedWait wanted limit) = []
begun_line (Forgotten q wanted i) = []
begun_line (Heard q wanted i) = input_text Two i

-- this question is open where no answer comes, and these are watched
abbrev pub IsOpen : Ask → List Want → Course → Type 0
IsOpen q wanted course = course.story [] ≡ Some (question_shown q wanted ∷ [])

-- the exchange comes next in the story, and an answer that was heard suits the question
abbrev pub IsNext : Begun → Course → Type 0
IsNext Nothing course = ⊤
IsNext (FailedWait wanted limit) course = IsOpen (ask.Wait limit) wanted course
IsNext (Forgotten q wanted i) course = IsOpen q wanted course
IsNext (Heard q wanted i) course = IsOpen q wanted course × Suits q i

-- for which reason serving stops there
abbrev pub Explains : Begun → Stop → Type 0
Explains Nothing why = why ≡ stops.Memory
Explains (FailedWait wanted limit) why = why ≡ stops.Link
Explains (Forgotten q wanted i) why = why ≡ stops.Memory
Explains (Heard q wanted i) why = why ≢ stops.Link

-- Serving has stopped. At most so many answers were given and are on record. The ends were asked what the story over them
-- prescribes, and then what was begun; a part of its line may be on record. What is still to come is the rest of that story, behind
-- what it has shown: so a question that was begun is the one with which the story over these answers ends.
pub record Stops (why : Stop) (answers : ℕ) (before after : Scene) : Type 0 where
  pub given : List Input
  pub done : List Exchange
  pub shown : List Shown
  pub begun : Begun
  pub many : length given ≤ answers
  pub story : ShowsOver given shown before.course after.course
  pub follows : (is : List Input) → exchanges_in (before.course.story (given ++ is)) (given ++ is) ≡ with_front done (exchanges_in (after.course.story is) is)
  pub next : IsNext begun after.course
  pub reason : Explains begun why
  pub link : Tells before.link after.link (flat_map link_part done ++ begun_link begun)
  pub clock : Tells before.clock after.clock (flat_map clock_part done ++ begun_clock begun)
  pub routines : Tells before.routines after.routines (flat_map routine_part done ++ begun_routines begun)
  pub part : ℕ
  pub out : Appends before.out after.out (flat_map (input_text Two) given ++ take part (begun_line begun))

-- ---- a whole run

-- how far a run came before its first question
pub data Start : Type 0 where
  -- there was no memory to listen
  Silent : Start
  -- listening has failed
  Deaf : Start
  -- the link listens, and so many bytes of the header were put
  Cut : ℕ → Start
  -- the link listens, and the header was put
  Ready : Start

abbrev pub start_calls : List ℕ → Start → List LinkCall
start_calls path Silent = []
start_calls path Deaf = Listen path ends.Failed ∷ []
start_calls path (Cut n) = Listen path ends.Done ∷ []
start_calls path Ready = Listen path ends.Done ∷ []

abbrev pub start_text : Start → List ℕ
start_text Silent = []
start_text Deaf = []
start_text (Cut n) = take n record_header
start_text Ready = record_header

-- why the run came no farther, or where it stopped later
abbrev pub StopsAfter : Start → Stop → ℕ → Scene → Scene → Type 0
StopsAfter Silent why answers begun after = (why ≡ stops.Memory) × (after ≡ begun)
StopsAfter Deaf why answers begun after = (why ≡ stops.Link) × (after ≡ begun)
StopsAfter (Cut n) why answers begun after = (why ≢ stops.Link) × (after ≡ begun)
StopsAfter Ready why answers begun after = Stops why answers begun after

-- A run over this path has stopped, with at most so many answers given. The link was told to listen, the header was put,
-- and then the story's exchanges came, each as far as this says.
pub record IsStopped (path : List ℕ) (answers : ℕ) (why : Stop) (before after : Scene) : Type 0 where
  pub start : Start
  pub begun : Scene
  pub course : begun.course ≡ before.course
  pub link : Tells before.link begun.link (start_calls path start)
  pub clock : begun.clock ≡ before.clock
  pub routines : begun.routines ≡ before.routines
  pub out : Appends before.out begun.out (start_text start)
  pub stops : StopsAfter start why answers begun after
