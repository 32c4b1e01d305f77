-- What a run of the serving loop does to what it is over.
use Rattle.std.specs.Prelude.{◌≡◌, ℕ, Bool, true, List, [], ◌++◌, length, flat_map, Option, Some}
use Rattle.std.specs.List.{list_all}
use Rattle.std.specs.Io.KnownBytes.{Appends}
use Rattle.machine_driver.specs.Driver.{with_front}
use Rattle.tree_specs.specs.declared.schedule.Version.TheVariants.{Two}
use Rattle.tree_specs.specs.declared.event.Event.{Event}
use Rattle.tree_specs.specs.declared.event.Event.TheVariants as events
use Rattle.tree_specs.specs.declared.moment.Moment.{Moment}
use Rattle.tree_specs.specs.declared.question.Act.{Act}
use Rattle.tree_specs.specs.declared.question.Input.{Input}
use Rattle.tree_specs.specs.declared.question.Input.TheVariants as input
use Rattle.tree_specs.specs.Texts.Text.{input_text}
use Rattle.outside.specs.LinkCalls.{LinkCall}
use Rattle.outside.specs.Descriptors.{SameOpen, Opens, Closes}
use Rattle.outside.specs.Tellings.{Tells}
use Rattle.service_rules.specs.Exchanges.{Exchange, exchanges}
use Rattle.service_rules.specs.Watching.{Shown}
use Rattle.service_records.specs.Records.{AllFit, has_ranges, record_text}
use Rattle.serving.specs.Exchanges.{exchanges_in, link_part, clock_part, routine_part, served}
use Rattle.serving.specs.Machines.{Course, line_course}

-- ---- one answer

-- what is open after an answer of a link
abbrev pub OpensBy : (ℕ → Bool) → (ℕ → Bool) → Input → Type 0
OpensBy before after (input.Took fd) = Opens before after fd
OpensBy before after i = SameOpen before after

-- ---- a run

-- what the loop is over, as contracts see it
pub record Scene : Type 0 where
  pub course : Course
  pub link : Option (List LinkCall)
  pub clock : Option (List ℕ)
  pub routines : Option (List (Moment × Act))
  pub out : Option (List ℕ)

abbrev pub scene : Course → Option (List LinkCall) → Option (List ℕ) → Option (List (Moment × Act)) → Option (List ℕ) → Scene
scene course link clock routines out = record { course = course; link = link; clock = clock; routines = routines; out = out }

-- the story over these answers shows this, and then what is still to come
abbrev pub ShowsOver : List Input → List Shown → Course → Course → Type 0
ShowsOver given shown before after = (is : List Input) → before.story (given ++ is) ≡ with_front shown (after.story is)

-- So many answers were given. What the ends were asked is what the story over them prescribes, and they are on record: each
-- has its ranges and fits. What is still to come is the rest of that story, behind what it has shown.
pub record Serves (count : ℕ) (before after : Scene) : Type 0 where
  pub given : List Input
  pub done : List Exchange
  pub shown : List Shown
  pub many : length given ≡ count
  pub story : ShowsOver given shown before.course after.course
  pub follows : (is : List Input) → exchanges_in (before.course.story (given ++ is)) (given ++ is) ≡ with_front done (exchanges_in (after.course.story is) is)
  pub fits : (is : List Input) → AllFit (line_course after.course) is → AllFit (line_course before.course) (given ++ is)
  pub sound : list_all has_ranges given ≡ true
  pub link : Tells before.link after.link (flat_map link_part done)
  pub clock : Tells before.clock after.clock (flat_map clock_part done)
  pub routines : Tells before.routines after.routines (flat_map routine_part done)
  pub out : Appends before.out after.out (flat_map (input_text Two) given)

-- events alone were told
pub record Shows (before after : Course) (told all : Option (List LinkCall)) : Type 0 where
  pub done : List Exchange
  pub shown : List Shown
  pub story : ShowsOver [] shown before after
  pub follows : (is : List Input) → exchanges_in (before.story is) is ≡ with_front done (exchanges_in (after.story is) is)
  pub fits : (is : List Input) → AllFit (line_course after) is → AllFit (line_course before) is
  pub link : Tells told all (flat_map link_part done)
  pub clock : flat_map clock_part done ≡ []
  pub routines : flat_map routine_part done ≡ []

-- what is open after an event
abbrev pub OpenClosed : Event → (ℕ → Bool) → (ℕ → Bool) → Type 0
OpenClosed (events.Closed fd) before after = Closes before after fd
OpenClosed e before after = SameOpen before after

-- ---- a whole run

-- So many answers were given to a machine with this story. The link was told to listen at the path, and the ends were
-- asked what the story over these answers prescribes; the header and the line of each answer were put. The answers fit.
pub record IsServed (path : List ℕ) (answers : ℕ) (before after : Scene) : Type 0 where
  pub given : List Input
  pub many : length given ≡ answers
  pub shown : List Shown
  pub story : before.course.story given ≡ Some shown
  pub fits : AllFit (line_course before.course) given
  pub sound : list_all has_ranges given ≡ true
  pub link : Tells before.link after.link (served path (exchanges shown given)).link
  pub clock : Tells before.clock after.clock (served path (exchanges shown given)).clock
  pub routines : Tells before.routines after.routines (served path (exchanges shown given)).routines
  pub out : Appends before.out after.out (record_text given)
