-- A line service that is served.
use Rattle.std.specs.Prelude.{◌≡◌, ℕ, true, List, length, Option, Some}
use Rattle.std.specs.List.{list_all}
use Rattle.std.specs.Io.KnownBytes.{Appends}
use Rattle.tree_specs.specs.declared.moment.Moment.{Moment}
use Rattle.tree_specs.specs.declared.question.Act.{Act}
use Rattle.tree_specs.specs.declared.question.Input.{Input}
use Rattle.tree_specs.specs.Promises.Orderly.{Orderly}
use Rattle.outside.specs.LinkCalls.{LinkCall}
use Rattle.outside.specs.Tellings.{Tells}
use Rattle.service_rules.specs.Exchanges.{exchanges}
use Rattle.service_rules.specs.Schedules.{strays_behind}
use Rattle.service_rules.specs.Service.{inputs_behind, service_story}
use Rattle.service_rules.specs.Stations.{StationView, strays_to_come, watched_to_come}
use Rattle.service_rules.specs.Watching.{Shown, watched_story}
use Rattle.service_records.specs.Records.{IsScheduleOf, is_short, record_text}
use Rattle.serving.specs.declared.stop.Stop.{Stop}
use Rattle.serving.specs.Exchanges.{served}
use Rattle.serving.specs.Machines.{Course}
use Rattle.serving.specs.Serving.{Scene}
use Rattle.serving.specs.Stopping.{IsStopped}

-- what is still to come of a station
abbrev pub station_course : StationView → Course
station_course v = record { story = watched_to_come v; strays = strays_to_come v }

-- what comes of a service from its beginning
abbrev pub service_course : Course
service_course = record { story = watched_story; strays = λ is. strays_behind (inputs_behind is) }

-- this is what comes of a service of which nothing has been seen yet
pub record IsBegun (c : Course) : Type 0 where
  pub course : c ≡ service_course

-- ---- a service from its beginning

-- what the ends have told, and what was put
pub record Ends : Type 0 where
  pub link : Option (List LinkCall)
  pub clock : Option (List ℕ)
  pub routines : Option (List (Moment × Act))
  pub out : Option (List ℕ)

abbrev pub ends : Option (List LinkCall) → Option (List ℕ) → Option (List (Moment × Act)) → Option (List ℕ) → Ends
ends link clock routines out = record { link = link; clock = clock; routines = routines; out = out }

abbrev pub with_course : Course → Ends → Scene
with_course course e = record { course = course; link = e.link; clock = e.clock; routines = e.routines; out = e.out }

-- So many answers were given to a service from its beginning. The link was told to listen at the path, and link, clock and
-- routines were asked what the service's story over these answers prescribes. What was put is their record. Where no answer names
-- more than 20,164 ready descriptors, it is a schedule of which no line is refused, with these answers as its inputs: so it replays
-- to this very story, which is orderly.
pub record ServesLines (path : List ℕ) (answers : ℕ) (before after : Ends) : Type 0 where
  pub given : List Input
  pub many : length given ≡ answers
  pub shown : List Shown
  pub story : watched_story given ≡ Some shown
  pub link : Tells before.link after.link (served path (exchanges shown given)).link
  pub clock : Tells before.clock after.clock (served path (exchanges shown given)).clock
  pub routines : Tells before.routines after.routines (served path (exchanges shown given)).routines
  pub out : Appends before.out after.out (record_text given)
  pub schedule : list_all is_short given ≡ true → IsScheduleOf (record_text given) given
  pub orderly : Orderly (service_story given)

-- It has stopped earlier. What is still to come is the rest of the service's story, behind what it shows over the answers that
-- were given. So a question that was put after them is the one with which the service's story over these answers ends.
pub record StopsLines (path : List ℕ) (answers : ℕ) (why : Stop) (before after : Ends) : Type 0 where
  pub rest : Course
  pub stopped : IsStopped path answers why (with_course service_course before) (with_course rest after)
