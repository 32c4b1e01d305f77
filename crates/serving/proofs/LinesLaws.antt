-- A service that was served from its beginning: its record is a schedule, and its story is orderly.
use Rattle.std.proofs.Common.{◌≡◌, ◌<◌, ℕ, List, Option, Some, None, Result, Ok, Err, IfErr, OnOk, refl, sym, ◌∙◌, ap, subst}
use Rattle.std.specs.Option.{option_map}
use Rattle.machine_driver.specs.Driver.{items_or_none}
use Rattle.outside.proofs.TellingLaws.{tells_same}
use Rattle.std.proofs.KnownBytes.{Appends-nil}
use Rattle.tree_specs.specs.declared.schedule.Version.TheVariants.{Two}
use Rattle.tree_specs.specs.declared.question.Input.{Input}
use Rattle.tree_specs.specs.Rules.Items.{Item}
use Rattle.tree_specs.specs.Texts.Lines.{lines_limit}
use Rattle.tree_specs.specs.Texts.Schedule.{open_question}
use Rattle.service_rules.specs.Schedules.{service_runner}
use Rattle.service_rules.specs.Service.{answers, service_story}
use Rattle.service_rules.specs.Stations.{unborn, watched_to_come}
use Rattle.service_rules.specs.Watching.{Shown, items_of, watched_story}
use Rattle.service_rules.proofs.Orderliness.{service-orderly}
use Rattle.service_rules.proofs.Showing.{items-to-come}
use Rattle.service_rules.proofs.Steps.{first-to-come, first-watched}
use Rattle.service_records.specs.Records.{AllFit}
use Rattle.service_records.proofs.Judging.{record-is-schedule}
use Rattle.serving.specs.declared.stop.Stop.{Stop}
use Rattle.serving.specs.declared.stop.Stop.TheVariants as stops
use Rattle.serving.specs.Machines.{Course, line_course}
use Rattle.serving.specs.Serving.{IsServed}
use Rattle.serving.specs.Stations.{Ends, IsBegun, ServesLines, StopsLines, service_course, with_course}
use Rattle.serving.specs.Stopping.{IsStopped}
use Rattle.serving.specs.Stopping.Start.{Silent}
use Rattle.serving.proofs.FittingLaws.{fits_alike}

-- the items of what is shown are the service's story
items-shown : (is : List Input) → items_of (items_or_none (watched_story is)) ≡ service_story is
items-shown is =
    ap (λ (o : Option (List Shown)). items_of (items_or_none o)) (sym (first-watched is))
    ∙ each (watched_to_come unborn is)
    ∙ ap (λ (o : Option (List Item)). items_or_none o) (items-to-come unborn is ∙ first-to-come is)
  where
    each : (o : Option (List Shown)) → items_of (items_or_none o) ≡ items_or_none (option_map items_of o)
    each None = refl
    each (Some shown) = refl

answers-fit : (is : List Input) → AllFit (line_course service_course) is → AllFit (service_runner Two).course is
answers-fit is fit = fits_alike (line_course service_course) (service_runner Two).course (λ js. ap open_question (items-shown js)) (λ js. refl) is fit

serves_lines : (path : List ℕ) (answers : ℕ) (start rest : Course) (before after : Ends) → IsBegun start → answers < lines_limit
    → IsServed path answers (with_course start before) (with_course rest after) → ServesLines path answers before after
serves_lines path answers start rest before after begun few h = go (subst (λ (c : Course). IsServed path answers (with_course c before) (with_course rest after)) begun.course h)
  where
    go : IsServed path answers (with_course service_course before) (with_course rest after) → ServesLines path answers before after
    go s = record {
      given = s.given;
      many = s.many;
      shown = s.shown;
      story = s.story;
      link = s.link;
      clock = s.clock;
      routines = s.routines;
      out = s.out;
      schedule = λ short. record-is-schedule s.given (answers-fit s.given s.fits) s.sound short (subst (λ (n : ℕ). n < lines_limit) (sym s.many) few);
      orderly = service-orderly s.given;
    }

stops_lines : (path : List ℕ) (answers : ℕ) (why : Stop) (start rest : Course) (before after : Ends) → IsBegun start
    → IsStopped path answers why (with_course start before) (with_course rest after) → StopsLines path answers why before after
stops_lines path answers why start rest before after begun h = record { rest = rest; stopped = subst (λ (c : Course). IsStopped path answers why (with_course c before) (with_course rest after)) begun.course h }

pub serves_all : {E : Type 0} (r : Result (Unit {0}) E) (path : List ℕ) (answers : ℕ) (start rest : Course) (before after : Ends) → IsBegun start → answers < lines_limit
    → OnOk r (IsServed path answers (with_course start before) (with_course rest after)) → OnOk r (ServesLines path answers before after)
serves_all (Ok done) path answers start rest before after begun few h = serves_lines path answers start rest before after begun few h
serves_all (Err e) path answers start rest before after begun few h = tt

pub stops_all : (r : Result (Unit {0}) Stop) (path : List ℕ) (answers : ℕ) (start rest : Course) (before after : Ends) → IsBegun start
    → IfErr r (λ why. IsStopped path answers why (with_course start before) (with_course rest after)) → IfErr r (λ why. StopsLines path answers why before after)
stops_all (Ok done) path answers start rest before after begun h = tt
stops_all (Err why) path answers start rest before after begun h = stops_lines path answers why start rest before after begun h

-- there was no memory for a service
pub no_service : (path : List ℕ) (answers : ℕ) (e : Ends) → StopsLines path answers stops.Memory e e
no_service path answers e = record {
  rest = service_course;
  stopped = record {
    start = Silent;
    begun = with_course service_course e;
    course = refl;
    link = tells_same e.link;
    clock = refl;
    routines = refl;
    out = Appends-nil e.out;
    stops = (refl, refl);
  };
}
