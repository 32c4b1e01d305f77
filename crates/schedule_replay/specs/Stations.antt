-- What a line service is to whoever runs the lines of a schedule by it.
use Rattle.tree_specs.specs.declared.question.Input.{Input}
use Rattle.tree_specs.specs.Texts.Schedule.{course_by}
use Rattle.tree_specs.specs.Texts.Text.{body_text}
use Rattle.machine_driver.specs.Driver.{items_or_none}
use Rattle.service_rules.specs.Stations.{StationView, asked_of, still_to_come, strays_to_come}
use Rattle.schedule_replay.specs.Standings.{Standing}

abbrev pub station_standing : StationView → Standing Input
station_standing v = record {
  asked = asked_of v;
  course = course_by (λ is. items_or_none (still_to_come v is)) (strays_to_come v);
  tells = λ is. body_text (items_or_none (still_to_come v is));
}
