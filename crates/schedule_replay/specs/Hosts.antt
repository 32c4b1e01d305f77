-- What a host is to whoever runs the lines of a schedule by it.
use Rattle.std.specs.Prelude.{List, ℕ}
use Rattle.tree_specs.specs.declared.call.Call.{Call}
use Rattle.tree_specs.specs.declared.question.Input.{Input}
use Rattle.tree_specs.specs.declared.question.Input.TheVariants as input
use Rattle.tree_specs.specs.Machine.View.{View, rest_of, strays_of, question_of}
use Rattle.tree_specs.specs.Texts.Schedule.{misfit, course_by}
use Rattle.tree_specs.specs.Texts.Text.{body_text}
use Rattle.schedule_replay.specs.Standings.{Standing, TakesAtOnce}

abbrev pub host_standing : View → Standing Input
host_standing v = record {
  asked = question_of v;
  course = course_by (rest_of v) (strays_of v);
  tells = λ is. body_text (rest_of v is);
}

-- a call was done, and what came of it at once was appended
abbrev pub CallsAtOnce : View → Call → List ℕ → View → List ℕ → Type 0
CallsAtOnce old call before new after = TakesAtOnce misfit (host_standing old) (input.Call call) before (host_standing new) after
