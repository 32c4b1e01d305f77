-- What an answer of the outside does to the runs of routines.
use Rattle.std.specs.Prelude.{ℕ, zero, suc}
use Rattle.tree_specs.specs.declared.question.Act.{Act}
use Rattle.tree_specs.specs.declared.question.Act.TheVariants.{Do, Ret}
use Rattle.tree_specs.specs.declared.question.Ask.{Ask}
use Rattle.tree_specs.specs.declared.question.Ask.TheVariants.{Routine}
use Rattle.tree_specs.specs.declared.question.Input.{Input}
use Rattle.tree_specs.specs.declared.question.Input.TheVariants as input
use Rattle.service_rules.specs.declared.task.Run.TheVariants.{Outside}
use Rattle.service_rules.specs.Knowledge.{Knowledge, with_run, without_run}
use Rattle.line_service.specs.declared.runs.Change.{Change}
use Rattle.line_service.specs.declared.runs.Change.TheVariants as change

abbrev pub change_by : ℕ → Act → Change
change_by zero (Do c) = change.Opens
change_by zero (Ret v) = change.Nothing
change_by (suc n) (Do c) = change.Nothing
change_by (suc n) (Ret v) = change.Closes

abbrev pub change_of : Ask → Input → Change
change_of (Routine m) (input.Act a) = change_by m.step a
change_of q i = change.Nothing

-- what is known of the runs after it
abbrev pub changed : Change → Knowledge → Knowledge
changed change.Opens d = with_run Outside d
changed change.Closes d = without_run d
changed change.Nothing d = d
