-- How many bytes the outside is asked to read.
use Rattle.std.specs.Prelude.{◌≡◌, Bool, true, List, Some}
use Rattle.std.specs.List.{list_all}
use Rattle.machine_driver.specs.Driver.Kind.{Event as AnEvent, Question as AQuestion}
use Rattle.tree_specs.specs.declared.question.Ask.{Ask}
use Rattle.tree_specs.specs.declared.question.Ask.TheVariants as ask
use Rattle.tree_specs.specs.declared.question.Input.{Input}
use Rattle.tree_specs.specs.Words.Ranges.{is_length}
use Rattle.service_rules.specs.Watching.{Shown, watched_story}

-- a read is for as many bytes as may be read at once
abbrev pub reads_in_range : Ask → Bool
reads_in_range (ask.Read fd most) = is_length most
reads_in_range q = true

abbrev pub shows_in_range : Shown → Bool
shows_in_range (AnEvent e) = true
shows_in_range (AQuestion q) = reads_in_range q.ask

-- each read of the service's story is so, whatever the outside answers
abbrev pub ReadsAreInRange : Type 0
ReadsAreInRange = (is : List Input) (shown : List Shown) → watched_story is ≡ Some shown → list_all shows_in_range shown ≡ true
