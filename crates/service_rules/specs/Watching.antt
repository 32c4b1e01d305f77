-- The story of the service with what is watched while each of its questions is open.
use Rattle.std.specs.Prelude.{suc, List, length, Option, map}
use Rattle.machine_driver.specs.Driver.{Driver, Kind, driven}
use Rattle.machine_driver.specs.Driver.Kind.{Event as AnEvent, Question as AQuestion}
use Rattle.tree_specs.specs.declared.event.Event.{Event}
use Rattle.tree_specs.specs.declared.question.Ask.{Ask}
use Rattle.tree_specs.specs.declared.question.Input.{Input}
use Rattle.tree_specs.specs.declared.wants.Want.{Want}
use Rattle.tree_specs.specs.Tree.Pool.{ring_here}
use Rattle.tree_specs.specs.Events.Rotation.{wanted_of}
use Rattle.tree_specs.specs.Rules.Items.{Item}
use Rattle.tree_specs.specs.Rules.Items.Item.{Told, Asked}
use Rattle.tree_stories.specs.Sights.{Sight, Opening}
use Rattle.service_rules.specs.Knowledge.{Knowledge, nothing_known}
use Rattle.service_rules.specs.Service.{answers, machine, showing}

-- a question, and the descriptors that are watched while it is open, in the context whose turn is under way
pub record WatchedQuestion : Type 0 where
  pub ask : Ask
  pub wanted : List Want

-- what the outside sees, with what is watched
abbrev pub Shown : Type 0
Shown = Kind Event WatchedQuestion

abbrev pub item_of : Shown → Item
item_of (AnEvent e) = Told e
item_of (AQuestion q) = Asked q.ask

abbrev pub items_of : List Shown → List Item
items_of shown = map item_of shown

abbrev pub watched : Opening → WatchedQuestion
watched o = record { ask = o.ask; wanted = wanted_of (ring_here o.pool) }

abbrev pub watching : Driver Knowledge Sight Event Opening Input Input Shown
watching = showing (λ e. AnEvent e) (λ o. AQuestion (watched o))

-- the service's story, with what is watched; none where the service gives more answers than it may
abbrev pub watched_story : List Input → Option (List Shown)
watched_story is = driven watching (suc (answers (length is))) nothing_known machine is
