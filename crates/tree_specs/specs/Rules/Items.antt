-- What a host shows: events that it tells, and questions that it asks.
use Rattle.tree_specs.specs.declared.event.Event.{Event}
use Rattle.tree_specs.specs.declared.question.Ask.{Ask}

pub data Item : Type 0 where
  Told : Event → Item
  Asked : Ask → Item

abbrev pub IsQuestion : Item → Type 0
IsQuestion (Told e) = ⊥
IsQuestion (Asked q) = Unit {0}
