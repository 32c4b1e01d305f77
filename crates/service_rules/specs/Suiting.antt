-- The law of answers that suit: where each answer suits its question, and no descriptor is accepted that is open, nothing is refused.
use Rattle.std.specs.Prelude.{◌≡◌, ℕ, Bool, true, false, List}
use Rattle.machine_driver.specs.Driver.{items_or_none}
use Rattle.tree_specs.specs.declared.question.Input.{Input}
use Rattle.service_rules.specs.Exchanges.{Exchange, exchanges, AllSuit, accepts_new}
use Rattle.service_rules.specs.Schedules.{strays_behind}
use Rattle.service_rules.specs.Service.{inputs_behind}
use Rattle.service_rules.specs.Watching.{watched_story}

-- what the service has to do with the outside, where it answers so
abbrev pub service_exchanges : List Input → List Exchange
service_exchanges is = exchanges (items_or_none (watched_story is)) is

-- none is open at first; the listener isn't accepted
abbrev pub none_open : ℕ → Bool
none_open fd = false

abbrev pub SuitingAnswersFit : Type 0
SuitingAnswersFit = (is : List Input) → AllSuit (service_exchanges is) → accepts_new none_open (service_exchanges is) ≡ true → strays_behind (inputs_behind is) ≡ false
