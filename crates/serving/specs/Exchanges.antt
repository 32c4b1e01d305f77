-- What each end of the outside is asked, where the story has these exchanges.
use Rattle.std.specs.Prelude.{ℕ, List, [], ◌∷◌, flat_map, Option, Some, None}
use Rattle.tree_specs.specs.declared.moment.Moment.{Moment}
use Rattle.tree_specs.specs.declared.question.Ask.{Ask}
use Rattle.tree_specs.specs.declared.question.Ask.TheVariants as ask
use Rattle.tree_specs.specs.declared.question.Act.{Act}
use Rattle.tree_specs.specs.declared.question.Input.{Input}
use Rattle.tree_specs.specs.declared.question.Input.TheVariants as input
use Rattle.tree_specs.specs.declared.wants.Want.{Want}
use Rattle.outside.specs.declared.sink.Done.TheVariants as ends
use Rattle.outside.specs.LinkCalls.{LinkCall}
use Rattle.outside.specs.LinkCalls.LinkCall.{Listen, Wait, Accept, Read, Write, Close}
use Rattle.service_rules.specs.Exchanges.{Exchange, exchanges}
use Rattle.service_rules.specs.Exchanges.Exchange.{Answered, Closed}
use Rattle.service_rules.specs.Watching.{Shown}

-- the exchanges of a story that may not be there
abbrev pub exchanges_in : Option (List Shown) → List Input → Option (List Exchange)
exchanges_in None is = None
exchanges_in (Some shown) is = Some (exchanges shown is)

-- ---- what each end is asked

-- the calls of one question with its answer
abbrev pub link_answer : Ask → List Want → Input → List LinkCall
link_answer (ask.Wait limit) wanted (input.Ready ready) = Wait wanted limit (Some ready) ∷ []
link_answer (ask.Accept fd) wanted i = Accept fd i ∷ []
link_answer (ask.Read fd most) wanted i = Read fd most i ∷ []
link_answer (ask.Write fd bytes) wanted i = Write fd bytes i ∷ []
link_answer q wanted i = []

abbrev pub clock_answer : Ask → Input → List ℕ
clock_answer ask.Clock (input.Clock now) = now ∷ []
clock_answer q i = []

abbrev pub routine_answer : Ask → Input → List (Moment × Act)
routine_answer (ask.Routine m) (input.Act act) = (m, act) ∷ []
routine_answer q i = []

-- the calls of one exchange
abbrev pub link_part : Exchange → List LinkCall
link_part (Answered q wanted i) = link_answer q wanted i
link_part (Closed fd) = Close fd ∷ []

abbrev pub clock_part : Exchange → List ℕ
clock_part (Answered q wanted i) = clock_answer q i
clock_part (Closed fd) = []

abbrev pub routine_part : Exchange → List (Moment × Act)
routine_part (Answered q wanted i) = routine_answer q i
routine_part (Closed fd) = []

-- ---- what a whole service prescribes

-- the calls of each end
pub record Served : Type 0 where
  pub link : List LinkCall
  pub clock : List ℕ
  pub routines : List (Moment × Act)

-- the calls of each end that these exchanges are, after the listening at this path
abbrev pub served : List ℕ → List Exchange → Served
served path es = record {
  link = Listen path ends.Done ∷ flat_map link_part es;
  clock = flat_map clock_part es;
  routines = flat_map routine_part es;
}
