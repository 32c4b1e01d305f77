-- Answers of the outside under which bytes go out as they were said: no routine of its own does an act, no descriptor takes more
-- bytes than it was given, and none is accepted that is a kept connection's.
use Rattle.std.specs.Prelude.{◌≡◌, ℕ, ◌&&◌, ◌||◌, not, Bool, true, false, nat_eq, nat_le, List, [], ◌∷◌, length, Some}
use Rattle.machine_driver.specs.Driver.{Driver}
use Rattle.machine_driver.specs.Watched.{Log, logged, after}
use Rattle.tree_specs.specs.declared.event.Event.{Event}
use Rattle.tree_specs.specs.declared.question.Ask.{Ask}
use Rattle.tree_specs.specs.declared.question.Ask.TheVariants as ask
use Rattle.tree_specs.specs.declared.question.Input.{Input}
use Rattle.tree_specs.specs.declared.question.Input.TheVariants as input
use Rattle.tree_specs.specs.Rules.Items.{Item}
use Rattle.tree_stories.specs.Sights.{Sight, Opening}
use Rattle.service_rules.specs.Knowledge.{Connection, Knowledge, nothing_known}
use Rattle.service_rules.specs.Sent.{Ledger, nothing_sent, with_ledger, known_after, all_go_out, is_no_act}
use Rattle.service_rules.specs.Service.{machine, inputs_behind}

-- a connection of this descriptor is kept
abbrev pub is_kept : List (ℕ × Connection) → ℕ → Bool
is_kept [] fd = false
is_kept (e ∷ es) fd = nat_eq e.1.descriptor fd || is_kept es fd

abbrev pub is_fair : Knowledge → Ask → Input → Bool
is_fair d (ask.Accept fd) (input.Took new) = not (is_kept d.connections new)
is_fair d (ask.Write fd bytes) (input.Wrote n) = nat_le n (length bytes)
is_fair d q i = is_no_act i

-- whether all answers so far were
abbrev pub fairness : Log Bool (Knowledge × Ledger) Event Opening Input
fairness = record {
  at_event = λ b w e. b;
  at_own = λ b w o. b;
  at_answer = λ b w o i. b && is_fair w.0 o.ask i;
}

abbrev pub with_fairness : Driver ((Knowledge × Ledger) × Bool) Sight Event Opening Input Input Item
with_fairness = logged fairness with_ledger

-- these answers of the outside were fair, which were these of the machine's
abbrev pub all_fair : List Input → List Input → Bool
all_fair is js = (after with_fairness (machine js) ((nothing_known, nothing_sent), true) is).1

-- where all answers are fair the bytes go out as they were said
abbrev pub FairBytesGoOut : Type 0
FairBytesGoOut = (is js : List Input) → inputs_behind is ≡ Some js → all_fair is js ≡ true → all_go_out (known_after is js) ≡ true
