-- The law of the bytes where each answer of the outside fits: the machine behind the service takes its answers, and none of them
-- is an act.
use Rattle.std.specs.Prelude.{◌≡◌, true, false, List, Some}
use Rattle.std.specs.List.{list_all}
use Rattle.step_machine.specs.Machine.{is_stray}
use Rattle.tree_specs.specs.declared.question.Input.{Input}
use Rattle.tree_specs.specs.Rules.Story.{outcome}
use Rattle.service_rules.specs.Sent.{known_after, all_go_out, is_no_act}
use Rattle.service_rules.specs.Service.{inputs_behind}

-- where the answers fit and no routine of the outside does an act, the bytes go out as they were said
abbrev pub FittingBytesGoOut : Type 0
FittingBytesGoOut = (is js : List Input) → list_all is_no_act is ≡ true → inputs_behind is ≡ Some js → is_stray (outcome 1 js) ≡ false → all_go_out (known_after is js) ≡ true
