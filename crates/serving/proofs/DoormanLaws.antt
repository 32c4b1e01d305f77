-- The doorman can be served: it takes whatever it is given, and asks for no read.
use Rattle.std.proofs.Common.{◌≡◌, ℕ, Bool, true, false, List, [], ◌∷◌, Option, Some, None, refl, subst}
use Rattle.std.specs.List.{list_all}
use Rattle.tree_specs.specs.declared.question.Input.{Input}
use Rattle.service_rules.specs.ReadRanges.{shows_in_range}
use Rattle.service_rules.specs.Watching.{Shown}
use Rattle.serving.specs.Doorman.{closed_first, door_course, due_after, questions}
use Rattle.serving.specs.Machines.{IsServable}

abbrev AllInRange : List Shown → Type 0
AllInRange shown = list_all shows_in_range shown ≡ true

closed_in_range : (due : Option ℕ) (rest : List Shown) → AllInRange rest → AllInRange (closed_first due rest)
closed_in_range None rest h = h
closed_in_range (Some fd) rest h = h

questions_in_range : (waits : Bool) (is : List Input) → AllInRange (questions waits is)
questions_in_range true [] = refl
questions_in_range false [] = refl
questions_in_range true (i ∷ is) = closed_in_range (due_after true i) (questions false is) (questions_in_range false is)
questions_in_range false (i ∷ is) = closed_in_range (due_after false i) (questions true is) (questions_in_range true is)

pub door_servable : (waits : Bool) (due : Option ℕ) (open_now : ℕ → Bool) → IsServable (door_course waits due) open_now
door_servable waits due open_now = record {
  takes = λ is suit new. refl;
  reads = λ is shown e.
      let h : closed_first due (questions waits is) ≡ shown = cc in
      subst AllInRange h (closed_in_range due (questions waits is) (questions_in_range waits is));
}
