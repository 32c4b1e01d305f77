-- What a destructor's acceptance follows: its run, which has just returned 0.
use Rattle.std.specs.Prelude.{◌≡◌, ℕ, List, [], ◌∷◌, Option, Some, None, if◌then◌else◌}
use Rattle.tree_specs.specs.declared.object.Obj.{Obj}
use Rattle.tree_specs.specs.declared.question.Ask.{Ask}
use Rattle.tree_specs.specs.declared.question.Ask.TheVariants.{Routine}
use Rattle.tree_specs.specs.declared.question.Input.{Input}
use Rattle.tree_specs.specs.declared.event.Event.TheVariants.{Accepted}
use Rattle.tree_specs.specs.Calls.Given.{Given, given_to}
use Rattle.tree_specs.specs.Calls.Given.Given.{Returns}
use Rattle.tree_specs.specs.Rules.Items.{Item}
use Rattle.tree_specs.specs.Rules.Items.Item.{Told, Asked}
use Rattle.tree_specs.specs.Promises.Orderly.{is_hook}

-- an object whose destructor has returned, and the number that it returned
pub record Return : Type 0 where
  pub object : Obj
  pub value : ℕ

-- which destructor returns with what was given to the question
abbrev pub returned : Ask → Option Given → Option Return
returned (Routine m) (Some (Returns v)) = if is_hook m.what then Some (record { object = m.object; value = v }) else None
returned q g = None

-- which destructor returns with this input as the answer to the question
abbrev pub returned_by : Ask → Input → Option Return
returned_by q i = returned q (given_to q i)

-- each question is answered by the next input
abbrev pub answered_by : Item → List Input → Option Return
answered_by (Asked q) (i ∷ is) = returned_by q i
answered_by (Asked q) [] = None
answered_by (Told e) is = None

abbrev pub inputs_after : Item → List Input → List Input
inputs_after (Asked q) (i ∷ is) = is
inputs_after (Asked q) [] = []
inputs_after (Told e) is = is

abbrev pub AcceptsNow : Option Return → Item → Type 0
AcceptsNow last (Told (Accepted x)) = last ≡ Some (record { object = x; value = 0 })
AcceptsNow last item = Unit {0}

-- Over these inputs each acceptance comes right after the destructor of that object has returned 0. `last` is the
-- return before the first item, where nothing came after it.
abbrev pub AcceptsAfterReturns : Option Return → List Item → List Input → Type 0
AcceptsAfterReturns last [] is = Unit {0}
AcceptsAfterReturns last (item ∷ items) is = AcceptsNow last item × AcceptsAfterReturns (answered_by item is) items (inputs_after item is)
