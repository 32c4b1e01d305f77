use Rattle.std.proofs.Common.{◌≡◌, Bool, true, false, not, List, [], ◌∷◌, Option, Some, None, is_some, ℕ, refl, sym, ◌∙◌, ap, subst}
use Rattle.machine_driver.specs.Driver.{with_front}
use Rattle.tree_specs.specs.declared.question.Ask.{Ask}
use Rattle.tree_specs.specs.declared.question.Input.{Input}
use Rattle.service_rules.specs.Watching.{Shown}
use Rattle.serving.specs.Doorman.{closed_first, door_ask, door_course, door_question, due_after, listener, questions}
use Rattle.serving.specs.Machines.{IsThere, Takes, question_shown}
use Rattle.serving.proofs.tests.DoormanMachine.offer.Goals as goal

shown_something : (due : Option ℕ) (waits : Bool) (is : List Input) → IsThere (closed_first due (questions waits is))
shown_something (Some fd) waits is = tt
shown_something None waits [] = tt
shown_something None waits (i ∷ is) = tt

-- it takes an answer, and what it has accepted then is to be closed
door_takes : (waits : Bool) (i : Input) → Takes (door_question waits None) listener i (door_course waits None) (door_course (not waits) (due_after waits i))
door_takes waits i = record {
  goes_on = λ q e is. goes_on q e is;
  strays = λ is. refl;
  settles = refl;
  more = λ is shown e. let h : closed_first (due_after waits i) (questions (not waits) is) ≡ shown = cc in subst IsThere h (shown_something (due_after waits i) (not waits) is);
}
  where
    goes_on : (q : Ask) → Some (door_ask waits) ≡ Some q → (is : List Input) → (door_course waits None).story (i ∷ is) ≡ with_front (question_shown q listener ∷ []) ((door_course (not waits) (due_after waits i)).story is)
    goes_on q e is = let h : door_ask waits ≡ q = cc in subst (λ (z : Ask). (door_course waits None).story (i ∷ is) ≡ with_front (question_shown z listener ∷ []) ((door_course (not waits) (due_after waits i)).story is)) h refl

none-due : (due : Option ℕ) → is_some due ≡ false → due ≡ None
none-due None e = refl
none-due (Some fd) e = cc

pub returns-clause-takes : goal.returns-clause-takes
returns-clause-takes c =
    let none : c.args.self.now.due ≡ None = none-due c.args.self.now.due (sym c.is_some.ensures ∙ c.if-is_some.false) in
    rw (none, c.due_after-self.ensures) (door_takes c.args.self.now.waits c.args.input)
