use Rattle.std.proofs.Common.{◌≡◌, Bool, not, List, [], ◌∷◌, Option, Some, None, refl, subst}
use Rattle.tree_specs.specs.declared.question.Ask.{Ask}
use Rattle.tree_specs.specs.declared.question.Input.{Input}
use Rattle.serving.specs.Doorman.{closed_first, door_ask, door_course, door_question, due_after, listener, questions}
use Rattle.serving.specs.Machines.{Asks, BeginsWith, SameCourse, question_shown}
use Rattle.serving.proofs.tests.DoormanMachine.next.Goals as goal

-- it asks its question, and nothing else has come
door_asks : (waits : Bool) → Asks (door_question waits None) listener (door_course waits None) × SameCourse (door_course waits None) (door_course waits None)
door_asks waits = (record { open_now = refl; last = λ q e. last q e; begins = λ q e i is. begins q e i is }, record { story = λ is. refl; strays = λ is. refl })
  where
    last : (q : Ask) → Some (door_ask waits) ≡ Some q → (door_course waits None).story [] ≡ Some (question_shown q listener ∷ [])
    last q e = let h : door_ask waits ≡ q = cc in subst (λ (z : Ask). (door_course waits None).story [] ≡ Some (question_shown z listener ∷ [])) h refl

    begins : (q : Ask) → Some (door_ask waits) ≡ Some q → (i : Input) (is : List Input) → BeginsWith (question_shown q listener) ((door_course waits None).story (i ∷ is))
    begins q e i is =
        let h : door_ask waits ≡ q = cc in
        subst (λ (z : Ask). BeginsWith (question_shown z listener) ((door_course waits None).story (i ∷ is))) h
        (record { rest = Some (closed_first (due_after waits i) (questions (not waits) is)); begins = refl })

pub returns-in-Some : goal.returns-in-Some
returns-in-Some c = rw c.in-Some.is (record { story = λ is. refl; strays = λ is. refl })

pub returns-in-None : goal.returns-in-None
returns-in-None c = rw c.in-None.is (door_asks c.args.self.now.waits)
