-- Answers fit as the lines of a schedule do: whatever comes between them, and one after another.
use std.Path.{fun_ext}
use Rattle.std.proofs.Common.{◌≡◌, List, [], ◌∷◌, false, Option, Some, None, refl, sym, ◌∙◌, ap, subst}
use Rattle.machine_driver.specs.Driver.{items_or_none, with_front}
use Rattle.machine_driver.specs.Driver.Kind.{Event as AnEvent}
use Rattle.tree_specs.specs.declared.event.Event.{Event}
use Rattle.tree_specs.specs.declared.question.Ask.{Ask}
use Rattle.tree_specs.specs.declared.question.Input.{Input}
use Rattle.tree_specs.specs.declared.wants.Want.{Want}
use Rattle.tree_specs.specs.Texts.Runners.{Course as LineCourse, once_given}
use Rattle.tree_specs.specs.Texts.Schedule.{misfit, open_question}
use Rattle.service_rules.specs.Watching.{Shown, items_of}
use Rattle.service_records.specs.Records.{AllFit}
use Rattle.serving.specs.Machines.{Course, IsThere, SameCourse, TellsNext, line_course, question_shown}

-- the question that is open after a story, which may not be there
abbrev pub open_in : Option (List Shown) → Option Ask
open_in story = open_question (items_of (items_or_none story))

-- two that are alike answer by answer take the same
pub fits_alike : (c d : LineCourse Input) → ((is : List Input) → c.open_after is ≡ d.open_after is) → ((is : List Input) → c.strays is ≡ d.strays is) → (is : List Input) → AllFit c is → AllFit d is
fits_alike c d asked strays is fit =
    let same : c ≡ d = ap (λ (f : List Input → Option Ask). let x : LineCourse Input = record { open_after = f; strays = c.strays } in x) (fun_ext asked)
    ∙ ap (λ f. let x : LineCourse Input = record { open_after = d.open_after; strays = f } in x) (fun_ext strays) in
    subst (λ (x : LineCourse Input). AllFit x is) same fit

-- ---- events

event_open : (e : Event) (story : Option (List Shown)) → open_in (with_front (AnEvent e ∷ []) story) ≡ open_in story
unfolding open_question
event_open e None = refl
event_open e (Some []) = refl
event_open e (Some (s ∷ ss)) = refl

pub event_fits : (e : Event) (b c : Course) → TellsNext e b c → (is : List Input) → AllFit (line_course c) is → AllFit (line_course b) is
event_fits e b c n is fit =
    fits_alike (line_course c) (line_course b) (λ js. sym (ap open_in (n.story js) ∙ event_open e (c.story js))) (λ js. sym (n.strays js)) is fit

pub same_fits : (b c : Course) → SameCourse b c → (is : List Input) → AllFit (line_course c) is → AllFit (line_course b) is
same_fits b c n is fit = fits_alike (line_course c) (line_course b) (λ js. sym (ap open_in (n.story js))) (λ js. sym (n.strays js)) is fit

-- ---- answers

-- the question of an answer isn't open where something comes after it
question_open : (q : Ask) (wanted : List Want) (story : Option (List Shown)) → ((shown : List Shown) → story ≡ Some shown → IsThere shown) → open_in (with_front (question_shown q wanted ∷ []) story) ≡ open_in story
unfolding open_question
question_open q wanted None there = refl
question_open q wanted (Some []) there = absurd (there [] refl)
question_open q wanted (Some (s ∷ ss)) there = refl

-- the only question of a story is open
only_open : (q : Ask) (wanted : List Want) → open_in (Some (question_shown q wanted ∷ [])) ≡ Some q
unfolding open_question
only_open q wanted = refl

pub answer_fits : (q : Ask) (wanted : List Want) (i : Input) (b c : Course) → b.story [] ≡ Some (question_shown q wanted ∷ []) → misfit (Some q) i ≡ None
    → ((is : List Input) → b.story (i ∷ is) ≡ with_front (question_shown q wanted ∷ []) (c.story is)) → ((is : List Input) → b.strays (i ∷ is) ≡ c.strays is) → c.strays [] ≡ false
    → ((is : List Input) (shown : List Shown) → c.story is ≡ Some shown → IsThere shown) → (is : List Input) → AllFit (line_course c) is → AllFit (line_course b) (i ∷ is)
answer_fits q wanted i b c last fits goes_on strays settles more is fit = (
  rw (ap open_in last ∙ only_open q wanted, fits, strays [], settles) refl,
  fits_alike (line_course c) (once_given i (line_course b)) (λ js. sym (ap open_in (goes_on js) ∙ question_open q wanted (c.story js) (more js))) (λ js. sym (strays js)) is fit,
)
