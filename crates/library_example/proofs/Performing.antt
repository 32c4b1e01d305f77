-- From one answered question to the next.
use Rattle.std.proofs.Common.{◌≡◌, ◌+◌, ℕ, List, [], ◌∷◌, ◌++◌, map, length, Option, Some, None, refl, sym, ap, ◌∙◌, append_assoc}
use Rattle.std.proofs.lemmas.List.{length-append}
use Rattle.tree_specs.specs.declared.event.Event.{Event}
use Rattle.tree_specs.specs.declared.call.Call.{Call as ACall}
use Rattle.tree_specs.specs.declared.question.Ask.{Ask}
use Rattle.tree_specs.specs.declared.question.Ask.TheVariants.{Quiet}
use Rattle.tree_specs.specs.declared.question.Input.{Input}
use Rattle.tree_specs.specs.declared.question.Input.TheVariants.{Call}
use Rattle.tree_specs.specs.Rules.Items.{Item}
use Rattle.tree_specs.specs.Rules.Items.Item.{Told, Asked}
use Rattle.tree_specs.specs.Texts.Schedule.{misfit}
use Rattle.tree_specs.specs.Machine.View.{View, rest_of, question_of}
use Rattle.host_core.specs.Promises.{Waits}
use Rattle.library_example.specs.Performed.{answer_to, with_answer, answers_in, events_in, Takes}

-- only the host at rest takes a call
pub fits-quiet : (q : Option Ask) (c : ACall) → misfit q (Call c) ≡ None → q ≡ Some Quiet
fits-quiet (Some Quiet) c h = refl
fits-quiet None c h = cc
fits-quiet (Some q) c h = cc

-- ---- the items of a call

with-append : (o : Option Input) (xs ys : List Input) → with_answer o (xs ++ ys) ≡ with_answer o xs ++ ys
with-append None xs ys = refl
with-append (Some i) xs ys = refl

answers-append : (xs ys : List Item) → answers_in (xs ++ ys) ≡ answers_in xs ++ answers_in ys
answers-append [] ys = refl
answers-append (Told e ∷ xs) ys = answers-append xs ys
answers-append (Asked q ∷ xs) ys = ap (with_answer (answer_to (Some q))) (answers-append xs ys) ∙ with-append (answer_to (Some q)) (answers_in xs) (answers_in ys)

events-append : (xs ys : List Item) → events_in (xs ++ ys) ≡ events_in xs ++ events_in ys
events-append [] ys = refl
events-append (Told e ∷ xs) ys = ap (λ (l : List Event). e ∷ l) (events-append xs ys)
events-append (Asked q ∷ xs) ys = events-append xs ys

answers-told : (events : List Event) → answers_in (map Told events) ≡ []
answers-told [] = refl
answers-told (e ∷ events) = answers-told events

events-told : (events : List Event) → events_in (map Told events) ≡ events
events-told [] = refl
events-told (e ∷ events) = ap (λ (l : List Event). e ∷ l) (events-told events)

-- so many destructors were answered so far
pub record Performing (old : View) (c : ACall) (count : ℕ) (before : List Event) (now : View) (told : List Event) : Type 0 where
  pub items : List Item
  pub goes_on : (is : List Input) → rest_of old (Call c ∷ answers_in items ++ is) ≡ items ++ rest_of now is
  pub events : told ≡ before ++ events_in items
  pub waits : Waits now
  pub quiet : question_of old ≡ Some Quiet
  pub counted : length (answers_in items) ≡ count

-- no destructor is answered among these
first-answers : (q : Ask) (events : List Event) → answer_to (Some q) ≡ None → answers_in (Asked q ∷ map Told events) ≡ []
first-answers q events n = ap (λ (o : Option Input). with_answer o (answers_in (map Told events))) n ∙ answers-told events

pub begun : (old now : View) (c : ACall) (before told : List Event) → Takes old (Call c) before now told → Performing old c 0 before now told
begun old now c before told t =
    let quiet : question_of old ≡ Some Quiet = fits-quiet (question_of old) c t.fits in
    let n : answer_to (Some t.question) ≡ None = ap answer_to (sym t.open_before ∙ quiet) in
    let none : answers_in (Asked t.question ∷ map Told t.events) ≡ [] = first-answers t.question t.events n in
    record {
      items = Asked t.question ∷ map Told t.events;
      goes_on = λ is. ap (λ (l : List Input). rest_of old (Call c ∷ l ++ is)) none ∙ t.goes_on is;
      events = t.added ∙ ap (λ (l : List Event). before ++ l) (sym (events-told t.events));
      waits = t.waits;
      quiet = quiet;
      counted = ap length none;
    }

one-answer : (q : Ask) (i : Input) (events : List Event) → answer_to (Some q) ≡ Some i → answers_in (Asked q ∷ map Told events) ≡ i ∷ []
one-answer q i events a = ap (λ (o : Option Input). with_answer o (answers_in (map Told events))) a ∙ ap (λ (l : List Input). i ∷ l) (answers-told events)

pub answered : (old now next : View) (c : ACall) (count : ℕ) (i : Input) (before told after : List Event) → Performing old c count before now told → answer_to (question_of now) ≡ Some i → Takes now i told next after
    → Performing old c (count + 1) before next after
answered old now next c count i before told after s a t =
    let more : List Item = Asked t.question ∷ map Told t.events in
    let one : answers_in more ≡ i ∷ [] = one-answer t.question i t.events (ap answer_to (sym t.open_before) ∙ a) in
    let answers : answers_in (s.items ++ more) ≡ answers_in s.items ++ i ∷ [] = answers-append s.items more ∙ ap (λ (l : List Input). answers_in s.items ++ l) one in
    record {
      items = s.items ++ more;
      goes_on = λ is.
          ap (λ (l : List Input). rest_of old (Call c ∷ l ++ is)) answers
          ∙ ap (λ (l : List Input). rest_of old (Call c ∷ l)) (append_assoc (answers_in s.items) (i ∷ []) is)
          ∙ s.goes_on (i ∷ is)
          ∙ ap (λ (l : List Item). s.items ++ l) (t.goes_on is)
          ∙ sym (append_assoc s.items more (rest_of next is));
      events = t.added
          ∙ ap (λ (l : List Event). l ++ t.events) s.events
          ∙ append_assoc before (events_in s.items) t.events
          ∙ ap (λ (l : List Event). before ++ (events_in s.items ++ l)) (sym (events-told t.events))
          ∙ ap (λ (l : List Event). before ++ l) (sym (events-append s.items more));
      waits = t.waits;
      quiet = s.quiet;
      counted = ap length answers ∙ length-append (answers_in s.items) (i ∷ []) ∙ ap (λ (n : ℕ). n + 1) s.counted;
    }
