-- What the service shows is one story, whatever is shown of an event and of a question.
use Rattle.std.proofs.Common.{◌≡◌, ℕ, suc, zero, ◌+◌, ◌*◌, List, [], ◌∷◌, ◌++◌, length, map, Option, Some, None, refl, ◌∙◌, ap}
use Rattle.std.specs.Option.{option_map}
use Rattle.std.proofs.lemmas.List.{map-append}
use Rattle.machine_driver.specs.Driver.{Driver, Kind, Story, later, answered, with_first, filled, through, at_item, answer, shown, shown_item, shown_question, shown_answer, shown_last, shown_of, driven}
use Rattle.machine_driver.specs.Driver.Kind.{Event as AnEvent, Question as AQuestion}
use Rattle.tree_specs.specs.declared.event.Event.{Event}
use Rattle.tree_specs.specs.declared.question.Input.{Input}
use Rattle.tree_stories.specs.Sights.{Sight, Opening, sights_of}
use Rattle.service_rules.specs.declared.task.Task.{Task}
use Rattle.service_rules.specs.Knowledge.{Knowledge}
use Rattle.service_rules.specs.Service.{asked_unless, heard, own, showing, shown_events, told}
use Rattle.service_rules.specs.Stations.{StationView, due_answer, more_answers, still_to_come, story_by, watched_to_come}
use Rattle.service_rules.specs.Watching.{item_of, items_of}
use Rattle.service_rules.proofs.Steps.{plain_event, plain_question, watched_event, watched_question}

-- ---- the machine behind it gets the same

module _ {U V : Type 0} (u_event : Event → U) (u_question : Opening → U) (v_event : Event → V) (v_question : Opening → V) where
  abbrev one : Driver Knowledge Sight Event Opening Input Input U
  one = showing u_event u_question

  abbrev other : Driver Knowledge Sight Event Opening Input Input V
  other = showing v_event v_question

  abbrev Filling : Type 0
  Filling = Knowledge → Story Input Sight → List Input → Option (List Input)

  abbrev Same : Filling → Filling → Type 0
  Same go go' = (d : Knowledge) (s : Story Input Sight) (is : List Input) → go d s is ≡ go' d s is

  module _ (go go' : Filling) (ih : Same go go') where
    answer-same : (d : Knowledge) (q : Opening) (s : Story Input Sight) (is : List Input) (o : Option (Input × Knowledge)) → answer one go d q s is o ≡ answer other go' d q s is o
    answer-same d q s is (Some a) = ap (with_first a.0) (ih a.1 (answered a.0 s) is)
    answer-same d q s [] None = refl
    answer-same d q s (i ∷ is) None = ap (with_first i) (ih (heard d q.ask i) (answered i s) is)

    item-same : (on on' : Filling) → Same on on' → (d : Knowledge) (s : Story Input Sight) (is : List Input) (k : Kind Event Opening) → at_item one go on d s is k ≡ at_item other go' on' d s is k
    item-same on on' jh d s is (AnEvent e) = jh (told d e) (later s) is
    item-same on on' jh d s is (AQuestion q) = answer-same d q s is (own d q)

    through-same : (ts : List Sight) → Same (through one go ts) (through other go' ts)
    through-same [] d s is = refl
    through-same (t ∷ ts) d s is = item-same (through one go ts) (through other go' ts) (through-same ts) d s is (one.kind t)

  pub filled-same : (n : ℕ) → Same (filled one n) (filled other n)
  filled-same zero d s is = refl
  filled-same (suc n) d s is = through-same (filled one n) (filled other n) (filled-same n) (s []) d s is

-- ---- what is shown, by a function of it

module _ {U V : Type 0} (f : U → V) (event_shown : Event → U) (question_shown : Opening → U) where
  abbrev plain : Driver Knowledge Sight Event Opening Input Input U
  plain = showing event_shown question_shown

  abbrev mapped : Driver Knowledge Sight Event Opening Input Input V
  mapped = showing (λ e. f (event_shown e)) (λ o. f (question_shown o))

  abbrev Maps : (Knowledge → List Input → List U) → (Knowledge → List Input → List V) → Type 0
  Maps go go' = (d : Knowledge) (is : List Input) → map f (go d is) ≡ go' d is

  module _ (go : Knowledge → List Input → List U) (go' : Knowledge → List Input → List V) (ih : Maps go go') where
    question-mapped : (q : Opening) (is : List Input) (d : Knowledge) → map f (shown_question plain go q is d) ≡ shown_question mapped go' q is d
    question-mapped q [] d = each (own d q)
      where
        each : (o : Option (Input × Knowledge)) → map f (asked_unless o (question_shown q) ++ shown_last plain go o) ≡ asked_unless o (f (question_shown q)) ++ shown_last mapped go' o
        each None = refl
        each (Some a) = ih a.1 []
    question-mapped q (i ∷ is) d = each (own d q)
      where
        each : (o : Option (Input × Knowledge)) → map f (asked_unless o (question_shown q) ++ shown_answer plain go (shown_question plain go q is) d q i is o) ≡ asked_unless o (f (question_shown q)) ++ shown_answer mapped go' (shown_question mapped go' q is) d q i is o
        each None = ap (λ l. f (question_shown q) ∷ l) (ih (heard d q.ask i) is)
        each (Some a) = ih a.1 (i ∷ is)

    events-mapped : (es : List Event) → map f (map event_shown es) ≡ map (λ e. f (event_shown e)) es
    events-mapped [] = refl
    events-mapped (e ∷ es) = ap (λ l. f (event_shown e) ∷ l) (events-mapped es)

    item-mapped : (d : Knowledge) (is : List Input) (k : Kind Event Opening) → map f (shown_item plain go d is k) ≡ shown_item mapped go' d is k
    item-mapped d is (AnEvent e) =
        map-append f (map event_shown (shown_events d e)) (go (told d e) is)
        ∙ ap (λ l. l ++ map f (go (told d e) is)) (events-mapped (shown_events d e))
        ∙ ap (λ l. map (λ x. f (event_shown x)) (shown_events d e) ++ l) (ih (told d e) is)
    item-mapped d is (AQuestion q) = question-mapped q is d

  shown-mapped : (ts : List Sight) → Maps (shown plain ts) (shown mapped ts)
  shown-mapped [] d is = refl
  shown-mapped (t ∷ ts) d is = item-mapped (shown plain ts) (shown mapped ts) (shown-mapped ts) d is (plain.kind t)

  of-mapped : (d : Knowledge) (s : Story Input Sight) (is : List Input) (o : Option (List Input)) → option_map (map f) (shown_of plain d s is o) ≡ shown_of mapped d s is o
  of-mapped d s is None = refl
  of-mapped d s is (Some js) = ap Some (shown-mapped (s js) d is)

  pub driven-mapped : (n : ℕ) (d : Knowledge) (s : Story Input Sight) (is : List Input) → option_map (map f) (driven plain n d s is) ≡ driven mapped n d s is
  driven-mapped n d s is =
      of-mapped d s is (filled plain n d s is)
      ∙ ap (shown_of mapped d s is) (filled-same event_shown question_shown (λ e. f (event_shown e)) (λ o. f (question_shown o)) n d s is)

-- ---- so the items of what is shown with what is watched are those that are told

pub items-to-come : (v : StationView) (is : List Input) → option_map items_of (watched_to_come v is) ≡ still_to_come v is
items-to-come v is = each v.due
  where
    each : (due : Option Task) → option_map items_of (story_by (showing watched_event watched_question) v due is) ≡ story_by (showing plain_event plain_question) v due is
    each None = driven-mapped item_of watched_event watched_question (suc (v.left + more_answers * length is)) v.knows (sights_of v.host) is
    each (Some t) = let a = due_answer v t in driven-mapped item_of watched_event watched_question (v.left + more_answers * length is) a.1 (answered a.0 (sights_of v.host)) is
