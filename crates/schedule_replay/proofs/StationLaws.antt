-- A line service as whoever runs lines by it sees it.
use Rattle.std.proofs.Common.{◌≡◌, ℕ, true, List, [], ◌∷◌, Option, Some, None, Result, Ok, Err, OnOk, refl, sym, ap, ◌∙◌}
use Rattle.step_machine.specs.Open.{LastIs}
use Rattle.tree_specs.specs.declared.event.Event.{Event}
use Rattle.tree_specs.specs.declared.memory.Memory.{Memory}
use Rattle.tree_specs.specs.declared.question.Ask.{Ask}
use Rattle.tree_specs.specs.declared.question.Input.{Input}
use Rattle.tree_specs.specs.declared.schedule.Reason.TheVariants.{NotAsked, Token}
use Rattle.tree_specs.specs.Rules.Items.{Item, IsQuestion}
use Rattle.tree_specs.specs.Rules.Items.Item.{Told, Asked}
use Rattle.tree_specs.specs.Tree.Pool.{Pool}
use Rattle.tree_specs.specs.Texts.Runners.{unless_stray}
use Rattle.tree_specs.specs.Texts.Schedule.{misfit, open_question}
use Rattle.tree_specs.specs.Texts.Text.{event_text, answered_text, body_text}
use Rattle.machine_driver.specs.Driver.{items_or_none, with_front}
use Rattle.machine_driver.proofs.Driving.{front-none}
use Rattle.service_rules.specs.Stations as stations
use Rattle.service_rules.specs.Stations.{StationView, asked_of, still_to_come, strays_to_come}
use Rattle.host_core.specs.declared.fault.OfferFault.{OfferFault}
use Rattle.host_core.specs.Promises.{taken_by}
use Rattle.host_core.proofs.Reaching.{no-reason}
use Rattle.host_core.proofs.Straying.{taken-fits}
use Rattle.schedule_replay.specs.Questions.{answered_of}
use Rattle.schedule_replay.specs.Replays.{behind}
use Rattle.schedule_replay.specs.Standings.{Waits, Follows, unfit, TakesInput, Nexts}
use Rattle.schedule_replay.specs.Stations.{station_standing}
use Rattle.schedule_replay.proofs.ItemLaws.{told-first, question-told, asked-first, question-asked, last-question, last-text}
use Rattle.schedule_replay.proofs.RunLaws.{why-now, on-ok}
use Rattle.schedule_replay.proofs.TextLaws.{behind-nil}

-- ---- the open question, and what is told

pub station_waits : (v : StationView) → stations.IsAsked v → Waits (station_standing v)
station_waits v a = record {
  question = a.question;
  asked_now = a.open_now;
  open_now = ap (λ (o : Option (List Item)). open_question (items_or_none o)) a.last ∙ last-question a.question;
  last = ap (λ (o : Option (List Item)). body_text (items_or_none o)) a.last ∙ last-text a.question;
}

told-text : (e : Event) (o : Option (List Item)) → body_text (items_or_none (with_front (Told e ∷ []) o)) ≡ behind (event_text e) (body_text (items_or_none o))
unfolding body_text
told-text e None = refl
told-text e (Some l) = told-first e l

told-question : (e : Event) (o : Option (List Item)) → open_question (items_or_none (with_front (Told e ∷ []) o)) ≡ open_question (items_or_none o)
unfolding open_question
told-question e None = refl
told-question e (Some l) = question-told e l

shows-event : (v w : StationView) (e : Event) → stations.Shows (e ∷ []) v w → Follows (event_text e) (station_standing v) (station_standing w)
shows-event v w e h = record {
  tells = λ is. ap (λ (o : Option (List Item)). body_text (items_or_none o)) (h.story is) ∙ told-text e (still_to_come w is);
  open_after = λ is. ap (λ (o : Option (List Item)). open_question (items_or_none o)) (h.story is) ∙ told-question e (still_to_come w is);
  strays = h.strays;
}

pub shows-nothing : (v w : StationView) → stations.Shows [] v w → Follows [] (station_standing v) (station_standing w)
shows-nothing v w h =
    let same : (is : List Input) → still_to_come v is ≡ still_to_come w is = λ is. h.story is ∙ front-none (still_to_come w is) in
    record {
      tells = λ is. ap (λ (o : Option (List Item)). body_text (items_or_none o)) (same is) ∙ behind-nil (body_text (items_or_none (still_to_come w is)));
      open_after = λ is. ap (λ (o : Option (List Item)). open_question (items_or_none o)) (same is);
      strays = h.strays;
    }

-- ---- an answer that was taken

asked-text : (q : Ask) (o : Option (List Item)) → ((l : List Item) → o ≡ Some l → LastIs IsQuestion l) → body_text (items_or_none (with_front (Asked q ∷ []) o)) ≡ behind (answered_text q) (body_text (items_or_none o))
unfolding body_text
asked-text q None ends = refl
asked-text q (Some []) ends = absurd (ends [] refl)
asked-text q (Some (j ∷ rest)) ends = asked-first q (j ∷ rest) j rest refl

asked-question : (q : Ask) (o : Option (List Item)) → ((l : List Item) → o ≡ Some l → LastIs IsQuestion l) → open_question (items_or_none (with_front (Asked q ∷ []) o)) ≡ open_question (items_or_none o)
unfolding open_question
asked-question q None ends = refl
asked-question q (Some []) ends = absurd (ends [] refl)
asked-question q (Some (j ∷ rest)) ends = question-asked q (j ∷ rest) j rest refl

takes-input : (v w : StationView) (i : Input) → Waits (station_standing v) → stations.TakesAnswer v i w → TakesInput misfit (station_standing v) i (station_standing w)
takes-input v w i ready taken = record {
  fits =
      why-now misfit (station_standing v) ready i None (ap (λ (o : Option Ask). misfit o i) taken.asked.open_now ∙ taken.fits)
      ∙ ap (unless_stray None) (taken.strays [] ∙ taken.settles);
  follows = record {
    tells = λ is.
        ap (λ (o : Option (List Item)). body_text (items_or_none o)) (taken.goes_on is) ∙ asked-text taken.asked.question (still_to_come w is) (taken.ends is)
        ∙ ap (λ (l : List ℕ). behind l (body_text (items_or_none (still_to_come w is)))) (sym (ap answered_of taken.asked.open_now));
    open_after = λ is. ap (λ (o : Option (List Item)). open_question (items_or_none o)) (taken.goes_on is) ∙ asked-question taken.asked.question (still_to_come w is) (taken.ends is);
    strays = taken.strays;
  };
}

-- ---- each answer of a service

pub station_next : (r : Result (Option Event) Memory) (v w : StationView) → stations.NextLaw r v w → Nexts event_text r (station_standing v) (station_standing w)
station_next (Ok (Some e)) v w h = shows-event v w e h
station_next (Ok None) v w h = (shows-nothing v w h.0, station_waits w h.1)
station_next (Err m) v w h = shows-nothing v w h

pub station_takes : (r : Result (Unit {0}) OfferFault) (v w : StationView) (i : Input) → Waits (station_standing v) → OnOk r (stations.TakesAnswer v i w) → OnOk r (TakesInput misfit (station_standing v) i (station_standing w))
station_takes r v w i ready h = on-ok r (takes-input v w i ready) h

pub station_not_asked : (v : StationView) → Waits (station_standing v) → (i : Input) → misfit (asked_of v) i ≡ Some NotAsked → unfit misfit (station_standing v) i ≡ Some NotAsked
station_not_asked v w i m = why-now misfit (station_standing v) w i (Some NotAsked) m

-- it was asked for, and yet doesn't fit
pub station_taken : (v : StationView) → Waits (station_standing v) → (i : Input) (p : Pool) (fd : ℕ) → taken_by (asked_of v) p i ≡ Some fd → strays_to_come v (i ∷ []) ≡ true → unfit misfit (station_standing v) i ≡ Some Token
station_taken v w i p fd t s = why-now misfit (station_standing v) w i None (no-reason (misfit (asked_of v) i) (taken-fits (asked_of v) p i fd t)) ∙ ap (unless_stray None) s
