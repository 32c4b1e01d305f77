-- A log of what is open outside, and of whether each answer suited its question; it says yes where the exchanges do.
use Rattle.std.proofs.Common.{◌≡◌, ℕ, Bool, true, false, List, [], ◌∷◌, ◌++◌, Option, Some, None, refl, subst}
use Rattle.std.specs.Prelude.{◌&&◌, not, is_none, map}
use Rattle.machine_driver.specs.Driver.{Driver, Kind, shown, shown_item, shown_question, shown_answer, shown_last}
use Rattle.machine_driver.specs.Driver.Kind.{Event as AnEvent, Question as AQuestion}
use Rattle.machine_driver.specs.Watched.{Log, logged, logged_own, after, after_item, after_question, after_answer, after_last}
use Rattle.tree_specs.specs.declared.event.Event.{Event}
use Rattle.tree_specs.specs.declared.event.Event.TheVariants as event
use Rattle.tree_specs.specs.declared.question.Ask.{Ask}
use Rattle.tree_specs.specs.declared.question.Input.{Input}
use Rattle.tree_specs.specs.declared.question.Input.TheVariants as input
use Rattle.tree_specs.specs.declared.schedule.Reason.{Reason}
use Rattle.tree_specs.specs.Texts.Schedule.{misfit}
use Rattle.tree_specs.specs.Words.Ranges.{is_sound}
use Rattle.tree_specs.proofs.Calls.Checks.{both-true, not-true}
use Rattle.tree_stories.specs.Sights.{Sight, Opening}
use Rattle.service_rules.specs.Knowledge.{Knowledge}
use Rattle.service_rules.specs.Service.{told, own, heard, kind_of, shown_events, if_outside, is_outside, asked_unless}
use Rattle.service_rules.specs.Watching.{Shown, watched, watching}
use Rattle.service_rules.specs.Exchanges.{Exchange, Answered, Suits, AllSuit, accepts_new, closing, exchanges}
use Rattle.service_rules.proofs.OpenDescriptors.{known_after, known_with}
use Rattle.service_rules.proofs.SuitingTaken.{IsNew}

-- ---- the log

pub record Outlook : Type 0 where
  pub known : ℕ → Bool
  -- whether all answers suited so far
  pub suits : Bool

abbrev pub suits_now : Ask → Input → Bool
suits_now q i = is_sound i && is_none (misfit (Some q) i)

abbrev pub is_new : (ℕ → Bool) → Input → Bool
is_new known (input.Took fd) = not (known fd)
is_new known i = true

abbrev pub suiting : Log Outlook Knowledge Event Opening Input
suiting = record {
  at_event = λ l d e. record l { known = known_after l.known e };
  at_own = λ l d o. l;
  at_answer = λ l d o i. record { known = known_with l.known i; suits = l.suits && (suits_now o.ask i && is_new l.known i) };
}

abbrev pub Known : Type 0
Known = Knowledge × Outlook

abbrev pub with_suiting : Driver Known Sight Event Opening Input Input Shown
with_suiting = logged suiting watching

-- ---- what it says of an answer

none-so : (o : Option Reason) → is_none o ≡ true → o ≡ None
none-so None e = refl
none-so (Some r) e = cc

pub suits-so : (q : Ask) (i : Input) → suits_now q i ≡ true → Suits q i
suits-so q i e = let b = both-true (is_sound i) (is_none (misfit (Some q) i)) e in record { sound = b.0; fits = none-so (misfit (Some q) i) b.1 }

pub new-so : (known : ℕ → Bool) (i : Input) → is_new known i ≡ true → IsNew known i
new-so known (input.Took fd) e = not-true (known fd) e
new-so known _ e = tt

-- ---- what the exchanges say of it

abbrev Judged : (ℕ → Bool) → List Exchange → Type 0
Judged known es = AllSuit es × (accepts_new known es ≡ true)

event-exchanges : (d : Knowledge) (e : Event) (ss : List Shown) (is : List Input) → exchanges (map (λ e. AnEvent e) (shown_events d e) ++ ss) is ≡ closing e ++ exchanges ss is
event-exchanges d (event.Replied r) ss is = each (is_outside d.runs)
  where
    each : (b : Bool) → exchanges (map (λ e. AnEvent e) (if_outside b (event.Replied r)) ++ ss) is ≡ exchanges ss is
    each true = refl
    each false = refl
event-exchanges d _ ss is = refl

after-event : (known : ℕ → Bool) (e : Event) (es : List Exchange) → Judged known (closing e ++ es) → Judged (known_after known e) es
after-event known (event.Closed fd) es j = j
after-event known _ es j = j

after-answer : (known : ℕ → Bool) (o : Opening) (i : Input) (es : List Exchange) → Judged known (Answered (watched o).ask (watched o).wanted i ∷ es) → ((suits_now o.ask i && is_new known i) ≡ true) × Judged (known_with known i) es
after-answer known o i es j = each i j.0.0 j.0.1 j.1
  where
    suited : (i : Input) → Suits o.ask i → suits_now o.ask i ≡ true
    suited i s = let a : is_sound i ≡ true = s.sound in let b : misfit (Some o.ask) i ≡ None = s.fits in rw (a, b) refl

    each : (i : Input) → Suits o.ask i → AllSuit es → accepts_new known (Answered (watched o).ask (watched o).wanted i ∷ es) ≡ true → ((suits_now o.ask i && is_new known i) ≡ true) × Judged (known_with known i) es
    each (input.Took fd) s all a = let b = both-true (not (known fd)) _ a in let t : suits_now o.ask (input.Took fd) ≡ true = suited (input.Took fd) s in let n : not (known fd) ≡ true = b.0 in (rw (t, n) refl, (all, b.1))
    each i s all a = let t : suits_now o.ask i ≡ true = suited i s in (rw t refl, (all, a))

-- where these are shown, and all of their exchanges suit, it says so
abbrev Says : (Known → List Input → Known) → (Knowledge → List Input → List Shown) → Type 0
Says ago go = (w : Known) (is : List Input) → Judged w.1.known (exchanges (go w.0 is) is) → w.1.suits ≡ true → (ago w is).1.suits ≡ true

module _ (ago : Known → List Input → Known) (go : Knowledge → List Input → List Shown) (ih : Says ago go) (q : Opening) where
  question-says : (is : List Input) (w : Known) → Judged w.1.known (exchanges (shown_question watching go q is w.0) is) → w.1.suits ≡ true → (after_question with_suiting ago q is w).1.suits ≡ true
  question-says [] w j b = each (own w.0 q) j
    where
      each : (o : Option (Input × Knowledge)) → Judged w.1.known (exchanges (asked_unless o (AQuestion (watched q)) ++ shown_last watching go o) []) → (after_last with_suiting ago w (logged_own w.1 o)).1.suits ≡ true
      each None j = b
      each (Some a) j = ih (a.1, w.1) [] j b
  question-says (i ∷ is) w j b = each (own w.0 q) j
    where
      each : (o : Option (Input × Knowledge)) → Judged w.1.known (exchanges (asked_unless o (AQuestion (watched q)) ++ shown_answer watching go (shown_question watching go q is) w.0 q i is o) (i ∷ is))
          → (after_answer with_suiting ago (after_question with_suiting ago q is) w q i is (logged_own w.1 o)).1.suits ≡ true
      each None j =
          let d : Knowledge = heard w.0 q.ask i in
          let t = after-answer w.1.known q i (exchanges (go d is) is) j in
          let x : w.1.suits ≡ true = b in
          let y : (suits_now q.ask i && is_new w.1.known i) ≡ true = t.0 in
          ih (d, suiting.at_answer w.1 w.0 q i) is t.1 (rw (x, y) refl)
      each (Some a) j = ih (a.1, w.1) (i ∷ is) j b

pub says : (ts : List Sight) → Says (after with_suiting ts) (shown watching ts)
says [] w is j b = b
says (t ∷ ts) w is j b = each (says ts) (kind_of t.item t) j
  where
    each : Says (after with_suiting ts) (shown watching ts) → (k : Kind Event Opening) → Judged w.1.known (exchanges (shown_item watching (shown watching ts) w.0 is k) is) → (after_item with_suiting (after with_suiting ts) w is k).1.suits ≡ true
    each ih (AnEvent e) j =
        let ss : List Shown = shown watching ts (told w.0 e) is in
        let same = event-exchanges w.0 e ss is in
        ih (told w.0 e, suiting.at_event w.1 w.0 e) is (after-event w.1.known e (exchanges ss is) (subst (Judged w.1.known) same j)) b
    each ih (AQuestion q) j = question-says (after with_suiting ts) (shown watching ts) ih q is w j b
