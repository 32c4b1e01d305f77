-- A machine that takes all that suits goes on taking it, event by event and answer by answer.
use std.Path.{fun_ext}
use Rattle.std.proofs.Common.{◌≡◌, ℕ, ◌==◌, ◌&&◌, ◌||◌, not, Bool, true, false, List, [], ◌∷◌, Option, Some, None, refl, sym, ◌∙◌, ap, subst}
use Rattle.std.specs.List.{list_all}
use Rattle.machine_driver.specs.Driver.{items_or_none, with_front}
use Rattle.machine_driver.specs.Driver.Kind.{Event as AnEvent, Question as AQuestion}
use Rattle.tree_specs.specs.declared.event.Event.{Event}
use Rattle.tree_specs.specs.declared.event.Event.TheVariants as events
use Rattle.tree_specs.specs.declared.question.Ask.{Ask}
use Rattle.tree_specs.specs.declared.question.Input.{Input}
use Rattle.tree_specs.specs.declared.question.Input.TheVariants as inputs
use Rattle.tree_specs.specs.declared.wants.Want.{Want}
use Rattle.tree_specs.proofs.Calls.Checks.{both-true}
use Rattle.service_rules.specs.Exchanges.{Exchange, AllSuit, Suits, accepts_new, exchanges, with_open, without_open}
use Rattle.service_rules.specs.Exchanges.Exchange.{Answered, Closed}
use Rattle.service_rules.specs.ReadRanges.{reads_in_range, shows_in_range}
use Rattle.service_rules.specs.Watching.{Shown}
use Rattle.serving.specs.Machines.{BeginsWith, Course, IsServable, ReadsInRange, TakesAllThatSuit, TellsNext, exchanges_over, question_shown}
use Rattle.serving.specs.Serving.{OpenClosed, OpensBy}

abbrev over : Option (List Shown) → List Input → List Exchange
over story is = exchanges (items_or_none story) is

-- ---- an event

event_suits_so : (e : Event) (k l : ℕ → Bool) (o : Option (List Shown)) (is : List Input) → OpenClosed e k l → AllSuit (over o is) → accepts_new l (over o is) ≡ true
    → AllSuit (over (with_front (AnEvent e ∷ []) o) is) × (accepts_new k (over (with_front (AnEvent e ∷ []) o) is) ≡ true)
event_suits_so e k l None is open_now suit new = (tt, refl)
event_suits_so (events.Closed fd) k l (Some shown) is open_now suit new = (suit, ap (λ (f : ℕ → Bool). accepts_new f (exchanges shown is)) (sym (fun_ext open_now)) ∙ new)
event_suits_so e k l (Some shown) is open_now suit new = (suit, ap (λ (f : ℕ → Bool). accepts_new f (exchanges shown is)) (sym (fun_ext open_now)) ∙ new)

event_suits : (e : Event) (b c : Course) (k l : ℕ → Bool) → TakesAllThatSuit b k → TellsNext e b c → OpenClosed e k l → TakesAllThatSuit c l
event_suits e b c k l takes n open_now is suit new =
    let h = event_suits_so e k l (c.story is) is open_now suit new in
    let same : b.story is ≡ with_front (AnEvent e ∷ []) (c.story is) = n.story is in
    sym (n.strays is) ∙ takes is (subst (λ (o : Option (List Shown)). AllSuit (over o is)) (sym same) h.0) (ap (λ (o : Option (List Shown)). accepts_new k (over o is)) same ∙ h.1)

-- ---- an answer

-- what an answer accepts isn't open
answer_new : (q : Ask) (wanted : List Want) (i : Input) (k l : ℕ → Bool) (es : List Exchange) → OpensBy k l i → accepts_new l es ≡ true → accepts_new k (Answered q wanted i ∷ es) ≡ true
answer_new q wanted (inputs.Took fd) k l es opens new =
    let later : accepts_new (with_open fd k) es ≡ true = ap (λ (f : ℕ → Bool). accepts_new f es) (sym (fun_ext opens.added)) ∙ new in
    rw (opens.vacant, later) refl
answer_new q wanted i k l es opens new = ap (λ (f : ℕ → Bool). accepts_new f es) (sym (fun_ext opens)) ∙ new

answer_suits_so : (q : Ask) (wanted : List Want) (i : Input) (k l : ℕ → Bool) (o : Option (List Shown)) (is : List Input) → Suits q i → OpensBy k l i → AllSuit (over o is) → accepts_new l (over o is) ≡ true
    → AllSuit (over (with_front (question_shown q wanted ∷ []) o) (i ∷ is)) × (accepts_new k (over (with_front (question_shown q wanted ∷ []) o) (i ∷ is)) ≡ true)
answer_suits_so q wanted i k l None is s opens suit new = (tt, refl)
answer_suits_so q wanted i k l (Some shown) is s opens suit new = ((s, suit), answer_new q wanted i k l (exchanges shown is) opens new)

module _ (q : Ask) (wanted : List Want) (i : Input) (k l : ℕ → Bool) (suits : Suits q i) (opens : OpensBy k l i) where
  fitting : (b : Course) (o : Option (List Shown)) (is : List Input) → TakesAllThatSuit b k → b.story (i ∷ is) ≡ with_front (question_shown q wanted ∷ []) o → AllSuit (over o is) → accepts_new l (over o is) ≡ true → b.strays (i ∷ is) ≡ false
  fitting b o is takes e suit new =
      let h = answer_suits_so q wanted i k l o is suits opens suit new in
      takes (i ∷ is) (subst (λ (z : Option (List Shown)). AllSuit (over z (i ∷ is))) (sym e) h.0) (ap (λ (z : Option (List Shown)). accepts_new k (over z (i ∷ is))) e ∙ h.1)

  answer_suits : (b c : Course) → TakesAllThatSuit b k → ((is : List Input) → b.story (i ∷ is) ≡ with_front (question_shown q wanted ∷ []) (c.story is)) → ((is : List Input) → b.strays (i ∷ is) ≡ c.strays is) → TakesAllThatSuit c l
  answer_suits b c takes goes_on strays is suit new = sym (strays is) ∙ fitting b (c.story is) is takes (goes_on is) suit new

  -- where no more answers come, all of them suit
  silent_suits : (shown : List Shown) → AllSuit (exchanges shown [])
  silent_suits [] = tt
  silent_suits (AnEvent (events.Closed fd) ∷ ss) = silent_suits ss
  silent_suits (AnEvent e ∷ ss) = silent_suits ss
  silent_suits (AQuestion asked ∷ ss) = tt

  silent_new : (f : ℕ → Bool) (shown : List Shown) → accepts_new f (exchanges shown []) ≡ true
  silent_new f [] = refl
  silent_new f (AnEvent (events.Closed fd) ∷ ss) = silent_new (without_open fd f) ss
  silent_new f (AnEvent e ∷ ss) = silent_new f ss
  silent_new f (AQuestion asked ∷ ss) = refl

  -- so the next answer fits
  pub next_fits : (b : Course) → TakesAllThatSuit b k → BeginsWith (question_shown q wanted) (b.story (i ∷ [])) → b.strays (i ∷ []) ≡ false
  next_fits b takes begins = fitting b begins.rest [] takes begins.begins (silent_suits (items_or_none begins.rest)) (silent_new l (items_or_none begins.rest))

-- ---- reads

read_first : (s : Shown) (b o : Option (List Shown)) (shown : List Shown) → ((all : List Shown) → b ≡ Some all → list_all shows_in_range all ≡ true) → b ≡ with_front (s ∷ []) o → o ≡ Some shown
    → list_all shows_in_range (s ∷ shown) ≡ true
read_first s b o shown reads e is = reads (s ∷ shown) (e ∙ ap (with_front (s ∷ [])) is)

event_reads : (e : Event) (b c : Course) → ReadsInRange b → TellsNext e b c → ReadsInRange c
event_reads e b c reads n is shown found = read_first (AnEvent e) (b.story is) (c.story is) shown (reads is) (n.story is) found

answer_reads : (q : Ask) (wanted : List Want) (i : Input) (b c : Course) → ReadsInRange b → ((is : List Input) → b.story (i ∷ is) ≡ with_front (question_shown q wanted ∷ []) (c.story is)) → ReadsInRange c
answer_reads q wanted i b c reads goes_on is shown found =
    (both-true (reads_in_range q) _ (read_first (question_shown q wanted) (b.story (i ∷ is)) (c.story is) shown (reads (i ∷ is)) (goes_on is) found)).1

-- what is asked now is a read in range
pub asked_in_range : (q : Ask) (wanted : List Want) (c : Course) → ReadsInRange c → c.story [] ≡ Some (question_shown q wanted ∷ []) → reads_in_range q ≡ true
asked_in_range q wanted c reads last = (both-true (reads_in_range q) true (reads [] (question_shown q wanted ∷ []) last)).0

-- ---- both

pub event_servable : (e : Event) (b c : Course) (k l : ℕ → Bool) → IsServable b k → TellsNext e b c → OpenClosed e k l → IsServable c l
event_servable e b c k l s n open_now = record { takes = event_suits e b c k l s.takes n open_now; reads = event_reads e b c s.reads n }

pub answer_servable : (q : Ask) (wanted : List Want) (i : Input) (k l : ℕ → Bool) → Suits q i → OpensBy k l i → (b c : Course) → IsServable b k
    → ((is : List Input) → b.story (i ∷ is) ≡ with_front (question_shown q wanted ∷ []) (c.story is)) → ((is : List Input) → b.strays (i ∷ is) ≡ c.strays is) → IsServable c l
answer_servable q wanted i k l suits opens b c s goes_on strays = record { takes = answer_suits q wanted i k l suits opens b c s.takes goes_on strays; reads = answer_reads q wanted i b c s.reads goes_on }

-- ---- fewer are open

fewer_with : (fd : ℕ) (k l : ℕ → Bool) → ((x : ℕ) → k x ≡ true → l x ≡ true) → (x : ℕ) → with_open fd k x ≡ true → with_open fd l x ≡ true
fewer_with fd k l fewer x = each (x == fd)
  where
    each : (b : Bool) → (b || k x) ≡ true → (b || l x) ≡ true
    each true h = refl
    each false h = fewer x h

fewer_without : (fd : ℕ) (k l : ℕ → Bool) → ((x : ℕ) → k x ≡ true → l x ≡ true) → (x : ℕ) → without_open fd k x ≡ true → without_open fd l x ≡ true
fewer_without fd k l fewer x = each (x == fd)
  where
    each : (b : Bool) → (not b && k x) ≡ true → (not b && l x) ≡ true
    each true h = h
    each false h = fewer x h

-- what isn't open among more isn't among fewer
vacant_fewer : (b c more : Bool) → (b ≡ true → c ≡ true) → (not c && more) ≡ true → (not b ≡ true) × (more ≡ true)
vacant_fewer true true more h e = cc
vacant_fewer true false more h e = let wrong : false ≡ true = h refl in cc
vacant_fewer false true more h e = cc
vacant_fewer false false more h e = (refl, e)

new_fewer : (k l : ℕ → Bool) → ((x : ℕ) → k x ≡ true → l x ≡ true) → (es : List Exchange) → accepts_new l es ≡ true → accepts_new k es ≡ true
new_fewer k l fewer [] new = refl
new_fewer k l fewer (Closed fd ∷ es) new = new_fewer (without_open fd k) (without_open fd l) (fewer_without fd k l fewer) es new
new_fewer k l fewer (Answered q wanted (inputs.Took fd) ∷ es) new =
    let v = vacant_fewer (k fd) (l fd) (accepts_new (with_open fd l) es) (fewer fd) new in
    rw (v.0, new_fewer (with_open fd k) (with_open fd l) (fewer_with fd k l fewer) es v.1) refl
new_fewer k l fewer (Answered q wanted i ∷ es) new = new_fewer k l fewer es new

pub suits_fewer : (c : Course) (k l : ℕ → Bool) → ((x : ℕ) → k x ≡ true → l x ≡ true) → TakesAllThatSuit c k → TakesAllThatSuit c l
suits_fewer c k l fewer takes is suit new = takes is suit (new_fewer k l fewer (exchanges_over c is) new)
