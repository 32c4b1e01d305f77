-- What each step of machine and driver together keeps holds of every driven story.
use std.Path.{fun_ext}
use Rattle.std.proofs.Common.{◌≡◌, ℕ, suc, zero, List, [], ◌∷◌, ◌++◌, Option, Some, None, refl, sym, ◌∙◌, ap, subst, append_assoc}
use Rattle.std.proofs.lemmas.List.{append-nil}
use Rattle.step_machine.specs.Machine.{Move, Table, leads, walk}
use Rattle.step_machine.specs.Machine.Move.{Done, Go, Emit, Wait, Call}
use Rattle.step_machine.proofs.Ends.{NotShort}
use Rattle.machine_driver.specs.Driver.{Driver, Kind, Given, Story, tail, later, answered, with_first, filled, through, at_item, answer, from_outside, passed_on, shown, shown_item, shown_question, shown_answer, shown_last, shown_after}
use Rattle.machine_driver.specs.Driver.Kind.{Event, Question}
use Rattle.machine_driver.specs.Driver.Given.{Pass, Reply, Misfit}
use Rattle.machine_driver.specs.Watched.{after, after_item, after_question, after_answer, after_last, after_given}
use Rattle.machine_driver.proofs.Telling.{Tells, TakesOr, ToldBy, TellsStories, not-short-told}
use Rattle.machine_driver.proofs.Kept.{TakenOr, GivenKeeps, OwnKeeps, EventKeeps, QuestionKeeps, StepKeeps, IsKept}

module _ {F A P I T D E Q J U : Type 0} (t : Table F A P I T) (driver : Driver D T E Q I J U) (Fine : F → List F → P → Type 0) (story : F → List F → P → Story I T)
    (K : List U → D → F → List F → P → Type 0) (C : List U → D → Type 0) (tells : TellsStories t Fine story) (kept : IsKept t driver K C) where
  -- what is concluded of a story over the filled inputs, if they are there
  abbrev pub Concluded : List U → D → Story I T → List J → Option (List I) → Type 0
  Concluded us d s js None = Unit {0}
  Concluded us d s js (Some is) = C (us ++ shown driver (s is) d js) (after driver (s is) d js)

  abbrev At : ℕ → List U → D → Story I T → List J → Type 0
  At n us d s js = Concluded us d s js (filled driver n d s js)

  abbrev Holds : ℕ → List U → D → F → List F → P → List J → Type 0
  Holds n us d f fs p js = At n us d (story f fs p) js

  -- the same story in other words
  at-same : (n : ℕ) (us : List U) (d : D) (s s' : Story I T) (js : List J) → ((is : List I) → s is ≡ s' is) → At n us d s' js → At n us d s js
  at-same n us d s s' js e h = subst (λ (x : Story I T). At n us d x js) (sym (fun_ext e)) h

  -- ---- an event

  shows-first : (us : List U) (d : D) (s s' : Story I T) (x : T) (e : E) (js : List J) (o : Option (List I)) → driver.kind x ≡ Event e → ((is : List I) → s is ≡ x ∷ s' is)
      → Concluded (us ++ driver.shows d e) (driver.told d e) s' js o → Concluded us d s js o
  shows-first us d s s' x e js None k b h = tt
  shows-first us d s s' x e js (Some is) k b h =
      let g : List T → Type 0 = λ ts. C (us ++ shown driver ts d js) (after driver ts d js) in
      let i : Kind E Q → Type 0 = λ kd. C (us ++ shown_item driver (shown driver (s' is)) d js kd) (after_item driver (after driver (s' is)) d js kd) in
      subst g (sym (b is)) (subst i (sym k) (subst (λ z. C z (after driver (s' is) (driver.told d e) js)) (append_assoc us (driver.shows d e) _) h))

  event-at : (n : ℕ) (us : List U) (d : D) (s s' : Story I T) (x : T) (e : E) (js : List J) → driver.kind x ≡ Event e → ((is : List I) → s is ≡ x ∷ s' is)
      → At (suc n) (us ++ driver.shows d e) (driver.told d e) s' js → At (suc n) us d s js
  event-at n us d s s' x e js k b h =
      let same : later s ≡ s' = fun_ext (λ is. ap tail (b is)) in
      let f : filled driver (suc n) d s js ≡ filled driver (suc n) (driver.told d e) s' js =
      ap (λ ts. through driver (filled driver n) ts d s js) (b [])
      ∙ ap (λ z. at_item driver (filled driver n) (through driver (filled driver n) (s' [])) d s js z) k
      ∙ ap (λ (z : Story I T). through driver (filled driver n) (s' []) (driver.told d e) z js) same in
      subst (Concluded us d s js) (sym f) (shows-first us d s s' x e js _ k b h)

  -- ---- a question that is answered

  -- the story before an answer, as the question and what follows it
  question-at : (us : List U) (d : D) (s : Story I T) (x : T) (q : Q) (js : List J) (is : List I) (ts : List T) → driver.kind x ≡ Question q → s is ≡ x ∷ ts
      → C (us ++ shown_question driver (shown driver ts) q js d) (after_question driver (after driver ts) q js d) → C (us ++ shown driver (s is) d js) (after driver (s is) d js)
  question-at us d s x q js is ts k b h =
      let g : List T → Type 0 = λ zs. C (us ++ shown driver zs d js) (after driver zs d js) in
      let i : Kind E Q → Type 0 = λ kd. C (us ++ shown_item driver (shown driver ts) d js kd) (after_item driver (after driver ts) d js kd) in
      subst g (sym b) (subst i (sym k) h)

  own-first : (us : List U) (d : D) (s s' : Story I T) (x : T) (q : Q) (i : I) (d' : D) (js : List J) (o : Option (List I)) → driver.kind x ≡ Question q → driver.own d q ≡ Some (i, d') → ((is : List I) → s (i ∷ is) ≡ x ∷ s' is)
      → Concluded (us ++ driver.asks d q) d' s' js o → Concluded us d s js (with_first i o)
  own-first us d s s' x q i d' js None k own b h = tt
  own-first us d s s' x q i d' [] (Some is) k own b h =
      let g : Option (I × D) → Type 0 = λ z. C (us ++ (driver.asks d q ++ shown_last driver (shown driver (s' is)) z)) (after_last driver (after driver (s' is)) d z) in
      question-at us d s x q [] (i ∷ is) (s' is) k (b is) (subst g (sym own) (subst (λ z. C z (after driver (s' is) d' [])) (append_assoc us (driver.asks d q) _) h))
  own-first us d s s' x q i d' (j ∷ js) (Some is) k own b h =
      let g : Option (I × D) → Type 0 = λ z.
      C (us ++ (driver.asks d q ++ shown_answer driver (shown driver (s' is)) (shown_question driver (shown driver (s' is)) q js) d q j js z)) (after_answer driver (after driver (s' is)) (after_question driver (after driver (s' is)) q js) d q j js z) in
      question-at us d s x q (j ∷ js) (i ∷ is) (s' is) k (b is) (subst g (sym own) (subst (λ z. C z (after driver (s' is) d' (j ∷ js))) (append_assoc us (driver.asks d q) _) h))

  pass-first : (us : List U) (d : D) (s s' : Story I T) (x : T) (q : Q) (j : J) (i : I) (d' : D) (js : List J) (o : Option (List I)) → driver.kind x ≡ Question q → driver.own d q ≡ None → driver.heard d q j ≡ Pass i d' → ((is : List I) → s (i ∷ is) ≡ x ∷ s' is)
      → Concluded (us ++ driver.asks d q) d' s' js o → Concluded us d s (j ∷ js) (with_first i o)
  pass-first us d s s' x q j i d' js None k own heard b h = tt
  pass-first us d s s' x q j i d' js (Some is) k own heard b h =
      let go = shown driver (s' is) in let ago = after driver (s' is) in
      let g : Option (I × D) → Type 0 = λ z. C (us ++ (driver.asks d q ++ shown_answer driver go (shown_question driver go q js) d q j js z)) (after_answer driver ago (after_question driver ago q js) d q j js z) in
      let g' : Given D I U → Type 0 = λ z. C (us ++ (driver.asks d q ++ shown_after driver go (shown_question driver go q js) js z)) (after_given driver ago (after_question driver ago q js) d js z) in
      question-at us d s x q (j ∷ js) (i ∷ is) (s' is) k (b is) (subst g (sym own) (subst g' (sym heard) (subst (λ z. C z (after driver (s' is) d' js)) (append_assoc us (driver.asks d q) _) h)))

  -- a reply of the driver's: the question stays open
  reply-first : (us : List U) (d : D) (s : Story I T) (x : T) (q : Q) (j : J) (vs : List U) (d' : D) (js : List J) (o : Option (List I)) → driver.kind x ≡ Question q → driver.own d q ≡ None → driver.heard d q j ≡ Reply vs d' → ((is : List I) → s is ≡ x ∷ tail (s is))
      → Concluded (us ++ (driver.asks d q ++ vs)) d' s js o → Concluded us d s (j ∷ js) o
  reply-first us d s x q j vs d' js None k own heard b h = tt
  reply-first us d s x q j vs d' js (Some is) k own heard b h =
      let ts = tail (s is) in let go = shown driver ts in let ago = after driver ts in
      let g : Option (I × D) → Type 0 = λ z. C (us ++ (driver.asks d q ++ shown_answer driver go (shown_question driver go q js) d q j js z)) (after_answer driver ago (after_question driver ago q js) d q j js z) in
      let g' : Given D I U → Type 0 = λ z. C (us ++ (driver.asks d q ++ shown_after driver go (shown_question driver go q js) js z)) (after_given driver ago (after_question driver ago q js) d js z) in
      let m : List T → Type 0 = λ zs. C ((us ++ (driver.asks d q ++ vs)) ++ shown driver zs d' js) (after driver zs d' js) in
      let r : Kind E Q → Type 0 = λ kd. C ((us ++ (driver.asks d q ++ vs)) ++ shown_item driver go d' js kd) (after_item driver ago d' js kd) in
      let h' = subst r k (subst m (b is) h) in
      question-at us d s x q (j ∷ js) is ts k (b is) (subst g (sym own) (subst g' (sym heard)
      (subst (λ z. C z (after_question driver ago q js d')) (append_assoc us (driver.asks d q ++ vs) _ ∙ ap (λ z. us ++ z) (append_assoc (driver.asks d q) vs _)) h')))

  -- ---- by the machine's steps

  module _ (n : ℕ) (ih : (us : List U) (d : D) (f : F) (fs : List F) (p : P) (js : List J) → Fine f fs p → K us d f fs p → Holds n us d f fs p js) where
    -- what follows an input that isn't taken
    gone : (m : ℕ) (us : List U) (d : D) (js : List J) → C us d → At m us d (λ is. []) js
    gone zero us d js h = tt
    gone (suc m) us d js h = subst (λ z. C z d) (sym (append-nil us)) h

    taken-at : (us : List U) (d : D) (s : Story I T) (x : T) (fs : List F) (p : P) (i : I) (js : List J) (o : Option F) → TakesOr t Fine story s x fs p i o → TakenOr t driver K C us d fs p o
        → (s' : Story I T) × ((is : List I) → s (i ∷ is) ≡ x ∷ s' is) × At n us d s' js
    taken-at us d s x fs p i js None told k = ((λ is. []), told, gone n us d js k)
    taken-at us d s x fs p i js (Some g) told k = (story g fs p, told.1, ih us d g fs p js told.0 k)

    -- the question is what the story begins with
    begins : (s : Story I T) (x : T) (fs : List F) (p : P) (is : List I) (f : F) → s [] ≡ x ∷ [] → ((i : I) → TakesOr t Fine story s x fs p i (t.taken f p i)) → s is ≡ x ∷ tail (s is)
    begins s x fs p [] f o told = o ∙ ap (λ z. x ∷ z) (sym (ap tail o))
    begins s x fs p (i ∷ is) f o told = each (t.taken f p i) (told i)
      where
        each : (y : Option F) → TakesOr t Fine story s x fs p i y → s (i ∷ is) ≡ x ∷ tail (s (i ∷ is))
        each None w = w is ∙ ap (λ z. x ∷ z) (sym (ap tail (w is)))
        each (Some g) w = w.1 is ∙ ap (λ z. x ∷ z) (sym (ap tail (w.1 is)))

    question-filled : (d : D) (s : Story I T) (x : T) (q : Q) (js : List J) → driver.kind x ≡ Question q → s [] ≡ x ∷ [] → filled driver (suc n) d s js ≡ answer driver (filled driver n) d q s js (driver.own d q)
    question-filled d s x q js k o =
        ap (λ ts. through driver (filled driver n) ts d s js) o ∙ ap (λ z. at_item driver (filled driver n) (through driver (filled driver n) []) d s js z) k

    given-at : (us : List U) (d : D) (s : Story I T) (x : T) (q : Q) (f0 : F) (fs : List F) (p0 : P) (f : F) (p : P) (j : J) (js : List J) (g : Given D I U) → driver.kind x ≡ Question q → driver.own d q ≡ None → driver.heard d q j ≡ g
        → s ≡ story f0 fs p0 → Fine f0 fs p0 → s [] ≡ x ∷ [] → ((i : I) → TakesOr t Fine story s x fs p i (t.taken f p i)) → C (us ++ driver.asks d q) d → GivenKeeps t driver K C (λ vs d'. K vs d' f0 fs p0) us d q f fs p g
        → Concluded us d s (j ∷ js) (passed_on driver (filled driver n) s js g)
    given-at us d s x q f0 fs p0 f p j js (Pass i d') k own heard e fine o told c kp =
        let w = taken-at (us ++ driver.asks d q) d' s x fs p i js (t.taken f p i) (told i) kp in
        let same : answered i s ≡ w.0 = fun_ext (λ is. ap tail (w.1 is)) in
        subst (λ (z : Story I T). Concluded us d s (j ∷ js) (with_first i (filled driver n d' z js))) (sym same) (pass-first us d s w.0 x q j i d' js (filled driver n d' w.0 js) k own heard w.1 w.2)
    given-at us d s x q f0 fs p0 f p j js (Reply vs d') k own heard e fine o told c kp =
        reply-first us d s x q j vs d' js (filled driver n d' s js) k own heard (λ is. begins s x fs p is f o told)
        (subst (λ (z : Story I T). At n (us ++ (driver.asks d q ++ vs)) d' z js) (sym e) (ih (us ++ (driver.asks d q ++ vs)) d' f0 fs p0 js fine kp))
    given-at us d s x q f0 fs p0 f p j js Misfit k own heard e fine o told c kp =
        let g : Option (I × D) → Type 0 = λ z. C (us ++ (driver.asks d q ++ shown_answer driver (λ d' js'. []) (shown_question driver (λ d' js'. []) q js) d q j js z)) (after_answer driver (λ d' js'. d') (after_question driver (λ d' js'. d') q js) d q j js z) in
        let g' : Given D I U → Type 0 = λ z. C (us ++ (driver.asks d q ++ shown_after driver (λ d' js'. []) (shown_question driver (λ d' js'. []) q js) js z)) (after_given driver (λ d' js'. d') (after_question driver (λ d' js'. d') q js) d js z) in
        question-at us d s x q (j ∷ js) [] [] k o (subst g (sym own) (subst g' (sym heard) (subst (λ z. C (us ++ z) d) (sym (append-nil (driver.asks d q))) c)))

    outside-at : (us : List U) (d : D) (s : Story I T) (x : T) (q : Q) (f0 : F) (fs : List F) (p0 : P) (f : F) (p : P) (js : List J) → driver.kind x ≡ Question q → driver.own d q ≡ None
        → s ≡ story f0 fs p0 → Fine f0 fs p0 → s [] ≡ x ∷ [] → ((i : I) → TakesOr t Fine story s x fs p i (t.taken f p i)) → C (us ++ driver.asks d q) d → ((j : J) → GivenKeeps t driver K C (λ vs d'. K vs d' f0 fs p0) us d q f fs p (driver.heard d q j))
        → Concluded us d s js (from_outside driver (filled driver n) d q s js)
    outside-at us d s x q f0 fs p0 f p [] k own e fine o told c kp =
        let g : Option (I × D) → Type 0 = λ z. C (us ++ (driver.asks d q ++ shown_last driver (λ d' js'. []) z)) (after_last driver (λ d' js'. d') d z) in
        question-at us d s x q [] [] [] k o (subst g (sym own) (subst (λ z. C (us ++ z) d) (sym (append-nil (driver.asks d q))) c))
    outside-at us d s x q f0 fs p0 f p (j ∷ js) k own e fine o told c kp = given-at us d s x q f0 fs p0 f p j js (driver.heard d q j) k own refl e fine o told c (kp j)

    own-at : (us : List U) (d : D) (s : Story I T) (x : T) (q : Q) (f0 : F) (fs : List F) (p0 : P) (f : F) (p : P) (js : List J) (y : Option (I × D)) → driver.kind x ≡ Question q → driver.own d q ≡ y
        → s ≡ story f0 fs p0 → Fine f0 fs p0 → s [] ≡ x ∷ [] → ((i : I) → TakesOr t Fine story s x fs p i (t.taken f p i)) → OwnKeeps t driver K C (λ vs d'. K vs d' f0 fs p0) us d q f fs p y
        → Concluded us d s js (answer driver (filled driver n) d q s js y)
    own-at us d s x q f0 fs p0 f p js None k own e fine o told kp = outside-at us d s x q f0 fs p0 f p js k own e fine o told kp.0 kp.1
    own-at us d s x q f0 fs p0 f p js (Some a) k own e fine o told kp =
        let w = taken-at (us ++ driver.asks d q) a.1 s x fs p a.0 js (t.taken f p a.0) (told a.0) kp in
        let same : answered a.0 s ≡ w.0 = fun_ext (λ is. ap tail (w.1 is)) in
        subst (λ (z : Story I T). Concluded us d s js (with_first a.0 (filled driver n a.1 z js))) (sym same) (own-first us d s w.0 x q a.0 a.1 js (filled driver n a.1 w.0 js) k own w.1 w.2)

    module _ (l : ℕ) (jh : (us : List U) (d : D) (f : F) (fs : List F) (p : P) (js : List J) → NotShort (walk t l f fs p []) → Fine f fs p → K us d f fs p → Holds (suc n) us d f fs p js) where
      event-holds : (us : List U) (d : D) (s : Story I T) (x : T) (f : F) (fs : List F) (p : P) (js : List J) (k : Kind E Q) → driver.kind x ≡ k → Tells t Fine story s x f fs p → NotShort (walk t l f fs p []) → EventKeeps t driver K C us d f fs p k → At (suc n) us d s js
      event-holds us d s x f fs p js (Event e) is told ns kp = event-at n us d s (story f fs p) x e js is told.1 (jh (us ++ driver.shows d e) (driver.told d e) f fs p js ns told.0 kp)
      event-holds us d s x f fs p js (Question q) is told ns kp = absurd kp

      question-holds : (us : List U) (d : D) (s : Story I T) (x : T) (f0 : F) (fs : List F) (p0 : P) (f : F) (p : P) (js : List J) (k : Kind E Q) → driver.kind x ≡ k → s ≡ story f0 fs p0 → Fine f0 fs p0 → s [] ≡ x ∷ [] → ((i : I) → TakesOr t Fine story s x fs p i (t.taken f p i))
          → QuestionKeeps t driver K C (λ vs d'. K vs d' f0 fs p0) us d f fs p k → At (suc n) us d s js
      question-holds us d s x f0 fs p0 f p js (Event e) is e' fine o told kp = absurd kp
      question-holds us d s x f0 fs p0 f p js (Question q) is e' fine o told kp =
          subst (Concluded us d s js) (sym (question-filled d s x q js is o)) (own-at us d s x q f0 fs p0 f p js (driver.own d q) is refl e' fine o told kp)

      move-holds : (us : List U) (d : D) (f0 : F) (fs : List F) (p0 : P) (mv : Move F A P T) (js : List J) → Fine f0 fs p0 → ToldBy t Fine story (story f0 fs p0) mv fs → NotShort (leads t (walk t l) mv fs []) → StepKeeps t driver K C (λ vs d'. K vs d' f0 fs p0) us d mv fs → Holds (suc n) us d f0 fs p0 js
      move-holds us d f0 [] p0 (Done x p) js fine told ns kp = at-same (suc n) us d (story f0 [] p0) (λ is. []) js told (gone (suc n) us d js kp)
      move-holds us d f0 (g ∷ gs) p0 (Done x p) js fine told ns kp = at-same (suc n) us d (story f0 (g ∷ gs) p0) (story (t.resume g x) gs p) js told.1 (jh us d (t.resume g x) gs p js ns told.0 kp)
      move-holds us d f0 fs p0 (Go f p) js fine told ns kp = at-same (suc n) us d (story f0 fs p0) (story f fs p) js told.1 (jh us d f fs p js ns told.0 kp)
      move-holds us d f0 fs p0 (Emit x f p) js fine told ns kp = event-holds us d (story f0 fs p0) x f fs p js (driver.kind x) refl told (not-short-told x _ ns) kp
      move-holds us d f0 fs p0 (Wait x f p) js fine told ns kp = question-holds us d (story f0 fs p0) x f0 fs p0 f p js (driver.kind x) refl refl fine told.0 told.1 kp
      move-holds us d f0 fs p0 (Call g f p) js fine told ns kp = at-same (suc n) us d (story f0 fs p0) (story g (f ∷ fs) p) js told.1 (jh us d g (f ∷ fs) p js ns told.0 kp)

    steps-hold : (l : ℕ) (us : List U) (d : D) (f : F) (fs : List F) (p : P) (js : List J) → NotShort (walk t l f fs p []) → Fine f fs p → K us d f fs p → Holds (suc n) us d f fs p js
    steps-hold zero us d f fs p js ns fine k = absurd ns
    steps-hold (suc l) us d f fs p js ns fine k = move-holds l (steps-hold l) us d f fs p (t.step f p) js fine (tells.tells f fs p fine) ns (kept.kept us d f fs p k)

  -- with any number of answers allowed
  pub together : (n : ℕ) (us : List U) (d : D) (f : F) (fs : List F) (p : P) (js : List J) → Fine f fs p → K us d f fs p → Concluded us d (story f fs p) js (filled driver n d (story f fs p) js)
  together zero us d f fs p js fine k = tt
  together (suc n) us d f fs p js fine k = let w = tells.settles f fs p fine in steps-hold n (together n) w.0 us d f fs p js w.1 fine k
