-- What each step of machine and driver together keeps, of the machine's inputs so far as well, holds of every driven story.
use std.Path.{fun_ext}
use Rattle.std.proofs.Common.{◌≡◌, ℕ, suc, zero, List, [], ◌∷◌, ◌++◌, Option, Some, None, refl, sym, ◌∙◌, ap, subst, append_assoc}
use Rattle.std.proofs.lemmas.List.{append-nil}
use Rattle.step_machine.specs.Machine.{Move, Table, leads, walk}
use Rattle.step_machine.specs.Machine.Move.{Done, Go, Emit, Wait, Call}
use Rattle.step_machine.proofs.Ends.{NotShort}
use Rattle.machine_driver.specs.Driver.{Driver, Kind, Given, Story, tail, later, answered, with_first, filled, through, at_item, answer, from_outside, passed_on}
use Rattle.machine_driver.specs.Driver.Kind.{Event, Question}
use Rattle.machine_driver.specs.Driver.Given.{Pass, Reply, Misfit}
use Rattle.machine_driver.specs.Watched.{after, after_item, after_question, after_answer, after_last, after_given}
use Rattle.machine_driver.proofs.Telling.{Tells, TakesOr, ToldBy, TellsStories, not-short-told}

module _ {F A P I T D E Q J U : Type 0} (t : Table F A P I T) (driver : Driver D T E Q I J U) (K : List I → D → F → List F → P → Type 0) (C : List I → D → Type 0) where
  -- ---- what is to be shown: `ks` are the inputs so far

  abbrev pub TakenSo : List I → D → List F → P → Option F → Type 0
  TakenSo ks d fs p None = C ks d
  TakenSo ks d fs p (Some g) = K ks d g fs p

  abbrev pub GivenSo : (D → Type 0) → List I → D → F → List F → P → Given D I U → Type 0
  GivenSo again ks d f fs p (Pass i d') = TakenSo (ks ++ i ∷ []) d' fs p (t.taken f p i)
  GivenSo again ks d f fs p (Reply vs d') = again d'
  GivenSo again ks d f fs p Misfit = Unit {0}

  abbrev pub OwnSo : (D → Type 0) → List I → D → Q → F → List F → P → Option (I × D) → Type 0
  OwnSo again ks d q f fs p None = C ks d × ((j : J) → GivenSo again ks d f fs p (driver.heard d q j))
  OwnSo again ks d q f fs p (Some own) = TakenSo (ks ++ own.0 ∷ []) own.1 fs p (t.taken f p own.0)

  abbrev pub EventSo : List I → D → F → List F → P → Kind E Q → Type 0
  EventSo ks d f fs p (Event e) = K ks (driver.told d e) f fs p
  EventSo ks d f fs p (Question q) = ⊥

  abbrev pub QuestionSo : (D → Type 0) → List I → D → F → List F → P → Kind E Q → Type 0
  QuestionSo again ks d f fs p (Event e) = ⊥
  QuestionSo again ks d f fs p (Question q) = OwnSo again ks d q f fs p (driver.own d q)

  abbrev pub StepSo : (D → Type 0) → List I → D → Move F A P T → List F → Type 0
  StepSo again ks d (Done x p) [] = C ks d
  StepSo again ks d (Done x p) (g ∷ gs) = K ks d (t.resume g x) gs p
  StepSo again ks d (Go f p) fs = K ks d f fs p
  StepSo again ks d (Emit e f p) fs = EventSo ks d f fs p (driver.kind e)
  StepSo again ks d (Wait q f p) fs = QuestionSo again ks d f fs p (driver.kind q)
  StepSo again ks d (Call g f p) fs = K ks d g (f ∷ fs) p

  abbrev pub KeptSo : Type 0
  KeptSo = (ks : List I) (d : D) (f : F) (fs : List F) (p : P) → K ks d f fs p → StepSo (λ d'. K ks d' f fs p) ks d (t.step f p) fs

  -- ---- what is concluded

  abbrev pub ConcludedSo : List I → D → Story I T → List J → Option (List I) → Type 0
  ConcludedSo ks d s js None = Unit {0}
  ConcludedSo ks d s js (Some is) = C (ks ++ is) (after driver (s is) d js)

  abbrev At : ℕ → List I → D → Story I T → List J → Type 0
  At n ks d s js = ConcludedSo ks d s js (filled driver n d s js)

  at-same : (n : ℕ) (ks : List I) (d : D) (s s' : Story I T) (js : List J) → ((is : List I) → s is ≡ s' is) → At n ks d s' js → At n ks d s js
  at-same n ks d s s' js e h = subst (λ (x : Story I T). At n ks d x js) (sym (fun_ext e)) h

  event-first : (ks : List I) (d : D) (s s' : Story I T) (x : T) (e : E) (js : List J) (o : Option (List I)) → driver.kind x ≡ Event e → ((is : List I) → s is ≡ x ∷ s' is)
      → ConcludedSo ks (driver.told d e) s' js o → ConcludedSo ks d s js o
  event-first ks d s s' x e js None k b h = tt
  event-first ks d s s' x e js (Some is) k b h =
      let g : List T → Type 0 = λ ts. C (ks ++ is) (after driver ts d js) in
      let i : Kind E Q → Type 0 = λ kd. C (ks ++ is) (after_item driver (after driver (s' is)) d js kd) in
      subst g (sym (b is)) (subst i (sym k) h)

  event-at : (n : ℕ) (ks : List I) (d : D) (s s' : Story I T) (x : T) (e : E) (js : List J) → driver.kind x ≡ Event e → ((is : List I) → s is ≡ x ∷ s' is)
      → At (suc n) ks (driver.told d e) s' js → At (suc n) ks d s js
  event-at n ks d s s' x e js k b h =
      let same : later s ≡ s' = fun_ext (λ is. ap tail (b is)) in
      let f : filled driver (suc n) d s js ≡ filled driver (suc n) (driver.told d e) s' js =
      ap (λ ts. through driver (filled driver n) ts d s js) (b [])
      ∙ ap (λ z. at_item driver (filled driver n) (through driver (filled driver n) (s' [])) d s js z) k
      ∙ ap (λ (z : Story I T). through driver (filled driver n) (s' []) (driver.told d e) z js) same in
      subst (ConcludedSo ks d s js) (sym f) (event-first ks d s s' x e js _ k b h)

  -- the story before an answer, as the question and what follows it
  question-at : (ks : List I) (d : D) (s : Story I T) (x : T) (q : Q) (js : List J) (is : List I) (ts : List T) → driver.kind x ≡ Question q → s is ≡ x ∷ ts
      → C ks (after_question driver (after driver ts) q js d) → C ks (after driver (s is) d js)
  question-at ks d s x q js is ts k b h =
      let g : List T → Type 0 = λ zs. C ks (after driver zs d js) in
      let i : Kind E Q → Type 0 = λ kd. C ks (after_item driver (after driver ts) d js kd) in
      subst g (sym b) (subst i (sym k) h)

  own-first : (ks : List I) (d : D) (s s' : Story I T) (x : T) (q : Q) (i : I) (d' : D) (js : List J) (o : Option (List I)) → driver.kind x ≡ Question q → driver.own d q ≡ Some (i, d') → ((is : List I) → s (i ∷ is) ≡ x ∷ s' is)
      → ConcludedSo (ks ++ i ∷ []) d' s' js o → ConcludedSo ks d s js (with_first i o)
  own-first ks d s s' x q i d' js None k own b h = tt
  own-first ks d s s' x q i d' [] (Some is) k own b h =
      let g : Option (I × D) → Type 0 = λ z. C (ks ++ i ∷ is) (after_last driver (after driver (s' is)) d z) in
      question-at (ks ++ i ∷ is) d s x q [] (i ∷ is) (s' is) k (b is) (subst g (sym own) (subst (λ z. C z (after driver (s' is) d' [])) (append_assoc ks (i ∷ []) is) h))
  own-first ks d s s' x q i d' (j ∷ js) (Some is) k own b h =
      let g : Option (I × D) → Type 0 = λ z. C (ks ++ i ∷ is) (after_answer driver (after driver (s' is)) (after_question driver (after driver (s' is)) q js) d q j js z) in
      question-at (ks ++ i ∷ is) d s x q (j ∷ js) (i ∷ is) (s' is) k (b is) (subst g (sym own) (subst (λ z. C z (after driver (s' is) d' (j ∷ js))) (append_assoc ks (i ∷ []) is) h))

  pass-first : (ks : List I) (d : D) (s s' : Story I T) (x : T) (q : Q) (j : J) (i : I) (d' : D) (js : List J) (o : Option (List I)) → driver.kind x ≡ Question q → driver.own d q ≡ None → driver.heard d q j ≡ Pass i d' → ((is : List I) → s (i ∷ is) ≡ x ∷ s' is)
      → ConcludedSo (ks ++ i ∷ []) d' s' js o → ConcludedSo ks d s (j ∷ js) (with_first i o)
  pass-first ks d s s' x q j i d' js None k own heard b h = tt
  pass-first ks d s s' x q j i d' js (Some is) k own heard b h =
      let go = after driver (s' is) in
      let g : Option (I × D) → Type 0 = λ z. C (ks ++ i ∷ is) (after_answer driver go (after_question driver go q js) d q j js z) in
      let g' : Given D I U → Type 0 = λ z. C (ks ++ i ∷ is) (after_given driver go (after_question driver go q js) d js z) in
      question-at (ks ++ i ∷ is) d s x q (j ∷ js) (i ∷ is) (s' is) k (b is) (subst g (sym own) (subst g' (sym heard) (subst (λ z. C z (after driver (s' is) d' js)) (append_assoc ks (i ∷ []) is) h)))

  reply-first : (ks : List I) (d : D) (s : Story I T) (x : T) (q : Q) (j : J) (vs : List U) (d' : D) (js : List J) (o : Option (List I)) → driver.kind x ≡ Question q → driver.own d q ≡ None → driver.heard d q j ≡ Reply vs d' → ((is : List I) → s is ≡ x ∷ tail (s is))
      → ConcludedSo ks d' s js o → ConcludedSo ks d s (j ∷ js) o
  reply-first ks d s x q j vs d' js None k own heard b h = tt
  reply-first ks d s x q j vs d' js (Some is) k own heard b h =
      let ts = tail (s is) in let go = after driver ts in
      let g : Option (I × D) → Type 0 = λ z. C (ks ++ is) (after_answer driver go (after_question driver go q js) d q j js z) in
      let g' : Given D I U → Type 0 = λ z. C (ks ++ is) (after_given driver go (after_question driver go q js) d js z) in
      let m : List T → Type 0 = λ zs. C (ks ++ is) (after driver zs d' js) in
      let r : Kind E Q → Type 0 = λ kd. C (ks ++ is) (after_item driver go d' js kd) in
      let h' = subst r k (subst m (b is) h) in
      question-at (ks ++ is) d s x q (j ∷ js) is ts k (b is) (subst g (sym own) (subst g' (sym heard) h'))

  module _ (Fine : F → List F → P → Type 0) (story : F → List F → P → Story I T) (tells : TellsStories t Fine story) (kept : KeptSo) where
    abbrev Holds : ℕ → List I → D → F → List F → P → List J → Type 0
    Holds n ks d f fs p js = At n ks d (story f fs p) js

    module _ (n : ℕ) (ih : (ks : List I) (d : D) (f : F) (fs : List F) (p : P) (js : List J) → Fine f fs p → K ks d f fs p → Holds n ks d f fs p js) where
      gone : (m : ℕ) (ks : List I) (d : D) (js : List J) → C ks d → At m ks d (λ is. []) js
      gone zero ks d js h = tt
      gone (suc m) ks d js h = subst (λ z. C z d) (sym (append-nil ks)) h

      taken-at : (ks : List I) (d : D) (s : Story I T) (x : T) (fs : List F) (p : P) (i : I) (js : List J) (o : Option F) → TakesOr t Fine story s x fs p i o → TakenSo ks d fs p o
          → (s' : Story I T) × ((is : List I) → s (i ∷ is) ≡ x ∷ s' is) × At n ks d s' js
      taken-at ks d s x fs p i js None told k = ((λ is. []), told, gone n ks d js k)
      taken-at ks d s x fs p i js (Some g) told k = (story g fs p, told.1, ih ks d g fs p js told.0 k)

      begins : (s : Story I T) (x : T) (fs : List F) (p : P) (is : List I) (f : F) → s [] ≡ x ∷ [] → ((i : I) → TakesOr t Fine story s x fs p i (t.taken f p i)) → s is ≡ x ∷ tail (s is)
      begins s x fs p [] f o told = o ∙ ap (λ z. x ∷ z) (sym (ap tail o))
      begins s x fs p (i ∷ is) f o told = each (t.taken f p i) (told i)
        where
          each : (y : Option F) → TakesOr t Fine story s x fs p i y → s (i ∷ is) ≡ x ∷ tail (s (i ∷ is))
          each None w = w is ∙ ap (λ z. x ∷ z) (sym (ap tail (w is)))
          each (Some g) w = w.1 is ∙ ap (λ z. x ∷ z) (sym (ap tail (w.1 is)))

      question-filled : (d : D) (s : Story I T) (x : T) (q : Q) (js : List J) → driver.kind x ≡ Question q → s [] ≡ x ∷ [] → filled driver (suc n) d s js ≡ answer driver (filled driver n) d q s js (driver.own d q)
      question-filled d s x q js k o =
          ap (λ ts. through driver (filled driver n) ts d s js) o ∙ ap (λ z. at_item driver (filled driver n) (through driver (filled driver n) []) d s js z) k

      given-at : (ks : List I) (d : D) (s : Story I T) (x : T) (q : Q) (f0 : F) (fs : List F) (p0 : P) (f : F) (p : P) (j : J) (js : List J) (g : Given D I U) → driver.kind x ≡ Question q → driver.own d q ≡ None → driver.heard d q j ≡ g
          → s ≡ story f0 fs p0 → Fine f0 fs p0 → s [] ≡ x ∷ [] → ((i : I) → TakesOr t Fine story s x fs p i (t.taken f p i)) → C ks d → GivenSo (λ d'. K ks d' f0 fs p0) ks d f fs p g
          → ConcludedSo ks d s (j ∷ js) (passed_on driver (filled driver n) s js g)
      given-at ks d s x q f0 fs p0 f p j js (Pass i d') k own heard e fine o told c kp =
          let w = taken-at (ks ++ i ∷ []) d' s x fs p i js (t.taken f p i) (told i) kp in
          let same : answered i s ≡ w.0 = fun_ext (λ is. ap tail (w.1 is)) in
          subst (λ (z : Story I T). ConcludedSo ks d s (j ∷ js) (with_first i (filled driver n d' z js))) (sym same) (pass-first ks d s w.0 x q j i d' js (filled driver n d' w.0 js) k own heard w.1 w.2)
      given-at ks d s x q f0 fs p0 f p j js (Reply vs d') k own heard e fine o told c kp =
          reply-first ks d s x q j vs d' js (filled driver n d' s js) k own heard (λ is. begins s x fs p is f o told)
          (subst (λ (z : Story I T). At n ks d' z js) (sym e) (ih ks d' f0 fs p0 js fine kp))
      given-at ks d s x q f0 fs p0 f p j js Misfit k own heard e fine o told c kp =
          let g : Option (I × D) → Type 0 = λ z. C (ks ++ []) (after_answer driver (λ d' js'. d') (after_question driver (λ d' js'. d') q js) d q j js z) in
          let g' : Given D I U → Type 0 = λ z. C (ks ++ []) (after_given driver (λ d' js'. d') (after_question driver (λ d' js'. d') q js) d js z) in
          question-at (ks ++ []) d s x q (j ∷ js) [] [] k o (subst g (sym own) (subst g' (sym heard) (subst (λ z. C z d) (sym (append-nil ks)) c)))

      outside-at : (ks : List I) (d : D) (s : Story I T) (x : T) (q : Q) (f0 : F) (fs : List F) (p0 : P) (f : F) (p : P) (js : List J) → driver.kind x ≡ Question q → driver.own d q ≡ None
          → s ≡ story f0 fs p0 → Fine f0 fs p0 → s [] ≡ x ∷ [] → ((i : I) → TakesOr t Fine story s x fs p i (t.taken f p i)) → C ks d → ((j : J) → GivenSo (λ d'. K ks d' f0 fs p0) ks d f fs p (driver.heard d q j))
          → ConcludedSo ks d s js (from_outside driver (filled driver n) d q s js)
      outside-at ks d s x q f0 fs p0 f p [] k own e fine o told c kp =
          let g : Option (I × D) → Type 0 = λ z. C (ks ++ []) (after_last driver (λ d' js'. d') d z) in
          question-at (ks ++ []) d s x q [] [] [] k o (subst g (sym own) (subst (λ z. C z d) (sym (append-nil ks)) c))
      outside-at ks d s x q f0 fs p0 f p (j ∷ js) k own e fine o told c kp = given-at ks d s x q f0 fs p0 f p j js (driver.heard d q j) k own refl e fine o told c (kp j)

      own-at : (ks : List I) (d : D) (s : Story I T) (x : T) (q : Q) (f0 : F) (fs : List F) (p0 : P) (f : F) (p : P) (js : List J) (y : Option (I × D)) → driver.kind x ≡ Question q → driver.own d q ≡ y
          → s ≡ story f0 fs p0 → Fine f0 fs p0 → s [] ≡ x ∷ [] → ((i : I) → TakesOr t Fine story s x fs p i (t.taken f p i)) → OwnSo (λ d'. K ks d' f0 fs p0) ks d q f fs p y
          → ConcludedSo ks d s js (answer driver (filled driver n) d q s js y)
      own-at ks d s x q f0 fs p0 f p js None k own e fine o told kp = outside-at ks d s x q f0 fs p0 f p js k own e fine o told kp.0 kp.1
      own-at ks d s x q f0 fs p0 f p js (Some a) k own e fine o told kp =
          let w = taken-at (ks ++ a.0 ∷ []) a.1 s x fs p a.0 js (t.taken f p a.0) (told a.0) kp in
          let same : answered a.0 s ≡ w.0 = fun_ext (λ is. ap tail (w.1 is)) in
          subst (λ (z : Story I T). ConcludedSo ks d s js (with_first a.0 (filled driver n a.1 z js))) (sym same) (own-first ks d s w.0 x q a.0 a.1 js (filled driver n a.1 w.0 js) k own w.1 w.2)

      module _ (l : ℕ) (jh : (ks : List I) (d : D) (f : F) (fs : List F) (p : P) (js : List J) → NotShort (walk t l f fs p []) → Fine f fs p → K ks d f fs p → Holds (suc n) ks d f fs p js) where
        event-holds : (ks : List I) (d : D) (s : Story I T) (x : T) (f : F) (fs : List F) (p : P) (js : List J) (k : Kind E Q) → driver.kind x ≡ k → Tells t Fine story s x f fs p → NotShort (walk t l f fs p []) → EventSo ks d f fs p k → At (suc n) ks d s js
        event-holds ks d s x f fs p js (Event e) is told ns kp = event-at n ks d s (story f fs p) x e js is told.1 (jh ks (driver.told d e) f fs p js ns told.0 kp)
        event-holds ks d s x f fs p js (Question q) is told ns kp = absurd kp

        question-holds : (ks : List I) (d : D) (s : Story I T) (x : T) (f0 : F) (fs : List F) (p0 : P) (f : F) (p : P) (js : List J) (k : Kind E Q) → driver.kind x ≡ k → s ≡ story f0 fs p0 → Fine f0 fs p0 → s [] ≡ x ∷ [] → ((i : I) → TakesOr t Fine story s x fs p i (t.taken f p i))
            → QuestionSo (λ d'. K ks d' f0 fs p0) ks d f fs p k → At (suc n) ks d s js
        question-holds ks d s x f0 fs p0 f p js (Event e) is e' fine o told kp = absurd kp
        question-holds ks d s x f0 fs p0 f p js (Question q) is e' fine o told kp =
            subst (ConcludedSo ks d s js) (sym (question-filled d s x q js is o)) (own-at ks d s x q f0 fs p0 f p js (driver.own d q) is refl e' fine o told kp)

        move-holds : (ks : List I) (d : D) (f0 : F) (fs : List F) (p0 : P) (mv : Move F A P T) (js : List J) → Fine f0 fs p0 → ToldBy t Fine story (story f0 fs p0) mv fs → NotShort (leads t (walk t l) mv fs []) → StepSo (λ d'. K ks d' f0 fs p0) ks d mv fs → Holds (suc n) ks d f0 fs p0 js
        move-holds ks d f0 [] p0 (Done x p) js fine told ns kp = at-same (suc n) ks d (story f0 [] p0) (λ is. []) js told (gone (suc n) ks d js kp)
        move-holds ks d f0 (g ∷ gs) p0 (Done x p) js fine told ns kp = at-same (suc n) ks d (story f0 (g ∷ gs) p0) (story (t.resume g x) gs p) js told.1 (jh ks d (t.resume g x) gs p js ns told.0 kp)
        move-holds ks d f0 fs p0 (Go f p) js fine told ns kp = at-same (suc n) ks d (story f0 fs p0) (story f fs p) js told.1 (jh ks d f fs p js ns told.0 kp)
        move-holds ks d f0 fs p0 (Emit x f p) js fine told ns kp = event-holds ks d (story f0 fs p0) x f fs p js (driver.kind x) refl told (not-short-told x _ ns) kp
        move-holds ks d f0 fs p0 (Wait x f p) js fine told ns kp = question-holds ks d (story f0 fs p0) x f0 fs p0 f p js (driver.kind x) refl refl fine told.0 told.1 kp
        move-holds ks d f0 fs p0 (Call g f p) js fine told ns kp = at-same (suc n) ks d (story f0 fs p0) (story g (f ∷ fs) p) js told.1 (jh ks d g (f ∷ fs) p js ns told.0 kp)

      steps-hold : (l : ℕ) (ks : List I) (d : D) (f : F) (fs : List F) (p : P) (js : List J) → NotShort (walk t l f fs p []) → Fine f fs p → K ks d f fs p → Holds (suc n) ks d f fs p js
      steps-hold zero ks d f fs p js ns fine k = absurd ns
      steps-hold (suc l) ks d f fs p js ns fine k = move-holds l (steps-hold l) ks d f fs p (t.step f p) js fine (tells.tells f fs p fine) ns (kept ks d f fs p k)

    -- with any number of answers allowed
    pub recorded : (n : ℕ) (ks : List I) (d : D) (f : F) (fs : List F) (p : P) (js : List J) → Fine f fs p → K ks d f fs p → ConcludedSo ks d (story f fs p) js (filled driver n d (story f fs p) js)
    recorded zero ks d f fs p js fine k = tt
    recorded (suc n) ks d f fs p js fine k = let w = tells.settles f fs p fine in steps-hold n (recorded n) w.0 ks d f fs p js w.1 fine k
