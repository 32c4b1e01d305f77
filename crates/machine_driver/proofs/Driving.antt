-- What a driven story is made of: one event, one question, one answer at a time.
use std.Path.{fun_ext}
use Rattle.std.proofs.Common.{◌≡◌, ℕ, suc, List, [], ◌∷◌, ◌++◌, Option, Some, None, refl, sym, ◌∙◌, ap, append_assoc}
use Rattle.machine_driver.specs.Driver.{Driver, Story, tail, later, answered, with_first, with_front, filled, through, at_item, answer, passed_on, shown, shown_item, shown_question, shown_answer, shown_last, shown_after, shown_of, driven}
use Rattle.machine_driver.specs.Driver.Kind.{Event, Question}
use Rattle.machine_driver.specs.Driver.Given.{Pass, Reply}

-- a story that begins with an item, whatever comes
abbrev pub Begins : {I T : Type 0} → Story I T → T → Type 0
Begins {I = I} {T = T} s t = (is : List I) → s is ≡ t ∷ tail (s is)

-- an item first, whatever comes
pub begins-first : {I T : Type 0} (s s' : Story I T) (t : T) → ((is : List I) → s is ≡ t ∷ s' is) → Begins s t
begins-first s s' t h is = h is ∙ ap (λ x. t ∷ x) (sym (ap tail (h is)))

pub begins-some : {I T : Type 0} (s : Story I T) (t : T) → ((is : List I) → (more : List T) × (s is ≡ t ∷ more)) → Begins s t
begins-some s t h is = let w = h is in w.1 ∙ ap (λ x. t ∷ x) (sym (ap tail w.1))

module _ {X : Type 0} where
  pub front-first : (us : List X) (u : X) (o : Option (List X)) → with_front (u ∷ us) o ≡ with_first u (with_front us o)
  front-first us u None = refl
  front-first us u (Some xs) = refl

  pub front-front : (us vs : List X) (o : Option (List X)) → with_front us (with_front vs o) ≡ with_front (us ++ vs) o
  front-front us vs None = refl
  front-front us vs (Some xs) = ap Some (sym (append_assoc us vs xs))

  pub front-none : (o : Option (List X)) → with_front [] o ≡ o
  front-none None = refl
  front-none (Some xs) = refl

module _ {D T E Q I J U : Type 0} (driver : Driver D T E Q I J U) where
  -- the story alone counts, input by input
  pub driven-same : (n : ℕ) (d : D) (s s' : Story I T) (js : List J) → ((is : List I) → s is ≡ s' is) → driven driver n d s js ≡ driven driver n d s' js
  driven-same n d s s' js h = ap (λ (x : Story I T). driven driver n d x js) (fun_ext h)

  -- ---- an event

  pub filled-event : (n : ℕ) (d : D) (s : Story I T) (t : T) (e : E) (js : List J) → driver.kind t ≡ Event e → s [] ≡ t ∷ tail (s []) → filled driver (suc n) d s js ≡ filled driver (suc n) (driver.told d e) (later s) js
  filled-event n d s t e js k b =
      ap (λ ts. through driver (filled driver n) ts d s js) b
      ∙ ap (λ x. at_item driver (filled driver n) (through driver (filled driver n) (tail (s []))) d s js x) k

  shown-event : (d : D) (s : Story I T) (t : T) (e : E) (js : List J) (o : Option (List I)) → driver.kind t ≡ Event e → Begins s t
      → shown_of driver d s js o ≡ with_front (driver.shows d e) (shown_of driver (driver.told d e) (later s) js o)
  shown-event d s t e js None k b = refl
  shown-event d s t e js (Some is) k b =
      ap (λ ts. Some (shown driver ts d js)) (b is)
      ∙ ap (λ x. Some (shown_item driver (shown driver (tail (s is))) d js x)) k

  pub driven-event : (n : ℕ) (d : D) (s : Story I T) (t : T) (e : E) (js : List J) → driver.kind t ≡ Event e → Begins s t
      → driven driver (suc n) d s js ≡ with_front (driver.shows d e) (driven driver (suc n) (driver.told d e) (later s) js)
  driven-event n d s t e js k b =
      ap (shown_of driver d s js) (filled-event n d s t e js k (b []))
      ∙ shown-event d s t e js (filled driver (suc n) (driver.told d e) (later s) js) k b

  -- ---- a question

  pub filled-question : (n : ℕ) (d : D) (s : Story I T) (t : T) (q : Q) (js : List J) → driver.kind t ≡ Question q → s [] ≡ t ∷ tail (s [])
      → filled driver (suc n) d s js ≡ answer driver (filled driver n) d q s js (driver.own d q)
  filled-question n d s t q js k b =
      ap (λ ts. through driver (filled driver n) ts d s js) b
      ∙ ap (λ x. at_item driver (filled driver n) (through driver (filled driver n) (tail (s []))) d s js x) k

  shown-begins : (d : D) (s : Story I T) (t : T) (q : Q) (js : List J) (is : List I) → driver.kind t ≡ Question q → Begins s t
      → shown driver (s is) d js ≡ shown_question driver (shown driver (tail (s is))) q js d
  shown-begins d s t q js is k b =
      ap (λ ts. shown driver ts d js) (b is) ∙ ap (shown_item driver (shown driver (tail (s is))) d js) k

  -- the driver's own answer
  shown-own : (d : D) (s : Story I T) (t : T) (q : Q) (i : I) (d' : D) (js : List J) (o : Option (List I)) → driver.kind t ≡ Question q → Begins s t → driver.own d q ≡ Some (i, d')
      → shown_of driver d s js (with_first i o) ≡ with_front (driver.asks d q) (shown_of driver d' (answered i s) js o)
  shown-own d s t q i d' js None k b own = refl
  shown-own d s t q i d' [] (Some is) k b own =
      ap Some (shown-begins d s t q [] (i ∷ is) k b
      ∙ ap (λ x. driver.asks d q ++ shown_last driver (shown driver (tail (s (i ∷ is)))) x) own)
  shown-own d s t q i d' (j ∷ js) (Some is) k b own =
      ap Some (shown-begins d s t q (j ∷ js) (i ∷ is) k b
      ∙ ap (λ x. driver.asks d q ++ shown_answer driver (shown driver (tail (s (i ∷ is)))) (shown_question driver (shown driver (tail (s (i ∷ is)))) q js) d q j js x) own)

  pub driven-own : (n : ℕ) (d : D) (s : Story I T) (t : T) (q : Q) (i : I) (d' : D) (js : List J) → driver.kind t ≡ Question q → Begins s t → driver.own d q ≡ Some (i, d')
      → driven driver (suc n) d s js ≡ with_front (driver.asks d q) (driven driver n d' (answered i s) js)
  driven-own n d s t q i d' js k b own =
      ap (shown_of driver d s js) (filled-question n d s t q js k (b []) ∙ ap (answer driver (filled driver n) d q s js) own)
      ∙ shown-own d s t q i d' js (filled driver n d' (answered i s) js) k b own

  -- no answer of the outside
  pub driven-open : (n : ℕ) (d : D) (s : Story I T) (t : T) (q : Q) → driver.kind t ≡ Question q → Begins s t → driver.own d q ≡ None
      → driven driver (suc n) d s [] ≡ Some (driver.asks d q ++ [])
  driven-open n d s t q k b own =
      ap (shown_of driver d s []) (filled-question n d s t q [] k (b []) ∙ ap (answer driver (filled driver n) d q s []) own)
      ∙ ap Some (shown-begins d s t q [] [] k b
      ∙ ap (λ x. driver.asks d q ++ shown_last driver (shown driver (tail (s []))) x) own)

  -- an answer that goes to the machine
  shown-passed : (d : D) (s : Story I T) (t : T) (q : Q) (j : J) (i : I) (d' : D) (js : List J) (o : Option (List I)) → driver.kind t ≡ Question q → Begins s t → driver.own d q ≡ None → driver.heard d q j ≡ Pass i d'
      → shown_of driver d s (j ∷ js) (with_first i o) ≡ with_front (driver.asks d q) (shown_of driver d' (answered i s) js o)
  shown-passed d s t q j i d' js None k b own heard = refl
  shown-passed d s t q j i d' js (Some is) k b own heard =
      let go : D → List J → List U = shown driver (tail (s (i ∷ is))) in
      ap Some (shown-begins d s t q (j ∷ js) (i ∷ is) k b
      ∙ ap (λ x. driver.asks d q ++ shown_answer driver go (shown_question driver go q js) d q j js x) own
      ∙ ap (λ x. driver.asks d q ++ shown_after driver go (shown_question driver go q js) js x) heard)

  pub driven-passed : (n : ℕ) (d : D) (s : Story I T) (t : T) (q : Q) (j : J) (i : I) (d' : D) (js : List J) → driver.kind t ≡ Question q → Begins s t → driver.own d q ≡ None → driver.heard d q j ≡ Pass i d'
      → driven driver (suc n) d s (j ∷ js) ≡ with_front (driver.asks d q) (driven driver n d' (answered i s) js)
  driven-passed n d s t q j i d' js k b own heard =
      ap (shown_of driver d s (j ∷ js)) (filled-question n d s t q (j ∷ js) k (b []) ∙ ap (answer driver (filled driver n) d q s (j ∷ js)) own ∙ ap (passed_on driver (filled driver n) s js) heard)
      ∙ shown-passed d s t q j i d' js (filled driver n d' (answered i s) js) k b own heard

  -- an answer that the driver itself replies to
  shown-replied : (d : D) (s : Story I T) (t : T) (q : Q) (j : J) (us : List U) (d' : D) (js : List J) (o : Option (List I)) → driver.kind t ≡ Question q → Begins s t → driver.own d q ≡ None → driver.heard d q j ≡ Reply us d'
      → shown_of driver d s (j ∷ js) o ≡ with_front (driver.asks d q ++ us) (shown_of driver d' s js o)
  shown-replied d s t q j us d' js None k b own heard = refl
  shown-replied d s t q j us d' js (Some is) k b own heard =
      let go : D → List J → List U = shown driver (tail (s is)) in
      ap Some (shown-begins d s t q (j ∷ js) is k b
      ∙ ap (λ x. driver.asks d q ++ shown_answer driver go (shown_question driver go q js) d q j js x) own
      ∙ ap (λ x. driver.asks d q ++ shown_after driver go (shown_question driver go q js) js x) heard
      ∙ sym (append_assoc (driver.asks d q) us (shown_question driver go q js d'))
      ∙ ap (λ x. (driver.asks d q ++ us) ++ x) (sym (shown-begins d' s t q js is k b)))

  pub driven-replied : (n : ℕ) (d : D) (s : Story I T) (t : T) (q : Q) (j : J) (us : List U) (d' : D) (js : List J) → driver.kind t ≡ Question q → Begins s t → driver.own d q ≡ None → driver.heard d q j ≡ Reply us d'
      → driven driver (suc n) d s (j ∷ js) ≡ with_front (driver.asks d q ++ us) (driven driver n d' s js)
  driven-replied n d s t q j us d' js k b own heard =
      ap (shown_of driver d s (j ∷ js)) (filled-question n d s t q (j ∷ js) k (b []) ∙ ap (answer driver (filled driver n) d q s (j ∷ js)) own ∙ ap (passed_on driver (filled driver n) s js) heard)
      ∙ shown-replied d s t q j us d' js (filled driver n d' s js) k b own heard
