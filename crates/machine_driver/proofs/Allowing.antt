-- How the story still to come of a driver that may give so many answers goes on: one event, one answer at a time.
use std.Path.{fun_ext}
use Rattle.std.proofs.Common.{◌≡◌, ℕ, suc, ◌+◌, ◌*◌, List, [], ◌∷◌, ◌++◌, length, Some, None, sym, ◌∙◌, ap, arith}
use Rattle.machine_driver.specs.Driver.{Driver, Story, tail, later, answered, with_front, driven}
use Rattle.machine_driver.specs.Driver.Kind.{Event, Question}
use Rattle.machine_driver.specs.Driver.Given.{Pass}
use Rattle.machine_driver.specs.Allowed.{still_allowed}
use Rattle.machine_driver.proofs.Driving.{Begins, begins-first, driven-event, driven-own, driven-open, driven-passed}

module _ {D T E Q I J U : Type 0} (driver : Driver D T E Q I J U) (more : ℕ) where
  pub event-allowed : (d : D) (s s' : Story I T) (left : ℕ) (t : T) (e : E) → driver.kind t ≡ Event e → ((is : List I) → s is ≡ t ∷ s' is)
      → (js : List J) → still_allowed driver more d s left js ≡ with_front (driver.shows d e) (still_allowed driver more (driver.told d e) s' left js)
  event-allowed d s s' left t e k b js =
      let same : later s ≡ s' = fun_ext (λ is. ap tail (b is)) in
      driven-event driver (left + more * length js) d s t e js k (begins-first s s' t b)
      ∙ ap (λ (x : Story I T). with_front (driver.shows d e) (driven driver (suc (left + more * length js)) (driver.told d e) x js)) same

  -- an answer of its own is one fewer
  pub own-allowed : (d : D) (s s' : Story I T) (left : ℕ) (t : T) (q : Q) (i : I) (d' : D) → driver.kind t ≡ Question q → Begins s t → driver.own d q ≡ Some (i, d') → ((is : List I) → s (i ∷ is) ≡ t ∷ s' is)
      → (js : List J) → still_allowed driver more d s (suc left) js ≡ with_front (driver.asks d q) (still_allowed driver more d' s' left js)
  own-allowed d s s' left t q i d' k begins own b js =
      let z : suc (suc left + more * length js) ≡ suc (suc (left + more * length js)) = omega arith in
      let same : answered i s ≡ s' = fun_ext (λ is. ap tail (b is)) in
      ap (λ x. driven driver x d s js) z
      ∙ driven-own driver (suc (left + more * length js)) d s t q i d' js k begins own
      ∙ ap (λ (x : Story I T). with_front (driver.asks d q) (driven driver (suc (left + more * length js)) d' x js)) same

  -- with an answer of the outside come some more
  pub passed-allowed : (d : D) (s s' : Story I T) (left less : ℕ) (t : T) (q : Q) (j : J) (i : I) (d' : D) → suc less ≡ more → driver.kind t ≡ Question q → Begins s t → driver.own d q ≡ None → driver.heard d q j ≡ Pass i d' → ((is : List I) → s (i ∷ is) ≡ t ∷ s' is)
      → (js : List J) → still_allowed driver more d s left (j ∷ js) ≡ with_front (driver.asks d q) (still_allowed driver more d' s' (left + less) js)
  passed-allowed d s s' left less t q j i d' m k begins own heard b js =
      let z : suc (left + more * length (j ∷ js)) ≡ suc (suc ((left + less) + more * length js)) = omega (arith, m) in
      let same : answered i s ≡ s' = fun_ext (λ is. ap tail (b is)) in
      ap (λ x. driven driver x d s (j ∷ js)) z
      ∙ driven-passed driver (suc ((left + less) + more * length js)) d s t q j i d' js k begins own heard
      ∙ ap (λ (x : Story I T). with_front (driver.asks d q) (driven driver (suc ((left + less) + more * length js)) d' x js)) same

  -- no answer of the outside
  pub open-allowed : (d : D) (s : Story I T) (left : ℕ) (t : T) (q : Q) → driver.kind t ≡ Question q → Begins s t → driver.own d q ≡ None → still_allowed driver more d s left [] ≡ Some (driver.asks d q ++ [])
  open-allowed d s left t q k begins own = driven-open driver (left + more * length {A = J} []) d s t q k begins own

  -- two that answer a question alike, and hear it alike, go on alike
  pub alike-allowed : (d d' : D) (s s' : Story I T) (left : ℕ) (t : T) (q : Q) (i : I) (d'' : D) → driver.kind t ≡ Question q → Begins s t → driver.own d q ≡ Some (i, d'') → driver.own d' q ≡ Some (i, d'') → driver.asks d q ≡ driver.asks d' q
      → ((is : List I) → s (i ∷ is) ≡ t ∷ s' is) → (js : List J) → still_allowed driver more d s (suc left) js ≡ still_allowed driver more d' s (suc left) js
  alike-allowed d d' s s' left t q i d'' k begins own own' asks b js =
      own-allowed d s s' left t q i d'' k begins own b js
      ∙ ap (λ us. with_front us (still_allowed driver more d'' s' left js)) asks
      ∙ sym (own-allowed d' s s' left t q i d'' k begins own' b js)
