-- The story of a driver that answers no question itself, one event, one question, one answer at a time.
use std.Path.{fun_ext}
use Rattle.std.proofs.Common.{◌≡◌, ℕ, suc, zero, ◌<◌, List, [], ◌∷◌, ◌++◌, length, Option, Some, None, refl, ◌∙◌, ap, arith}
use Rattle.machine_driver.specs.Driver.{Driver, Kind, Given, Story, tail, later, answered, with_first, with_front, filled, through, at_item, answer, from_outside, passed_on, driven, items_or_none}
use Rattle.machine_driver.specs.Driver.Kind.{Event, Question}
use Rattle.machine_driver.specs.Driver.Given.{Pass, Reply, Misfit}
use Rattle.machine_driver.proofs.Driving.{Begins, begins-first, driven-event, driven-open, driven-passed, driven-replied}
use Rattle.machine_driver.proofs.More.{IsThere, driven-there}
use Rattle.machine_driver.specs.Hearing.{Listens, heard_story}

first-there : {X : Type 0} (x : X) (o : Option (List X)) → IsThere o → IsThere (with_first x o)
first-there x None h = h
first-there x (Some xs) h = tt

front-there : {X : Type 0} (us : List X) (o : Option (List X)) → IsThere o → items_or_none (with_front us o) ≡ us ++ items_or_none o
front-there us None h = absurd h
front-there us (Some xs) h = refl

module _ {D T E Q I J U : Type 0} (driver : Driver D T E Q I J U) (listens : Listens driver) where
  abbrev Fills : ℕ → Type 0
  Fills n = (d : D) (s : Story I T) (js : List J) → length js < n → IsThere (filled driver n d s js)

  given-there : (n : ℕ) → Fills n → (s : Story I T) (js : List J) (g : Given D I U) → length js < n → IsThere (passed_on driver (filled driver n) s js g)
  given-there n ih s js (Pass i d) l = first-there i _ (ih d (answered i s) js l)
  given-there n ih s js (Reply us d) l = ih d s js l
  given-there n ih s js Misfit l = tt

  outside-there : (n : ℕ) → Fills n → (d : D) (q : Q) (s : Story I T) (js : List J) → length js < suc n → IsThere (from_outside driver (filled driver n) d q s js)
  outside-there n ih d q s [] l = tt
  outside-there n ih d q s (j ∷ js) l = given-there n ih s js (driver.heard d q j) (omega (arith, l))

  own-there : (n : ℕ) → Fills n → (d : D) (q : Q) (s : Story I T) (js : List J) (o : Option (I × D)) → o ≡ None → length js < suc n → IsThere (answer driver (filled driver n) d q s js o)
  own-there n ih d q s js None e l = outside-there n ih d q s js l
  own-there n ih d q s js (Some own) e l = cc

  item-there : (n : ℕ) → Fills n → (on : D → Story I T → List J → Option (List I)) → (d : D) (s : Story I T) (js : List J) (k : Kind E Q) → ((d : D) (s : Story I T) → IsThere (on d s js)) → length js < suc n
      → IsThere (at_item driver (filled driver n) on d s js k)
  item-there n ih on d s js (Event e) h l = h (driver.told d e) (later s)
  item-there n ih on d s js (Question q) h l = own-there n ih d q s js (driver.own d q) (listens d q) l

  through-there : (n : ℕ) → Fills n → (ts : List T) (js : List J) → length js < suc n → (d : D) (s : Story I T) → IsThere (through driver (filled driver n) ts d s js)
  through-there n ih [] js l d s = tt
  through-there n ih (t ∷ ts) js l d s = item-there n ih (through driver (filled driver n) ts) d s js (driver.kind t) (through-there n ih ts js l) l

  pub filled-there : (n : ℕ) → Fills n
  filled-there zero d s js l = absurd (omega (arith, l))
  filled-there (suc n) d s js l = through-there n (filled-there n) (s []) js l d s

  there : (d : D) (s : Story I T) (js : List J) → IsThere (driven driver (suc (length js)) d s js)
  there d s js = driven-there driver (suc (length js)) d s js (filled-there (suc (length js)) d s js (omega arith))

  -- ---- one item at a time

  pub heard-event : (d : D) (s s' : Story I T) (t : T) (e : E) → driver.kind t ≡ Event e → ((is : List I) → s is ≡ t ∷ s' is)
      → (js : List J) → heard_story driver d s js ≡ driver.shows d e ++ heard_story driver (driver.told d e) s' js
  heard-event d s s' t e k b js =
      let same : later s ≡ s' = fun_ext (λ is. ap tail (b is)) in
      ap items_or_none (driven-event driver (length js) d s t e js k (begins-first s s' t b))
      ∙ front-there (driver.shows d e) _ (there (driver.told d e) (later s) js)
      ∙ ap (λ (x : Story I T). driver.shows d e ++ heard_story driver (driver.told d e) x js) same

  pub heard-passed : (d : D) (s s' : Story I T) (t : T) (q : Q) (j : J) (i : I) (d' : D) → driver.kind t ≡ Question q → Begins s t → driver.heard d q j ≡ Pass i d' → ((is : List I) → s (i ∷ is) ≡ t ∷ s' is)
      → (js : List J) → heard_story driver d s (j ∷ js) ≡ driver.asks d q ++ heard_story driver d' s' js
  heard-passed d s s' t q j i d' k begins heard b js =
      let same : answered i s ≡ s' = fun_ext (λ is. ap tail (b is)) in
      ap items_or_none (driven-passed driver (suc (length js)) d s t q j i d' js k begins (listens d q) heard)
      ∙ front-there (driver.asks d q) _ (there d' (answered i s) js)
      ∙ ap (λ (x : Story I T). driver.asks d q ++ heard_story driver d' x js) same

  pub heard-replied : (d : D) (s : Story I T) (t : T) (q : Q) (j : J) (us : List U) (d' : D) → driver.kind t ≡ Question q → Begins s t → driver.heard d q j ≡ Reply us d'
      → (js : List J) → heard_story driver d s (j ∷ js) ≡ (driver.asks d q ++ us) ++ heard_story driver d' s js
  heard-replied d s t q j us d' k begins heard js =
      ap items_or_none (driven-replied driver (suc (length js)) d s t q j us d' js k begins (listens d q) heard)
      ∙ front-there (driver.asks d q ++ us) _ (there d' s js)

  pub heard-open : (d : D) (s : Story I T) (t : T) (q : Q) → driver.kind t ≡ Question q → Begins s t → heard_story driver d s [] ≡ driver.asks d q ++ []
  heard-open d s t q k begins = ap items_or_none (driven-open driver 0 d s t q k begins (listens d q))
