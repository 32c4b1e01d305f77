-- More answers allowed give the same.
use Rattle.std.proofs.Common.{◌≡◌, ℕ, suc, zero, ◌+◌, List, [], ◌∷◌, Option, Some, None, refl, sym, ◌∙◌, ap, ◌⊎◌, inl, inr, arith, subst}
use Rattle.machine_driver.specs.Driver.{Driver, Kind, Given, Story, later, answered, with_first, filled, through, at_item, answer, from_outside, passed_on, shown_of, driven}
use Rattle.machine_driver.specs.Driver.Kind.{Event, Question}
use Rattle.machine_driver.specs.Driver.Given.{Pass, Reply, Misfit}

-- there is one
abbrev pub IsThere : {X : Type 0} → Option X → Type 0
IsThere None = ⊥
IsThere (Some x) = Unit {0}

-- there is none yet, or both are the same
abbrev pub Under : {X : Type 0} → Option X → Option X → Type 0
Under o o' = (o ≡ None) ⊎ (o ≡ o')

pub Under-first : {X : Type 0} (x : X) (o o' : Option (List X)) → Under o o' → Under (with_first x o) (with_first x o')
Under-first x o o' u = elim u [ inl e ↦ inl (ap (with_first x) e) | inr e ↦ inr (ap (with_first x) e) ]

pub Under-there : {X : Type 0} (o o' : Option X) → IsThere o → Under o o' → o ≡ o'
Under-there o o' h u = elim u [ inl e ↦ absurd (let Q : Option _ → Type 0 = λ x. IsThere x in subst Q e h) | inr e ↦ e ]

module _ {D T E Q I J U : Type 0} (driver : Driver D T E Q I J U) (go go' : D → Story I T → List J → Option (List I))
    (h : (d : D) (s : Story I T) (js : List J) → Under (go d s js) (go' d s js)) where
  passed-under : (s : Story I T) (js : List J) (g : Given D I U) → Under (passed_on driver go s js g) (passed_on driver go' s js g)
  passed-under s js (Pass i d) = Under-first i _ _ (h d (answered i s) js)
  passed-under s js (Reply us d) = h d s js
  passed-under s js Misfit = inr refl

  outside-under : (d : D) (q : Q) (s : Story I T) (js : List J) → Under (from_outside driver go d q s js) (from_outside driver go' d q s js)
  outside-under d q s [] = inr refl
  outside-under d q s (j ∷ js) = passed-under s js (driver.heard d q j)

  answer-under : (d : D) (q : Q) (s : Story I T) (js : List J) (o : Option (I × D)) → Under (answer driver go d q s js o) (answer driver go' d q s js o)
  answer-under d q s js (Some a) = Under-first a.0 _ _ (h a.1 (answered a.0 s) js)
  answer-under d q s js None = outside-under d q s js

  item-under : (on on' : D → Story I T → List J → Option (List I)) → ((d : D) (s : Story I T) (js : List J) → Under (on d s js) (on' d s js))
      → (d : D) (s : Story I T) (js : List J) (k : Kind E Q) → Under (at_item driver go on d s js k) (at_item driver go' on' d s js k)
  item-under on on' l d s js (Event e) = l (driver.told d e) (later s) js
  item-under on on' l d s js (Question q) = answer-under d q s js (driver.own d q)

  pub through-under : (ts : List T) (d : D) (s : Story I T) (js : List J) → Under (through driver go ts d s js) (through driver go' ts d s js)
  through-under [] d s js = inr refl
  through-under (t ∷ ts) d s js = item-under _ _ (through-under ts) d s js (driver.kind t)

module _ {D T E Q I J U : Type 0} (driver : Driver D T E Q I J U) where
  pub filled-more : (n : ℕ) (d : D) (s : Story I T) (js : List J) → Under (filled driver n d s js) (filled driver (suc n) d s js)
  filled-more zero d s js = inl refl
  filled-more (suc n) d s js = through-under driver (filled driver n) (filled driver (suc n)) (filled-more n) (s []) d s js

  shown-there : (d : D) (s : Story I T) (js : List J) (o : Option (List I)) → IsThere (shown_of driver d s js o) → IsThere o
  shown-there d s js None h = h
  shown-there d s js (Some is) h = tt

  there-shown : (d : D) (s : Story I T) (js : List J) (o : Option (List I)) → IsThere o → IsThere (shown_of driver d s js o)
  there-shown d s js None h = h
  there-shown d s js (Some is) h = tt

  pub driven-there : (n : ℕ) (d : D) (s : Story I T) (js : List J) → IsThere (filled driver n d s js) → IsThere (driven driver n d s js)
  driven-there n d s js h = there-shown d s js (filled driver n d s js) h

  pub driven-next : (n : ℕ) (d : D) (s : Story I T) (js : List J) → IsThere (driven driver n d s js) → driven driver n d s js ≡ driven driver (suc n) d s js
  driven-next n d s js h =
      ap (shown_of driver d s js) (Under-there _ _ (shown-there d s js (filled driver n d s js) h) (filled-more n d s js))

  -- a driven story that is there is the same where more answers are allowed
  pub driven-more : (n k : ℕ) (d : D) (s : Story I T) (js : List J) → IsThere (driven driver n d s js) → driven driver n d s js ≡ driven driver (k + n) d s js
  driven-more n zero d s js h = let e : 0 + n ≡ n = omega arith in ap (λ x. driven driver x d s js) (sym e)
  driven-more n (suc k) d s js h =
      let e : suc k + n ≡ suc (k + n) = omega arith in
      let ih = driven-more n k d s js h in
      ih ∙ driven-next (k + n) d s js (subst IsThere ih h) ∙ ap (λ x. driven driver x d s js) (sym e)

  pub more-some : (n k : ℕ) (d : D) (s : Story I T) (js : List J) (us : List U) → driven driver n d s js ≡ Some us → driven driver (k + n) d s js ≡ Some us
  more-some n k d s js us e = sym (driven-more n k d s js (subst IsThere (sym e) tt)) ∙ e
