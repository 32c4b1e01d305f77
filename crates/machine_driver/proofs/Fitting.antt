-- A driver whose own answers are taken gives its machine nothing that doesn't fit, where the outside answers nothing.
use std.Path.{fun_ext}
use Rattle.std.proofs.Common.{◌≡◌, ℕ, suc, zero, Bool, false, List, [], ◌∷◌, Option, Some, None, refl, sym, ◌∙◌, ap, subst}
use Rattle.step_machine.specs.Machine.{Move, Table, leads, walk}
use Rattle.step_machine.specs.Machine.Move.{Done, Go, Emit, Wait, Call}
use Rattle.step_machine.proofs.Ends.{NotShort}
use Rattle.machine_driver.specs.Driver.{Driver, Kind, Story, tail, later, answered, with_first, filled, through, answer}
use Rattle.machine_driver.specs.Driver.Kind.{Event, Question}
use Rattle.machine_driver.proofs.Driving.{begins-first, filled-event, filled-question}
use Rattle.machine_driver.proofs.Telling.{Tells, TakesOr, ToldBy, TellsStories, not-short-told}

-- K f fs p: kept by each step; strays f fs p is: whether the last of these inputs doesn't fit
module _ {F A P I T D E Q J U : Type 0} (t : Table F A P I T) (driver : Driver D T E Q I J U) (Fine : F → List F → P → Type 0) (story : F → List F → P → Story I T) (K : F → List F → P → Type 0) (strays : F → List F → P → List I → Bool) where
  -- ---- what has to be shown of the machine and of the driver's own answers

  abbrev Same : (List I → Bool) → F → List F → P → Type 0
  Same s f fs p = (is : List I) → s is ≡ strays f fs p is

  -- what doesn't fit, by the next step alone
  abbrev pub StraysBy : (List I → Bool) → Move F A P T → List F → Type 0
  StraysBy s (Done a p) [] = Unit {0}
  StraysBy s (Done a p) (g ∷ gs) = Same s (t.resume g a) gs p
  StraysBy s (Go f p) fs = Same s f fs p
  StraysBy s (Emit e f p) fs = Same s f fs p
  StraysBy s (Wait q f p) fs = (i : I) (g : F) → t.taken f p i ≡ Some g → (is : List I) → s (i ∷ is) ≡ strays g fs p is
  StraysBy s (Call g f p) fs = Same s g (f ∷ fs) p

  -- a question that the driver answers itself takes the answer
  abbrev pub TakesOwn : T → F → P → Type 0
  TakesOwn x f p = (d : D) (q : Q) (own : I × D) → driver.kind x ≡ Question q → driver.own d q ≡ Some own → (g : F) × (t.taken f p own.0 ≡ Some g)

  abbrev pub KeepsBy : Move F A P T → List F → Type 0
  KeepsBy (Done a p) [] = Unit {0}
  KeepsBy (Done a p) (g ∷ gs) = K (t.resume g a) gs p
  KeepsBy (Go f p) fs = K f fs p
  KeepsBy (Emit e f p) fs = K f fs p × ((q : Q) → driver.kind e ≡ Question q → ⊥)
  KeepsBy (Wait x f p) fs = ((i : I) (g : F) → t.taken f p i ≡ Some g → K g fs p) × TakesOwn x f p × ((e : E) → driver.kind x ≡ Event e → ⊥)
  KeepsBy (Call g f p) fs = K g (f ∷ fs) p

  pub record AnswersFit : Type 0 where
    pub none : (f : F) (fs : List F) (p : P) → strays f fs p [] ≡ false
    pub goes : (f : F) (fs : List F) (p : P) → Fine f fs p → StraysBy (strays f fs p) (t.step f p) fs
    pub keeps : (f : F) (fs : List F) (p : P) → Fine f fs p → K f fs p → KeepsBy (t.step f p) fs

  -- ---- so nothing of it doesn't fit

  module _ (tells : TellsStories t Fine story) (fit : AnswersFit) where
    abbrev pub Fits : (List I → Bool) → Option (List I) → Type 0
    Fits s None = Unit {0}
    Fits s (Some is) = s is ≡ false

    fits-first : (s s' : List I → Bool) (i : I) → ((is : List I) → s (i ∷ is) ≡ s' is) → (o : Option (List I)) → Fits s' o → Fits s (with_first i o)
    fits-first s s' i e None h = tt
    fits-first s s' i e (Some is) h = e is ∙ h

    fits-same : (s s' : List I → Bool) → ((is : List I) → s is ≡ s' is) → (o : Option (List I)) → Fits s' o → Fits s o
    fits-same s s' e None h = tt
    fits-same s s' e (Some is) h = e is ∙ h

    module _ (n : ℕ) (ih : (d : D) (f : F) (fs : List F) (p : P) → Fine f fs p → K f fs p → Fits (strays f fs p) (filled driver n d (story f fs p) [])) where
      answered-fits : (d : D) (s : Story I T) (z : List I → Bool) (x : T) (fs : List F) (p : P) (i : I) (g : F) → TakesOr t Fine story s x fs p i (Some g) → K g fs p → ((is : List I) → z (i ∷ is) ≡ strays g fs p is)
          → Fits z (with_first i (filled driver n d (answered i s) []))
      answered-fits d s z x fs p i g told k e =
          let same : answered i s ≡ story g fs p = fun_ext (λ is. ap tail (told.1 is)) in
          fits-first z (strays g fs p) i e (filled driver n d (answered i s) []) (subst (λ (y : Story I T). Fits (strays g fs p) (filled driver n d y [])) (sym same) (ih d g fs p told.0 k))

      own-fits : (d : D) (q : Q) (s : Story I T) (z : List I → Bool) (x : T) (f : F) (fs : List F) (p : P) (o : Option (I × D)) → driver.kind x ≡ Question q → driver.own d q ≡ o → z [] ≡ false
          → ((i : I) → TakesOr t Fine story s x fs p i (t.taken f p i)) → ((i : I) (g : F) → t.taken f p i ≡ Some g → (is : List I) → z (i ∷ is) ≡ strays g fs p is)
          → ((i : I) (g : F) → t.taken f p i ≡ Some g → K g fs p) → TakesOwn x f p → Fits z (answer driver (filled driver n) d q s [] o)
      own-fits d q s z x f fs p None kind own nothing told same k takes = nothing
      own-fits d q s z x f fs p (Some a) kind own nothing told same k takes =
          let g = takes d q a kind own in
          answered-fits a.1 s z x fs p a.0 g.0 (subst (TakesOr t Fine story s x fs p a.0) g.1 (told a.0)) (k a.0 g.0 g.1) (same a.0 g.0 g.1)

      module _ (l : ℕ) (jh : (d : D) (f : F) (fs : List F) (p : P) → NotShort (walk t l f fs p []) → Fine f fs p → K f fs p → Fits (strays f fs p) (filled driver (suc n) d (story f fs p) [])) where
        goes : (d : D) (s : Story I T) (z : List I → Bool) (f : F) (fs : List F) (p : P) → NotShort (walk t l f fs p []) → Fine f fs p × ((is : List I) → s is ≡ story f fs p is) → Same z f fs p → K f fs p → Fits z (filled driver (suc n) d s [])
        goes d s z f fs p ns told same k =
            let e : s ≡ story f fs p = fun_ext told.1 in
            fits-same z (strays f fs p) same (filled driver (suc n) d s []) (subst (λ (y : Story I T). Fits (strays f fs p) (filled driver (suc n) d y [])) (sym e) (jh d f fs p ns told.0 k))

        event-fits : (d : D) (s : Story I T) (z : List I → Bool) (x : T) (f : F) (fs : List F) (p : P) (kind : Kind E Q) → driver.kind x ≡ kind → NotShort (walk t l f fs p []) → Tells t Fine story s x f fs p → Same z f fs p → K f fs p → ((q : Q) → driver.kind x ≡ Question q → ⊥)
            → Fits z (filled driver (suc n) d s [])
        event-fits d s z x f fs p (Event e) kind ns told same k never =
            let same-story : later s ≡ story f fs p = fun_ext (λ is. ap tail (told.1 is)) in
            let on : filled driver (suc n) d s [] ≡ filled driver (suc n) (driver.told d e) (story f fs p) [] =
            filled-event driver n d s x e [] kind (begins-first s (story f fs p) x told.1 []) ∙ ap (λ (y : Story I T). filled driver (suc n) (driver.told d e) y []) same-story in
            fits-same z (strays f fs p) same (filled driver (suc n) d s []) (subst (Fits (strays f fs p)) (sym on) (jh (driver.told d e) f fs p ns told.0 k))
        event-fits d s z x f fs p (Question q) kind ns told same k never = absurd (never q kind)

        question-fits : (d : D) (s : Story I T) (z : List I → Bool) (x : T) (f : F) (fs : List F) (p : P) (kind : Kind E Q) → driver.kind x ≡ kind → z [] ≡ false → s [] ≡ x ∷ [] → ((i : I) → TakesOr t Fine story s x fs p i (t.taken f p i))
            → ((i : I) (g : F) → t.taken f p i ≡ Some g → (is : List I) → z (i ∷ is) ≡ strays g fs p is) → KeepsBy (Wait x f p) fs → Fits z (filled driver (suc n) d s [])
        question-fits d s z x f fs p (Event e) kind nothing last told same keeps = absurd (keeps.2 e kind)
        question-fits d s z x f fs p (Question q) kind nothing last told same keeps =
            subst (Fits z) (sym (filled-question driver n d s x q [] kind (last ∙ ap (λ (ts : List T). x ∷ ts) (sym (ap tail last)))))
            (own-fits d q s z x f fs p (driver.own d q) kind refl nothing told same keeps.0 keeps.1)

        move-fits : (d : D) (s : Story I T) (z : List I → Bool) (move : Move F A P T) (fs : List F) → z [] ≡ false → ToldBy t Fine story s move fs → StraysBy z move fs → KeepsBy move fs → NotShort (leads t (walk t l) move fs []) → Fits z (filled driver (suc n) d s [])
        move-fits d s z (Done a p) [] nothing told same keeps ns =
            let e : s ≡ (λ (is : List I). []) = fun_ext told in
            subst (λ (y : Story I T). Fits z (filled driver (suc n) d y [])) (sym e) nothing
        move-fits d s z (Done a p) (g ∷ gs) nothing told same keeps ns = goes d s z (t.resume g a) gs p ns told same keeps
        move-fits d s z (Go f p) fs nothing told same keeps ns = goes d s z f fs p ns told same keeps
        move-fits d s z (Emit x f p) fs nothing told same keeps ns = event-fits d s z x f fs p (driver.kind x) refl (not-short-told x _ ns) told same keeps.0 keeps.1
        move-fits d s z (Wait x f p) fs nothing told same keeps ns = question-fits d s z x f fs p (driver.kind x) refl nothing told.0 told.1 same keeps
        move-fits d s z (Call g f p) fs nothing told same keeps ns = goes d s z g (f ∷ fs) p ns told same keeps

      steps-fit : (l : ℕ) (d : D) (f : F) (fs : List F) (p : P) → NotShort (walk t l f fs p []) → Fine f fs p → K f fs p → Fits (strays f fs p) (filled driver (suc n) d (story f fs p) [])
      steps-fit zero d f fs p ns fine k = absurd ns
      steps-fit (suc l) d f fs p ns fine k = move-fits l (steps-fit l) d (story f fs p) (strays f fs p) (t.step f p) fs (fit.none f fs p) (tells.tells f fs p fine) (fit.goes f fs p fine) (fit.keeps f fs p fine k) ns

    -- however many answers are allowed
    pub own-answers-fit : (n : ℕ) (d : D) (f : F) (fs : List F) (p : P) → Fine f fs p → K f fs p → Fits (strays f fs p) (filled driver n d (story f fs p) [])
    own-answers-fit zero d f fs p fine k = tt
    own-answers-fit (suc n) d f fs p fine k = let w = tells.settles f fs p fine in steps-fit n (own-answers-fit n) w.0 d f fs p w.1 fine k
