-- A measure that falls gives an end, and the laws of a stack's story follow.
use Rattle.std.proofs.Common.{◌≡◌, ℕ, suc, zero, ◌+◌, ◌<◌, List, [], ◌∷◌, length, Option, Some, None, refl, sym, ◌∙◌, ap, inl, inr, arith, subst}
use Rattle.step_machine.specs.Machine.{Move, Table, Outcome, State, silent, tell, given, run, rest, leads, walk}
use Rattle.step_machine.specs.Machine.Move.{Done, Go, Emit, Wait, Call}
use Rattle.step_machine.specs.Machine.Outcome.{Ended, Waits, Stray, Short}
use Rattle.step_machine.proofs.Laws.{Below, run-more, walk-more, walk-rest}

abbrev pub NotShort : {A P I T : Type 0} → Outcome A P I T → Type 0
NotShort (Ended a p ts is) = Unit {0}
NotShort (Waits ts) = Unit {0}
NotShort (Stray ts) = Unit {0}
NotShort Short = ⊥

pub NotShort-tell : {A P I T : Type 0} (t : T) (o : Outcome A P I T) → NotShort o → NotShort (tell t o)
NotShort-tell t (Ended a p us is) h = tt
NotShort-tell t (Waits us) h = tt
NotShort-tell t (Stray us) h = tt
NotShort-tell t Short h = h

pub Below-equal : {A P I T : Type 0} (o o' : Outcome A P I T) → NotShort o → Below o o' → o ≡ o'
Below-equal o o' h b = elim b [ inl s ↦ absurd (let Q : Outcome _ _ _ _ → Type 0 = λ x. NotShort x in subst Q s h) | inr e ↦ e ]

module _ {F A P I T : Type 0} (t : Table F A P I T) where
  -- the fact N holds of every state that a move leads to, and its measure is below b; k inputs are left
  abbrev pub Leads : (F → List F → P → ℕ → Type 0) → Move F A P T → List F → ℕ → Type 0
  Leads N (Done a p) [] k = Unit {0}
  Leads N (Done a p) (g ∷ gs) k = N (t.resume g a) gs p k
  Leads N (Go f p) fs k = N f fs p k
  Leads N (Emit e f p) fs k = N f fs p k
  Leads N (Wait q f p) fs zero = Unit {0}
  Leads N (Wait q f p) fs (suc k) = (i : I) (g : F) → t.taken f p i ≡ Some g → N g fs p k
  Leads N (Call g f p) fs k = N g (f ∷ fs) p k

  -- each step keeps the fact, and lowers the measure
  pub record Falls (N : F → List F → P → ℕ → Type 0) (μ : F → List F → P → ℕ → ℕ) : Type 0 where
    pub keeps : (f : F) (fs : List F) (p : P) (k : ℕ) → N f fs p k → Leads (λ g gs q j. N g gs q j × (μ g gs q j < μ f fs p k)) (t.step f p) fs k

  Leads-ends : (n : ℕ) (M : F → List F → P → ℕ → Type 0)
      → ((f : F) (fs : List F) (p : P) (is : List I) → M f fs p (length is) → NotShort (walk t n f fs p is))
      → (m : Move F A P T) (fs : List F) (is : List I) → Leads M m fs (length is) → NotShort (leads t (walk t n) m fs is)
  Leads-ends n M go (Done a q) [] js l = tt
  Leads-ends n M go (Done a q) (g ∷ gs) js l = go _ _ _ _ l
  Leads-ends n M go (Go g q) gs js l = go _ _ _ _ l
  Leads-ends n M go (Emit e g q) gs js l = NotShort-tell e _ (go _ _ _ _ l)
  Leads-ends n M go (Wait q g p) gs [] l = tt
  Leads-ends n M go (Wait q g p) gs (i ∷ js) l = each (t.taken g p i) (l i)
    where
      each : (o : Option F) → ((g' : F) → o ≡ Some g' → M g' gs p (length js)) → NotShort (given (λ g' p'' left. walk t n g' gs p'' left) q p js o)
      each None h = tt
      each (Some g') h = NotShort-tell q _ (go g' gs p js (h g' refl))
  Leads-ends n M go (Call g f q) gs js l = go _ _ _ _ l

  module _ (N : F → List F → P → ℕ → Type 0) (μ : F → List F → P → ℕ → ℕ) (falls : Falls N μ) where
    -- more steps than the measure are enough
    pub enough : (n : ℕ) (f : F) (fs : List F) (p : P) (is : List I) → N f fs p (length is) → μ f fs p (length is) < n
        → NotShort (walk t n f fs p is)
    enough zero f fs p is h less = absurd (omega arith)
    enough (suc n) f fs p is h less =
        Leads-ends n (λ g gs q j. N g gs q j × (μ g gs q j < μ f fs p (length is)))
        (λ g gs q js l. enough n g gs q js l.0 (omega arith)) (t.step f p) fs is (falls.keeps f fs p (length is) h)

    -- and the number of turns doesn't count followed
    pub rest-walk : (n : ℕ) (f : F) (fs : List F) (p : P) (is : List I) → N f fs p (length is) → μ f fs p (length is) < n
        → walk t n f fs p is ≡ rest t n f fs p is
    rest-walk n f fs p is h less = Below-equal _ _ (enough n f fs p is h less) (walk-rest t n f fs p is)

    pub walk-same : (n d : ℕ) (f : F) (fs : List F) (p : P) (is : List I) → N f fs p (length is) → μ f fs p (length is) < n
        → walk t n f fs p is ≡ walk t (n + d) f fs p is
    walk-same n zero f fs p is h less = let e : n + 0 ≡ n = omega arith in ap (λ x. walk t x f fs p is) (sym e)
    walk-same n (suc d) f fs p is h less =
        let e : n + suc d ≡ suc (n + d) = omega arith in
        walk-same n d f fs p is h less
        ∙ Below-equal _ _ (enough (n + d) f fs p is h (omega arith)) (walk-more t (n + d) f fs p is)
        ∙ ap (λ x. walk t x f fs p is) (sym e)

    pub walk-any : (n m : ℕ) (f : F) (fs : List F) (p : P) (is : List I) → N f fs p (length is) → μ f fs p (length is) < n → μ f fs p (length is) < m
        → walk t n f fs p is ≡ walk t m f fs p is
    walk-any n m f fs p is h less less' =
        let e : n + m ≡ m + n = omega arith in
        walk-same n m f fs p is h less ∙ ap (λ x. walk t x f fs p is) e ∙ sym (walk-same m n f fs p is h less')

    -- the story of a state
    pub rest-any : (n m : ℕ) (f : F) (fs : List F) (p : P) (is : List I) → N f fs p (length is) → μ f fs p (length is) < n → μ f fs p (length is) < m
        → rest t n f fs p is ≡ rest t m f fs p is
    rest-any n m f fs p is h less less' =
        sym (rest-walk n f fs p is h less) ∙ walk-any n m f fs p is h less less' ∙ rest-walk m f fs p is h less'

    -- one step of the machine, and the rest after it
    pub rest-step : (n : ℕ) (f : F) (fs : List F) (p : P) (is : List I) → N f fs p (length is) → μ f fs p (length is) < n
        → rest t n f fs p is ≡ leads t (walk t n) (t.step f p) fs is
    rest-step n f fs p is h less =
        sym (rest-walk n f fs p is h less) ∙ walk-any n (suc n) f fs p is h less (omega arith)

    -- an event: the rest before it is the event and followed the rest after it
    pub rest-event : (n m : ℕ) (f f' : F) (fs : List F) (p p' : P) (e : T) (is : List I) → N f fs p (length is) → μ f fs p (length is) < n
        → t.step f p ≡ Emit e f' p' → μ f' fs p' (length is) < m
        → rest t n f fs p is ≡ tell e (rest t m f' fs p' is)
    rest-event n m f f' fs p p' e is h less is-emit less' =
        let l : Leads (λ g gs q j. N g gs q j × (μ g gs q j < μ f fs p (length is))) (t.step f p) fs (length is) = falls.keeps f fs p (length is) h in
        let k : N f' fs p' (length is) × (μ f' fs p' (length is) < μ f fs p (length is)) = rw is-emit at l in
        rest-step n f fs p is h less
        ∙ ap (λ x. leads t (walk t n) x fs is) is-emit
        ∙ ap (tell e) (rest-walk n f' fs p' is k.0 (omega arith) ∙ rest-any n m f' fs p' is k.0 (omega arith) less')

    -- a question: the rest with an input that fits is the question and followed the rest after it
    pub rest-question : (n m : ℕ) (f f' g : F) (fs : List F) (p p' : P) (q : T) (i : I) (is : List I)
        → N f fs p (length (i ∷ is)) → μ f fs p (length (i ∷ is)) < n
        → t.step f p ≡ Wait q f' p' → t.taken f' p' i ≡ Some g → μ g fs p' (length is) < m
        → rest t n f fs p (i ∷ is) ≡ tell q (rest t m g fs p' is)
    rest-question n m f f' g fs p p' q i is h less is-wait fits less' =
        let l : Leads (λ g gs q j. N g gs q j × (μ g gs q j < μ f fs p (length (i ∷ is)))) (t.step f p) fs (length (i ∷ is)) = falls.keeps f fs p (length (i ∷ is)) h in
        let l' : (i : I) (g : F) → t.taken f' p' i ≡ Some g → N g fs p' (length is) × (μ g fs p' (length is) < μ f fs p (length (i ∷ is))) = rw is-wait at l in
        let k : N g fs p' (length is) × (μ g fs p' (length is) < μ f fs p (length (i ∷ is))) = l' i g fits in
        rest-step n f fs p (i ∷ is) h less
        ∙ ap (λ x. leads t (walk t n) x fs (i ∷ is)) is-wait
        ∙ ap (λ o. given (λ g' p'' left. walk t n g' fs p'' left) q p' is o) fits
        ∙ ap (tell q) (rest-walk n g fs p' is k.0 (omega arith) ∙ rest-any n m g fs p' is k.0 (omega arith) less')

    -- at a question with no input left the rest is that question
    pub rest-open : (n : ℕ) (f f' : F) (fs : List F) (p p' : P) (q : T)
        → N f fs p (length {A = I} []) → μ f fs p (length {A = I} []) < n → t.step f p ≡ Wait q f' p' → rest t n f fs p [] ≡ Waits (q ∷ [])
    rest-open n f f' fs p p' q h less is-wait = rest-step n f fs p [] h less ∙ ap (λ x. leads t (walk t n) x fs []) is-wait

    -- a step that tells nothing leaves the rest as it is
    pub rest-silent : (n m : ℕ) (f : F) (fs : List F) (p : P) (s : State F P) (is : List I) → N f fs p (length is) → μ f fs p (length is) < n
        → silent t (t.step f p) fs ≡ Some s → μ s.now s.below s.pool (length is) < m
        → rest t n f fs p is ≡ rest t m s.now s.below s.pool is
    rest-silent n m f fs p s is h less to less' =
        let l : Leads (λ g gs q j. N g gs q j × (μ g gs q j < μ f fs p (length is))) (t.step f p) fs (length is) = falls.keeps f fs p (length is) h in
        rest-step n f fs p is h less ∙ each (t.step f p) fs l to
      where
        arrive : (r : State F P) → Some r ≡ Some s → N r.now r.below r.pool (length is) × (μ r.now r.below r.pool (length is) < μ f fs p (length is))
            → walk t n r.now r.below r.pool is ≡ rest t m s.now s.below s.pool is
        arrive r e k =
            let e' : r ≡ s = cc in
            let k' : N s.now s.below s.pool (length is) × (μ s.now s.below s.pool (length is) < μ f fs p (length is)) =
            subst (λ (x : State F P). N x.now x.below x.pool (length is) × (μ x.now x.below x.pool (length is) < μ f fs p (length is))) e' k in
            ap (λ (x : State F P). walk t n x.now x.below x.pool is) e'
            ∙ rest-walk n s.now s.below s.pool is k'.0 (omega arith) ∙ rest-any n m s.now s.below s.pool is k'.0 (omega arith) less'

        each : (mv : Move F A P T) (gs : List F) → Leads (λ g gs q j. N g gs q j × (μ g gs q j < μ f fs p (length is))) mv gs (length is)
            → silent t mv gs ≡ Some s → leads t (walk t n) mv gs is ≡ rest t m s.now s.below s.pool is
        each (Done a q) [] l to = cc
        each (Done a q) (g ∷ gs) l to = arrive _ to l
        each (Go g q) gs l to = arrive _ to l
        each (Emit e g q) gs l to = cc
        each (Wait q g p') gs l to = cc
        each (Call g f' q) gs l to = arrive _ to l

  -- what a silent step leads to has what each step leads to has
  pub silent-leads : (N : F → List F → P → ℕ → Type 0) (m : Move F A P T) (fs : List F) (k : ℕ) (s : State F P) → Leads N m fs k → silent t m fs ≡ Some s
      → N s.now s.below s.pool k
  silent-leads N m fs k s l h = each m fs l h
    where
      arrive : (r : State F P) → Some r ≡ Some s → N r.now r.below r.pool k → N s.now s.below s.pool k
      arrive r e n = let e' : r ≡ s = cc in subst (λ (x : State F P). N x.now x.below x.pool k) e' n

      each : (m : Move F A P T) (fs : List F) → Leads N m fs k → silent t m fs ≡ Some s → N s.now s.below s.pool k
      each (Done a q) [] l h = cc
      each (Done a q) (g ∷ gs) l h = arrive _ h l
      each (Go g q) gs l h = arrive _ h l
      each (Emit e g q) gs l h = cc
      each (Wait q g p) gs l h = cc
      each (Call g f q) gs l h = arrive _ h l

module _ {F A P I T : Type 0} (t : Table F A P I T) where
  -- a run that isn't short is the same with more turns
  pub run-same : (n d : ℕ) (f : F) (p : P) (is : List I) → NotShort (run t n f p is) → run t n f p is ≡ run t (n + d) f p is
  run-same n zero f p is h = let e : n + 0 ≡ n = omega arith in ap (λ x. run t x f p is) (sym e)
  run-same n (suc d) f p is h =
      let e : n + suc d ≡ suc (n + d) = omega arith in
      let ih = run-same n d f p is h in
      ih ∙ Below-equal _ _ (subst NotShort ih h) (run-more t (n + d) f p is) ∙ ap (λ x. run t x f p is) (sym e)
