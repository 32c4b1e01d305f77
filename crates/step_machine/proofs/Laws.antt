-- More turns give the same, and a stack is the composition of its works.
use Rattle.std.proofs.Common.{◌≡◌, ℕ, suc, zero, List, [], ◌∷◌, ◌++◌, Option, Some, None, refl, sym, ◌∙◌, ap, ◌⊎◌, inl, inr}
use Rattle.step_machine.specs.Machine.{Move, Table, Outcome, tell, tells, followed, given, asks, after, run, pass, rest, leads, walk}
use Rattle.step_machine.specs.Machine.Move.{Done, Go, Emit, Wait, Call}
use Rattle.step_machine.specs.Machine.Outcome.{Ended, Waits, Stray, Short}

-- the first is short, or both are the same
abbrev pub Below : {A P I T : Type 0} → Outcome A P I T → Outcome A P I T → Type 0
Below o o' = (o ≡ Short) ⊎ (o ≡ o')

pub Below-same : {A P I T : Type 0} (o : Outcome A P I T) → Below o o
Below-same o = inr refl

pub Below-trans : {A P I T : Type 0} (o o' o'' : Outcome A P I T) → Below o o' → Below o' o'' → Below o o''
Below-trans o o' o'' h k = elim h [ inl s ↦ inl s | inr e ↦ elim k [ inl s ↦ inl (e ∙ s) | inr e' ↦ inr (e ∙ e') ] ]

pub Below-tell : {A P I T : Type 0} (t : T) (o o' : Outcome A P I T) → Below o o' → Below (tell t o) (tell t o')
Below-tell t o o' h = elim h [ inl s ↦ inl (ap (tell t) s) | inr e ↦ inr (ap (tell t) e) ]

pub Below-tells : {A P I T : Type 0} (ts : List T) (o o' : Outcome A P I T) → Below o o' → Below (tells ts o) (tells ts o')
Below-tells [] o o' h = h
Below-tells (t ∷ ts) o o' h = Below-tell t _ _ (Below-tells ts o o' h)

pub Below-followed : {A B P I T : Type 0} (o o' : Outcome A P I T) (k k' : A → P → List I → Outcome B P I T)
    → Below o o' → ((a : A) (p : P) (is : List I) → Below (k a p is) (k' a p is)) → Below (followed o k) (followed o' k')
Below-followed o o' k k' h g =
    elim h [ inl s ↦ inl (ap (λ x. followed x k) s) | inr e ↦ Below-trans _ _ _ (same o) (inr (ap (λ x. followed x k') e)) ]
  where
    same : (o : Outcome _ _ _ _) → Below (followed o k) (followed o k')
    same (Ended a p ts is) = Below-tells ts _ _ (g a p is)
    same (Waits ts) = inr refl
    same (Stray ts) = inr refl
    same Short = inl refl

pub tells-tells : {A P I T : Type 0} (ts us : List T) (o : Outcome A P I T) → tells ts (tells us o) ≡ tells (ts ++ us) o
tells-tells [] us o = refl
tells-tells (t ∷ ts) us o = ap (tell t) (tells-tells ts us o)

pub followed-tell : {A B P I T : Type 0} (t : T) (o : Outcome A P I T) (k : A → P → List I → Outcome B P I T)
    → followed (tell t o) k ≡ tell t (followed o k)
followed-tell t (Ended a p us is) k = refl
followed-tell t (Waits us) k = refl
followed-tell t (Stray us) k = refl
followed-tell t Short k = refl

pub followed-tells : {A B P I T : Type 0} (ts : List T) (o : Outcome A P I T) (k : A → P → List I → Outcome B P I T)
    → followed (tells ts o) k ≡ tells ts (followed o k)
followed-tells [] o k = refl
followed-tells (t ∷ ts) o k = followed-tell t (tells ts o) k ∙ ap (tell t) (followed-tells ts o k)

pub followed-followed : {A B C P I T : Type 0} (o : Outcome A P I T) (k : A → P → List I → Outcome B P I T) (l : B → P → List I → Outcome C P I T)
    → followed (followed o k) l ≡ followed o (λ a p is. followed (k a p is) l)
followed-followed (Ended a p ts is) k l = followed-tells ts (k a p is) l
followed-followed (Waits ts) k l = refl
followed-followed (Stray ts) k l = refl
followed-followed Short k l = refl

pub Below-asks : {F A P I T : Type 0} (taken : F → P → I → Option F) (go go' : F → P → List I → Outcome A P I T)
    (h : (f : F) (p : P) (is : List I) → Below (go f p is) (go' f p is)) (q : T) (f : F) (p : P) (is : List I)
    → Below (asks taken go q f p is) (asks taken go' q f p is)
Below-asks taken go go' h q f p [] = inr refl
Below-asks {F = F} taken go go' h q f p (i ∷ is) = each (taken f p i)
  where
    each : (o : Option F) → Below (given go q p is o) (given go' q p is o)
    each None = inr refl
    each (Some g) = Below-tell q _ _ (h g p is)

module _ {F A P I T : Type 0} (t : Table F A P I T) where
  pub Below-after : (go go' : F → P → List I → Outcome A P I T)
      (h : (f : F) (p : P) (is : List I) → Below (go f p is) (go' f p is)) (m : Move F A P T) (is : List I)
      → Below (after t go m is) (after t go' m is)
  Below-after go go' h (Done a p) is = inr refl
  Below-after go go' h (Go f p) is = h f p is
  Below-after go go' h (Emit e f p) is = Below-tell e _ _ (h f p is)
  Below-after go go' h (Wait q f p) is = Below-asks t.taken go go' h q f p is
  Below-after go go' h (Call g f p) is =
      Below-followed _ _ _ _ (h g p is) (λ a p' left. h (t.resume f a) p' left)

  -- one turn more gives the same
  pub run-more : (n : ℕ) (f : F) (p : P) (is : List I) → Below (run t n f p is) (run t (suc n) f p is)
  run-more zero f p is = inl refl
  run-more (suc n) f p is = Below-after (run t n) (run t (suc n)) (run-more n) (t.step f p) is

  pub Below-pass : (n : ℕ) (fs : List F) (o o' : Outcome A P I T) → Below o o' → Below (pass t n fs o) (pass t (suc n) fs o')
  Below-pass n [] o o' h = h
  Below-pass n (g ∷ gs) o o' h =
      Below-followed _ _ _ _ h (λ a p is. Below-pass n gs _ _ (run-more n (t.resume g a) p is))

  pub rest-more : (n : ℕ) (f : F) (fs : List F) (p : P) (is : List I) → Below (rest t n f fs p is) (rest t (suc n) f fs p is)
  rest-more n f fs p is = Below-pass n fs _ _ (run-more n f p is)

  pub pass-tell : (n : ℕ) (fs : List F) (u : T) (o : Outcome A P I T) → pass t n fs (tell u o) ≡ tell u (pass t n fs o)
  pass-tell n [] u o = refl
  pass-tell n (g ∷ gs) u o = followed-tell u o _

  pub pass-short : (n : ℕ) (fs : List F) → pass t n fs Short ≡ Short
  pass-short n [] = refl
  pass-short n (g ∷ gs) = refl

  pub pass-waits : (n : ℕ) (fs : List F) (ts : List T) → pass t n fs (Waits ts) ≡ Waits ts
  pass-waits n [] ts = refl
  pass-waits n (g ∷ gs) ts = refl

  pub pass-stray : (n : ℕ) (fs : List F) (ts : List T) → pass t n fs (Stray ts) ≡ Stray ts
  pass-stray n [] ts = refl
  pass-stray n (g ∷ gs) ts = refl

  -- what a work's end hands on goes through the stack
  pub pass-followed : (n : ℕ) (fs : List F) (o : Outcome A P I T) (k : A → P → List I → Outcome A P I T)
      → pass t n fs (followed o k) ≡ followed o (λ a p is. pass t n fs (k a p is))
  pass-followed n [] o k = refl
  pass-followed n (g ∷ gs) o k = followed-followed o k _

  pub pass-asks : (n : ℕ) (fs : List F) (q : T) (f : F) (p : P) (is : List I) (go : F → P → List I → Outcome A P I T)
      → pass t n fs (asks t.taken go q f p is) ≡ asks t.taken (λ g p' left. pass t n fs (go g p' left)) q f p is
  pass-asks n fs q f p [] go = pass-waits n fs (q ∷ [])
  pass-asks n fs q f p (i ∷ is) go = each (t.taken f p i)
    where
      each : (o : Option F) → pass t n fs (given go q p is o) ≡ given (λ g p' left. pass t n fs (go g p' left)) q p is o
      each None = pass-stray n fs (q ∷ [])
      each (Some g) = pass-tell n fs q (go g p is)

  -- a stack's next turn is that of its innermost work
  pub pass-after : (n : ℕ) (m : Move F A P T) (fs : List F) (is : List I)
      → Below (leads t (rest t n) m fs is) (pass t (suc n) fs (after t (run t n) m is))
  pass-after n (Done a p) [] is = inr refl
  pass-after n (Done a p) (g ∷ gs) is = rest-more n (t.resume g a) gs p is
  pass-after n (Go f p) fs is = Below-pass n fs _ _ (Below-same _)
  pass-after n (Emit e f p) fs is =
      Below-trans _ _ _ (Below-tell e _ _ (Below-pass n fs _ _ (Below-same _))) (inr (sym (pass-tell (suc n) fs e _)))
  pass-after n (Wait q f p) fs is =
      Below-trans _ _ _ (Below-asks t.taken _ _ (λ g p' left. Below-pass n fs _ _ (Below-same (run t n g p' left))) q f p is)
      (inr (sym (pass-asks (suc n) fs q f p is (run t n))))
  pass-after n (Call g f p) fs is =
      Below-trans _ _ _ (Below-followed (run t n g p is) (run t n g p is) _ _ (Below-same _) (λ a p' left. Below-pass n fs _ _ (Below-same (run t n (t.resume f a) p' left))))
      (inr (sym (pass-followed (suc n) fs (run t n g p is) (λ a p' left. run t n (t.resume f a) p' left))))

  pub Below-leads : (go go' : F → List F → P → List I → Outcome A P I T)
      (h : (f : F) (fs : List F) (p : P) (is : List I) → Below (go f fs p is) (go' f fs p is)) (m : Move F A P T) (fs : List F) (is : List I)
      → Below (leads t go m fs is) (leads t go' m fs is)
  Below-leads go go' h (Done a p) [] is = inr refl
  Below-leads go go' h (Done a p) (g ∷ gs) is = h (t.resume g a) gs p is
  Below-leads go go' h (Go f p) fs is = h f fs p is
  Below-leads go go' h (Emit e f p) fs is = Below-tell e _ _ (h f fs p is)
  Below-leads go go' h (Wait q f p) fs is = Below-asks t.taken _ _ (λ g p' left. h g fs p' left) q f p is
  Below-leads go go' h (Call g f p) fs is = h g (f ∷ fs) p is

  pub walk-more : (n : ℕ) (f : F) (fs : List F) (p : P) (is : List I) → Below (walk t n f fs p is) (walk t (suc n) f fs p is)
  walk-more zero f fs p is = inl refl
  walk-more (suc n) f fs p is = Below-leads (walk t n) (walk t (suc n)) (walk-more n) (t.step f p) fs is

  -- so many steps are as good as so many turns at any depth
  pub walk-rest : (n : ℕ) (f : F) (fs : List F) (p : P) (is : List I) → Below (walk t n f fs p is) (rest t n f fs p is)
  walk-rest zero f fs p is = inl refl
  walk-rest (suc n) f fs p is =
      Below-trans _ _ _ (Below-leads (walk t n) (rest t n) (walk-rest n) (t.step f p) fs is) (pass-after n (t.step f p) fs is)
