-- Where each item fits what was told before it, at every step, each item of a story does.
use Rattle.std.proofs.Common.{◌≡◌, ℕ, List, [], ◌∷◌, ◌++◌, Some, refl, sym, ◌∙◌, ap, subst, inl, inr, map}
use Rattle.step_machine.specs.History.{EachFits}
use Rattle.step_machine.specs.Machine.{Move, Table, items, walk}
use Rattle.step_machine.specs.Machine.Move.{Done, Go, Emit, Wait, Call}
use Rattle.step_machine.proofs.Lawful.{append-none, Keeps, all-lawful}
use Rattle.step_machine.proofs.Uses.{cut}

module _ {T : Type 0} (Fits : List T → T → Type 0) where
  pub EachFits-nil : EachFits Fits []
  EachFits-nil [] t after e = cc
  EachFits-nil (u ∷ before) t after e = cc

  last-one : (ts : List T) (t : T) → Fits ts t → (pre : List T) (u : T) (post : List T) → t ∷ [] ≡ pre ++ u ∷ post → Fits (ts ++ pre) u
  last-one ts t h [] u post e = let e' : t ≡ u = cc in subst (λ x. Fits x u) (sym (append-none ts)) (subst (λ x. Fits ts x) e' h)
  last-one ts t h (v ∷ []) u post e = cc
  last-one ts t h (v ∷ w ∷ pre) u post e = cc

  -- one more element, which fits all of them
  pub EachFits-more : (ts : List T) (t : T) → EachFits Fits ts → Fits ts t → EachFits Fits (ts ++ t ∷ [])
  EachFits-more ts t each h before u after e = elim (cut ts (t ∷ []) before u after e) [
    | inl m ↦ each before u m.0 m.1
    | inr m ↦ subst (λ x. Fits x u) (sym m.1) (last-one ts t h m.0 u after m.2)
  ]

module _ {F A P I T : Type 0} (t : Table F A P I T) (Fits : List T → T → Type 0) (K : List T → F → List F → P → Type 0) where
  -- K holds after a move, and what the move tells or asks fits what was told before
  abbrev pub FitsOn : List T → Move F A P T → List F → Type 0
  FitsOn h (Done a p) [] = Unit {0}
  FitsOn h (Done a p) (g ∷ gs) = K h (t.resume g a) gs p
  FitsOn h (Go f p) fs = K h f fs p
  FitsOn h (Emit e f p) fs = Fits h e × K (h ++ e ∷ []) f fs p
  FitsOn h (Wait q f p) fs = Fits h q × ((i : I) (g : F) → t.taken f p i ≡ Some g → K (h ++ q ∷ []) g fs p)
  FitsOn h (Call g f p) fs = K h g (f ∷ fs) p

  abbrev All : List T → F → List F → P → Type 0
  All h f fs p = EachFits Fits h × K h f fs p

  all-kept : (h : List T) (m : Move F A P T) (fs : List F) → EachFits Fits h → FitsOn h m fs → Keeps t All (EachFits Fits) h m fs
  all-kept h (Done a p) [] each k = tt
  all-kept h (Done a p) (g ∷ gs) each k = (each, k)
  all-kept h (Go f p) fs each k = (each, k)
  all-kept h (Emit e f p) fs each k = (EachFits-more Fits h e each k.0, k.1)
  all-kept h (Wait q f p) fs each k =
      let more = EachFits-more Fits h q each k.0 in
      (more, λ i g s. (more, k.1 i g s))
  all-kept h (Call g f p) fs each k = (each, k)

  -- each item of a story from the beginning fits those before it
  pub each-fits : ((h : List T) (f : F) (fs : List F) (p : P) → K h f fs p → FitsOn h (t.step f p) fs)
      → (n : ℕ) (f : F) (fs : List F) (p : P) (is : List I) → K [] f fs p → EachFits Fits (items (walk t n f fs p is))
  each-fits kept n f fs p is k =
      all-lawful t All (EachFits Fits) (λ h f fs p a. a.0) (λ h f fs p a. all-kept h (t.step f p) fs a.0 (kept h f fs p a.1))
      n [] f fs p is (EachFits-nil Fits, k)

-- the same of what the elements say
module _ {T U : Type 0} (f : T → U) (Fits : List U → U → Type 0) where
  -- a list that is mapped is parted where the list is
  parted : (ts : List T) (before : List U) (u : U) (after : List U) → map f ts ≡ before ++ u ∷ after
      → (us : List T) × (t : T) × (vs : List T) × (ts ≡ us ++ t ∷ vs) × (before ≡ map f us) × (u ≡ f t)
  parted [] [] u after e = cc
  parted [] (v ∷ before) u after e = cc
  parted (t ∷ ts) [] u after e = let e' : f t ≡ u = cc in ([], t, ts, refl, refl, sym e')
  parted (t ∷ ts) (v ∷ before) u after e =
      let e' : f t ≡ v = cc in
      let rest : map f ts ≡ before ++ u ∷ after = cc in
      let p = parted ts before u after rest in
      (t ∷ p.0, p.1, p.2, ap (λ x. t ∷ x) p.3, ap (λ x. v ∷ x) p.4 ∙ ap (λ x. x ∷ map f p.0) (sym e'), p.5)

  pub EachFits-map : (ts : List T) → EachFits (λ us t. Fits (map f us) (f t)) ts → EachFits Fits (map f ts)
  EachFits-map ts each before u after e =
      let p = parted ts before u after e in
      let h : Fits (map f p.0) (f p.1) = each p.0 p.1 p.2 p.3 in
      subst (λ x. Fits x u) (sym p.4) (subst (λ x. Fits (map f p.0) x) (sym p.5) h)

module _ {T : Type 0} (Fits Fits' : List T → T → Type 0) where
  pub EachFits-weaker : ((before : List T) (t : T) → Fits before t → Fits' before t) → (ts : List T) → EachFits Fits ts → EachFits Fits' ts
  EachFits-weaker h ts each before t after e = h before t (each before t after e)
