-- A machine whose last work never ends always comes to a question.
use Rattle.std.proofs.Common.{◌≡◌, ℕ, suc, zero, List, [], ◌∷◌, Option, Some, None, refl, map}
use Rattle.step_machine.specs.Machine.{Move, Table, Outcome, tell, given, leads, walk, items, is_stray, map_items}
use Rattle.step_machine.specs.Machine.Move.{Done, Go, Emit, Wait, Call}
use Rattle.step_machine.specs.Machine.Outcome.{Ended, Waits, Stray, Short}
use Rattle.step_machine.specs.Open.{LastIs}
use Rattle.step_machine.proofs.Ends.{NotShort}

-- unless the turns ran out, the last item is a question
abbrev pub Asks : {A P I T : Type 0} → (T → Type 0) → Outcome A P I T → Type 0
Asks Q (Ended a p ts is) = ⊥
Asks Q (Waits ts) = LastIs Q ts
Asks Q (Stray ts) = LastIs Q ts
Asks Q Short = Unit {0}

LastIs-tell : {T : Type 0} (Q : T → Type 0) (t : T) (ts : List T) → LastIs Q ts → LastIs Q (t ∷ ts)
LastIs-tell Q t [] h = absurd h
LastIs-tell Q t (u ∷ ts) h = h

pub Asks-tell : {A P I T : Type 0} (Q : T → Type 0) (t : T) (o : Outcome A P I T) → Asks Q o → Asks Q (tell t o)
Asks-tell Q t (Ended a p ts is) h = absurd h
Asks-tell Q t (Waits ts) h = LastIs-tell Q t ts h
Asks-tell Q t (Stray ts) h = LastIs-tell Q t ts h
Asks-tell Q t Short h = tt

-- the items of an outcome that isn't short, and whose last one is a question
pub Asks-items : {A P I T : Type 0} (Q : T → Type 0) (o : Outcome A P I T) → NotShort o → Asks Q o → LastIs Q (items o)
Asks-items Q (Ended a p ts is) n h = absurd h
Asks-items Q (Waits ts) n h = h
Asks-items Q (Stray ts) n h = h
Asks-items Q Short n h = absurd n

pub items-tell : {A P I T : Type 0} (t : T) (o : Outcome A P I T) → NotShort o → items (tell t o) ≡ t ∷ items o
items-tell t (Ended a p ts is) n = refl
items-tell t (Waits ts) n = refl
items-tell t (Stray ts) n = refl
items-tell t Short n = absurd n

pub items-map_items : {A P I T U : Type 0} (f : T → U) (o : Outcome A P I T) → items (map_items f o) ≡ map f (items o)
items-map_items f (Ended a p ts is) = refl
items-map_items f (Waits ts) = refl
items-map_items f (Stray ts) = refl
items-map_items f Short = refl

pub NotShort-map_items : {A P I T U : Type 0} (f : T → U) (o : Outcome A P I T) → NotShort (map_items f o) → NotShort o
NotShort-map_items f (Ended a p ts is) n = tt
NotShort-map_items f (Waits ts) n = tt
NotShort-map_items f (Stray ts) n = tt
NotShort-map_items f Short n = n

pub stray-map_items : {A P I T U : Type 0} (f : T → U) (o : Outcome A P I T) → is_stray (map_items f o) ≡ is_stray o
stray-map_items f (Stray ts) = refl
stray-map_items f _ = refl

module _ {F A P I T : Type 0} (t : Table F A P I T) (N : F → List F → P → Type 0) (Q : T → Type 0) where
  -- the fact N holds of what a move leads to, which isn't the end, and what is asked is a question
  abbrev pub Stays : Move F A P T → List F → Type 0
  Stays (Done a p) [] = ⊥
  Stays (Done a p) (g ∷ gs) = N (t.resume g a) gs p
  Stays (Go f p) fs = N f fs p
  Stays (Emit e f p) fs = N f fs p
  Stays (Wait q f p) fs = Q q × ((i : I) (g : F) → t.taken f p i ≡ Some g → N g fs p)
  Stays (Call g f p) fs = N g (f ∷ fs) p

  module _ (kept : (f : F) (fs : List F) (p : P) → N f fs p → Stays (t.step f p) fs) where
    move-asks : (n : ℕ) → ((f : F) (fs : List F) (p : P) (is : List I) → N f fs p → Asks Q (walk t n f fs p is))
        → (m : Move F A P T) (fs : List F) (is : List I) → Stays m fs → Asks Q (leads t (walk t n) m fs is)
    move-asks n ih (Done a p) [] is h = h
    move-asks n ih (Done a p) (g ∷ gs) is h = ih _ _ _ is h
    move-asks n ih (Go f p) fs is h = ih f fs p is h
    move-asks n ih (Emit e f p) fs is h = Asks-tell Q e (walk t n f fs p is) (ih f fs p is h)
    move-asks n ih (Wait q f p) fs [] h = h.0
    move-asks n ih (Wait q f p) fs (i ∷ is) h = each (t.taken f p i) (h.1 i)
      where
        each : (o : Option F) → ((g : F) → o ≡ Some g → N g fs p) → Asks Q (given (λ g p' left. walk t n g fs p' left) q p is o)
        each None k = h.0
        each (Some g) k = Asks-tell Q q (walk t n g fs p is) (ih g fs p is (k g refl))
    move-asks n ih (Call g f p) fs is h = ih g (f ∷ fs) p is h

    pub walk-asks : (n : ℕ) (f : F) (fs : List F) (p : P) (is : List I) → N f fs p → Asks Q (walk t n f fs p is)
    walk-asks zero f fs p is h = tt
    walk-asks (suc n) f fs p is h = move-asks n (walk-asks n) (t.step f p) fs is (kept f fs p h)
