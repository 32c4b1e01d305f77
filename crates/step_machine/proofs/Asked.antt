-- A stack that waits has asked last.
use Rattle.std.proofs.Common.{◌≡◌, ℕ, suc, zero, List, [], ◌∷◌, Option, Some, None, refl, subst}
use Rattle.step_machine.specs.Machine.{Move, Table, Outcome, tell, given, leads, walk}
use Rattle.step_machine.specs.Machine.Move.{Done, Go, Emit, Wait, Call}
use Rattle.step_machine.specs.Machine.Outcome.{Ended, Waits, Stray, Short}
use Rattle.step_machine.specs.Open.{IsQuestion, LastIs}

-- where it waits, a question was asked last
abbrev AsksLast : {A P I T : Type 0} → (T → Type 0) → Outcome A P I T → Type 0
AsksLast Q (Waits ts) = LastIs Q ts
AsksLast Q o = Unit {0}

last-behind : {T : Type 0} (Q : T → Type 0) (t : T) (ts : List T) → LastIs Q ts → LastIs Q (t ∷ ts)
last-behind Q t [] h = absurd h
last-behind Q t (u ∷ ts) h = h

asks-tell : {A P I T : Type 0} (Q : T → Type 0) (t : T) (o : Outcome A P I T) → AsksLast Q o → AsksLast Q (tell t o)
asks-tell Q t (Ended a p ts is) h = tt
asks-tell Q t (Waits ts) h = last-behind Q t ts h
asks-tell Q t (Stray ts) h = tt
asks-tell Q t Short h = tt

module _ {F A P I T : Type 0} (t : Table F A P I T) where
  leads-asks : (n : ℕ) → ((f : F) (fs : List F) (p : P) (is : List I) → AsksLast (IsQuestion t) (walk t n f fs p is))
      → (g : F) (r : P) (m : Move F A P T) → t.step g r ≡ m → (fs : List F) (is : List I) → AsksLast (IsQuestion t) (leads t (walk t n) m fs is)
  leads-asks n ih g r (Done a p) e [] is = tt
  leads-asks n ih g r (Done a p) e (h ∷ fs) is = ih _ fs p is
  leads-asks n ih g r (Go f p) e fs is = ih f fs p is
  leads-asks n ih g r (Emit i f p) e fs is = asks-tell (IsQuestion t) i (walk t n f fs p is) (ih f fs p is)
  leads-asks n ih g r (Wait q f p) e fs [] = (g, f, r, p, e)
  leads-asks n ih g r (Wait q f p) e fs (i ∷ is) = each (t.taken f p i)
    where
      each : (o : Option F) → AsksLast (IsQuestion t) (given (λ h p' left. walk t n h fs p' left) q p is o)
      each None = tt
      each (Some h) = asks-tell (IsQuestion t) q (walk t n h fs p is) (ih h fs p is)
  leads-asks n ih g r (Call h f p) e fs is = ih h (f ∷ fs) p is

  pub walk-asks_last : (n : ℕ) (f : F) (fs : List F) (p : P) (is : List I) → AsksLast (IsQuestion t) (walk t n f fs p is)
  walk-asks_last zero f fs p is = tt
  walk-asks_last (suc n) f fs p is = leads-asks n (walk-asks_last n) f p (t.step f p) refl fs is

  pub waits-asks : (n : ℕ) (f : F) (fs : List F) (p : P) (is : List I) (told : List T) → walk t n f fs p is ≡ Waits told → LastIs (IsQuestion t) told
  waits-asks n f fs p is told e = subst (λ (o : Outcome A P I T). AsksLast (IsQuestion t) o) e (walk-asks_last n f fs p is)
