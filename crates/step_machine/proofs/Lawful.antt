-- What each step keeps of the items told so far, every story keeps.
use Rattle.std.proofs.Common.{◌≡◌, ℕ, suc, zero, List, [], ◌∷◌, ◌++◌, Option, Some, None, refl, sym, ap, subst, append_assoc}
use Rattle.step_machine.specs.Machine.{Move, Table, Outcome, tell, given, leads, walk, items}
use Rattle.step_machine.specs.Machine.Move.{Done, Go, Emit, Wait, Call}
use Rattle.step_machine.specs.Machine.Outcome.{Ended, Waits, Stray, Short}

pub append-none : {T : Type 0} (h : List T) → h ++ [] ≡ h
append-none [] = refl
append-none (t ∷ h) = ap (λ x. t ∷ x) (append-none h)

module _ {F A P I T : Type 0} (t : Table F A P I T) (K : List T → F → List F → P → Type 0) (O : List T → Type 0) where
  -- K holds after a move, with what it told at the end of the list; a question that may be the last one leaves a lawful list
  abbrev pub Keeps : List T → Move F A P T → List F → Type 0
  Keeps h (Done a p) [] = Unit {0}
  Keeps h (Done a p) (g ∷ gs) = K h (t.resume g a) gs p
  Keeps h (Go f p) fs = K h f fs p
  Keeps h (Emit e f p) fs = K (h ++ e ∷ []) f fs p
  Keeps h (Wait q f p) fs = O (h ++ q ∷ []) × ((i : I) (g : F) → t.taken f p i ≡ Some g → K (h ++ q ∷ []) g fs p)
  Keeps h (Call g f p) fs = K h g (f ∷ fs) p

  module _ (lawful : (h : List T) (f : F) (fs : List F) (p : P) → K h f fs p → O h)
      (kept : (h : List T) (f : F) (fs : List F) (p : P) → K h f fs p → Keeps h (t.step f p) fs) where
    after-tell : (h : List T) (e : T) (o : Outcome A P I T) → O h → O ((h ++ e ∷ []) ++ items o) → O (h ++ items (tell e o))
    after-tell h e (Ended a p ts is) q r = subst O (append_assoc h (e ∷ []) ts) r
    after-tell h e (Waits ts) q r = subst O (append_assoc h (e ∷ []) ts) r
    after-tell h e (Stray ts) q r = subst O (append_assoc h (e ∷ []) ts) r
    after-tell h e Short q r = subst O (sym (append-none h)) q

    move-lawful : (n : ℕ) → ((h : List T) (f : F) (fs : List F) (p : P) (is : List I) → K h f fs p → O (h ++ items (walk t n f fs p is)))
        → (h : List T) (m : Move F A P T) (fs : List F) (is : List I) → O h → Keeps h m fs → O (h ++ items (leads t (walk t n) m fs is))
    move-lawful n ih h (Done a p) [] is o k = subst O (sym (append-none h)) o
    move-lawful n ih h (Done a p) (g ∷ gs) is o k = ih h _ _ _ is k
    move-lawful n ih h (Go f p) fs is o k = ih h f fs p is k
    move-lawful n ih h (Emit e f p) fs is o k = after-tell h e (walk t n f fs p is) o (ih (h ++ e ∷ []) f fs p is k)
    move-lawful n ih h (Wait q f p) fs [] o k = k.0
    move-lawful n ih h (Wait q f p) fs (i ∷ is) o k = each (t.taken f p i) (k.1 i)
      where
        each : (x : Option F) → ((g : F) → x ≡ Some g → K (h ++ q ∷ []) g fs p) → O (h ++ items (given (λ g p' left. walk t n g fs p' left) q p is x))
        each None l = k.0
        each (Some g) l = after-tell h q (walk t n g fs p is) o (ih (h ++ q ∷ []) g fs p is (l g refl))
    move-lawful n ih h (Call g f p) fs is o k = ih h g (f ∷ fs) p is k

    -- every story from there is lawful
    pub all-lawful : (n : ℕ) (h : List T) (f : F) (fs : List F) (p : P) (is : List I) → K h f fs p → O (h ++ items (walk t n f fs p is))
    all-lawful zero h f fs p is k = subst O (sym (append-none h)) (lawful h f fs p k)
    all-lawful (suc n) h f fs p is k = move-lawful n (all-lawful n) h (t.step f p) fs is (lawful h f fs p k) (kept h f fs p k)
