-- A machine with notes tells the items of the machine without them.
use Rattle.std.proofs.Common.{◌≡◌, ℕ, suc, zero, List, [], ◌∷◌, Option, Some, None, refl, ◌∙◌, ap, map}
use Rattle.step_machine.specs.Machine.{Move, Table, Outcome, map_items, tell, tells, followed, given, after, run, leads, walk}
use Rattle.step_machine.specs.Machine.Move.{Done, Go, Emit, Wait, Call}
use Rattle.step_machine.specs.Machine.Outcome.{Ended, Waits, Stray, Short}
use Rattle.step_machine.specs.Noted.{Scene, Noted, Notes, noted, noted_move, noted_work, with_note, scene}

module _ {A P I T U : Type 0} (f : T → U) where
  pub map_items-tell : (t : T) (o : Outcome A P I T) → map_items f (tell t o) ≡ tell (f t) (map_items f o)
  map_items-tell t (Ended a p us is) = refl
  map_items-tell t (Waits us) = refl
  map_items-tell t (Stray us) = refl
  map_items-tell t Short = refl

  pub map_items-tells : (ts : List T) (o : Outcome A P I T) → map_items f (tells ts o) ≡ tells (map f ts) (map_items f o)
  map_items-tells [] o = refl
  map_items-tells (t ∷ ts) o = map_items-tell t (tells ts o) ∙ ap (tell (f t)) (map_items-tells ts o)

module _ {A B P I T U : Type 0} (f : T → U) where
  pub map_items-followed : (o : Outcome A P I T) (o' : Outcome A P I U) (k : A → P → List I → Outcome B P I T) (k' : A → P → List I → Outcome B P I U)
      → map_items f o ≡ o' → ((a : A) (p : P) (is : List I) → map_items f (k a p is) ≡ k' a p is) → map_items f (followed o k) ≡ followed o' k'
  map_items-followed o o' k k' e h = each o h ∙ ap (λ z. followed z k') e
    where
      each : (o : Outcome A P I T) → ((a : A) (p : P) (is : List I) → map_items f (k a p is) ≡ k' a p is) → map_items f (followed o k) ≡ followed (map_items f o) k'
      each (Ended a p ts is) h = map_items-tells f ts (k a p is) ∙ ap (tells (map f ts)) (h a p is)
      each (Waits ts) h = refl
      each (Stray ts) h = refl
      each Short h = refl

module _ {F A P I T N : Type 0} (notes : Notes F P N) (t : Table F A P I T) where
  abbrev item_of : Scene P N T → T
  item_of s = s.item

  noted-after : (n : ℕ) → ((w : Noted F N) (p : P) (is : List I) → map_items item_of (run (noted notes t) n w p is) ≡ run t n w.work p is)
      → (f : F) (m : Option N) (p : P) (move : Move F A P T) (is : List I)
      → map_items item_of (after (noted notes t) (run (noted notes t) n) (noted_move notes f m p move) is) ≡ after t (run t n) move is
  noted-after n ih f m p (Done a q) is = refl
  noted-after n ih f m p (Go g q) is = ih _ q is
  noted-after n ih f m p (Emit e g q) is = map_items-tell item_of _ _ ∙ ap (tell e) (ih _ q is)
  noted-after n ih f m p (Wait e g q) [] = refl
  noted-after n ih f m p (Wait e g q) (i ∷ is) = each (t.taken g q i)
    where
      each : (o : Option F) → map_items item_of (given (run (noted notes t) n) (scene notes f m p e) q is (noted_work (notes.after f p m) o)) ≡ given (run t n) e q is o
      each None = refl
      each (Some h) = map_items-tell item_of _ _ ∙ ap (tell e) (ih _ q is)
  noted-after n ih f m p (Call g h q) is =
      map_items-followed item_of _ _ _ _ (ih (with_note None g) q is) (λ a p' left. ih (with_note (notes.after f p m) (t.resume h a)) p' left)

  -- without its notes, a run is the run of the machine that takes none
  pub noted-run : (n : ℕ) (w : Noted F N) (p : P) (is : List I) → map_items item_of (run (noted notes t) n w p is) ≡ run t n w.work p is
  noted-run zero w p is = refl
  noted-run (suc n) w p is = noted-after n (noted-run n) w.work w.note p (t.step w.work p) is

  abbrev pub work_of : Noted F N → F
  work_of w = w.work

  noted-leads : (n : ℕ) → ((w : Noted F N) (ws : List (Noted F N)) (p : P) (is : List I) → map_items item_of (walk (noted notes t) n w ws p is) ≡ walk t n w.work (map work_of ws) p is)
      → (f : F) (m : Option N) (p : P) (move : Move F A P T) (ws : List (Noted F N)) (is : List I)
      → map_items item_of (leads (noted notes t) (walk (noted notes t) n) (noted_move notes f m p move) ws is) ≡ leads t (walk t n) move (map work_of ws) is
  noted-leads n ih f m p (Done a q) [] is = refl
  noted-leads n ih f m p (Done a q) (w ∷ ws) is = ih _ ws q is
  noted-leads n ih f m p (Go g q) ws is = ih _ ws q is
  noted-leads n ih f m p (Emit e g q) ws is = map_items-tell item_of _ _ ∙ ap (tell e) (ih _ ws q is)
  noted-leads n ih f m p (Wait e g q) ws [] = refl
  noted-leads n ih f m p (Wait e g q) ws (i ∷ is) = each (t.taken g q i)
    where
      each : (o : Option F) → map_items item_of (given (λ w p' left. walk (noted notes t) n w ws p' left) (scene notes f m p e) q is (noted_work (notes.after f p m) o))
          ≡ given (λ g p' left. walk t n g (map work_of ws) p' left) e q is o
      each None = refl
      each (Some h) = map_items-tell item_of _ _ ∙ ap (tell e) (ih _ ws q is)
  noted-leads n ih f m p (Call g h q) ws is = ih (with_note None g) (with_note (notes.after f p m) h ∷ ws) q is

  -- the same a step at a time
  pub noted-walk : (n : ℕ) (w : Noted F N) (ws : List (Noted F N)) (p : P) (is : List I) → map_items item_of (walk (noted notes t) n w ws p is) ≡ walk t n w.work (map work_of ws) p is
  noted-walk zero w ws p is = refl
  noted-walk (suc n) w ws p is = noted-leads n (noted-walk n) w.work w.note p (t.step w.work p) ws is
