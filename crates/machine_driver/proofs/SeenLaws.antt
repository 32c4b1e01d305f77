-- A machine that is seen does what it does unseen.
use Rattle.std.proofs.Common.{◌≡◌, ℕ, suc, zero, ◌<◌, List, [], ◌∷◌, Option, Some, None, refl, ◌∙◌, ap}
use Rattle.step_machine.specs.Machine.{Move, Table, map_items, tell, given, after, run, leads, walk}
use Rattle.step_machine.specs.Machine.Move.{Done, Go, Emit, Wait, Call}
use Rattle.step_machine.specs.Noted.{Noted, Notes, Scene, noted, noted_move, noted_work, with_note, scene}
use Rattle.step_machine.proofs.Ends.{Leads, Falls}
use Rattle.step_machine.proofs.NotedLaws.{map_items-tell, map_items-followed}
use Rattle.machine_driver.specs.Seen.{Sight, sight, sight_of, item_of, seen_move, seen}

module _ {F A P I T : Type 0} (t : Table F A P I T) where
  seen-leads : (N : F → List F → P → ℕ → Type 0) (p : P) (m : Move F A P T) (fs : List F) (k : ℕ) → Leads t N m fs k → Leads (seen t) N (seen_move p m) fs k
  seen-leads N p (Done a q) [] k l = l
  seen-leads N p (Done a q) (g ∷ gs) k l = l
  seen-leads N p (Go f q) fs k l = l
  seen-leads N p (Emit e f q) fs k l = l
  seen-leads N p (Wait e f q) fs zero l = l
  seen-leads N p (Wait e f q) fs (suc k) l = l
  seen-leads N p (Call g f q) fs k l = l

  -- what falls with each step falls
  pub seen-falls : (N : F → List F → P → ℕ → Type 0) (μ : F → List F → P → ℕ → ℕ) → Falls t N μ → Falls (seen t) N μ
  seen-falls N μ falls = record {
    keeps = λ f fs p k n. seen-leads (λ g gs q j. N g gs q j × (μ g gs q j < μ f fs p k)) p (t.step f p) fs k (falls.keeps f fs p k n);
  }

  walked : (n : ℕ) → ((f : F) (fs : List F) (p : P) (is : List I) → map_items item_of (walk (seen t) n f fs p is) ≡ walk t n f fs p is)
      → (p : P) (m : Move F A P T) (fs : List F) (is : List I) → map_items item_of (leads (seen t) (walk (seen t) n) (seen_move p m) fs is) ≡ leads t (walk t n) m fs is
  walked n ih p (Done a q) [] is = refl
  walked n ih p (Done a q) (g ∷ gs) is = ih _ gs q is
  walked n ih p (Go g q) fs is = ih g fs q is
  walked n ih p (Emit e g q) fs is = map_items-tell item_of _ _ ∙ ap (tell e) (ih g fs q is)
  walked n ih p (Wait e g q) fs [] = refl
  walked n ih p (Wait e g q) fs (i ∷ is) = each (t.taken g q i)
    where
      each : (o : Option F) → map_items item_of (given (λ h p' left. walk (seen t) n h fs p' left) (sight p e) q is o) ≡ given (λ h p' left. walk t n h fs p' left) e q is o
      each None = refl
      each (Some h) = map_items-tell item_of _ _ ∙ ap (tell e) (ih h fs q is)
  walked n ih p (Call g h q) fs is = ih g (h ∷ fs) q is

  -- its items are those that it tells unseen
  pub seen-walk : (n : ℕ) (f : F) (fs : List F) (p : P) (is : List I) → map_items item_of (walk (seen t) n f fs p is) ≡ walk t n f fs p is
  seen-walk zero f fs p is = refl
  seen-walk (suc n) f fs p is = walked n (seen-walk n) p (t.step f p) fs is

module _ {F A P I T N : Type 0} (notes : Notes F P N) (t : Table F A P I T) where
  abbrev seen_scene : Scene P N T → Sight P T
  seen_scene s = sight_of s

  noted-after : (n : ℕ) → ((w : Noted F N) (p : P) (is : List I) → map_items seen_scene (run (noted notes t) n w p is) ≡ run (seen t) n w.work p is)
      → (f : F) (m : Option N) (p : P) (move : Move F A P T) (is : List I)
      → map_items seen_scene (after (noted notes t) (run (noted notes t) n) (noted_move notes f m p move) is) ≡ after (seen t) (run (seen t) n) (seen_move p move) is
  noted-after n ih f m p (Done a q) is = refl
  noted-after n ih f m p (Go g q) is = ih _ q is
  noted-after n ih f m p (Emit e g q) is = map_items-tell seen_scene _ _ ∙ ap (tell (sight p e)) (ih _ q is)
  noted-after n ih f m p (Wait e g q) [] = refl
  noted-after n ih f m p (Wait e g q) (i ∷ is) = each (t.taken g q i)
    where
      each : (o : Option F) → map_items seen_scene (given (run (noted notes t) n) (scene notes f m p e) q is (noted_work (notes.after f p m) o)) ≡ given (run (seen t) n) (sight p e) q is o
      each None = refl
      each (Some h) = map_items-tell seen_scene _ _ ∙ ap (tell (sight p e)) (ih _ q is)
  noted-after n ih f m p (Call g h q) is =
      map_items-followed seen_scene _ _ _ _ (ih (with_note None g) q is) (λ a p' left. ih (with_note (notes.after f p m) (t.resume h a)) p' left)

  -- what is seen of the scenes that it tells with notes
  pub noted-seen : (n : ℕ) (w : Noted F N) (p : P) (is : List I) → map_items seen_scene (run (noted notes t) n w p is) ≡ run (seen t) n w.work p is
  noted-seen zero w p is = refl
  noted-seen (suc n) w p is = noted-after n (noted-seen n) w.work w.note p (t.step w.work p) is
