-- Whether the last input of a host doesn't fit, step by step. Where no input comes there is none that doesn't.
use Rattle.std.proofs.Common.{◌≡◌, ℕ, suc, zero, false, List, [], ◌∷◌, Some, refl, sym, ◌∙◌, ap, subst}
use Rattle.step_machine.specs.Machine.{Move, Table, Outcome, State, silent, tell, tells, followed, after, run, pass, is_stray}
use Rattle.step_machine.specs.Machine.{Move as Do}
use Rattle.step_machine.specs.Machine.Move.{Done, Go, Emit, Wait, Call}
use Rattle.step_machine.specs.Machine.Outcome.{Ended, Waits, Stray, Short}
use Rattle.tree_specs.specs.declared.question.Input.{Input}
use Rattle.tree_specs.specs.declared.frame.Frame.{Frame}
use Rattle.tree_specs.specs.Tree.Pool.{Pool}
use Rattle.tree_specs.specs.Rules.Items.{Item}
use Rattle.tree_specs.specs.Machine.Table.{table, step, taken}
use Rattle.tree_specs.specs.Machine.View.{View, strays_of}
use Rattle.tree_specs.specs.Invariants.Consistent.{IsConsistent}
use Rattle.tree_specs.proofs.Rules.Rest.{event-law, question-law, silent-law, view_of_state}

-- ---- where no input comes

-- every input that came was taken
abbrev Taken : {A P I T : Type 0} → Outcome A P I T → Type 0
Taken (Ended a p ts is) = is ≡ []
Taken (Stray ts) = ⊥
Taken o = Unit {0}

tell-taken : {A P I T : Type 0} (t : T) (o : Outcome A P I T) → Taken o → Taken (tell t o)
tell-taken t (Ended a p us is) h = h
tell-taken t (Waits us) h = tt
tell-taken t (Stray us) h = h
tell-taken t Short h = tt

tells-taken : {A P I T : Type 0} (ts : List T) (o : Outcome A P I T) → Taken o → Taken (tells ts o)
tells-taken [] o h = h
tells-taken (t ∷ ts) o h = tell-taken t (tells ts o) (tells-taken ts o h)

module _ {A B P I T : Type 0} where
  followed-taken : (o : Outcome A P I T) (k : A → P → List I → Outcome B P I T) → Taken o → ((a : A) (p : P) → Taken (k a p [])) → Taken (followed o k)
  followed-taken (Ended a p ts is) k h each = tells-taken ts (k a p is) (subst (λ (l : List I). Taken (k a p l)) (sym h) (each a p))
  followed-taken (Waits ts) k h each = tt
  followed-taken (Stray ts) k h each = h
  followed-taken Short k h each = tt

module _ {F A P I T : Type 0} (t : Table F A P I T) where
  run-taken : (n : ℕ) (f : F) (p : P) → Taken (run t n f p [])
  run-taken zero f p = tt
  run-taken (suc n) f p = each (t.step f p) (λ g q. run-taken n g q)
    where
      each : (m : Move F A P T) → ((g : F) (q : P) → Taken (run t n g q [])) → Taken (after t (run t n) m [])
      each (Done a q) h = refl
      each (Go g q) h = h g q
      each (Emit e g q) h = tell-taken e (run t n g q []) (h g q)
      each (Wait e g q) h = tt
      each (Call g g' q) h = followed-taken (run t n g q []) _ (h g q) (λ a r. h (t.resume g' a) r)

  pass-taken : (n : ℕ) (fs : List F) (o : Outcome A P I T) → Taken o → Taken (pass t n fs o)
  pass-taken n [] o h = h
  pass-taken n (g ∷ gs) o h = followed-taken o _ h (λ a p. pass-taken n gs (run t n (t.resume g a) p []) (run-taken n (t.resume g a) p))

fits : {A P I T : Type 0} (o : Outcome A P I T) → Taken o → is_stray o ≡ false
fits (Stray ts) h = absurd h
fits _ h = refl

pub unanswered : (v : View) → strays_of v [] ≡ false
unanswered v = fits _ (pass-taken table _ v.below _ (run-taken table _ v.innermost v.pool))

-- ---- step by step

stray-tell : {A P I T : Type 0} (t : T) (o : Outcome A P I T) → is_stray (tell t o) ≡ is_stray o
stray-tell t (Ended a p ts is) = refl
stray-tell t (Waits ts) = refl
stray-tell t (Stray ts) = refl
stray-tell t Short = refl

pub event-strays : (v : View) (e : Item) (f : Frame) (p : Pool) (is : List Input) → IsConsistent v → step v.innermost v.pool ≡ Do.Emit e f p → strays_of v is ≡ strays_of (record { innermost = f; below = v.below; pool = p }) is
event-strays v e f p is h is-emit = ap is_stray (event-law v e f p is h is-emit) ∙ stray-tell e _

pub question-strays : (v : View) (q : Item) (f g : Frame) (p : Pool) (i : Input) (is : List Input) → IsConsistent v → step v.innermost v.pool ≡ Do.Wait q f p → taken f p i ≡ Some g
    → strays_of v (i ∷ is) ≡ strays_of (record { innermost = g; below = v.below; pool = p }) is
question-strays v q f g p i is h is-wait fits = ap is_stray (question-law v q f g p i is h is-wait fits) ∙ stray-tell q _

pub silent-strays : (v : View) (s : State Frame Pool) (is : List Input) → IsConsistent v → silent table (step v.innermost v.pool) v.below ≡ Some s → strays_of v is ≡ strays_of (view_of_state s) is
silent-strays v s is h e = ap is_stray (silent-law v s is h e)
