-- What is done to a pool with the inputs still to come, one thing after another.
use Rattle.std.specs.Prelude.{List, [], ◌∷◌, Option, Some, None}
use Rattle.step_machine.specs.Machine.{Outcome, followed, tell}
use Rattle.step_machine.specs.Machine.Outcome.{Ended, Waits, Stray, Short}
use Rattle.step_machine.specs.Noted.{Scene as NotedScene}
use Rattle.tree_specs.specs.declared.call.Call.{Call}
use Rattle.tree_specs.specs.declared.question.Input.{Input}
use Rattle.tree_specs.specs.Tree.Pool.{Pool}
use Rattle.tree_specs.specs.Rules.Items.{Item}

-- a call, and the pool at its start
pub record CallStart : Type 0 where
  pub call : Call
  pub start : Pool

-- an item with the pool just before it, and at a reply the call that it is the reply to
abbrev pub Scene : Type 0
Scene = NotedScene Pool CallStart Item

infixl 1 ◌>>=◌
infixl 1 ◌>>◌
abbrev pub Work : Type 0 → Type 0
Work A = Pool → List Input → Outcome A Pool Input Scene

abbrev pub ◌>>=◌ : {A B : Type 0} → Work A → (A → Work B) → Work B
◌>>=◌ m k p is = followed (m p is) k

abbrev pub ◌>>◌ : {A B : Type 0} → Work A → Work B → Work B
◌>>◌ m k p is = followed (m p is) (λ a. k)

abbrev pub gives : {A : Type 0} → A → Work A
gives a p is = Ended a p [] is

-- the pool as it is
abbrev pub pool : Work Pool
pool p is = Ended p p [] is

-- the pool is changed
abbrev pub change : (Pool → Pool) → Work (Unit {0})
change f p is = Ended tt (f p) [] is

abbrev pub told_about : Option CallStart → Item → Work (Unit {0})
told_about about item p is = Ended tt p (record { item = item; before = p; about = about } ∷ []) is

-- an event
abbrev pub tells : Item → Work (Unit {0})
tells item = told_about None item

-- no turn is left
abbrev pub short : {A : Type 0} → Work A
short p is = Short

-- the question, and what the input leads to; none where it does not fit
abbrev pub fits_to : {A : Type 0} → Scene → Option (Work A) → Work A
fits_to q None p is = Stray (q ∷ [])
fits_to q (Some w) p is = tell q (w p is)

abbrev pub asks : {A : Type 0} → Item → (Input → Option (Work A)) → Work A
asks item f p [] = Waits (record { item = item; before = p; about = None } ∷ [])
asks item f p (i ∷ is) = fits_to (record { item = item; before = p; about = None }) (f i) p is
