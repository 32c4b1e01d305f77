-- What the text tells where an object is let go of.
use Rattle.std.proofs.Common.{◌≡◌, ℕ, List, [], ◌∷◌, Option, Some, None, refl, ap}
use Rattle.step_machine.specs.Machine.{Outcome, tell, tells}
use Rattle.step_machine.specs.Machine.Outcome.{Ended, Short}
use Rattle.tree_specs.specs.declared.object.Obj.{Obj}
use Rattle.tree_specs.specs.declared.question.Input.{Input}
use Rattle.tree_specs.specs.Tree.Pool.{Pool}
use Rattle.tree_specs.specs.Events.Rotation.{closes_with}
use Rattle.tree_specs.specs.Rules.Sequence.{Scene}
use Rattle.tree_specs.specs.Rules.Pieces.{lets_go}
use Rattle.tree_specs.specs.Promises.Refused.{told_closed}

-- what is told before an end is told by it
pub tells-ended : {A : Type 0} (ts : List Scene) (a : A) (p : Pool) (is : List Input) → (let o : Outcome A Pool Input Scene = tells ts (Ended a p [] is) in o) ≡ Ended a p ts is
tells-ended [] a p is = refl
tells-ended (t ∷ ts) a p is = ap (tell t) (tells-ended ts a p is)

pub tells-short : {A : Type 0} (ts : List Scene) → (let o : Outcome A Pool Input Scene = tells ts Short in o) ≡ Short
tells-short [] = refl
tells-short (t ∷ ts) = ap (tell t) (tells-short ts)

-- the pool is changed, and a descriptor that is closed with the object is told as closed
pub lets_go-is : (x : Obj) (f : Pool → Pool) (p : Pool) (is : List Input) → lets_go x f p is ≡ Ended tt (f p) (told_closed (closes_with p.ring x) p) is
lets_go-is x f p is = each (closes_with p.ring x) refl
  where
    each : (o : Option ℕ) → closes_with p.ring x ≡ o → lets_go x f p is ≡ Ended tt (f p) (told_closed (closes_with p.ring x) p) is
    each None e = rw e refl
    each (Some fd) e = rw e refl
