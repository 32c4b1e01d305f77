-- A list whose last element has a property, and what a machine asks.
use Rattle.std.specs.Prelude.{◌≡◌, List, [], ◌∷◌}
use Rattle.step_machine.specs.Machine.{Table}
use Rattle.step_machine.specs.Machine.Move.{Wait}

abbrev pub LastIs : {T : Type 0} → (T → Type 0) → List T → Type 0
LastIs Q [] = ⊥
LastIs Q (t ∷ []) = Q t
LastIs Q (t ∷ u ∷ ts) = LastIs Q (u ∷ ts)

-- a question that some work of the machine asks
abbrev pub IsQuestion : {F A P I T : Type 0} → Table F A P I T → T → Type 0
IsQuestion {F = F} {P = P} t q = (f g : F) × (p r : P) × (t.step f p ≡ Wait q g r)
