-- What holds of a list by what holds of each element and those before it.
use Rattle.std.specs.Prelude.{◌≡◌, List, ◌∷◌, ◌++◌}

-- each element fits those that stand before it
abbrev pub EachFits : {T : Type 0} → (List T → T → Type 0) → List T → Type 0
EachFits {T = T} Fits ts = (before : List T) (t : T) (after : List T) → ts ≡ before ++ t ∷ after → Fits before t
