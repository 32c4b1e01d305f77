-- What a schedule that is made while it is read still gives.
use Rattle.std.specs.Prelude.{ℕ, Bool, true, false, List, []}
use Rattle.tree_specs.specs.Texts.Load.{Place, calls_from, calls_text}

-- the lines behind the present one
abbrev pub text_to_come : Bool → ℕ → Place → List ℕ
text_to_come true left place = []
text_to_come false left place = calls_text (calls_from left place)
