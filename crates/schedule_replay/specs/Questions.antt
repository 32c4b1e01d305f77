-- The text of the open question: as one that is answered, and as the last line of a transcript.
use Rattle.std.specs.Prelude.{ℕ, List, [], Option, Some, None}
use Rattle.tree_specs.specs.declared.question.Ask.{Ask}
use Rattle.tree_specs.specs.Texts.Text.{answered_text, end_text}

abbrev pub answered_of : Option Ask → List ℕ
answered_of None = []
answered_of (Some q) = answered_text q

abbrev pub end_of : Option Ask → List ℕ
end_of None = []
end_of (Some q) = end_text q
