-- The text of a call's fields: numbers, and a name or bytes behind them.
use Rattle.std.specs.Prelude.{ℕ, List, [], ◌∷◌, ◌++◌, codes}
use Rattle.hex.specs.Hex.{encode_lower}
use Rattle.tree_specs.specs.Texts.Text.{numbers_text}
use Rattle.text_forms.specs.declared.spelling.CallFields.{CallFields}
use Rattle.text_forms.specs.declared.spelling.CallFields.TheVariants.{Bare, One, Two, Three, Four, Five, Six, OneAndName, TwoAndName, OneAndBytes}

abbrev pub fields_text : CallFields → List ℕ
fields_text Bare = numbers_text []
fields_text (One a) = numbers_text (a ∷ [])
fields_text (Two a b) = numbers_text (a ∷ b ∷ [])
fields_text (Three a b c) = numbers_text (a ∷ b ∷ c ∷ [])
fields_text (Four a b c d) = numbers_text (a ∷ b ∷ c ∷ d ∷ [])
fields_text (Five a b c d e) = numbers_text (a ∷ b ∷ c ∷ d ∷ e ∷ [])
fields_text (Six a b c d e f) = numbers_text (a ∷ b ∷ c ∷ d ∷ e ∷ f ∷ [])
fields_text (OneAndName a name) = numbers_text (a ∷ []) ++ codes " " ++ name.now
fields_text (TwoAndName a b name) = numbers_text (a ∷ b ∷ []) ++ codes " " ++ name.now
fields_text (OneAndBytes a bytes) = numbers_text (a ∷ []) ++ codes " " ++ encode_lower bytes.now
