-- A text that is read of an argument, where it isn't empty.
use Rattle.std.proofs.Common.{◌≡◌, ◌==◌, true, false, length, [], ◌∷◌, Some, None, option_and_then, refl, sym, ap, arith}
use Rattle.std.proofs.lemmas.Bool.{eqb-true}
use Rattle.clap.specs.Words.{Text, first_value, rows_of}
use Rattle.clap.specs.Walk.{nonempty}
use Rattle.clap.specs.declared.parser.matches.Found.{Found}
use Rattle.clap.proofs.WalkLemmas.{first_value-rows}
use Rattle.command_words.specs.CommandLine.{text_in}

pub nonempty_is : (text : Text) → (length text == 0) ≡ false → nonempty text ≡ Some text
nonempty_is [] e = absurd cc
nonempty_is (x ∷ xs) e = refl

pub empty_is : (text : Text) → (length text == 0) ≡ true → nonempty text ≡ None
empty_is [] e = refl
empty_is (x ∷ xs) e = absurd (omega (arith, eqb-true (length (x ∷ xs)) 0 e))

-- what an argument's matches say is what its rows say
pub text_of_rows : (name : Text) (f : Found) → text_in name (rows_of f) ≡ option_and_then nonempty (first_value f name)
text_of_rows name f = ap (option_and_then nonempty) (sym (first_value-rows f name))
