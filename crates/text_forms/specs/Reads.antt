-- What reading a text answers.
use Rattle.std.specs.Prelude.{◌≡◌, ◌≢◌, ℕ, if◌then◌else◌, List, IsTrue, IfSome, IfNone, Option, Some, None, Result, Ok, Err}
use Rattle.std.specs.Fmt.{decimal}
use Rattle.tree_specs.specs.Calls.Spelling.{Numeral}
use Rattle.tree_specs.specs.Texts.Grammar.{numeral_of}
use Rattle.tree_specs.specs.Words.Ranges.{is_in}
use Rattle.text_forms.specs.declared.form.FormFault.{FormFault}
use Rattle.text_forms.specs.declared.form.FormFault.TheVariants.{NoForm, Memory}

-- the value that the definition gives, or NoForm exactly where it gives none, unless memory ran out
abbrev pub Reads : {A : Type 0} → Result A FormFault → Option A → Type 0
Reads (Ok x) value = value ≡ Some x
Reads (Err NoForm) value = value ≡ None
Reads (Err Memory) value = Unit {0}

-- a number, where it is in this range
abbrev pub in_range : Numeral → ℕ → Option ℕ
in_range kind n = if is_in kind n then Some n else None

-- the number in this range that a text spells, where it spells one, as the grammar's reader has it: a number has one
-- spelling, and what is none is the spelling of no number in the range
pub record ReadsNumeral (found : Option ℕ) (kind : Numeral) (text : List ℕ) : Type 0 where
  pub value : found ≡ numeral_of kind text
  pub spelled : IfSome found (λ n. text ≡ decimal n)
  pub none : IfNone found ((n : ℕ) → IsTrue (is_in kind n) → text ≢ decimal n)
