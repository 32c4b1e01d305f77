-- Reading a text from left to right.
use Rattle.std.specs.Prelude.{ℕ, ◌≡◌, ◌≢◌, ◌==◌, ◌^◌, nat_lt, if◌then◌else◌, List, [], take, drop, Option, Some, None, Result, Ok, Err}
use Rattle.std.specs.Char.{is_ascii_digit}
use Rattle.std.specs.List.{prefix_len, slice_split}
use Rattle.std.specs.Str.Parse.{digits_value}
use Rattle.std.specs.Borrow.{Bor}
use Rattle.tree_specs.specs.Texts.Grammar.{◌>>=◌, number_of}
use Rattle.text_forms.specs.declared.form.FormFault.{FormFault}
use Rattle.text_forms.specs.declared.form.FormFault.TheVariants.{NoForm, Memory}

-- how many digits stand at the front, and which
abbrev pub digit_count : List ℕ → ℕ
digit_count text = prefix_len is_ascii_digit text

abbrev pub digits_at : List ℕ → List ℕ
digits_at text = take (digit_count text) text

-- their value, where it is below 2 ^ 64, and how many they are
abbrev pub leading_digits_of : List ℕ → Option (ℕ × ℕ)
leading_digits_of text = if nat_lt (digits_value 10 (digits_at text)) (2 ^ 64) then Some (digits_value 10 (digits_at text), digit_count text) else None

-- the number that the digits at the front spell, and what follows them
unfoldable pub number_at : List ℕ → Option (ℕ × List ℕ)
number_at text = do
  n ← number_of (digits_at text)
  Some (n, drop (digit_count text) text)

-- the parts between single bytes of this value
abbrev pub parts : ℕ → List ℕ → List (List ℕ)
parts byte text = slice_split (λ b. b == byte) text

-- the parts of what is left of a text, where it has not ended
abbrev pub parts_left : ℕ → Option (Bor (List ℕ)) → List (List ℕ)
parts_left byte None = []
parts_left byte (Some text) = parts byte text.now

abbrev pub words_left : Option (Bor (List ℕ)) → List (List ℕ)
words_left rest = parts_left 32 rest

-- what a reader gave, and what it left: it reads NoForm exactly where the definition gives none
abbrev pub Takes : {A : Type 0} → Result A FormFault → Option (A × List (List ℕ)) → List (List ℕ) → Type 0
Takes (Ok x) taken left = taken ≡ Some (x, left)
Takes (Err NoForm) taken left = taken ≡ None
Takes (Err Memory) taken left = Unit {0}

-- whether no word is left
abbrev pub Ends : Result (Unit {0}) FormFault → List (List ℕ) → Type 0
Ends (Ok done) left = left ≡ []
Ends (Err NoForm) left = left ≢ []
Ends (Err Memory) left = ⊥
