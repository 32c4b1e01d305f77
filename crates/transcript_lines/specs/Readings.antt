-- What a reader of a line gives of its words.
use Rattle.std.specs.Prelude.{◌≡◌, ℕ, Bool, true, false, List, [], ◌∷◌, Option, Some, None, codes}
use Rattle.std.specs.Borrow.{Bor}
use Rattle.std.specs.Option.{option_map}
use Rattle.tree_specs.specs.declared.moment.What.{What}
use Rattle.tree_specs.specs.declared.question.Ask.{Ask}
use Rattle.tree_specs.specs.declared.question.Ask.TheVariants.{Quiet}
use Rattle.tree_specs.specs.declared.report.RowKind.{RowKind}
use Rattle.tree_specs.specs.Texts.Text.{what_text, row_kind_text}
use Rattle.transcript_lines.specs.declared.said.Said.{Said}
use Rattle.transcript_lines.specs.Lines.{Line, Form, read, a_what, a_row_kind, ask_form}
use Rattle.transcript_lines.specs.Lines.Line.{Asks, Ends}
use Rattle.transcript_lines.specs.Lines.Form.{Done, MayEnd, IfWord, Fails}
use Rattle.transcript_lines.specs.Sayings.{said_of}

-- ---- the words that are left

-- the next word, where there is one
abbrev pub TakesWord : Option (Bor (List ℕ)) → List (List ℕ) → List (List ℕ) → Type 0
TakesWord None old new = (old ≡ []) × (new ≡ [])
TakesWord (Some word) old new = old ≡ word.now ∷ new

-- the value that the definition gives, and the words that it leaves
abbrev pub TakesField : {A : Type 0} → Option A → Option (A × List (List ℕ)) → List (List ℕ) → Type 0
TakesField (Some x) taken new = taken ≡ Some (x, new)
TakesField None taken new = taken ≡ None

-- no word is left, or else no line ends here
abbrev pub EndsHere : Option (Unit {0}) → List (List ℕ) → Type 0
EndsHere (Some done) ws = ws ≡ []
EndsHere None ws = (line : Line) → read (Done line) ws ≡ None

-- whether no word is left: where some are, a line that may end here goes on
abbrev pub IsOver : Bool → List (List ℕ) → Type 0
IsOver true ws = ws ≡ []
IsOver false ws = (line : Line) (next : Form) → read (MayEnd line next) ws ≡ read next ws

-- whether there is a value, of all the words that are left
abbrev pub TakesLast : {A : Type 0} → Bool → Option (A × List (List ℕ)) → Type 0
TakesLast {A} true taken = (x : A) × (taken ≡ Some (x, []))
TakesLast false taken = taken ≡ None

-- the word for what a routine runs for, and otherwise no such word
abbrev pub IsWhat : Option What → List ℕ → Type 0
IsWhat (Some what) word = word ≡ what_text what
IsWhat None word = (next : What → Form) (other : Form) (more : List (List ℕ)) → read (a_what next other) (word ∷ more) ≡ read other (word ∷ more)

-- the word for a kind of row, and otherwise no such word
abbrev pub IsKind : Option RowKind → List ℕ → Type 0
IsKind (Some kind) word = word ≡ row_kind_text kind
IsKind None word = (next : RowKind → Form) (more : List (List ℕ)) → read (a_row_kind next) (word ∷ more) ≡ None

-- what the words say by a form
abbrev pub says_by : Form → List (List ℕ) → Option Said
says_by form ws = option_map said_of (read form ws)

-- ---- questions that are open at the end, and such as were answered

abbrev pub line_by : Bool → Ask → Line
line_by true q = Ends q
line_by false q = Asks q

-- Quiet, which has a line only where it is open
abbrev pub quiet_form : Bool → Form
quiet_form true = IfWord (codes "quiet") (Done (Ends Quiet)) Fails
quiet_form false = Fails

abbrev pub question_form : Bool → Form
question_form is_open = ask_form (line_by is_open) (quiet_form is_open)
