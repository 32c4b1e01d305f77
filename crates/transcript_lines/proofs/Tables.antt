-- What tables of a form read: words that stand in them, no word, and numbers.
use Rattle.std.proofs.Common.{◌≡◌, ℕ, List, [], ◌∷◌, Option, Some, None, refl, ap}
use Rattle.std.specs.Prelude.{if◌then◌else◌}
use Rattle.tree_specs.specs.declared.moment.What.{What}
use Rattle.tree_specs.specs.declared.moment.What.TheVariants as whats
use Rattle.tree_specs.specs.declared.report.RowKind.{RowKind}
use Rattle.tree_specs.specs.declared.report.RowKind.TheVariants as row_kinds
use Rattle.tree_specs.specs.Calls.Spelling.Numeral.{Number}
use Rattle.tree_specs.specs.Texts.Grammar.{◌>>=◌, ◌leaving◌, number_of, numeral_of, field}
use Rattle.tree_specs.specs.Texts.Text.{what_text, row_kind_text}
use Rattle.tree_specs.specs.Words.Ranges.{is_number}
use Rattle.text_forms.proofs.Fields.{number_field}
use Rattle.transcript_lines.specs.Lines.{Line, Form, read, a_what, a_row_kind}
use Rattle.transcript_lines.specs.Lines.Form.{Done, MayEnd}

pub what_read : (what : What) (next : What → Form) (other : Form) (more : List (List ℕ)) → read (a_what next other) (what_text what ∷ more) ≡ read (next what) more
unfolding what_text
what_read whats.Hook next other more = refl
what_read _ next other more = refl

pub kind_read : (kind : RowKind) (next : RowKind → Form) (more : List (List ℕ)) → read (a_row_kind next) (row_kind_text kind ∷ more) ≡ read (next kind) more
unfolding row_kind_text
kind_read row_kinds.Root next more = refl
kind_read _ next more = refl

-- a line that ends here has no word left
pub some_left : (line : Line) (ws : List (List ℕ)) → (ws ≡ [] → ⊥) → read (Done line) ws ≡ None
some_left line [] h = absurd (h refl)
some_left line (w ∷ ws) h = refl

-- a line that may end here goes on where a word is left
pub goes_on : (line : Line) (next : Form) (ws : List (List ℕ)) → (ws ≡ [] → ⊥) → read (MayEnd line next) ws ≡ read next ws
goes_on line next [] h = absurd (h refl)
goes_on line next (w ∷ ws) h = refl

number_is : (text : List ℕ) → numeral_of Number text ≡ number_of text
unfolding numeral_of
number_is text = by_cases (number_of text) refl
  where
    by_cases : (o : Option ℕ) → number_of text ≡ o → (number_of text >>= λ n. if is_number n then Some n else None) ≡ number_of text
    by_cases None e = rw e refl
    by_cases (Some n) e = rw (e, (number_field.spelled text n e).1) refl

-- a number of the widest range is any number
pub field_is : (ws : List (List ℕ)) → field (numeral_of Number) ws ≡ field number_of ws
field_is [] = refl
field_is (w ∷ ws) = ap (λ o. o leaving ws) (number_is w)
