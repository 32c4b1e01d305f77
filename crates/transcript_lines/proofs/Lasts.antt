-- What stands at the end of a line: a name, bytes, and what a question says.
use Rattle.std.proofs.Common.{◌≡◌, ℕ, Bool, true, false, List, [], Option, Some, None, refl, sym, ◌∙◌}
use Rattle.std.specs.Option.{is_some}
use Rattle.tree_specs.specs.declared.schedule.Version.TheVariants.{Two}
use Rattle.tree_specs.specs.declared.question.Ask.{Ask}
use Rattle.tree_specs.specs.Texts.Grammar.{◌leaving◌, name_of, octets_of, words, field, last_field}
use Rattle.tree_specs.specs.Words.Names.{is_name}
use Rattle.text_forms.proofs.Cursor.{last_is}
use Rattle.text_forms.proofs.Fields.{name_field}
use Rattle.text_forms.proofs.Hexadecimal.{octets_field}
use Rattle.tree_specs.specs.Calls.Spelling.Numeral.{Number}
use Rattle.tree_specs.specs.Texts.Grammar.{number_of, numeral_of}
use Rattle.transcript_lines.specs.Readings.{TakesField, TakesLast, line_by}
use Rattle.transcript_lines.proofs.Tables.{field_is}
use Rattle.transcript_lines.specs.Sayings.{said_of, told_by, fact_of_ask}

pub said_told : (is_open : Bool) (q : Ask) → said_of (line_by is_open q) ≡ told_by is_open (fact_of_ask q)
said_told true q = refl
said_told false q = refl

taken_last : {A : Type 0} (b : Bool) (o : Option A) (taken : Option (A × List (List ℕ))) → taken ≡ (o leaving []) → b ≡ is_some o → TakesLast b taken
taken_last true (Some x) taken e h = (x, e)
taken_last true None taken e h = absurd cc
taken_last false None taken e h = e
taken_last false (Some x) taken e h = absurd cc

name_some : (text : List ℕ) → is_some (name_of Two text) ≡ is_name text
unfolding name_of
name_some text = by_test (is_name text) refl
  where
    by_test : (b : Bool) → is_name text ≡ b → is_some (name_of Two text) ≡ is_name text
    by_test true e = rw e refl
    by_test false e = rw e refl

pub name_last : (b : Bool) (text : List ℕ) → b ≡ is_name text → TakesLast b (last_field (name_of Two) (words text))
name_last b text h = taken_last b (name_of Two text) (last_field (name_of Two) (words text)) (last_is (name_field Two) text) (h ∙ sym (name_some text))

pub octets_last : (b : Bool) (text : List ℕ) → b ≡ is_some (octets_of text) → TakesLast b (last_field octets_of (words text))
octets_last b text h = taken_last b (octets_of text) (last_field octets_of (words text)) (last_is octets_field text) h

pub none_last : {A : Type 0} (read : List ℕ → Option A) → TakesLast false (last_field read [])
none_last read = refl

-- any number is one of the widest range
pub number_given : (r : Option ℕ) (ws left : List (List ℕ)) → TakesField r (field number_of ws) left → TakesField r (field (numeral_of Number) ws) left
number_given (Some n) ws left h = field_is ws ∙ h
number_given None ws left h = field_is ws ∙ h
