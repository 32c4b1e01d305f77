use Rattle.std.proofs.Common.{List, ℕ, sym, ap, subst, ◌∙◌}
use Rattle.tree_specs.specs.Texts.Grammar.{octets_of, last_field}
use Rattle.text_forms.specs.Cursor.{words_left}
use Rattle.transcript_lines.specs.Readings.{TakesLast}
use Rattle.transcript_lines.proofs.Lasts.{octets_last}
use Rattle.transcript_lines.proofs.words.Words.is_bytes.Goals as goal

pub returns-in-Some : goal.returns-in-Some
returns-in-Some c =
    subst (λ (ws : List (List ℕ)). TakesLast c.is_hexadecimal.result (last_field octets_of ws)) (sym (ap words_left c.in-Some.is) ∙ c.self.view_is)
    (octets_last c.is_hexadecimal.result c.in-Some.text.now c.is_hexadecimal.ensures)
