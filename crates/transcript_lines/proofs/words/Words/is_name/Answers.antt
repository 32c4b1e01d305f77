use Rattle.std.proofs.Common.{List, ℕ, sym, ap, subst, ◌∙◌}
use Rattle.tree_specs.specs.declared.schedule.Version.TheVariants.{Two}
use Rattle.tree_specs.specs.Texts.Grammar.{name_of, last_field}
use Rattle.text_forms.specs.Cursor.{words_left}
use Rattle.transcript_lines.specs.Readings.{TakesLast}
use Rattle.transcript_lines.proofs.Lasts.{name_last}
use Rattle.transcript_lines.proofs.words.Words.is_name.Goals as goal

pub returns-in-Some : goal.returns-in-Some
returns-in-Some c =
    subst (λ (ws : List (List ℕ)). TakesLast c.is_name.result (last_field (name_of Two) ws)) (sym (ap words_left c.in-Some.is) ∙ c.self.view_is)
    (name_last c.is_name.result c.in-Some.text.now c.is_name.ensures)
