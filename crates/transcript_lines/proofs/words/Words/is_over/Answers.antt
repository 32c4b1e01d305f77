use Rattle.std.proofs.Common.{sym, ap, ◌∙◌}
use Rattle.text_forms.specs.Cursor.{words_left}
use Rattle.text_forms.proofs.Words.{has_words}
use Rattle.transcript_lines.proofs.Tables.{goes_on}
use Rattle.transcript_lines.proofs.words.Words.is_over.Goals as goal

pub returns-in-Some : goal.returns-in-Some
returns-in-Some c = λ line next. goes_on line next c.args.self.now (λ none. has_words c.in-Some.field-0.now (sym (ap words_left c.in-Some.is) ∙ c.self.view_is ∙ none))
