use Rattle.std.proofs.Common.{sym, ap, ◌∙◌}
use Rattle.text_forms.specs.Cursor.{words_left}
use Rattle.text_forms.proofs.Words.{has_words}
use Rattle.text_forms.proofs.field.Fields.end.Goals as goal

pub returns-in-Some : goal.returns-in-Some
returns-in-Some c = λ none. has_words c.in-Some.field-0.now (sym (ap words_left c.in-Some.is) ∙ c.self.view_is ∙ none)
