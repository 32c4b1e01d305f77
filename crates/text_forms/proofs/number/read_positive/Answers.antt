use Rattle.std.proofs.Common.{sym, ◌∙◌}
use Rattle.tree_specs.specs.Calls.Spelling.Numeral.{Positive32}
use Rattle.text_forms.proofs.Fields.{numeral_read}
use Rattle.text_forms.proofs.number.read_positive.Goals as goal

pub returns : goal.returns
returns c = numeral_read Positive32 c.args.text.now c.in_ok-number_value.field-0 c.as_positive.result (sym c.number_value.ensures ∙ c.in_ok-number_value.was) c.as_positive.ensures
