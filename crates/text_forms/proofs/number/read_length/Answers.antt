use Rattle.std.proofs.Common.{sym, ◌∙◌}
use Rattle.tree_specs.specs.Calls.Spelling.Numeral.{Length}
use Rattle.text_forms.proofs.Fields.{numeral_read}
use Rattle.text_forms.proofs.number.read_length.Goals as goal

pub returns : goal.returns
returns c = numeral_read Length c.args.text.now c.in_ok-number_value.field-0 c.as_length.result (sym c.number_value.ensures ∙ c.in_ok-number_value.was) c.as_length.ensures
