use Rattle.text_forms.proofs.Fields.{number_read}
use Rattle.text_forms.proofs.number.read_number.Goals as goal

pub returns : goal.returns
returns c = number_read c.number_value.result c.args.text.now c.number_value.ensures
