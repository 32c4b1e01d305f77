use Rattle.std.proofs.Common.{rules, sym}
use Rattle.text_forms.proofs.Cursor.{field_space}
use Rattle.text_forms.proofs.field.number_field.Goals as goal

pub returns-in-32 : goal.returns-in-32
returns-in-32 c = sym (field_space c.args.text.now c.in_ok-n.n c.in_ok-n.rest.now (sym c.in_ok-n.ensures) c.in-32.len_at_least (search rules))
