use Rattle.text_forms.proofs.Calls.{read_is_sound, read_can_be_given, unread_is_none}
use Rattle.text_forms.proofs.call_reader.read_call.Goals as goal

pub returns-clause-given : goal.returns-clause-given
returns-clause-given c = read_can_be_given c.args.version c.call_value.result (read_is_sound c.args.version c.call_value.result c.args.text.now c.call_value.ensures)

pub returns-clause-none : goal.returns-clause-none
returns-clause-none c = unread_is_none c.args.version c.call_value.result c.args.text.now c.call_value.ensures
