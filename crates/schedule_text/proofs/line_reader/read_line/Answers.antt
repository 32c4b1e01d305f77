use Rattle.schedule_text.proofs.Inputs.{read_is_sound, read_can_be_given, unread_is_none}
use Rattle.schedule_text.proofs.line_reader.read_line.Goals as goal

pub returns-clause-given : goal.returns-clause-given
returns-clause-given c = read_can_be_given c.args.version c.input_value.result (read_is_sound c.args.version c.input_value.result c.args.line.now c.input_value.ensures)

pub returns-clause-none : goal.returns-clause-none
returns-clause-none c = unread_is_none c.args.version c.input_value.result c.args.line.now c.input_value.ensures
