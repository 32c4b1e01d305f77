use Rattle.std.proofs.Common.{refl, sym, ◌∙◌}
use Rattle.transcript_lines.proofs.reply.read_numbers.Goals as goal

pub returns-in-Some : goal.returns-in-Some
returns-in-Some c = c.read_number_end.ensures c.in-Some.field-0 ∙ rw (sym c.in-Some.ensures.value) refl
