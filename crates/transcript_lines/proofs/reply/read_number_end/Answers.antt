use Rattle.std.proofs.Common.{◌∙◌, sym, ap}
use Rattle.std.specs.Option.{option_map}
use Rattle.tree_specs.specs.declared.event.Event.TheVariants.{Replied}
use Rattle.tree_specs.specs.declared.reply.Reply.TheVariants.{Number}
use Rattle.transcript_lines.specs.Lines.{pair_end}
use Rattle.transcript_lines.specs.Lines.Line.{Tells}
use Rattle.transcript_lines.specs.Sayings.{said_of}
use Rattle.transcript_lines.proofs.reply.read_number_end.Goals as goal

pub returns-else-is_over : goal.returns-else-is_over
returns-else-is_over c =
    let goes_on = rw c.if-is_over.false at c.is_over.ensures in
    λ n. c.read_second.ensures n ∙ ap (option_map said_of) (sym (goes_on (Tells (Replied (Number n))) (pair_end n)))
