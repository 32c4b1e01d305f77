use Rattle.std.proofs.Common.{◌∙◌, sym, ap}
use Rattle.std.specs.Option.{option_map}
use Rattle.transcript_lines.specs.Lines.{refusal_form}
use Rattle.transcript_lines.specs.Readings.{says_by}
use Rattle.transcript_lines.specs.Sayings.{said_of}
use Rattle.transcript_lines.proofs.HeadTables.{no_reason}
use Rattle.transcript_lines.proofs.refusal.read_refusal.Goals as goal

pub returns-in_default-5 : goal.returns-in_default-5
returns-in_default-5 c =
    sym (ap (says_by refusal_form) c.in_ok-word.ensures ∙ ap (option_map said_of) (no_reason c.in_ok-word.field-0.now c.word.new.self c.in_default.len_at_least))
