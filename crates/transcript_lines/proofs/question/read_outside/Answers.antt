use Rattle.std.proofs.Common.{List, ℕ, ◌∙◌, ◌∷◌, sym, ap}
use Rattle.std.specs.Option.{option_map}
use Rattle.transcript_lines.specs.Lines.{outside_form}
use Rattle.transcript_lines.specs.Readings.{says_by, line_by, quiet_form}
use Rattle.transcript_lines.specs.Sayings.{said_of}
use Rattle.transcript_lines.proofs.HeadTables.{outside_read}
use Rattle.transcript_lines.proofs.question.read_outside.Goals as goal

pub returns-in-Some : goal.returns-in-Some
returns-in-Some c =
    c.read_outside_end.ensures
    ∙ ap (option_map said_of) (sym (outside_read c.in-Some.head (line_by c.args.is_open) (quiet_form c.args.is_open) c.args.words))
    ∙ ap (λ (w : List ℕ). says_by (outside_form (line_by c.args.is_open) (quiet_form c.args.is_open)) (w ∷ c.args.words)) (sym c.in-Some.ensures)

pub returns-in-None : goal.returns-in-None
returns-in-None c =
    c.read_quiet.ensures
    ∙ ap (option_map said_of) (sym (c.in-None.ensures (line_by c.args.is_open) (quiet_form c.args.is_open) c.args.words))
