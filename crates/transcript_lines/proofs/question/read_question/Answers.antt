use Rattle.std.proofs.Common.{List, ℕ, ◌∙◌, ◌∷◌, sym, ap}
use Rattle.std.specs.Option.{option_map}
use Rattle.transcript_lines.specs.Lines.{moment_form, outside_form}
use Rattle.transcript_lines.specs.Readings.{says_by, line_by, quiet_form, question_form}
use Rattle.transcript_lines.specs.Sayings.{said_of}
use Rattle.transcript_lines.proofs.Tables.{what_read}
use Rattle.transcript_lines.proofs.question.read_question.Goals as goal

pub returns-in-Some : goal.returns-in-Some
returns-in-Some c =
    c.read_moment.ensures
    ∙ ap (option_map said_of) (sym (what_read c.in-Some.what (moment_form (line_by c.args.is_open)) (outside_form (line_by c.args.is_open) (quiet_form c.args.is_open)) c.word.new.self))
    ∙ ap (λ (w : List ℕ). says_by (question_form c.args.is_open) (w ∷ c.word.new.self)) (sym c.in-Some.ensures)
    ∙ ap (says_by (question_form c.args.is_open)) (sym c.in_ok-word.ensures)

pub returns-in-None : goal.returns-in-None
returns-in-None c =
    c.read_outside.ensures
    ∙ ap (option_map said_of) (sym (c.in-None.ensures (moment_form (line_by c.args.is_open)) (outside_form (line_by c.args.is_open) (quiet_form c.args.is_open)) c.word.new.self))
    ∙ ap (says_by (question_form c.args.is_open)) (sym c.in_ok-word.ensures)
