use Rattle.std.proofs.Common.{List, ℕ, ◌∙◌, ◌∷◌, sym, ap}
use Rattle.std.specs.Option.{option_map}
use Rattle.transcript_lines.specs.Lines.{line_form}
use Rattle.transcript_lines.specs.Readings.{says_by}
use Rattle.transcript_lines.specs.Sayings.{said_of}
use Rattle.transcript_lines.proofs.HeadTables.{line_read}
use Rattle.transcript_lines.proofs.line.read_words.Goals as goal

pub returns-in-Some : goal.returns-in-Some
returns-in-Some c =
    c.read_line_end.ensures
    ∙ ap (option_map said_of) (sym (line_read c.in-Some.head c.word.new.self))
    ∙ ap (λ (w : List ℕ). says_by line_form (w ∷ c.word.new.self)) (sym c.in-Some.ensures)
    ∙ ap (says_by line_form) (sym c.in_ok-word.ensures)

pub returns-in-None : goal.returns-in-None
returns-in-None c =
    c.read_event.ensures
    ∙ ap (option_map said_of) (sym (c.in-None.ensures c.word.new.self))
    ∙ ap (says_by line_form) (sym c.in_ok-word.ensures)
