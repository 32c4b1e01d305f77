use Rattle.std.proofs.Common.{List, ℕ, ◌∙◌, ◌∷◌, sym, ap}
use Rattle.std.specs.Option.{option_map}
use Rattle.transcript_lines.specs.Lines.{a_what, fired_end}
use Rattle.transcript_lines.specs.Lines.Form.{Fails}
use Rattle.transcript_lines.specs.Readings.{says_by}
use Rattle.transcript_lines.specs.Sayings.{said_of}
use Rattle.transcript_lines.proofs.Tables.{what_read}
use Rattle.transcript_lines.proofs.event.read_fired.Goals as goal

pub returns-in-Some : goal.returns-in-Some
returns-in-Some c =
    c.read_fired_end.ensures c.in-Some.field-0
    ∙ ap (option_map said_of) (sym (what_read c.in-Some.field-0 fired_end Fails c.word.new.self))
    ∙ ap (λ (w : List ℕ). says_by (a_what fired_end Fails) (w ∷ c.word.new.self)) (sym c.in-Some.ensures)
    ∙ ap (says_by (a_what fired_end Fails)) (sym c.in_ok-word.ensures)

pub returns-in-None : goal.returns-in-None
returns-in-None c =
    sym (ap (option_map said_of) (c.in-None.ensures fired_end Fails c.word.new.self))
    ∙ ap (says_by (a_what fired_end Fails)) (sym c.in_ok-word.ensures)
