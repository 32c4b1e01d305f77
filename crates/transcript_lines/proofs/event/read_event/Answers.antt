use Rattle.std.proofs.Common.{List, ℕ, ◌∙◌, ◌∷◌, sym, ap}
use Rattle.std.specs.Option.{option_map}
use Rattle.transcript_lines.specs.Lines.{event_form}
use Rattle.transcript_lines.specs.Readings.{says_by}
use Rattle.transcript_lines.specs.Sayings.{said_of}
use Rattle.transcript_lines.proofs.HeadTables.{event_read}
use Rattle.transcript_lines.proofs.event.read_event.Goals as goal

pub returns-in-Some : goal.returns-in-Some
returns-in-Some c =
    c.read_event_end.ensures
    ∙ ap (option_map said_of) (sym (event_read c.in-Some.head c.args.words))
    ∙ ap (λ (w : List ℕ). says_by event_form (w ∷ c.args.words)) (sym c.in-Some.ensures)

pub returns-in-None : goal.returns-in-None
returns-in-None c = sym (ap (option_map said_of) (c.in-None.ensures c.args.words))
