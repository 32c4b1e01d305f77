use Rattle.std.proofs.Common.{List, ℕ, ◌≡◌, ◌∙◌, ◌∷◌, refl, sym, ap}
use Rattle.std.specs.Option.{option_map}
use Rattle.transcript_lines.specs.Lines.{a_row_kind, row_form, row_end}
use Rattle.transcript_lines.specs.Readings.{says_by}
use Rattle.transcript_lines.specs.Sayings.{said_of}
use Rattle.transcript_lines.proofs.Tables.{kind_read}
use Rattle.transcript_lines.proofs.row.read_row.Goals as goal

pub returns-in-Some : goal.returns-in-Some
returns-in-Some c =
    c.read_row_end.ensures c.in_ok-small.field-0 c.in_ok-number.field-0 c.in-Some.field-0
    ∙ ap (option_map said_of) (sym (kind_read c.in-Some.field-0 (row_end c.in_ok-small.field-0 c.in_ok-number.field-0) c.word.new.self))
    ∙ ap (λ (w : List ℕ). says_by (a_row_kind (row_end c.in_ok-small.field-0 c.in_ok-number.field-0)) (w ∷ c.word.new.self)) (sym c.in-Some.ensures)
    ∙ ap (says_by (a_row_kind (row_end c.in_ok-small.field-0 c.in_ok-number.field-0))) (sym c.in_ok-word.ensures)
    ∙ whole
  where
    whole : says_by (a_row_kind (row_end c.in_ok-small.field-0 c.in_ok-number.field-0)) c.number.new.self ≡ says_by row_form c.args.words
    whole = rw (c.in_ok-small.ensures, c.in_ok-number.ensures) refl

pub returns-in-None : goal.returns-in-None
returns-in-None c =
    sym (ap (option_map said_of) (c.in-None.ensures (row_end c.in_ok-small.field-0 c.in_ok-number.field-0) c.word.new.self))
    ∙ ap (says_by (a_row_kind (row_end c.in_ok-small.field-0 c.in_ok-number.field-0))) (sym c.in_ok-word.ensures)
    ∙ whole
  where
    whole : says_by (a_row_kind (row_end c.in_ok-small.field-0 c.in_ok-number.field-0)) c.number.new.self ≡ says_by row_form c.args.words
    whole = rw (c.in_ok-small.ensures, c.in_ok-number.ensures) refl
