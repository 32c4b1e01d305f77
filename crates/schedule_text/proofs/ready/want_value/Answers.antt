use Rattle.std.proofs.Common.{◌∷◌, sym, ap, ◌∙◌}
use Rattle.text_forms.specs.Cursor.{parts_left}
use Rattle.schedule_text.proofs.Wants.{flags_unread, both_numbers_read}
use Rattle.schedule_text.proofs.ready.want_value.Goals as goal

pub returns-in_err-read_u32-2 : goal.returns-in_err-read_u32-2
returns-in_err-read_u32-2 c =
    let fd = c.split_part.result.0.now in
    c.from_residual-in_err-read_u32-2.ensures
    ∙ sym (flags_unread c.args.word.now fd c.in_ok-flags.flags.now
    (c.split_part.ensures ∙ ap (λ rest. fd ∷ parts_left 58 rest) c.in_ok-flags.was)
    (sym c.read_u32-2.ensures.value ∙ c.in_err-read_u32-2.was))

pub returns : goal.returns
returns c =
    let fd = c.split_part.result.0.now in
    sym (both_numbers_read c.args.word.now fd c.in_ok-flags.flags.now c.in_ok-read_u32.field-0 c.in_ok-read_u32-2.field-0
    (c.split_part.ensures ∙ ap (λ rest. fd ∷ parts_left 58 rest) c.in_ok-flags.was)
    (sym c.read_u32.ensures.value ∙ c.in_ok-read_u32.was)
    (sym c.read_u32-2.ensures.value ∙ c.in_ok-read_u32-2.was))
