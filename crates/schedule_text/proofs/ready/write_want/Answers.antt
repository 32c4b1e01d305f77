use Rattle.std.proofs.Common.{refl}
use Rattle.std.specs.Fmt.{decimal}
use Rattle.text_forms.proofs.Writing.{then_writes, then_fails}
use Rattle.schedule_text.proofs.Parts.{want_front, want_text-parts}
use Rattle.schedule_text.proofs.ready.write_want.Goals as goal

pub returns-in_err-write_numbers : goal.returns-in_err-write_numbers
returns-in_err-write_numbers c =
    let flags = c.args.want.flags in
    then_fails c.args.out.now.items c.write_numbers.new.out.items (want_front c.from.result) (decimal flags) _ c.from_residual.result c.in_err-write_numbers.ensures c.from_residual.ensures.0
    (want_text-parts c.args.want c.from.result flags c.from.ensures refl)

pub returns : goal.returns
returns c =
    then_writes c.args.out.now.items c.write_numbers.new.out.items c.write_number.new.out.items (want_front c.from.result) (decimal c.from-2.result) _ c.write_number.result c.in_ok-write_numbers.ensures c.write_number.ensures
    (want_text-parts c.args.want c.from.result c.from-2.result c.from.ensures c.from-2.ensures)
