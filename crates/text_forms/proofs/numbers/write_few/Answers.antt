use Rattle.std.proofs.Common.{◌∙◌}
use Rattle.text_forms.proofs.Writing.{so_far}
use Rattle.text_forms.proofs.numbers.write_few.Goals as goal

pub returns-in_err-push : goal.returns-in_err-push
returns-in_err-push c = so_far c.args.out.now.items c.push.new.self.items c.args.bytes.now c.loop-byte.byte-index c.from_residual.result (c.in_err-push.ensures.items ∙ c.loop-byte.invariant) c.from_residual.ensures.0
