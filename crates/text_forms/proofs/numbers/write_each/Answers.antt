use Rattle.std.proofs.Common.{◌++◌, codes}
use Rattle.std.specs.Fmt.{decimal}
use Rattle.text_forms.proofs.Writing.{in_each}
use Rattle.text_forms.proofs.numbers.write_each.Goals as goal

pub returns-in_err-write_spaced : goal.returns-in_err-write_spaced
returns-in_err-write_spaced c = in_each (λ n. codes " " ++ decimal n) 0 c.args.out.now.items c.loop-n.out.items c.write_spaced.new.out.items c.args.numbers.now c.loop-n.n-index c.from_residual.result c.loop-n-test.true c.loop-n.invariant c.in_err-write_spaced.ensures c.from_residual.ensures.0
