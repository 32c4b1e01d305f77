use Rattle.tree_specs.specs.Texts.Text.{want_text}
use Rattle.text_forms.proofs.Writing.{in_each}
use Rattle.schedule_text.proofs.ready.write_each.Goals as goal

pub returns-in_err-write_want : goal.returns-in_err-write_want
returns-in_err-write_want c = in_each want_text (record { fd = 0; flags = 0 }) c.args.out.now.items c.loop-want.out.items c.write_want.new.out.items c.args.wants.now c.loop-want.want-index c.from_residual.result c.loop-want-test.true c.loop-want.invariant c.in_err-write_want.ensures c.from_residual.ensures.0
