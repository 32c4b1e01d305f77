use Rattle.text_forms.proofs.Words.{part_ends, part_is_all}
use Rattle.text_forms.proofs.split.split_part.Goals as goal

pub returns-then-b-byte : goal.returns-then-b-byte
returns-then-b-byte c = part_ends c.args.byte c.args.text.now c.loop-i.i c.loop-i-test.true c.loop-i.invariant c.if-b-byte.true

pub returns : goal.returns
returns c = part_is_all c.args.byte c.args.text.now c.loop-i.i c.loop-i-test.false c.loop-i.invariant
