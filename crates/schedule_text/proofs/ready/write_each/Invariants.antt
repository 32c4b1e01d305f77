use Rattle.std.proofs.Common.{◌≡◌, ◌++◌, take}
use Rattle.tree_specs.specs.Texts.Text.{wants_text}
use Rattle.schedule_text.proofs.ready.write_each.Given as goal

abbrev pub invariant-loop-want : goal.invariant-loop-want
invariant-loop-want l = l.out.items ≡ l.fn.out.items ++ wants_text (take l.want-index l.wants)
