use Rattle.std.proofs.Common.{◌≡◌, ◌++◌, take}
use Rattle.tree_specs.specs.Texts.Text.{numbers_text}
use Rattle.text_forms.proofs.numbers.write_each.Given as goal

abbrev pub invariant-loop-n : goal.invariant-loop-n
invariant-loop-n l = l.out.items ≡ l.fn.out.items ++ numbers_text (take l.n-index l.numbers)
