use Rattle.std.proofs.Common.{◌≡◌, true, take}
use Rattle.text_forms.proofs.Words.{lacks}
use Rattle.text_forms.proofs.split.split_part.Given as goal

abbrev pub invariant-loop-i : goal.invariant-loop-i
invariant-loop-i l = lacks l.byte (take l.i l.text) ≡ true
