use Rattle.std.proofs.Common.{length}
use Rattle.text_forms.specs.Cursor.{words_left}
use Rattle.schedule_text.proofs.Wants.{ReadSoFar}
use Rattle.schedule_text.proofs.ready.read_list.Given as goal

abbrev pub invariant-loop-rest : goal.invariant-loop-rest
invariant-loop-rest l = ReadSoFar (words_left l.start) l.list.items (words_left l.rest)

abbrev pub decreases-loop-rest : goal.decreases-loop-rest
decreases-loop-rest l = length (words_left l.rest)
