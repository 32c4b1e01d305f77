use Rattle.schedule_replay.proofs.RunLaws.{ToldSoFar}
use Rattle.schedule_replay.proofs.telling.tell_all.Given as goal

abbrev pub invariant-tells : goal.invariant-tells
invariant-tells g l = ToldSoFar (g.M.Machine.standing l.initial.machine) l.initial.text.items (g.M.Machine.standing l.machine) l.text.items
