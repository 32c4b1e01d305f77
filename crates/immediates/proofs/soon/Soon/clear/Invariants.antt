use Rattle.std.proofs.Common.{◌≡◌, ◌≤◌, length}
use Rattle.tree_specs.specs.Events.Pending.{soon_in, soon_without}
use Rattle.immediates.proofs.soon.Soon.clear.Given as goal

abbrev pub invariant-loop-c : goal.invariant-loop-c
invariant-loop-c l = record {
  elsewhere : soon_without l.self.coming l.fn.c ≡ soon_without l.fn.self.coming l.fn.c;
  contexts : l.self.contexts ≡ l.fn.self.contexts;
  spare : l.fn.self.spare ≤ l.self.spare;
  contexts_spare : l.fn.self.contexts_spare ≤ l.self.contexts_spare;
}

abbrev pub decreases-loop-c : goal.decreases-loop-c
decreases-loop-c l = length (soon_in l.self.coming l.fn.c)
