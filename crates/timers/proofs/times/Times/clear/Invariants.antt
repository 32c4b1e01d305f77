use Rattle.std.proofs.Common.{◌≡◌, ◌≤◌, length}
use Rattle.tree_specs.specs.Events.Pending.{times_in, times_without}
use Rattle.timers.proofs.times.Times.clear.Given as goal

abbrev pub invariant-loop-x : goal.invariant-loop-x
invariant-loop-x l = record {
  elsewhere : times_without l.self.dues l.fn.c ≡ times_without l.fn.self.dues l.fn.c;
  contexts : l.self.contexts ≡ l.fn.self.contexts;
  spare : l.fn.self.spare ≤ l.self.spare;
  contexts_spare : l.fn.self.contexts_spare ≤ l.self.contexts_spare;
}

abbrev pub decreases-loop-x : goal.decreases-loop-x
decreases-loop-x l = length (times_in l.self.dues l.fn.c)
