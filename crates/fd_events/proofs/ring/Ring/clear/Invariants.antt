use Rattle.std.proofs.Common.{◌≡◌, ◌≤◌, length}
use Rattle.tree_specs.specs.Events.Rotation.{ring_in, ring_without}
use Rattle.fd_events.proofs.ring.Ring.clear.Given as goal

abbrev pub invariant-loop-x : goal.invariant-loop-x
invariant-loop-x l = record {
  all : ring_without l.self.watches l.c ≡ ring_without l.fn.self.watches l.c;
  contexts : l.self.contexts ≡ l.fn.self.contexts;
  spare : l.fn.self.spare ≤ l.self.spare;
  contexts_spare : l.fn.self.contexts_spare ≤ l.self.contexts_spare;
}

abbrev pub decreases-loop-x : goal.decreases-loop-x
decreases-loop-x l = length (ring_in l.self.watches l.c)
