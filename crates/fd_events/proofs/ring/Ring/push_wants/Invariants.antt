use Rattle.std.proofs.Common.{◌≡◌, ◌++◌, length}
use Rattle.tree_specs.specs.Events.Rotation.{wanted_of, ring_in}
use Rattle.fd_events.specs.Linked.{from_on}
use Rattle.fd_events.proofs.ring.Ring.push_wants.Given as goal

abbrev pub invariant-loop-at : goal.invariant-loop-at
invariant-loop-at l = l.out.items ++ wanted_of (from_on (ring_in l.self.watches l.c) l.at) ≡ l.fn.out.items ++ wanted_of (ring_in l.self.watches l.c)

abbrev pub decreases-loop-at : goal.decreases-loop-at
decreases-loop-at l = length (from_on (ring_in l.self.watches l.c) l.at)
