use Rattle.std.proofs.Common.{◌≡◌, ◌+◌, ◌≤◌, length}
use Rattle.tree_specs.specs.Events.Rotation.{ring_in}
use Rattle.fd_events.specs.Linked.{from_on}
use Rattle.fd_events.specs.Picking.{first_event}
use Rattle.fd_events.proofs.ring.Ring.walk.Given as goal

abbrev pub invariant-loop : goal.invariant-loop
invariant-loop l = record {
  none_passed : first_event (from_on (ring_in l.self.watches l.c) l.at) l.ready ≡ first_event (ring_in l.self.watches l.c) l.ready;
  steps_taken : length (from_on (ring_in l.self.watches l.c) l.at) + l.counter ≤ length (ring_in l.self.watches l.c);
}
