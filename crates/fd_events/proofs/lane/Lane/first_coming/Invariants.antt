use Rattle.std.proofs.Common.{◌≡◌, List, take}
use Rattle.tree_specs.specs.declared.object.Obj.{Obj}
use Rattle.tree_specs.specs.declared.watch.Watch.{Watch}
use Rattle.tree_specs.specs.Events.Rotation.{ready_for, ring_in}
use Rattle.fd_events.specs.Linked.{IsKept}
use Rattle.fd_events.proofs.Soonest.{first_coming}
use Rattle.fd_events.proofs.Stamped.{stamp_by}
use Rattle.fd_events.proofs.lane.Lane.first_coming.Given as goal

abbrev pub invariant-loop-want : goal.invariant-loop-want
invariant-loop-want l = (ws : List Watch) (cs : List Obj) → IsKept l.self l.holders.pairs ws cs → l.first ≡ first_coming (stamp_by l.self) (ready_for (take l.want-index l.ready)) (ring_in ws l.c)
