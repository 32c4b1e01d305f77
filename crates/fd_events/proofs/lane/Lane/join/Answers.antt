use Rattle.std.proofs.Common.{Option, subst, sym}
use Rattle.tree_specs.specs.declared.object.Obj.{Obj}
use Rattle.std.specs.Option.{option_map}
use Rattle.std.specs.FinMap as map
use Rattle.fd_events.specs.Linked.{number_of, placed, lanes_joined, HasFewer, IsLane, OnContext}
use Rattle.fd_events.proofs.Lanes.{lane-nowhere}
use Rattle.fd_events.proofs.lane.Lane.join.Goals as goal

pub returns-in-None-clause-lane : goal.returns-in-None-clause-lane
returns-in-None-clause-lane c = λ K F k out there.
    subst (λ (o : Option Obj). IsLane c.args.self.now (placed K c.args.x (option_map number_of o)) (lanes_joined F c.args.x (option_map number_of o))) (sym c.in-None.is)
    (lane-nowhere c.args.self.now K F c.args.x out k)

pub join_lane-requires : goal.join_lane-requires
join_lane-requires c = subst (OnContext (HasFewer c.args.self.now.ends.lanes (map.len c.args.self.now.nodes.pairs))) c.in-Some.is c.requires

pub returns-in-Some-clause-lane : goal.returns-in-Some-clause-lane
returns-in-Some-clause-lane c = λ K F k out there.
    subst (λ (o : Option Obj). IsLane c.join_lane.new.self (placed K c.args.x (option_map number_of o)) (lanes_joined F c.args.x (option_map number_of o))) (sym c.in-Some.is)
    (c.join_lane.ensures.lane K F k out there)
