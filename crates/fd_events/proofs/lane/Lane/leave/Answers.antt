use Rattle.std.proofs.Common.{ap, ◌∙◌, subst}
use Rattle.std.specs.Option.{option_map}
use Rattle.fd_events.specs.Linked.{number_of, CanLeave, OnContext}
use Rattle.fd_events.proofs.Lanes.{lane-out}
use Rattle.fd_events.proofs.lane.Lane.leave.Goals as goal

pub returns-in-None-clause-lane : goal.returns-in-None-clause-lane
returns-in-None-clause-lane c = λ K F x k out found. lane-out c.args.self.now K F x (out ∙ ap (option_map number_of) c.in-None.is) k

pub leave_lane-requires : goal.leave_lane-requires
leave_lane-requires c = subst (OnContext (CanLeave c.args.self.now.ends.lanes c.args.node.sides)) c.in-Some.is c.requires

pub returns-in-Some-clause-lane : goal.returns-in-Some-clause-lane
returns-in-Some-clause-lane c = λ K F x k in_lane found. c.leave_lane.ensures.lane K F x k (in_lane ∙ ap (option_map number_of) c.in-Some.is) found
