use Rattle.std.proofs.Common.{ap, ◌∙◌}
use Rattle.lane_ends.specs.Lanes.{Ends, lanes_of, without_lane}
use Rattle.lane_ends.specs.Packing.{lanes_told}
use Rattle.lane_ends.proofs.Packs.{removed-told}
use Rattle.lane_ends.proofs.Beside.{drop-lane}
use Rattle.lane_ends.proofs.LaneEnds.drop_lane.Goals as goal

pub returns-clause-lanes : goal.returns-clause-lanes
returns-clause-lanes c =
    ap (lanes_of c.self.inside.first) (removed-told c.self.inside.others.pairs c.take.new.self.pairs c.args.lane c.take.ensures.pairs)
    ∙ drop-lane c.self.inside.first (lanes_told c.self.inside.others.pairs) c.args.lane
    ∙ ap (λ (e : Ends). without_lane e.lanes c.args.lane) c.self.view_is
