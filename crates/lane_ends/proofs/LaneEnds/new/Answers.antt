use Rattle.std.proofs.Common.{ap, ◌∙◌}
use Rattle.std.specs.FinMap as map
use Rattle.lane_ends.specs.Lanes.{lanes_of}
use Rattle.lane_ends.proofs.Packs.{empty-told}
use Rattle.lane_ends.proofs.LaneEnds.new.Goals as goal

pub returns : goal.returns
returns c =
    ap (lanes_of c.new.result) (empty-told c.new-2.result.pairs c.new-2.ensures.empty) ∙ ap (map.insert map.empty 0) c.new.ensures
