use Rattle.std.proofs.Common.{◌≡◌, ◌≢◌, Some, None, sym, ap, ◌∙◌}
use Rattle.std.specs.FinMap as map
use Rattle.linked_lanes.specs.Family.{no_ends}
use Rattle.lane_ends.specs.Lanes.{Ends, lanes_of}
use Rattle.lane_ends.specs.Packing.{lanes_told}
use Rattle.lane_ends.proofs.Packs.{vacant-told, set-told}
use Rattle.lane_ends.proofs.Beside.{get-other, unknown-other, set-other}
use Rattle.lane_ends.proofs.LaneEnds.add_lane.Goals.{After-of}
use Rattle.lane_ends.proofs.LaneEnds.add_lane.Goals as goal

vacant : (c : After-of) → map.get (lanes_of c.self.inside.first (lanes_told c.self.inside.others.pairs)) c.args.lane ≡ None
vacant c = ap (λ (e : Ends). map.get e.lanes c.args.lane) c.self.view_is ∙ c.requires.vacant

other : (c : After-of) → c.args.lane ≢ 0
other c = unknown-other c.self.inside.first (lanes_told c.self.inside.others.pairs) c.args.lane (vacant c)

pub add-requires-clause-vacant : goal.add-requires-clause-vacant
add-requires-clause-vacant c =
    vacant-told c.self.inside.others.pairs c.args.lane
    (sym (get-other c.self.inside.first (lanes_told c.self.inside.others.pairs) c.args.lane (other c)) ∙ vacant c)

pub returns-clause-lanes : goal.returns-clause-lanes
returns-clause-lanes c =
    let there = ap (λ (e : Ends). map.get e.lanes c.args.lane) c.self.view_is ∙ c.requires.vacant in
    let h = unknown-other c.self.inside.first (lanes_told c.self.inside.others.pairs) c.args.lane there in
    ap (lanes_of c.self.inside.first) (set-told c.self.inside.others.pairs c.add.new.self.pairs c.args.lane c.of.result no_ends c.add.ensures.pairs (c.of.ensures ∙ c.new.ensures))
    ∙ set-other c.self.inside.first (lanes_told c.self.inside.others.pairs) c.args.lane (Some no_ends) h
    ∙ ap (λ (e : Ends). map.insert e.lanes c.args.lane no_ends) c.self.view_is
