use Rattle.std.proofs.Common.{sym, ap, ◌∙◌}
use Rattle.std.specs.Option.{option_map}
use Rattle.std.specs.FinMap as map
use Rattle.lane_ends.specs.Lanes.{Ends}
use Rattle.lane_ends.specs.Packing.{told, lanes_told}
use Rattle.lane_ends.proofs.Packs.{mapped-told, get-told}
use Rattle.lane_ends.proofs.Beside.{get-first, get-other}
use Rattle.lane_ends.proofs.LaneEnds.get.Goals as goal

pub returns-then-lane-eq0 : goal.returns-then-lane-eq0
returns-then-lane-eq0 c =
    sym (get-first c.self.inside.first (lanes_told c.self.inside.others.pairs) c.args.lane c.if-lane-eq0.true)
    ∙ ap (λ (e : Ends). map.get e.lanes c.args.lane) c.self.view_is

pub returns : goal.returns
returns c =
    mapped-told c.copied.result c.map.result c.map.ensures.cases
    ∙ ap (option_map told) (c.copied.ensures ∙ c.get.ensures) ∙ sym (get-told c.self.inside.others.pairs c.args.lane)
    ∙ sym (get-other c.self.inside.first (lanes_told c.self.inside.others.pairs) c.args.lane c.if-lane-eq0.false)
    ∙ ap (λ (e : Ends). map.get e.lanes c.args.lane) c.self.view_is
