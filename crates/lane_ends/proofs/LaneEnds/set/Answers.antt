use Rattle.std.proofs.Common.{Some, is_some, sym, ap, ◌∙◌}
use Rattle.std.specs.FinMap as map
use Rattle.lane_ends.specs.Lanes.{Ends, lanes_of}
use Rattle.lane_ends.specs.Packing.{lanes_told}
use Rattle.lane_ends.proofs.Packs.{there-told, set-told}
use Rattle.lane_ends.proofs.Beside.{get-other, set-first, set-other}
use Rattle.lane_ends.proofs.LaneEnds.set.Goals as goal

pub set_at-requires : goal.set_at-requires
set_at-requires c =
    there-told c.self.inside.others.pairs c.args.lane
    ∙ ap is_some (sym (get-other c.self.inside.first (lanes_told c.self.inside.others.pairs) c.args.lane c.if-lane-eq0.false)
    ∙ ap (λ (e : Ends). map.get e.lanes c.args.lane) c.self.view_is) ∙ c.requires.known

pub returns-then-lane-eq0-clause-lanes : goal.returns-then-lane-eq0-clause-lanes
returns-then-lane-eq0-clause-lanes c =
    set-first c.self.inside.first (lanes_told c.self.inside.others.pairs) c.args.lane c.args.ends c.if-lane-eq0.true
    ∙ ap (λ (e : Ends). map.insert e.lanes c.args.lane c.args.ends) c.self.view_is

pub returns-else-lane-eq0-clause-lanes : goal.returns-else-lane-eq0-clause-lanes
returns-else-lane-eq0-clause-lanes c =
    ap (lanes_of c.self.inside.first) (set-told c.self.inside.others.pairs c.set_at.new.others.pairs c.args.lane c.of.result c.args.ends c.set_at.ensures.pairs c.of.ensures)
    ∙ set-other c.self.inside.first (lanes_told c.self.inside.others.pairs) c.args.lane (Some c.args.ends) c.if-lane-eq0.false
    ∙ ap (λ (e : Ends). map.insert e.lanes c.args.lane c.args.ends) c.self.view_is
