use Rattle.std.proofs.Common.{◌≡◌, Some, is_some, sym, ap, ◌∙◌, arith}
use Rattle.std.specs.FinMap as map
use Rattle.fd_events.specs.Linked.{sides_at, stamp_at}
use Rattle.fd_events.proofs.Moving.{joins, open-set}
use Rattle.fd_events.proofs.lane.Lane.join_lane.Goals as goal

pub unwrap-ends-requires : goal.unwrap-ends-requires
unwrap-ends-requires c = ap is_some (c.get.ensures ∙ c.requires.1)

pub prove-unreachable-requires : goal.prove-unreachable-requires
prove-unreachable-requires c =
    let same : Some c.unwrap-ends.result ≡ Some c.requires.0 = sym c.unwrap-ends.ensures ∙ c.get.ensures ∙ c.requires.1 in
    let is : c.unwrap-ends.result ≡ c.requires.0 = cc in
    let few = c.requires.2 in
    let counts = ap (λ e. e.count) is in
    let all = c.len.ensures in
    let under = c.if-prove.true in omega (arith, few, counts, all, under)

pub set-requires-clause-known : goal.set-requires-clause-known
set-requires-clause-known c = ap is_some c.requires.1

pub returns-clause-lane : goal.returns-clause-lane
returns-clause-lane c = λ K F k out there.
    let r = c.saturating_add-self.ensures in
    joins c.args.self.now c.set_place.new.nodes c.set.new.self c.saturating_add-self.result (λ b. (omega (arith, r, b), omega (arith, r, b))) K F k c.args.x c.args.c.0 c.unwrap-ends.result out there (sym c.get.ensures ∙ c.unwrap-ends.ensures)
    (sides_at c.set_link.new.nodes.pairs) (stamp_at c.set_link.new.nodes.pairs)
    c.set_link.ensures.sides c.set_link.ensures.stamps c.set_place.ensures.sides c.set_place.ensures.stamps
    (c.set.ensures.lanes ∙ ap (map.insert c.args.self.now.ends.lanes c.args.c.0) c.joined.ensures)

pub returns-clause-open_ones : goal.returns-clause-open_ones
returns-clause-open_ones c = open-set c.args.self.now.ends.lanes c.set.new.self.lanes c.args.c.0 _ (ap is_some c.requires.1) c.set.ensures.lanes
