use Rattle.std.proofs.Common.{◌≡◌, Some, is_some, sym, ap, subst, ◌∙◌}
use Rattle.std.specs.FinMap as map
use Rattle.linked_lanes.specs.Family.{IsWhole, left_by}
use Rattle.fd_events.specs.Linked.{sides_at}
use Rattle.fd_events.proofs.Moving.{leaves, open-set}
use Rattle.fd_events.proofs.lane.Lane.leave_lane.Goals as goal

pub unwrap-ends-requires : goal.unwrap-ends-requires
unwrap-ends-requires c = ap is_some (c.get.ensures ∙ c.requires.1)

pub left-requires : goal.left-requires
left-requires c =
    let same : Some c.unwrap-ends.result ≡ Some c.requires.0 = sym c.unwrap-ends.ensures ∙ c.get.ensures ∙ c.requires.1 in
    let is : c.unwrap-ends.result ≡ c.requires.0 = cc in
    let some = c.requires.2 in rw is some

pub set-requires-clause-known : goal.set-requires-clause-known
set-requires-clause-known c = ap is_some c.requires.1

pub set-requires-clause-whole : goal.set-requires-clause-whole
set-requires-clause-whole c =
    let same : Some c.unwrap-ends.result ≡ Some c.requires.0 = sym c.unwrap-ends.ensures ∙ c.get.ensures ∙ c.requires.1 in
    let is : c.unwrap-ends.result ≡ c.requires.0 = cc in
    subst IsWhole (sym (c.left.ensures ∙ ap (left_by c.args.sides) is)) c.requires.3

pub returns-clause-lane : goal.returns-clause-lane
returns-clause-lane c = λ K F x k in_lane found.
    leaves c.args.self.now c.set_link-2.new.nodes c.set.new.self K F k x c.args.c.0 c.args.sides c.unwrap-ends.result in_lane found (sym c.get.ensures ∙ c.unwrap-ends.ensures)
    (sides_at c.set_link.new.nodes.pairs) c.set_link.ensures.sides c.set_link-2.ensures.sides
    (λ q. c.set_link-2.ensures.stamps q ∙ c.set_link.ensures.stamps q)
    (c.set.ensures.lanes ∙ ap (map.insert c.args.self.now.ends.lanes c.args.c.0) c.left.ensures)

pub returns-clause-open_ones : goal.returns-clause-open_ones
returns-clause-open_ones c = open-set c.args.self.now.ends.lanes c.set.new.self.lanes c.args.c.0 _ (ap is_some c.requires.1) c.set.ensures.lanes
