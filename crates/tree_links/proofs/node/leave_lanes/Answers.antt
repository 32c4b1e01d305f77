use Rattle.std.proofs.Common.{true, refl}
use Rattle.tree_links.specs.Nodes.{numbers, children}
use Rattle.tree_links.proofs.Listing.{lane-distinct}
use Rattle.tree_links.proofs.Keeping.{its-row, is-numbered, its-placed, its-kin, out-linked}
use Rattle.tree_links.proofs.node.leave_lanes.Goals as goal

pub returns-clause-linked : goal.returns-clause-linked
returns-clause-linked c = λ rs d h is.
    let x = c.args.x in
    let v = c.in-Some.node.now in
    let e = c.in-Some.ensures in
    let placed = c.leave_placed.ensures.linked c.args.root.now (numbers rs) (children rs) x (lane-distinct (λ r. true) rs d) (is-numbered _ _ _ rs d h x v e) (its-placed _ _ _ rs d h x v e) h.linked in
    out-linked rs d x _ _ _ (c.leave_kin_of.ensures.linked c.leave_placed.new.front _ rs x v.row d (its-row _ _ _ rs d h x v e) refl (its-kin _ _ _ rs d h x v e) placed)
