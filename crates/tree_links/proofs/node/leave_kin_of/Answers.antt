use Rattle.std.proofs.Common.{◌≡◌, true, Some, refl, sym, ap, ◌∙◌}
use Rattle.tree_specs.specs.Tree.Pool.{owner_in, is_below}
use Rattle.tree_specs.proofs.Tree.Numbered.{same_owner-equal}
use Rattle.linked_lanes.specs.Lane.{has}
use Rattle.tree_links.specs.Nodes.{children}
use Rattle.linked_lanes.proofs.Lanes.{without-absent}
use Rattle.tree_links.proofs.Listing.{children-has, children-apart, lane-distinct}
use Rattle.tree_links.proofs.Keeping.{relinked, unowned}
use Rattle.tree_links.proofs.node.leave_kin_of.Goals as goal

pub returns-in-None-clause-linked : goal.returns-in-None-clause-linked
returns-in-None-clause-linked c = λ front A rs x r d e o s l.
    relinked _ front _ A A (children rs) _ refl (λ p. sym (without-absent (children rs p) x (unowned rs x p d (ap owner_in e ∙ o ∙ c.in-None.is)))) l

pub returns-in-Some-clause-linked : goal.returns-in-Some-clause-linked
returns-in-Some-clause-linked c = λ front A rs x r d e o s l.
    let own : owner_in (Some r) ≡ Some c.in-Some.owner = o ∙ c.in-Some.is in
    let in_lane : has (children rs c.in-Some.owner) x ≡ true =
    children-has rs c.in-Some.owner x d ∙ ap (λ w. is_below (owner_in w) c.in-Some.owner) e ∙ ap (λ w. is_below w c.in-Some.owner) own ∙ same_owner-equal c.in-Some.owner c.in-Some.owner refl in
    c.leave_kin.ensures.linked front A (children rs) x (lane-distinct _ rs d) in_lane (s c.in-Some.owner c.in-Some.is) (children-apart rs d c.in-Some.owner) l
