use Rattle.std.proofs.Common.{◌≡◌, ℕ, true, false, cond, nat_eq, List, None, [], IsSome, ◌-◌, Bool, Option, refl, sym, ap, subst, ◌∙◌}
use Rattle.std.specs.Option.{option_map, option_and_then}
use Rattle.std.specs.FinMap as map
use Rattle.tree_specs.specs.declared.row.Row.{Row}
use Rattle.tree_specs.specs.declared.object.Owner.TheVariants.{Of}
use Rattle.tree_specs.specs.Tree.Pool.{first_kid, is_below, remove, without as rows_without}
use Rattle.linked_lanes.specs.Lane.{first, without}
use Rattle.tree_specs.proofs.Events.HandlerLaws.{removed-rows}
use Rattle.tree_links.specs.Links.{IsTree, Links, pool_of}
use Rattle.tree_links.specs.Nodes.{Holds, children, rows_of, row_in, first_in}
use Rattle.tree_links.specs.declared.node.Node.{Node}
use Rattle.tree_links.proofs.Listing.{obj, lane-without, first-child, row-without, held-rows}
use Rattle.tree_links.proofs.Trees.{without-tree}
use Rattle.tree_links.proofs.Keeping.{there-is, its-row, is-node, out-numbers, out-children, reset-linked, removed-steps, first-none, left-length, len-gone, is-linked, pool-rows}
use Rattle.tree_links.proofs.tree.Tree.remove.Goals as goal

abbrev rows : goal.After-forget → List Row
rows c = rows_of c.self.inside.nodes.pairs c.self.inside.front

alone : (c : goal.After-forget) → first_kid (rows c) (Of c.args.x) ≡ None
alone c = subst (λ (t : Links). first_kid t.rows (Of c.args.x) ≡ None) (sym c.self.view_is) c.requires.alone

held : (c : goal.After-forget) → Holds c.forget.new.nodes.pairs c.leave_lanes.new.front c.leave_lanes.new.root (rows_without (rows c) c.args.x)
held c =
    let d = c.self.invariant.tree.forest.distinct in
    let h = c.self.invariant.holds in
    let x = c.args.x.0 in
    let node = there-is (map.get c.self.inside.nodes.pairs x) (sym c.leave_lanes.ensures.there ∙ c.if-leave_lanes.true) in
    let at = its-row _ _ _ (rows c) d h x node.0 node.1 in
    let linked = c.leave_lanes.ensures.linked (rows c) d h c.if-leave_lanes.true in
    let bare : children (rows c) (Of c.args.x) ≡ [] = first-none _ (sym (first-child (rows c) (Of c.args.x)) ∙ alone c) in
    let none : option_and_then first_in (map.get c.leave_lanes.new.nodes.pairs x) ≡ None = (linked.kin (Of c.args.x)).at_head ∙ ap first (lane-without (λ r. is_below r.owner (Of c.args.x)) (rows c) c.args.x d) ∙ ap (λ l. first (without l x)) bare in
    let steps = λ (q : ℕ). ap (λ m. map.get m q) c.forget.ensures.pairs ∙ removed-steps c.leave_lanes.new.nodes.pairs x q in
    let here : IsSome (map.get c.leave_lanes.new.nodes.pairs x) = is-node _ x node.0.row (c.leave_lanes.ensures.rows x ∙ h.row x ∙ at) in
    record {
      row = λ q. ap (option_map row_in) (steps q) ∙ pulled (nat_eq x q) _ ∙ ap (cond (nat_eq x q) None) (c.leave_lanes.ensures.rows q ∙ h.row q)
          ∙ sym (row-without (rows c) c.args.x (obj q) d);
      linked = reset-linked _ _ x None steps (sym none) _ _ _ _ (out-numbers (rows c) d x) (out-children (rows c) d x) linked;
      count = ap (λ m. map.len m) c.forget.ensures.pairs ∙ len-gone c.leave_lanes.new.nodes.pairs x here
          ∙ ap (λ (n : ℕ). n - 1) (c.leave_lanes.ensures.len ∙ h.count) ∙ sym (left-length (rows c) x node.0.row at);
    }
  where
    pulled : (b : Bool) (o : Option Node) → option_map row_in (cond b None o) ≡ cond b None (option_map row_in o)
    pulled true o = refl
    pulled false o = refl

tree : (c : goal.After-forget) → IsTree (rows_without (rows c) c.args.x) c.self.inside.next
tree c = without-tree (rows c) c.self.inside.next c.args.x c.self.invariant.tree (alone c)

pub invariant_of-self : goal.invariant_of-self
invariant_of-self c = is-linked _ _ _ _ _ (tree c) (held c)

pub returns-then-leave_lanes-clause-rows : goal.returns-then-leave_lanes-clause-rows
returns-then-leave_lanes-clause-rows c = pool-rows _ _ _ (held-rows _ _ _ _ (tree c).forest.distinct (held c)) ∙ sym (removed-rows (rows c) c.self.inside.next c.args.x) ∙ ap (λ (t : Links). remove (pool_of t) c.args.x) c.self.view_is
