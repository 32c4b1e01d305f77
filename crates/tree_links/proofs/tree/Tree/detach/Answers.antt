use Rattle.std.proofs.Common.{◌≡◌, ℕ, true, cond, nat_eq, List, Option, Some, None, refl, sym, ap, ◌∙◌}
use Rattle.std.specs.Option.{option_map}
use Rattle.std.specs.FinMap as map
use Rattle.tree_specs.specs.declared.object.Owner.{Owner}
use Rattle.linked_lanes.specs.declared.Sides.{Sides}
use Rattle.tree_links.specs.declared.node.Node.{Node}
use Rattle.tree_specs.specs.declared.row.Row.{Row}
use Rattle.tree_specs.specs.Tree.Pool.{is_below, left_row, detach, changed}
use Rattle.tree_links.specs.Links.{IsTree, Links, pool_of}
use Rattle.tree_links.specs.Nodes.{Nodes, Holds, owned_in, numbers, children, rows_of}
use Rattle.tree_links.proofs.Listing.{obj, lane-changed, lane-left, row-changed, held-rows}
use Rattle.tree_links.proofs.Trees.{left-tree, length-changed}
use Rattle.tree_links.proofs.Keeping.{its-row, its-kin, rowed, rowed-linked, relinked, is-linked, pool-rows}
use Rattle.tree_links.proofs.tree.Tree.detach.Goals as goal

abbrev rows : goal.After-leave_kin_of → List Row
rows c = rows_of c.self.inside.nodes.pairs c.self.inside.front

-- the node as it was
record Was (m : Nodes) (x : ℕ) (former : Option Owner) (kin : Sides) : Type 0 where
  node : Node
  there : Some node ≡ map.get m x
  owner : node.row.owner ≡ former
  sides : kin ≡ node.kin

was : (c : goal.After-leave_kin_of) → Was c.self.inside.nodes.pairs c.args.x.0 c.in-Some.former c.in-Some.kin
was c = go (map.get c.self.inside.nodes.pairs c.args.x.0) (c.in-Some.former, c.in-Some.kin) refl c.in-Some.ensures.former
  where
    go : (o : Option Node) (e : Option Owner × Sides) → o ≡ map.get c.self.inside.nodes.pairs c.args.x.0 → Some e ≡ option_map owned_in o → Was c.self.inside.nodes.pairs c.args.x.0 e.0 e.1
    go None e f g = cc
    go (Some v) e f g = let p : e ≡ owned_in v = cc in record { node = v; there = f; owner = sym (ap (λ (z : Option Owner × Sides). z.0) p); sides = ap (λ (z : Option Owner × Sides). z.1) p }

held : (c : goal.After-leave_kin_of) → Holds c.leave_kin_of.new.nodes.pairs c.self.inside.front c.leave_kin_of.new.root (changed left_row (rows c) c.args.x)
held c =
    let d = c.self.invariant.tree.forest.distinct in
    let h = c.self.invariant.holds in
    let x = c.args.x.0 in
    let w = was c in
    let l = c.leave_kin_of.ensures.linked c.self.inside.front (numbers (rows c)) (rows c) x w.node.row d (its-row _ _ _ (rows c) d h x w.node w.there) w.owner
    (λ p o. w.sides ∙ its-kin _ _ _ (rows c) d h x w.node w.there p (w.owner ∙ o)) (rowed-linked _ _ x left_row c.set_left.ensures.nodes _ _ _ _ h.linked) in
    record {
      row = λ q. c.leave_kin_of.ensures.rows q ∙ rowed _ _ x left_row c.set_left.ensures.nodes q ∙ ap (λ o. cond (nat_eq x q) (option_map left_row o) o) (h.row q)
          ∙ sym (row-changed left_row (λ r. refl) (rows c) c.args.x (obj q));
      linked = relinked _ _ _ _ _ _ (children (changed left_row (rows c) c.args.x)) (sym (lane-changed (λ r. true) left_row (λ r. refl) (λ r. refl) (rows c) c.args.x))
          (λ p. sym (lane-left (λ r. is_below r.owner p) left_row (λ r. refl) (rows c) c.args.x d)) l;
      count = c.leave_kin_of.ensures.len ∙ c.set_left.ensures.len ∙ h.count ∙ sym (length-changed left_row (rows c) c.args.x);
    }

tree : (c : goal.After-leave_kin_of) → IsTree (changed left_row (rows c) c.args.x) c.self.inside.next
tree c = left-tree (rows c) c.self.inside.next c.args.x c.self.invariant.tree

pub invariant_of-self : goal.invariant_of-self
invariant_of-self c = is-linked _ _ _ _ _ (tree c) (held c)

pub returns-in-Some-clause-rows : goal.returns-in-Some-clause-rows
returns-in-Some-clause-rows c = pool-rows _ _ _ (held-rows _ _ _ _ (tree c).forest.distinct (held c)) ∙ ap (λ (t : Links). detach (pool_of t) c.args.x) c.self.view_is
