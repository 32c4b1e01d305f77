use Rattle.std.proofs.Common.{◌≡◌, ℕ, true, false, cond, nat_eq, IsSome, is_some, List, Some, None, Option, refl, sym, ap, subst, ◌∙◌, ◌∷◌}
use Rattle.std.proofs.lemmas.Bool.{eqb-true}
use Rattle.std.specs.Option.{option_map, option_and_then}
use Rattle.std.specs.FinMap as map
use Rattle.tree_specs.specs.declared.row.Row.{Row}
use Rattle.tree_specs.specs.declared.object.Owner.TheVariants.{Of}
use Rattle.tree_specs.specs.Tree.Pool.{of_rows, is_row, is_owner, is_inside, row_of, owned_row, place, without as rows_without, in_front}
use Rattle.tree_links.specs.Links.{IsTree, Links, pool_of}
use Rattle.tree_links.specs.Nodes.{Holds, Linked, Enters, numbers, children, rows_of, row_at, row_in, placed_in, kin_in, first_in, entered}
use Rattle.tree_links.specs.declared.node.Node.{Node}
use Rattle.tree_links.proofs.Listing.{obj, children-apart, held-rows}
use Rattle.tree_links.proofs.Trees.{placed-tree}
use Rattle.tree_links.proofs.Keeping.{there-is, its-row, is-node, owner-node, out-once, out-numbers, out-children, placed-holds, is-linked, pool-rows}
use Rattle.tree_links.proofs.Moves.{part, given, same_first, same_heads}
use Rattle.tree_links.proofs.tree.Tree.place.Goals as goal

abbrev rows : goal.After-self-1 → List Row
rows c = rows_of c.self.inside.nodes.pairs c.self.inside.front

-- its node
node : (c : goal.After-self-1) → (v : Node) × (Some v ≡ map.get c.self.inside.nodes.pairs c.args.x.0)
node c = there-is (map.get c.self.inside.nodes.pairs c.args.x.0) (sym c.leave_lanes.ensures.there ∙ c.if-leave_lanes.true)

at : (c : goal.After-self-1) → row_of (rows c) c.args.x ≡ Some (node c).0.row
at c = its-row c.self.inside.nodes.pairs c.self.inside.front c.self.inside.root (rows c) c.self.invariant.tree.forest.distinct c.self.invariant.holds c.args.x.0 (node c).0 (node c).1

left : (c : goal.After-self-1) → Linked c.leave_lanes.new.nodes.pairs c.leave_lanes.new.front c.leave_lanes.new.root (numbers (rows_without (rows c) c.args.x)) (children (rows_without (rows c) c.args.x))
left c = c.leave_lanes.ensures.linked (rows c) c.self.invariant.tree.forest.distinct c.self.invariant.holds c.if-leave_lanes.true

owner : (c : goal.After-self-1) → is_owner (rows c) c.args.owner ≡ true
owner c = subst (λ (t : Links). is_owner t.rows c.args.owner ≡ true) (sym c.self.view_is) c.requires.owner

left-rows : (c : goal.After-self-1) (q : ℕ) → row_at c.leave_lanes.new.nodes.pairs q ≡ row_of (rows c) (obj q)
left-rows c q = c.leave_lanes.ensures.rows q ∙ c.self.invariant.holds.row q

there : (c : goal.After-self-1) (q : ℕ) → nat_eq c.args.x.0 q ≡ true → IsSome (map.get c.set_head-first.new.nodes.pairs q)
there c q t = subst (λ q. IsSome (map.get c.set_head-first.new.nodes.pairs q)) (eqb-true c.args.x.0 q t)
    (is-node _ c.args.x.0 (node c).0.row (c.set_head-first.ensures.rows c.args.x.0 ∙ left-rows c c.args.x.0 ∙ at c))

-- the change of its node
abbrev change : goal.After-self-1 → Node → Node
change c = entered c.args.owner c.leave_lanes.new.front c.set_head-first.result

enters : (c : goal.After-self-1) → Enters c.leave_lanes.new.nodes.pairs c.enter.new.nodes.pairs c.leave_lanes.new.front c.set_head-first.result c.leave_lanes.new.root c.set_head-first.new.root c.args.owner c.args.x.0
enters c =
    let m = c.set_head-first.new.nodes.pairs in
    let x = c.args.x.0 in
    record {
      head = c.set_head-first.ensures.former;
      placed = λ q. ap (option_map placed_in) (c.enter.ensures.nodes q) ∙ given placed_in (change c) _ (λ v. refl) (nat_eq x q) (map.get m q) (there c q) ∙ ap (cond (nat_eq x q) _) (c.set_head-first.ensures.placed q);
      kin = λ q. ap (option_map kin_in) (c.enter.ensures.nodes q) ∙ given kin_in (change c) _ (λ v. refl) (nat_eq x q) (map.get m q) (there c q) ∙ ap (cond (nat_eq x q) _) (c.set_head-first.ensures.kin q);
      heads = λ p. same_heads m _ _ (λ q. ap (option_and_then first_in) (c.enter.ensures.nodes q) ∙ same_first (change c) (λ v. refl) (nat_eq x q) (map.get m q)) p
          ∙ c.set_head-first.ensures.heads (owner-node _ (rows c) c.args.owner (left-rows c) (owner c)) p;
    }

held : (c : goal.After-self-1) → Holds c.meet_newer.new.nodes.pairs (Some c.args.x.0) c.set_head-first.new.root (owned_row c.args.owner (node c).0.row ∷ rows_without (rows c) c.args.x)
held c =
    let d = c.self.invariant.tree.forest.distinct in
    let x = c.args.x.0 in
    placed-holds _ _ _ (rows c) x (node c).0.row c.args.owner d (at c)
    (λ q. c.meet_newer.ensures.rows q ∙ ap (option_map row_in) (c.enter.ensures.nodes q) ∙ part row_in (change c) (owned_row c.args.owner) (λ v. refl) (nat_eq x q) (map.get c.set_head-first.new.nodes.pairs q)
    ∙ ap (λ (o : Option Row). cond (nat_eq x q) (option_map (owned_row c.args.owner) o) o) (c.set_head-first.ensures.rows q ∙ left-rows c q))
    (c.meet_newer.ensures.len ∙ c.enter.ensures.len ∙ c.set_head-first.ensures.len ∙ c.leave_lanes.ensures.len ∙ c.self.invariant.holds.count)
    (c.meet_newer.ensures.linked _ _ _ c.args.owner _ _ (out-numbers (rows c) d x) (out-children (rows c) d x)
    (children-apart (rows_without (rows c) c.args.x) (out-once (rows c) d x) c.args.owner) (enters c) (left c))

tree : (c : goal.After-self-1) → IsTree (owned_row c.args.owner (node c).0.row ∷ rows_without (rows c) c.args.x) c.self.inside.next
tree c =
    placed-tree (of_rows (rows c) c.self.inside.next) c.args.owner c.args.x (node c).0.row c.self.invariant.tree (at c)
    (owner c)
    (subst (λ (t : Links). is_inside t.rows c.args.owner (Of c.args.x) ≡ false) (sym c.self.view_is) c.requires.apart)

pub invariant_of-self : goal.invariant_of-self
invariant_of-self c = is-linked _ _ _ _ _ (tree c) (held c)

pub returns-then-leave_lanes-clause-rows : goal.returns-then-leave_lanes-clause-rows
returns-then-leave_lanes-clause-rows c =
    pool-rows _ _ _ (held-rows _ _ _ _ (tree c).forest.distinct (held c) ∙ sym (ap (λ (o : Option Row). in_front o c.args.owner (rows_without (rows c) c.args.x)) (at c)))
    ∙ ap (λ (t : Links). place (pool_of t) c.args.owner c.args.x) c.self.view_is

-- ---- there is such a row

node-row : (o : Option Node) → is_some (option_map row_in o) ≡ is_some o
node-row None = refl
node-row (Some v) = refl

pub invariant_of-self-else-leave_lanes : goal.invariant_of-self-else-leave_lanes
invariant_of-self-else-leave_lanes c =
    let bad : false ≡ true =
    sym c.if-leave_lanes.false ∙ c.leave_lanes.ensures.there ∙ sym (node-row (map.get c.self.inside.nodes.pairs c.args.x.0)) ∙ ap is_some (c.self.invariant.holds.row c.args.x.0)
    ∙ subst (λ (t : Links). is_row t.rows c.args.x ≡ true) (sym c.self.view_is) c.requires.is in
    cc
