use Rattle.std.proofs.Common.{◌≡◌, ℕ, true, cond, nat_eq, List, Some, None, ◌∷◌, ◌<◌, ◌+◌, length, is_some, sym, ap, subst, ◌∙◌, add-one}
use Rattle.std.specs.Option.{option_map, option_and_then}
use Rattle.std.specs.FinMap as map
use Rattle.tree_specs.specs.declared.row.Row.{Row}
use Rattle.tree_specs.specs.Calls.Refusals.{row_limit}
use Rattle.tree_specs.specs.Tree.Pool.{row_of, is_owner, new_row, add, owner_in}
use Rattle.tree_links.specs.Links.{IsTree, Links, pool_of}
use Rattle.tree_links.specs.Nodes.{Holds, Enters, rows_of, row_in, placed_in, kin_in, first_in}
use Rattle.tree_links.specs.declared.node.Node.{Node}
use Rattle.pool_arena.proofs.Steps.{len-new}
use Rattle.tree_links.proofs.Listing.{obj, children-apart, numbers-has, held-rows}
use Rattle.tree_links.proofs.Trees.{added-tree, fresh}
use Rattle.tree_links.proofs.Keeping.{no-node, unowned, owner-node, reset-firsts, added-steps, is-linked, pool-rows}
use Rattle.tree_links.proofs.Moves.{in_place, same_heads}
use Rattle.tree_links.proofs.tree.Tree.add.Goals as goal

pub add-requires-clause-vacant : goal.add-requires-clause-vacant
add-requires-clause-vacant c =
    let x = c.self.inside.next in
    no-node _ x (c.set_head-first.ensures.rows x ∙ c.self.invariant.holds.row x ∙ fresh x _ c.self.invariant.tree.fit)

pub returns-clause-fresh : goal.returns-clause-fresh
returns-clause-fresh c = subst (λ (t : Links). row_of t.rows (obj c.self.inside.next) ≡ None) c.self.view_is (fresh c.self.inside.next _ c.self.invariant.tree.fit)

abbrev rows : goal.After-self-2-1 → List Row
rows c = rows_of c.self.inside.nodes.pairs c.self.inside.front

abbrev new : goal.After-self-2-1 → Row
new c = new_row (obj c.self.inside.next) c.args.row.kind c.args.owner c.args.row.size c.args.row.name

-- the node of the new row, as it is put in
abbrev node : goal.After-self-2-1 → Node
node c = record { row = new c; placed = record { newer = None; older = c.self.inside.front }; kin = record { newer = None; older = c.set_head-first.result }; first = None }

none : (c : goal.After-self-2-1) → row_of (rows c) (obj c.self.inside.next) ≡ None
none c = fresh c.self.inside.next _ c.self.invariant.tree.fit

owner : (c : goal.After-self-2-1) → is_owner (rows c) c.args.owner ≡ true
owner c = subst (λ (t : Links). is_owner t.rows c.args.owner ≡ true) (sym c.self.view_is) c.requires.owner

-- there was no node
gone : (c : goal.After-self-2-1) → map.get c.set_head-first.new.nodes.pairs c.self.inside.next ≡ None
gone c = no-node _ c.self.inside.next (c.set_head-first.ensures.rows c.self.inside.next ∙ c.self.invariant.holds.row c.self.inside.next ∙ none c)

steps : (c : goal.After-self-2-1) (q : ℕ) → map.get c.add.new.self.pairs q ≡ cond (nat_eq c.self.inside.next q) (Some (node c)) (map.get c.set_head-first.new.nodes.pairs q)
steps c q = ap (λ m. map.get m q) c.add.ensures.pairs ∙ added-steps c.set_head-first.new.nodes.pairs c.self.inside.next (node c) q

enters : (c : goal.After-self-2-1) → Enters c.self.inside.nodes.pairs c.add.new.self.pairs c.self.inside.front c.set_head-first.result c.self.inside.root c.set_head-first.new.root c.args.owner c.self.inside.next
enters c =
    let m = c.set_head-first.new.nodes.pairs in
    let x = c.self.inside.next in
    record {
      head = c.set_head-first.ensures.former;
      placed = λ q. ap (option_map placed_in) (steps c q) ∙ in_place placed_in (node c) (nat_eq x q) (map.get m q) ∙ ap (cond (nat_eq x q) (Some (node c).placed)) (c.set_head-first.ensures.placed q);
      kin = λ q. ap (option_map kin_in) (steps c q) ∙ in_place kin_in (node c) (nat_eq x q) (map.get m q) ∙ ap (cond (nat_eq x q) (Some (node c).kin)) (c.set_head-first.ensures.kin q);
      heads = λ p. same_heads m _ _ (reset-firsts m _ x _ (steps c) (sym (ap (option_and_then first_in) (gone c)))) p
          ∙ c.set_head-first.ensures.heads (owner-node _ (rows c) c.args.owner c.self.invariant.holds.row (owner c)) p;
    }

held : (c : goal.After-self-2-1) → Holds c.meet_newer.new.nodes.pairs (Some c.self.inside.next) c.set_head-first.new.root (new c ∷ rows c)
held c =
    let d = c.self.invariant.tree.forest.distinct in
    let h = c.self.invariant.holds in
    let m = c.set_head-first.new.nodes.pairs in
    let x = c.self.inside.next in
    record {
      row = λ q. c.meet_newer.ensures.rows q ∙ ap (option_map row_in) (steps c q) ∙ in_place row_in (node c) (nat_eq x q) (map.get m q)
          ∙ ap (cond (nat_eq x q) (Some (new c))) (c.set_head-first.ensures.rows q ∙ h.row q);
      linked = c.meet_newer.ensures.linked _ _ _ c.args.owner _ _ (numbers-has (rows c) x d ∙ ap is_some (none c)) (λ p. unowned (rows c) x p d (ap owner_in (none c)))
          (children-apart (rows c) d c.args.owner) (enters c) h.linked;
      count = c.meet_newer.ensures.len ∙ ap (λ m. map.len m) c.add.ensures.pairs ∙ len-new m x _ (gone c) ∙ ap (λ (n : ℕ). n + 1) (c.set_head-first.ensures.len ∙ h.count)
          ∙ add-one (length (rows c));
    }

tree : (c : goal.After-self-2-1) → IsTree (new c ∷ rows c) (c.self.inside.next + 1)
tree c =
    added-tree (rows c) c.self.inside.next c.args.row.kind c.args.owner c.args.row.size c.args.row.name c.self.invariant.tree
    (subst (λ (t : Links). length t.rows < row_limit) (sym c.self.view_is) c.requires.few) c.requires.small (owner c)

pub invariant_of-self : goal.invariant_of-self
invariant_of-self c = is-linked _ _ _ _ _ (tree c) (held c)

pub returns-clause-rows : goal.returns-clause-rows
returns-clause-rows c =
    pool-rows _ _ _ (held-rows _ _ _ _ (tree c).forest.distinct (held c))
    ∙ ap (λ (t : Links). add (pool_of t) c.args.row.kind c.args.owner c.args.row.size c.args.row.name) c.self.view_is
