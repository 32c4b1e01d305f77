use Rattle.std.proofs.Common.{◌≡◌, ℕ, true, Some, None, [], refl, ap, ◌∙◌, arith}
use Rattle.std.specs.FinMap as map
use Rattle.std.specs.FinMap.{get-empty, len-empty}
use Rattle.std.specs.Ordering.{nat_cmp}
use Rattle.std.specs.Option.{option_map, option_and_then}
use Rattle.tree_specs.specs.declared.object.Owner.{Owner}
use Rattle.tree_specs.specs.declared.object.Owner.TheVariants.{Root, Of}
use Rattle.tree_links.specs.Links.{IsTree}
use Rattle.tree_links.specs.Nodes.{Nodes, Holds, row_in, first_in, head_of}
use Rattle.tree_links.specs.declared.node.Node.{Node}
use Rattle.linked_lanes.proofs.Lanes.{not_both}
use Rattle.tree_links.proofs.Keeping.{is-linked}
use Rattle.tree_links.proofs.tree.Tree.new.Goals as goal

begun : (m : Nodes) → m ≡ map.empty → Holds m None None []
begun m e = record {
  row = λ q. ap (λ y. option_map row_in (map.get y q)) e ∙ ap (option_map row_in) (get-empty nat_cmp q);
  linked = record {
    placed = record { at_head = refl; sides = λ q h. not_both h refl };
    kin = λ p. record { at_head = head p; sides = λ q h. not_both h refl };
  };
  count = ap (λ y. map.len y) e ∙ len-empty nat_cmp Node;
}
  where
    head : (p : Owner) → head_of m None p ≡ None
    head Root = refl
    head (Of x) = ap (λ y. option_and_then first_in (map.get y x.0)) e ∙ ap (option_and_then first_in) (get-empty nat_cmp x.0)

ends : (o : Owner) → Rattle.tree_specs.specs.Tree.Forest.ends 1 [] (Some o) ≡ true
ends Root = refl
ends (Of x) = refl

bare : (next : ℕ) → IsTree [] next
bare next = record { forest = record { distinct = tt; owned = tt; rooted = ends }; fit = tt; few = omega arith }

pub invariant_of-result : goal.invariant_of-result
invariant_of-result c = is-linked c.new.result.pairs None None c.args.first [] (bare c.args.first) (begun c.new.result.pairs c.new.ensures.empty)
