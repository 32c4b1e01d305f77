use Rattle.std.proofs.Common.{◌≡◌, [], refl, sym, ap, ◌∙◌, arith}
use Rattle.std.specs.FinMap as map
use Rattle.std.specs.FinMap.{get-empty}
use Rattle.std.specs.Option.{option_map}
use Rattle.std.specs.Ordering.{nat_cmp}
use Rattle.linked_lanes.proofs.Lanes.{not_both}
use Rattle.references.specs.declared.node.Node.{Node}
use Rattle.references.specs.declared.head.Head.{Head}
use Rattle.references.specs.Linked.{target_in, newest_of, count_of}
use Rattle.references.proofs.Linking.{Keeps, keeps-linked, pairs-kept}
use Rattle.references.proofs.refs.Refs.new.Goals as goal

begun : (m : map.FinMap nat_cmp Node) (h : map.FinMap nat_cmp Head) → m ≡ map.empty → h ≡ map.empty → Keeps (map.get m) (map.get h) []
begun m h e f = record {
  descends = tt;
  target = λ q. sym (ap (λ n. option_map target_in (map.get n q)) e ∙ ap (option_map target_in) (get-empty nat_cmp q));
  chain = λ t. record {
    at_head = ap (λ n. option_map newest_of (map.get n t)) f ∙ ap (option_map newest_of) (get-empty nat_cmp t);
    sides = λ q m. not_both m refl;
  };
  count = λ t. ap (λ n. count_of (map.get n t)) f ∙ ap count_of (get-empty nat_cmp t);
}

pub invariant_of-result : goal.invariant_of-result
invariant_of-result c = keeps-linked _ _ _ (begun c.new.result.pairs c.new-2.result.pairs c.new.ensures.empty c.new-2.ensures.empty) (omega arith)

pub returns : goal.returns
returns c = pairs-kept c.new.result.pairs c.new-2.result.pairs [] (begun c.new.result.pairs c.new-2.result.pairs c.new.ensures.empty c.new-2.ensures.empty)
