use Rattle.std.proofs.Common.{◌≡◌, refl, sym, ap, ◌∙◌}
use Rattle.std.specs.Option.{option_map}
use Rattle.std.specs.Ordering.{nat_cmp}
use Rattle.std.specs.FinMap as map
use Rattle.std.specs.FinMap.{get-empty}
use Rattle.tree_specs.specs.Events.Queues.{no_queues}
use Rattle.linked_lanes.proofs.Lanes.{not_both}
use Rattle.request_queue.specs.declared.line.Line.{Line}
use Rattle.request_queue.specs.declared.node.Node.{Node}
use Rattle.request_queue.specs.Linked.{running_in, entry_in, ends_in}
use Rattle.request_queue.proofs.Linking.{Keeps, keeps-linked, queues-kept}
use Rattle.request_queue.proofs.queues.Queues.new.Goals as goal

begun : (lines : map.FinMap nat_cmp Line) (nodes : map.FinMap nat_cmp Node) → lines ≡ map.empty → nodes ≡ map.empty → Keeps (map.get lines) (map.get nodes) no_queues
begun lines nodes e f = record {
  ordered = tt;
  sorted = tt;
  running = λ q. sym (ap (λ m. option_map running_in (map.get m q)) e ∙ ap (option_map running_in) (get-empty nat_cmp q));
  entry = λ k. sym (ap (λ m. option_map entry_in (map.get m k)) f ∙ ap (option_map entry_in) (get-empty nat_cmp k));
  linked = record {
    chain = λ q. record { at_head = refl; sides = λ k m. not_both m refl };
    ends = λ q. ap (λ m. ends_in (map.get m q.0)) e ∙ ap ends_in (get-empty nat_cmp q.0);
  };
}

pub invariant_of-result : goal.invariant_of-result
invariant_of-result c = keeps-linked _ _ no_queues (begun c.new.result.pairs c.new-2.result.pairs c.new.ensures.empty c.new-2.ensures.empty)

pub returns : goal.returns
returns c = queues-kept c.new.result.pairs c.new-2.result.pairs no_queues (begun c.new.result.pairs c.new-2.result.pairs c.new.ensures.empty c.new-2.ensures.empty)
