use Rattle.std.proofs.Common.{◌≡◌, ◌+◌, ◌<◌, ◌≤◌, Some, None, ℕ, List, slice_get, length, get_or, subst, sym, ap, ◌∙◌, arith}
use Rattle.std.proofs.lemmas.Option.{slice_get-get_or}
use Rattle.std.specs.FinMap as map
use Rattle.std.specs.Ordering.{nat_cmp}
use Rattle.pool_arena.specs.declared.node.Node.{Node}
use Rattle.pool_arena.specs.Places.{slots_of}
use Rattle.pool_arena.proofs.Walks.{apart}
use Rattle.pool_arena.proofs.Copying.{HasFirst, has_none, has_more, has_all, not_yet}
use Rattle.pool_arena.proofs.places.Places.made_over.Goals as goal

nobody : Node
nobody = record { key = 0; slot = None; even = 0; odd = 0 }

-- the read of an element of a list that is another
read : (xs ys : List Node) (i : ℕ) → xs ≡ ys → i < length xs → slice_get ys i ≡ Some (get_or xs i nobody)
unfolding nobody
read xs ys i e lt = ap (λ zs. slice_get zs i) (sym e) ∙ slice_get-get_or xs i nobody lt

pub loop-node-init : goal.loop-node-init
loop-node-init c = record {
  sound = c.in_ok-made.ensures.sound;
  first = has_none c.args.self.now.nodes.items (slots_of c.in_ok-made.made) c.in_ok-made.ensures.empty;
  room = omega (arith, c.in_ok-made.ensures.spare, c.capacity.ensures);
  some = c.in_ok-made.ensures.some;
}

pub copy-requires-clause-can_add : goal.copy-requires-clause-can_add
unfolding nobody
copy-requires-clause-can_add c slot held =
    let nodes = c.args.self.now.nodes.items in
    let kept = c.requires.sound.kept in
    let within : c.loop-node.node-index < length c.deref-node-items.result.now = omega (arith, c.loop-node-test.true, c.loop-node.auto.node-index-end) in
    let at = read c.deref-node-items.result.now nodes c.loop-node.node-index c.deref-node-items.ensures.value within in
    record {
      sound = c.loop-node.invariant.sound;
      vacant = not_yet nodes (apart c.args.self.now.heads.items nodes kept) c.loop-node.node-index (slots_of c.loop-node.made) c.loop-node.invariant.first _ at slot held;
      room = omega (arith, c.loop-node.invariant.room, within, kept.few, c.deref-node-items.ensures.len);
    }

pub loop-node-preserved : goal.loop-node-preserved
unfolding nobody
loop-node-preserved c =
    let nodes = c.args.self.now.nodes.items in
    let kept = c.requires.sound.kept in
    let within : c.loop-node.node-index < length c.deref-node-items.result.now = omega (arith, c.loop-node-test.true, c.loop-node.auto.node-index-end) in
    let at = read c.deref-node-items.result.now nodes c.loop-node.node-index c.deref-node-items.ensures.value within in
    record {
      sound = c.copy.ensures.sound;
      first = subst (λ (m : map.FinMap nat_cmp ℕ). HasFirst nodes (c.loop-node.node-index + 1) m) (sym c.copy.ensures.slots)
          (has_more nodes (apart c.args.self.now.heads.items nodes kept) c.loop-node.node-index (slots_of c.loop-node.made) c.loop-node.invariant.first _ at);
      room = omega (arith, c.loop-node.invariant.room, c.copy.ensures.spare);
      some = omega (arith, c.loop-node.invariant.some, c.copy.ensures.heads);
    }

pub returns-clause-same : goal.returns-clause-same
returns-clause-same c =
    let nodes = c.args.self.now.nodes.items in
    let all : length nodes ≤ c.loop-node.node-index = omega (arith, c.loop-node-test.false, c.loop-node.auto.node-index-end, c.deref-node-items.ensures.len) in
    let within : c.loop-node.node-index ≤ length nodes = omega (arith, c.loop-node.auto.node-index-end, c.deref-node-items.ensures.len) in
    record {
      sound = c.loop-node.invariant.sound;
      slots = has_all nodes (apart c.args.self.now.heads.items nodes c.requires.sound.kept) c.loop-node.node-index (slots_of c.loop-node.made) c.loop-node.invariant.first all;
      spare_kept = omega (arith, c.loop-node.invariant.room, within);
    }
