use Rattle.std.proofs.Common.{◌≡◌, ◌<◌, ◌≤◌, Some, List, slice_get, set, length, refl, sym, subst, arith, ap, ◌∙◌, ◌++◌, ◌∷◌, [], ℕ}
use Rattle.std.proofs.lemmas.Option.{slice_get_read}
use Rattle.pool_arena.specs.declared.node.Node.{Node}
use Rattle.pool_arena.specs.Nodes.{IsKept, leading, fresh, nowhere}
use Rattle.pool_arena.specs.Places.{slots_in}
use Rattle.pool_arena.proofs.Slots.{no_slot}
use Rattle.pool_arena.proofs.Found.{held_is_other, held_within, link_of_node}
use Rattle.pool_arena.proofs.Adding.{hang-kept, hang-slots}
use Rattle.pool_arena.proofs.places.Places.hang.Goals as goal

pub returns : goal.returns
returns c =
    let heads = c.args.self.now.heads.items in
    let nodes = c.args.self.now.nodes.items in
    let sound = c.requires.can_add.sound in
    let free = no_slot nodes c.args.key c.requires.can_add.vacant in
    let node = c.index_mut.result.now in
    let room : length nodes < nowhere = omega (arith, c.requires.can_add.room) in
    let at : slice_get nodes c.args.last ≡ Some node = slice_get_read nodes (length nodes) c.args.last node refl (held_within nodes c.args.last c.requires.held) c.index_mut.ensures.value in
    let past = held_is_other nodes c.args.last c.args.key node at c.requires.held free in
    let long : c.len-link.result ≡ length nodes = omega arith in
    let are : c.push_reserved.new.self.items ≡ set nodes c.args.last (leading c.args.rest (length nodes) node) ++ fresh c.args.key c.args.slot ∷ [] =
    c.push_reserved.ensures.items
    ∙ ap (λ (x : Node). set nodes c.args.last x ++ c.new.result ∷ []) (c.lead.ensures ∙ ap (λ (l : ℕ). leading c.args.rest l node) long)
    ∙ ap (λ (x : Node). set nodes c.args.last (leading c.args.rest (length nodes) node) ++ x ∷ []) c.new.ensures in
    let gap = subst (λ (x : ℕ). length nodes ≤ x) (link_of_node nodes c.args.last c.args.rest node at) c.requires.gap in
    record {
      sound = record {
        kept = subst (λ (ns : List Node). IsKept heads ns) (sym are)
            (hang-kept heads nodes sound.kept c.args.key c.args.slot free room c.args.last c.args.rest node at c.requires.held past gap c.requires.way);
        ready = λ h. sound.ready (omega (arith, c.requires.can_add.room));
      };
      slots = ap slots_in are ∙ hang-slots heads nodes sound.kept c.args.key c.args.slot free room c.args.last c.args.rest node at c.requires.held past gap;
      spare_left = omega (arith, c.push_reserved.ensures.len, c.push_reserved.ensures.capacity);
      same_heads = refl;
    }
