use Rattle.std.proofs.Common.{◌≡◌, Some, slice_get, set, length, refl, sym, subst, arith}
use Rattle.std.proofs.lemmas.Option.{slice_get_read}
use Rattle.std.specs.FinMap as map
use Rattle.pool_arena.specs.declared.node.Node.{Node}
use Rattle.pool_arena.specs.Nodes.{IsKept}
use Rattle.pool_arena.specs.Places.{slots_in, slots_of}
use Rattle.pool_arena.proofs.Slots.{no_slot}
use Rattle.pool_arena.proofs.Adding.{fill-kept, fill-slots}
use Rattle.pool_arena.proofs.places.Places.fill.Goals as goal

pub returns : goal.returns
returns c =
    let heads = c.args.self.now.heads.items in
    let nodes = c.args.self.now.nodes.items in
    let sound = c.requires.can_add.sound in
    let free = no_slot nodes c.args.key c.requires.can_add.vacant in
    let at : slice_get nodes c.args.index ≡ Some c.index_mut.result.now = slice_get_read nodes (length nodes) c.args.index c.index_mut.result.now refl c.requires.within c.index_mut.ensures.value in
    record {
      sound = record {
        kept = subst (λ (x : Node). IsKept heads (set nodes c.args.index x)) (sym c.fill.ensures)
            (fill-kept heads nodes sound.kept c.args.key c.args.slot free c.args.index c.index_mut.result.now at c.requires.vacant c.requires.reachable);
        ready = sound.ready;
      };
      slots = subst (λ (x : Node). slots_in (set nodes c.args.index x) ≡ map.insert (slots_of c.args.self.now) c.args.key c.args.slot) (sym c.fill.ensures)
          (fill-slots heads nodes sound.kept c.args.key c.args.slot free c.args.index c.index_mut.result.now at c.requires.vacant);
      spare_left = omega arith;
      same_heads = refl;
    }
