use Rattle.std.proofs.Common.{◌≡◌, ◌<◌, List, set, length, sym, subst, arith, ap, ◌∙◌, ◌++◌, ◌∷◌, [], ℕ, length-set}
use Rattle.pool_arena.specs.declared.node.Node.{Node}
use Rattle.pool_arena.specs.Nodes.{IsKept, fresh, nowhere, home}
use Rattle.pool_arena.specs.Places.{slots_in}
use Rattle.pool_arena.proofs.Slots.{no_slot}
use Rattle.pool_arena.proofs.Adding.{plant-kept, plant-slots}
use Rattle.pool_arena.proofs.places.Places.plant.Goals as goal

pub returns : goal.returns
returns c =
    let heads = c.args.self.now.heads.items in
    let nodes = c.args.self.now.nodes.items in
    let sound = c.requires.can_add.sound in
    let free = no_slot nodes c.args.key c.requires.can_add.vacant in
    let room : length nodes < nowhere = omega (arith, c.requires.can_add.room) in
    let long : c.len.result ≡ length nodes = omega arith in
    let are : c.push_reserved.new.self.items ≡ nodes ++ fresh c.args.key c.args.slot ∷ [] =
    c.push_reserved.ensures.items ∙ ap (λ (x : Node). nodes ++ x ∷ []) c.new.ensures in
    let some : 0 < length heads = sound.ready (omega (arith, c.requires.can_add.room)) in
    let planted : set heads c.home-home.result c.len.result ≡ set heads (home (length heads) c.args.key) (length nodes) =
    ap (λ (x : ℕ). set heads x c.len.result) c.home-home.ensures ∙ ap (λ (x : ℕ). set heads (home (length heads) c.args.key) x) long in
    record {
      sound = record {
        kept = subst (λ (hs : List ℕ). IsKept hs c.push_reserved.new.self.items) (sym planted)
            (subst (λ (ns : List Node). IsKept (set heads (home (length heads) c.args.key) (length nodes)) ns) (sym are)
            (plant-kept heads nodes sound.kept c.args.key c.args.slot free room some c.requires.gap));
        ready = λ h. let l = length-set heads c.home-home.result c.len.result in omega (arith, some, l);
      };
      slots = ap slots_in are ∙ plant-slots heads nodes sound.kept c.args.key c.args.slot free room some c.requires.gap;
      spare_left = omega (arith, c.push_reserved.ensures.len, c.push_reserved.ensures.capacity);
      same_heads = length-set heads c.home-home.result c.len.result;
    }
