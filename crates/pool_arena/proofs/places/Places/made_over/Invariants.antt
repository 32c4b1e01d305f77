use Rattle.std.proofs.Common.{◌+◌, ◌<◌, ◌≤◌, min, length, vec_capacity}
use Rattle.pool_arena.specs.Nodes.{nowhere}
use Rattle.pool_arena.specs.Places.{IsSound, slots_of, spare}
use Rattle.pool_arena.proofs.Copying.{HasFirst}
use Rattle.pool_arena.proofs.places.Places.made_over.Given as goal

abbrev pub invariant-loop-node : goal.invariant-loop-node
invariant-loop-node l = record {
  sound : IsSound l.made;
  first : HasFirst l.self.nodes.items l.node-index (slots_of l.made);
  room : min (vec_capacity l.self.nodes) nowhere ≤ spare l.made + l.node-index;
  some : 0 < length l.made.heads.items;
}
